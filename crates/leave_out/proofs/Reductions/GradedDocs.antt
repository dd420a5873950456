-- The effective grades of documents by their numbers.
use Rattle.std.proofs.Common.{◌≡◌, ◌||◌, ◌∙◌, ℕ, Bool, true, false, List, [], ◌∷◌, None, Option, Some, ap, is_some, map, refl, sym}
use Rattle.std.specs.Prelude.{if◌then◌else◌}
use Rattle.std.specs.List.{list_all}
use Rattle.std.specs.Str.{bytes_eq}
use Rattle.std.proofs.lemmas.Bool.{and_parts}
use Rattle.std.proofs.lemmas.Slice.Eq.{bytes_eq-Decides}
use Rattle.qrels_view.specs.Grades.{effective_in}
use Rattle.qrels_view.specs.declared.grades.Graded.{Graded}
use Rattle.rulebook.specs.Campaign.{History}
use Rattle.rulebook.specs.Histories.Entries.{GradedAreThere}
use Rattle.rulebook.specs.Judgements.Grades.{effective, trail}
use Rattle.rulebook.specs.Histories.Legal.{IsLegal}
use Rattle.rulebook.specs.Words.{Text, contains_text}
use Rattle.campaign_core.specs.Views.LentTopics.{graded_on}
use Rattle.campaign_core.specs.Assessments.TopicLabelling.{graded_in}
use Rattle.campaign_core.specs.Numbering.Numbers.{are_named, doc_in, names_of}
use Rattle.campaign_core.proofs.NamedDocuments.LiveLeases.{same-number}

module _ (H : History) (topic : Text) where
  abbrev one : Text → Graded
  one = graded_in H (names_of H) topic

  -- the grade of a document along a trail
  along : (docs : List Text) (doc : Text) → contains_text (names_of H) doc ≡ true → are_named (names_of H) docs ≡ true
      → (is_some (effective H topic doc) ≡ true → contains_text docs doc ≡ true) → effective_in (map one docs) (doc_in (names_of H) doc) ≡ effective H topic doc
  along [] doc there named on = nothing (effective H topic doc) on
    where
      nothing : (o : Option ℕ) → (is_some o ≡ true → false ≡ true) → None ≡ o
      nothing None e = refl
      nothing (Some g) e = cc (e refl)
  along (x ∷ docs) doc there named on =
      let parts = and_parts (contains_text (names_of H) x) (list_all (contains_text (names_of H)) docs) named in
      ap (λ t. if t then effective H topic x else effective_in (map one docs) (doc_in (names_of H) doc)) (same-number (names_of H) doc x there parts.0)
      ∙ step (bytes_eq doc x) refl on (along docs doc there parts.1)
    where
      step : (t : Bool) → bytes_eq doc x ≡ t → (is_some (effective H topic doc) ≡ true → (bytes_eq doc x || contains_text docs doc) ≡ true)
          → ((is_some (effective H topic doc) ≡ true → contains_text docs doc ≡ true)
          → effective_in (map one docs) (doc_in (names_of H) doc) ≡ effective H topic doc)
          → (if t then effective H topic x else effective_in (map one docs) (doc_in (names_of H) doc)) ≡ effective H topic doc
      step true is on rest = ap (effective H topic) (sym ((bytes_eq-Decides doc x).0 is))
      step false is on rest = rest (λ some. ap (λ t. t || contains_text docs doc) (sym is) ∙ on some)

  pub effective-numbered : GradedAreThere → IsLegal H → are_named (names_of H) (trail H topic) ≡ true → (doc : Text) → contains_text (names_of H) doc ≡ true
      → effective_in (graded_on H topic) (doc_in (names_of H) doc) ≡ effective H topic doc
  effective-numbered there legal trail_named doc named = along (trail H topic) doc named trail_named (λ some. there H legal topic doc some)
