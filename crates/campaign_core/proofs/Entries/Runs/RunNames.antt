-- No two runs have one name, and each withdrawn run was submitted, with one more entry too.
use Rattle.std.proofs.Common.{◌≡◌, ◌||◌, Bool, true, false, List, ◌++◌, ◌∷◌, [], map, refl, sym, ap, ◌∙◌}
use Rattle.std.specs.List.{list_any}
use Rattle.std.specs.Str.{bytes_eq}
use Rattle.std.proofs.lemmas.List.{map-append}
use Rattle.std.proofs.lemmas.List.Folds.{list_any-append}
use Rattle.std.proofs.lemmas.Slice.Eq.{bytes_eq-Decides}
use Rattle.decimal_rank.proofs.TruthValues.{bytes_eq-swap}
use Rattle.rulebook.specs.Words.{Text, contains_text}
use Rattle.rulebook.specs.Campaign.{History, Run, is_taken, is_withdrawn, runs}
use Rattle.rulebook.specs.Spelling.{differ}
use Rattle.campaign_core.specs.Numbering.Submissions.{RunsAreKnown}
use Rattle.campaign_core.proofs.Lists.DistinctTexts.{differ-push}

name-known : (rs : List Run) (name : Text)
    → list_any (λ run. bytes_eq run.name name) rs ≡ contains_text (map (λ (run : Run). run.name) rs) name
name-known [] name = refl
name-known (r ∷ rs) name = ap (λ t. t || list_any (λ (run : Run). bytes_eq run.name name) rs) (bytes_eq-swap r.name name)
    ∙ ap (λ t. bytes_eq name r.name || t) (name-known rs name)

-- a run whose name isn't taken isn't withdrawn
pub not-withdrawn : (H : History) (name : Text) → RunsAreKnown H → is_taken H name ≡ false → is_withdrawn H name ≡ false
not-withdrawn H name known free = step (is_withdrawn H name) refl
  where
    step : (t : Bool) → is_withdrawn H name ≡ t → is_withdrawn H name ≡ false
    step true away = let both : is_taken H name ≡ true = known.withdrawn_taken name away in cc (both, free)
    step false stays = stays

module _ (H J : History) (known : RunsAreKnown H) where
  pub known-stays : runs J ≡ runs H → ((name : Text) → is_withdrawn J name ≡ is_withdrawn H name) → RunsAreKnown J
  known-stays runs_are withdrawn_are = record {
    names_differ = ap (λ (rs : List Run). differ (map (λ run. run.name) rs)) runs_are ∙ known.names_differ;
    withdrawn_taken = λ name away. ap (list_any (λ (run : Run). bytes_eq run.name name)) runs_are
        ∙ known.withdrawn_taken name (sym (withdrawn_are name) ∙ away);
  }

  pub known-more : (run : Run) → runs J ≡ runs H ++ run ∷ []
      → ((name : Text) → is_withdrawn J name ≡ is_withdrawn H name) → is_taken H run.name ≡ false → RunsAreKnown J
  known-more run runs_are withdrawn_are free = record {
    names_differ = ap (λ (rs : List Run). differ (map (λ run. run.name) rs)) runs_are
        ∙ ap differ (map-append (λ (run : Run). run.name) (runs H) (run ∷ []))
        ∙ differ-push (map (λ (run : Run). run.name) (runs H)) run.name known.names_differ (sym (name-known (runs H) run.name) ∙ free);
    withdrawn_taken = λ name away.
        ap (list_any (λ (run : Run). bytes_eq run.name name)) runs_are
        ∙ list_any-append (λ (run : Run). bytes_eq run.name name) (runs H) (run ∷ [])
        ∙ ap (λ t. t || (bytes_eq run.name name || false)) (known.withdrawn_taken name (sym (withdrawn_are name) ∙ away));
  }

  pub known-fewer : (name : Text) → runs J ≡ runs H
      → ((other : Text) → is_withdrawn J other ≡ (is_withdrawn H other || bytes_eq name other))
      → is_taken H name ≡ true → RunsAreKnown J
  known-fewer name runs_are withdrawn_are taken = record {
    names_differ = ap (λ (rs : List Run). differ (map (λ run. run.name) rs)) runs_are ∙ known.names_differ;
    withdrawn_taken = λ other away. ap (list_any (λ (run : Run). bytes_eq run.name other)) runs_are
        ∙ step other (is_withdrawn H other) refl (bytes_eq name other) refl (sym (withdrawn_are other) ∙ away);
  }
    where
      step : (other : Text) (s : Bool) → is_withdrawn H other ≡ s → (t : Bool) → bytes_eq name other ≡ t
          → (s || t) ≡ true → is_taken H other ≡ true
      step other true away t same any = known.withdrawn_taken other away
      step other false stays true same any = ap (is_taken H) (sym ((bytes_eq-Decides name other).0 same)) ∙ taken
      step other false stays false same any = cc any
