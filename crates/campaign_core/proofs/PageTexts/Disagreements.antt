-- The documents of a topic whose labels differ, by number and by docno.
use Rattle.std.proofs.Common.{◌≡◌, ◌&&◌, ℕ, suc, Bool, true, false, List, [], ◌∷◌, Option, filter, length, refl, sym, ap, ◌∙◌, arith, subst, lt-ltb}
use Rattle.std.specs.Prelude.{◌==◌, is_none, nat_lt}
use Rattle.std.specs.List.{flat_map, list_all}
use Rattle.std.specs.Str.{bytes_eq}
use Rattle.std.proofs.lemmas.Bool.{ltb-false}
use Rattle.decimal_rank.specs.declared.naming.DocId.{DocId}
use Rattle.labels.specs.declared.given.Given.{Given}
use Rattle.labels.specs.Grades.{grades_differ as differ_there, shows_disagreement}
use Rattle.labels.specs.DocumentLabels.{grades_of}
use Rattle.labels.specs.LabelledDocuments.{disagrees_at, given_at, is_listed, ruling_at}
use Rattle.rulebook.specs.Spelling.{differ}
use Rattle.rulebook.specs.Words.{Text, contains_text, in_order}
use Rattle.rulebook.specs.Campaign.{History, need}
use Rattle.rulebook.specs.Histories.Entries.{LabelledAreListed}
use Rattle.rulebook.specs.Reports.Pages.{disagreement_line, disagreement_lines}
use Rattle.rulebook.specs.Judgements.Grades.{disagrees, is_labelled, labelled_documents, labels_on, last_ruling}
use Rattle.campaign_core.specs.Numbering.Numbers.{doc_in}
use Rattle.campaign_core.specs.Views.PrintedPages.{IsTopicOf}
use Rattle.campaign_core.specs.Assessments.Topics.{KeptTopic}
use Rattle.assessment.specs.TopicFacts.{TopicFacts}
use Rattle.campaign_core.proofs.Numbers.NumberedDocs.{all-listed, docnos, named-listed, names-differ, passing, unnamed-listed, within}
use Rattle.campaign_core.proofs.Lists.ByteOrder.{in_order-any, in_order-is, in_order-rises}

-- only documents with labels show a disagreement
some-labels : (need_ : ℕ) (given : List Given) (r : Option ℕ) → shows_disagreement need_ (grades_of given) r ≡ true → nat_lt 0 (length given) ≡ true
some-labels need_ [] r shows = nothing (need_ == 2) shows
  where
    nothing : (t : Bool) → (t && false && is_none r) ≡ true → nat_lt 0 0 ≡ true
    nothing true e = cc e
    nothing false e = cc e
some-labels need_ (x ∷ given) r shows = lt-ltb 0 (suc (length given)) (omega arith)

no-labels : (need_ : ℕ) (r : Option ℕ) → shows_disagreement need_ [] r ≡ false
no-labels need_ r = nothing (need_ == 2)
  where
    nothing : (t : Bool) → (t && false && is_none r) ≡ false
    nothing true = refl
    nothing false = refl

module _ (H : History) (names : List Text) (topic : TopicFacts) (is : IsTopicOf H names topic) where
  abbrev differs_there : DocId → Bool
  differs_there = disagrees_at topic.need topic.marked

  need-is : topic.need ≡ need H topic.id
  need-is = ap (λ (k : KeptTopic). k.labels_needed) is.kept_is

  known-same : (doc : Text) → contains_text names doc ≡ true → differs_there (doc_in names doc) ≡ disagrees H topic.id doc
  known-same doc there =
      ap (λ (gs : List Given). shows_disagreement topic.need (grades_of gs) (ruling_at topic.marked (doc_in names doc))) (is.labelled.given_are doc there)
      ∙ ap (shows_disagreement topic.need (grades_of (labels_on H topic.id doc))) (is.labelled.rulings_are doc there)
      ∙ ap (λ n. shows_disagreement n (grades_of (labels_on H topic.id doc)) (last_ruling H topic.id doc)) need-is

  inside : (doc : DocId) → differs_there doc ≡ true → within names doc ≡ true
  inside doc shows = step (nat_lt doc.0 (length names)) refl
    where
      step : (t : Bool) → nat_lt doc.0 (length names) ≡ t → t ≡ true
      step true less = refl
      step false less =
          let none : given_at topic.marked doc ≡ [] = is.labelled.given_named doc (ltb-false doc.0 (length names) less) in
          let no_sign : differs_there doc ≡ false = ap (λ (gs : List Given). shows_disagreement topic.need (grades_of gs) (ruling_at topic.marked doc)) none
          ∙ no-labels topic.need (ruling_at topic.marked doc) in
          cc (no_sign, shows)

  -- where a topic doesn't need two labels no labels differ
  module _ (other : (topic.need == 2) ≡ false) where
    agrees : (doc : Text) → disagrees H topic.id doc ≡ false
    agrees doc = ap (λ t. t && differ_there (grades_of (labels_on H topic.id doc)) && is_none (last_ruling H topic.id doc))
        (ap (λ n. n == 2) (sym need-is) ∙ other)

    none-disagree : (docs : List Text) → filter (disagrees H topic.id) docs ≡ []
    none-disagree [] = refl
    none-disagree (doc ∷ docs) = rw (agrees doc) (none-disagree docs)

    pub no-lines : disagreement_lines H topic.id ≡ []
    no-lines = ap (λ docs. flat_map (disagreement_line topic.id) (in_order docs)) (none-disagree (labelled_documents H topic.id))

  module _ (docs : List DocId) (each : (doc : DocId) → is_listed docs doc ≡ differs_there doc) where
    all-inside : list_all (within names) docs ≡ true
    all-inside = all-listed (within names) docs (λ doc there. inside doc (sym (each doc) ∙ there))

    listed-same : (doc : Text) (t : Bool) → contains_text names doc ≡ t → contains_text (docnos names docs) doc ≡ disagrees H topic.id doc
    listed-same doc true there =
        named-listed names docs doc (subst (λ ns. differ ns ≡ true) (sym is.names_are) (names-differ H)) there all-inside
        ∙ each (doc_in names doc) ∙ known-same doc there
    listed-same doc false absent =
        unnamed-listed names docs doc absent all-inside
        ∙ sym (ap (λ (gs : List Given). shows_disagreement (need H topic.id) (grades_of gs) (last_ruling H topic.id doc)) (is.labelled.labels_named doc absent)
        ∙ no-labels (need H topic.id) (last_ruling H topic.id doc))

    listed-labelled : (listed : LabelledAreListed) (doc : Text)
        → contains_text (filter (disagrees H topic.id) (labelled_documents H topic.id)) doc ≡ disagrees H topic.id doc
    listed-labelled listed doc =
        passing (disagrees H topic.id) (labelled_documents H topic.id) doc ∙ ap (λ t. disagrees H topic.id doc && t) (listed H topic.id doc)
        ∙ step (disagrees H topic.id doc) refl
      where
        step : (t : Bool) → disagrees H topic.id doc ≡ t → (t && is_labelled H topic.id doc) ≡ t
        step true shows = some-labels (need H topic.id) (labels_on H topic.id doc) (last_ruling H topic.id doc) shows
        step false shows = refl

    -- the docnos of the documents that are listed
    pub disagreeing-texts : LabelledAreListed → in_order (docnos names docs) ≡ in_order (filter (disagrees H topic.id) (labelled_documents H topic.id))
    disagreeing-texts listed =
        in_order-is (filter (disagrees H topic.id) (labelled_documents H topic.id)) (in_order (docnos names docs)) (in_order-rises (docnos names docs))
        (λ doc. in_order-any (bytes_eq doc) (docnos names docs) ∙ listed-same doc (contains_text names doc) refl ∙ sym (listed-labelled listed doc))
