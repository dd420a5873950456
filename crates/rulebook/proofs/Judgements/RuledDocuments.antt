-- In a list of entries that can come about a document with a ruling has a label.
use Rattle.std.proofs.Common.{◌≡◌, ℕ, Bool, true, false, not, List, [], ◌∷◌, ◌++◌, Option, None, Some, Ok, length, suc, refl, sym, ap, ◌∙◌, is_some, arith, lt-ltb}
use Rattle.std.specs.Prelude.{◌&&◌, if◌then◌else◌, nat_lt}
use Rattle.std.specs.Option.{option_or}
use Rattle.std.specs.Str.{bytes_eq}
use Rattle.std.proofs.lemmas.Slice.Eq.{bytes_eq-Decides}
use Rattle.labels.specs.Grades.{common_grade}
use Rattle.labels.specs.DocumentLabels.{grades_of}
use Rattle.labels.specs.declared.given.Given.{Given}
use Rattle.rulebook.specs.declared.rules.Phase.TheVariants.{Judging}
use Rattle.rulebook.specs.declared.ask.Command.{Command}
use Rattle.rulebook.specs.declared.ask.Command.TheVariants as command
use Rattle.rulebook.specs.declared.entry.Entry.{Entry}
use Rattle.rulebook.specs.declared.reply.Refusal.{Refusal}
use Rattle.rulebook.specs.declared.reply.Refusal.TheVariants as refusal
use Rattle.rulebook.specs.declared.reply.Reply.{Reply}
use Rattle.rulebook.specs.declared.reply.Reply.TheVariants as reply
use Rattle.rulebook.specs.Answers.{command_outcome, grade_range, moment_after, rule_outcome}
use Rattle.rulebook.specs.Campaign.{History, is_topic, need}
use Rattle.rulebook.specs.Judgements.Grades.{effective, is_labelled, labelled_documents, labels_on, last_ruling, ruling_in, trail}
use Rattle.rulebook.specs.Histories.Legal.{IsAccepted, IsFounding, IsLegal}
use Rattle.rulebook.specs.Requests.Refusals.{Outcome, ◌when◌, unless, wrong_phase_unless}
use Rattle.rulebook.specs.Words.{Text, contains_text}
use Rattle.rulebook.proofs.LegalHistories.LegalWalk.{accepted_of, legal_induction}
use Rattle.rulebook.proofs.Elements.TextLists.{passes-among}
use Rattle.rulebook.proofs.Judgements.ListedDocuments.{labelled-grow, listed-labelled}
use Rattle.rulebook.proofs.Judgements.NextEntries.{rulings-follow}
use Rattle.rulebook.proofs.Judgements.Trails.{graded-on-trail}

-- what is accepted passed its third test
pub third-passes : (a b : Option Refusal) (r : Refusal) (t : Bool) (rest : List (Option Refusal)) (outcome : Outcome) (told : Reply)
    → unless (a ∷ b ∷ (r when not t) ∷ rest) outcome ≡ Ok told → t ≡ true
third-passes (Some s) b r t rest outcome told is = cc is
third-passes None (Some s) r t rest outcome told is = cc is
third-passes None None r true rest outcome told is = refl
third-passes None None r false rest outcome told is = cc is

rule-labelled : (H : History) (topic doc : Text) (grade : ℕ) (told : Reply) → rule_outcome H topic doc grade ≡ Ok told → is_labelled H topic doc ≡ true
rule-labelled H topic doc grade told is =
    third-passes (wrong_phase_unless Judging H) (refusal.UnknownTopic when not (is_topic H topic)) refusal.NotLabelled
    (is_labelled H topic doc) (grade_range H grade ∷ []) (Ok reply.Done) told is

abbrev RuledAreLabelled : History → Type 0
RuledAreLabelled H = (topic doc : Text) → is_some (last_ruling H topic doc) ≡ true → is_labelled H topic doc ≡ true

labelled-stays : (H rest : History) (topic doc : Text) → is_labelled H topic doc ≡ true → is_labelled (H ++ rest) topic doc ≡ true
labelled-stays H rest topic doc has = sym (listed-labelled (H ++ rest) topic doc) ∙ labelled-grow H rest topic doc (listed-labelled H topic doc ∙ has)

accepted-ruling : (H : History) (e : Entry) (topic doc : Text) (c : Command) → e.core.command ≡ c → IsAccepted H e
    → is_some (ruling_in topic doc c) ≡ true → is_labelled H topic doc ≡ true
accepted-ruling H e topic doc (command.Rule t d grade) is accepted some = step (bytes_eq t topic) refl (bytes_eq d doc) refl some
  where
    ruled_there : is_labelled H t d ≡ true
    ruled_there = rule-labelled H t d grade e.reply
        (ap (command_outcome H e.core.caller (moment_after H e.core.moment)) (sym is) ∙ (accepted_of H e accepted).outcome_is)

    step : (s : Bool) → bytes_eq t topic ≡ s → (u : Bool) → bytes_eq d doc ≡ u
        → is_some (if (s && u) then Some grade else None) ≡ true → is_labelled H topic doc ≡ true
    step true same_topic true same_doc has =
        sym (ap (λ (i : Text). is_labelled H i d) ((bytes_eq-Decides t topic).0 same_topic) ∙ ap (is_labelled H topic) ((bytes_eq-Decides d doc).0 same_doc))
        ∙ ruled_there
    step true same_topic false same_doc has = cc has
    step false same_topic u same_doc has = cc has
accepted-ruling H e topic doc _ is accepted some = cc some

ruled-push : (H : History) (e : Entry) → RuledAreLabelled H → IsAccepted H e → RuledAreLabelled (H ++ e ∷ [])
ruled-push H e before accepted topic doc some =
    labelled-stays H (e ∷ []) topic doc
    (step (ruling_in topic doc e.core.command) refl (sym (ap (λ (o : Option ℕ). is_some o) (rulings-follow H e topic doc)) ∙ some))
  where
    step : (o : Option ℕ) → ruling_in topic doc e.core.command ≡ o → is_some (option_or o (last_ruling H topic doc)) ≡ true → is_labelled H topic doc ≡ true
    step (Some grade) is has = accepted-ruling H e topic doc e.core.command refl accepted (ap (λ (o : Option ℕ). is_some o) is)
    step None is has = before topic doc has

founding-ruled : (first : Entry) → IsFounding first → RuledAreLabelled (first ∷ [])
founding-ruled first is topic doc some = let e : first ≡ _ = is.2 in
    let none : is_some (last_ruling (first ∷ []) topic doc) ≡ false = rw e refl in cc (none, some)

pub ruled-labelled : (H : History) → IsLegal H → RuledAreLabelled H
ruled-labelled = legal_induction RuledAreLabelled (λ before e legal command_outcome accepted. ruled-push before e command_outcome accepted) founding-ruled

-- A grade of the labels is one of some labels.
common-some : (need_ : ℕ) (given : List Given) → is_some (common_grade need_ (grades_of given)) ≡ true → nat_lt 0 (length given) ≡ true
common-some need_ [] some = cc some
common-some need_ (x ∷ given) some = lt-ltb 0 (suc (length given)) (omega arith)

-- a document with an effective grade is on the trail
pub graded-there : (H : History) → IsLegal H → (topic doc : Text) → is_some (effective H topic doc) ≡ true → contains_text (trail H topic) doc ≡ true
graded-there H legal topic doc some =
    graded-on-trail H topic doc
    (passes-among (λ doc. is_some (effective H topic doc)) (labelled_documents H topic) doc
    (listed-labelled H topic doc ∙ step (last_ruling H topic doc) refl some) some)
  where
    step : (o : Option ℕ) → last_ruling H topic doc ≡ o → is_some (option_or o (common_grade (need H topic) (grades_of (labels_on H topic doc)))) ≡ true
        → is_labelled H topic doc ≡ true
    step (Some grade) is has = ruled-labelled H legal topic doc (ap (λ (o : Option ℕ). is_some o) is)
    step None is has = common-some (need H topic) (labels_on H topic doc) has
