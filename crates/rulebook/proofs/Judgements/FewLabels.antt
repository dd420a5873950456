-- A document never has more labels and live leases together than its topic needs labels.
use Rattle.std.proofs.Common.{◌≡◌, ◌⊎◌, inl, inr, ℕ, suc, ◌+◌, ◌-◌, ◌<◌, ◌≤◌, Bool, true, false, not, List, [], ◌∷◌, ◌++◌, Option, None, Some, Ok, length, max, refl, sym, ap, ◌∙◌, subst, arith}
use Rattle.std.specs.Prelude.{◌&&◌, ◌||◌, nat_lt, filter, is_some, find}
use Rattle.std.specs.Option.{option_and_then}
use Rattle.std.specs.Str.{bytes_eq}
use Rattle.std.proofs.lemmas.Bool.{eq-eqb, leb-false, lt-ltb, ltb-true, and_from}
use Rattle.std.proofs.lemmas.List.{append-nil}
use Rattle.std.proofs.lemmas.List.Folds.{list_any-append}
use Rattle.std.proofs.lemmas.Cmp.{nat_list_eq_equiv}
use Rattle.std.proofs.lemmas.Slice.Eq.{bytes_eq-Decides}
use Rattle.std.proofs.Math.Bool.{or-false, or-true, and-false}
use Rattle.decimal_rank.proofs.TruthValues.{first_of_both, second_of_both}
use Rattle.labels.specs.DocumentLabels.{has_label, with_label}
use Rattle.labels.specs.declared.given.Given.{Given}
use Rattle.rulebook.specs.declared.ask.Command.{Command}
use Rattle.rulebook.specs.declared.ask.Command.TheVariants as command
use Rattle.rulebook.specs.declared.entry.Entry.{Entry}
use Rattle.rulebook.specs.declared.entry.EntryCore.{EntryCore}
use Rattle.rulebook.specs.declared.reply.Refusal.TheVariants as refusal
use Rattle.rulebook.specs.declared.reply.Reply.TheVariants as reply
use Rattle.rulebook.specs.declared.rules.Phase.TheVariants.{Judging}
use Rattle.rulebook.specs.Answers.{command_outcome, grade_range, moment_after}
use Rattle.rulebook.specs.Campaign.{History, is_topic, need, numbered_runs, rules_of}
use Rattle.rulebook.specs.Judgements.Grades.{Label, effective, is_label_on, is_labelled_by, label_in, label_of, labels_on}
use Rattle.rulebook.specs.Judgements.JudgingOrder.{first_of, holds_open, is_open_to, named_document}
use Rattle.rulebook.specs.Campaign.{Run, held_documents}
use Rattle.rulebook.specs.Judgements.Leases.{Lease, ends, has_lease, is_ended, is_live, lease_in, leases, live_leases_on}
use Rattle.rulebook.specs.Histories.Legal.{IsAccepted, IsFounding, IsLegal}
use Rattle.rulebook.specs.Requests.Refusals.{wrong_phase_unless, ◌when◌}
use Rattle.rulebook.specs.Words.{Text}
use Rattle.rulebook.proofs.LegalHistories.AddedEntries.{moment_pushed}
use Rattle.rulebook.proofs.Judgements.NextLabels.{label-joins, labels-stay}
use Rattle.rulebook.proofs.LegalHistories.GrantedLeases.{IsGranted, grade_told, leases_pushed, named_lease, other_told}
use Rattle.rulebook.proofs.LegalHistories.LegalWalk.{accepted_of, legal_induction}
use Rattle.rulebook.proofs.Elements.PassingCounts.{count, count_fewer, count_one_fewer, count_pushed}
use Rattle.rulebook.proofs.Judgements.RuledDocuments.{third-passes}

-- Live leases on a document, as one count.

abbrev on_doc : Text → Text → Lease → Bool
on_doc topic doc lease = bytes_eq lease.topic topic && bytes_eq lease.doc doc

abbrev is_live_on : History → ℕ → Text → Text → Lease → Bool
is_live_on H now topic doc lease = is_live H now lease && on_doc topic doc lease

twice_filtered : {X : Type 0} (p q : X → Bool) (xs : List X) → count p (filter q xs) ≡ count (λ x. q x && p x) xs
twice_filtered p q [] = refl
twice_filtered p q (x ∷ xs) = step (q x) refl (p x) refl (twice_filtered p q xs)
  where
    step : (s : Bool) → q x ≡ s → (t : Bool) → p x ≡ t → count p (filter q xs) ≡ count (λ x. q x && p x) xs
        → count p (filter q (x ∷ xs)) ≡ count (λ x. q x && p x) (x ∷ xs)
    step true s true t rest = rw (s, t) (ap suc rest)
    step true s false t rest = rw (s, t) rest
    step false s t _ rest = rw s rest

live_count : (H : History) (now : ℕ) (topic doc : Text) → length (live_leases_on H now topic doc) ≡ count (is_live_on H now topic doc) (leases H)
live_count H now topic doc = twice_filtered (on_doc topic doc) (is_live H now) (leases H)

-- One more entry, at a moment that isn't earlier: what is live then was live before.

ends_pushed : (H : History) (e : Entry) (number : ℕ) → is_ended (H ++ e ∷ []) number ≡ (is_ended H number || ends number e.core.command)
ends_pushed H e number =
    list_any-append (λ (e : Entry). ends number e.core.command) H (e ∷ []) ∙ ap (λ t. is_ended H number || t) (or-false (ends number e.core.command))

earlier_unended : (H : History) (e : Entry) (number : ℕ) → not (is_ended (H ++ e ∷ []) number) ≡ true → not (is_ended H number) ≡ true
earlier_unended H e number is = step (is_ended H number) (ends number e.core.command) (ap not (sym (ends_pushed H e number)) ∙ is)
  where
    step : (s t : Bool) → not (s || t) ≡ true → not s ≡ true
    step true t is = is
    step false t is = refl

live_before : (H : History) (e : Entry) (earlier later : ℕ) (topic doc : Text) → earlier ≤ later → (lease : Lease)
    → is_live_on (H ++ e ∷ []) later topic doc lease ≡ true → is_live_on H earlier topic doc lease ≡ true
live_before H e earlier later topic doc le lease is =
    let live = first_of_both (is_live (H ++ e ∷ []) later lease) (on_doc topic doc lease) is in
    let on = second_of_both (is_live (H ++ e ∷ []) later lease) (on_doc topic doc lease) is in
    let unended = earlier_unended H e lease.number (first_of_both (not (is_ended (H ++ e ∷ []) lease.number)) (nat_lt later lease.until) live) in
    let fresh = ltb-true later lease.until (second_of_both (not (is_ended (H ++ e ∷ []) lease.number)) (nat_lt later lease.until) live) in
    and_from (is_live H earlier lease) (on_doc topic doc lease)
    (and_from (not (is_ended H lease.number)) (nat_lt earlier lease.until) unended (lt-ltb earlier lease.until (omega (arith, fresh, le)))) on

fewer : (H : History) (e : Entry) (earlier later : ℕ) (topic doc : Text) → earlier ≤ later
    → count (is_live_on (H ++ e ∷ []) later topic doc) (leases H) ≤ count (is_live_on H earlier topic doc) (leases H)
fewer H e earlier later topic doc le =
    count_fewer (is_live_on (H ++ e ∷ []) later topic doc) (is_live_on H earlier topic doc) (leases H) (live_before H e earlier later topic doc le)

-- Labels

longer_by_one : (assessor : Text) (grade : ℕ) (given : List Given) → length (with_label assessor grade given) ≤ length given + 1
longer_by_one assessor grade [] = omega arith
longer_by_one assessor grade (label ∷ given) = step (bytes_eq label.assessor assessor) refl (longer_by_one assessor grade given)
  where
    step : (t : Bool) → bytes_eq label.assessor assessor ≡ t → length (with_label assessor grade given) ≤ length given + 1
        → length (with_label assessor grade (label ∷ given)) ≤ length (label ∷ given) + 1
    step true is rest = rw is (omega arith)
    step false is rest = rw is (omega (arith, rest))

as_long : (assessor : Text) (grade : ℕ) (given : List Given) → has_label assessor given ≡ true → length (with_label assessor grade given) ≡ length given
as_long assessor grade [] has = cc has
as_long assessor grade (label ∷ given) has = step (bytes_eq label.assessor assessor) refl has (λ rest. as_long assessor grade given rest)
  where
    step : (t : Bool) → bytes_eq label.assessor assessor ≡ t → has_label assessor (label ∷ given) ≡ true
        → (has_label assessor given ≡ true → length (with_label assessor grade given) ≡ length given)
        → length (with_label assessor grade (label ∷ given)) ≡ length (label ∷ given)
    step true is has rest = rw is refl
    step false is has rest = rw is (ap suc (rest (rw is at has)))

-- An open document has fewer labels and live leases than it needs.

found_passes : {X : Type 0} (p : X → Bool) (xs : List X) (x : X) → find p xs ≡ Some x → p x ≡ true
found_passes p [] x is = cc is
found_passes p (y ∷ xs) x is = step (p y) refl is (λ rest. found_passes p xs x rest)
  where
    step : (t : Bool) → p y ≡ t → find p (y ∷ xs) ≡ Some x → (find p xs ≡ Some x → p x ≡ true) → p x ≡ true
    step true passes at rest = let same : Some y ≡ Some x = rw passes at at in let equal : y ≡ x = cc same in ap p (sym equal) ∙ passes
    step false fails at rest = rest (rw fails at at)

named_open : (H : History) (now : ℕ) (assessor topic doc : Text) → named_document H now assessor topic ≡ Some doc → is_open_to H now assessor topic doc ≡ true
named_open H now assessor topic doc is = step (first_of H topic (filter (holds_open H now assessor topic) (numbered_runs H))) is
  where
    step : (o : Option (ℕ × Run)) → option_and_then (λ (run : ℕ × Run). find (is_open_to H now assessor topic) (held_documents H topic run.1)) o ≡ Some doc
        → is_open_to H now assessor topic doc ≡ true
    step None is = cc is
    step (Some run) is = found_passes (is_open_to H now assessor topic) (held_documents H topic run.1) doc is

open_room : (H : History) (now : ℕ) (assessor topic doc : Text) → is_open_to H now assessor topic doc ≡ true
    → length (labels_on H topic doc) + length (live_leases_on H now topic doc) < need H topic
open_room H now assessor topic doc is =
    let ungraded = not (is_some (effective H topic doc)) in
    let unlabelled = not (is_labelled_by H topic doc assessor) in
    let unleased = not (has_lease H now topic doc assessor) in
    let room = nat_lt (length (labels_on H topic doc) + length (live_leases_on H now topic doc)) (need H topic) in
    ltb-true (length (labels_on H topic doc) + length (live_leases_on H now topic doc)) (need H topic)
    (second_of_both (ungraded && unlabelled && unleased) room is)

-- The walk

abbrev AreFew : History → Type 0
AreFew H = (topic doc : Text) → length (labels_on H topic doc) + length (live_leases_on H (moment_after H 0) topic doc) ≤ need H topic

same_need : (H : History) (e : Entry) (topic : Text) → IsLegal H → need (H ++ e ∷ []) topic ≡ need H topic
same_need [] e topic legal = absurd legal
same_need (first ∷ rest) e topic legal = refl

founding_few : (first : Entry) → IsFounding first → AreFew (first ∷ [])
founding_few first is topic doc = rw (is.2) (omega arith)

module _ (before : History) (e : Entry) (legal : IsLegal before) (few : AreFew before) (accepted : IsAccepted before e) where
  abbrev J : History
  J = before ++ e ∷ []

  abbrev now : ℕ
  now = moment_after before e.core.moment

  abbrev earlier : ℕ
  earlier = moment_after before 0

  outcome_is : command_outcome before e.core.caller now e.core.command ≡ Ok e.reply
  outcome_is = (accepted_of before e accepted).outcome_is

  -- the entry's moment is the list's, and not earlier than the last one
  moment_is : moment_after J 0 ≡ now
  moment_is =
      let own : e.core.moment ≡ now = ap (λ (c : EntryCore). c.moment) (accepted_of before e accepted).core_is in
      moment_pushed before e 0 ∙ (let pushed : max 0 e.core.moment ≡ e.core.moment = omega arith in pushed ∙ own)

  later : earlier ≤ now
  later = omega arith

  -- the live leases without the new one
  abbrev kept : Text → Text → ℕ
  kept topic doc = count (is_live_on J now topic doc) (leases before)

  kept_few : (topic doc : Text) → kept topic doc ≤ length (live_leases_on before earlier topic doc)
  kept_few topic doc = subst (λ n. kept topic doc ≤ n) (sym (live_count before earlier topic doc)) (fewer before e earlier now topic doc later)

  -- where the entry tells no lease, these are all
  none_new : lease_in e.core.caller.name e.reply ≡ None → (topic doc : Text) → length (live_leases_on J (moment_after J 0) topic doc) ≡ kept topic doc
  none_new none topic doc =
      ap (λ m. length (live_leases_on J m topic doc)) moment_is ∙ live_count J now topic doc
      ∙ ap (count (is_live_on J now topic doc)) (leases_pushed before e ∙ (rw none (append-nil (leases before))))

  -- and where it gives no label, the labels stay
  unlabelled_few : lease_in e.core.caller.name e.reply ≡ None → label_of e ≡ None → AreFew J
  unlabelled_few none unlabelled topic doc =
      omega (
        arith,
        few topic doc,
        kept_few topic doc,
        none_new none topic doc,
        ap length (labels-stay before e topic doc unlabelled),
        same_need before e topic legal,
      )

  -- a label takes the place of another of its assessor, or of a live lease
  labelled_few : (l : Label) → lease_in e.core.caller.name e.reply ≡ None → label_of e ≡ Some l
      → length (with_label l.assessor l.grade (labels_on before l.topic l.doc)) + kept l.topic l.doc
      ≤ length (labels_on before l.topic l.doc) + length (live_leases_on before earlier l.topic l.doc)
      → AreFew J
  labelled_few l none labelled room topic doc = step (bytes_eq l.topic topic) refl (bytes_eq l.doc doc) refl
    where
      elsewhere : is_label_on topic doc l ≡ false → length (labels_on J topic doc) + length (live_leases_on J (moment_after J 0) topic doc) ≤ need J topic
      elsewhere other =
          let stay : labels_on J topic doc ≡ labels_on before topic doc = label-joins before e l topic doc labelled ∙ (rw other refl) in
          omega (arith, few topic doc, kept_few topic doc, none_new none topic doc, ap length stay, same_need before e topic legal)

      here : l.topic ≡ topic → l.doc ≡ doc → is_label_on topic doc l ≡ true
          → length (labels_on J topic doc) + length (live_leases_on J (moment_after J 0) topic doc) ≤ need J topic
      here t d on =
          let joined : labels_on J topic doc ≡ with_label l.assessor l.grade (labels_on before topic doc) =
          label-joins before e l topic doc labelled ∙ (rw on refl) in
          let fits : length (with_label l.assessor l.grade (labels_on before topic doc)) + kept topic doc
          ≤ length (labels_on before topic doc) + length (live_leases_on before earlier topic doc) = rw (t, d) at room in
          omega (arith, few topic doc, fits, none_new none topic doc, ap length joined, same_need before e topic legal)

      step : (s : Bool) → bytes_eq l.topic topic ≡ s → (u : Bool) → bytes_eq l.doc doc ≡ u
          → length (labels_on J topic doc) + length (live_leases_on J (moment_after J 0) topic doc) ≤ need J topic
      step true t true d = here ((bytes_eq-Decides l.topic topic).0 t) ((bytes_eq-Decides l.doc doc).0 d) (rw (t, d) refl)
      step true t false d = elsewhere (rw (t, d) refl)
      step false t u d = elsewhere (rw t refl)

  graded_few : (number grade : ℕ) → e.core.command ≡ command.Grade number grade → AreFew J
  graded_few number grade is =
      let graded : command_outcome before e.core.caller now (command.Grade number grade) ≡ Ok e.reply =
      ap (command_outcome before e.core.caller now) (sym is) ∙ outcome_is in
      let (lease, own, told) = grade_told before e.core.caller now number grade e.reply graded in
      let l : Label = record { topic = lease.topic; doc = lease.doc; assessor = e.core.caller.name; grade = grade } in
      let labelled : label_of e ≡ Some l = ap (λ (c : Command). label_in e.core.caller.name c e.reply) is
      ∙ ap (label_in e.core.caller.name (command.Grade number grade)) told in
      let at = named_lease before legal number lease own.lease_is in
      let on : on_doc lease.topic lease.doc lease ≡ true =
      and_from (bytes_eq lease.topic lease.topic) (bytes_eq lease.doc lease.doc) (nat_list_eq_equiv.refl lease.topic) (nat_list_eq_equiv.refl lease.doc) in
      let ends_it : ends lease.number e.core.command ≡ true = ap (ends lease.number) is ∙ eq-eqb number lease.number (sym at.number_is) in
      let ended : is_ended J lease.number ≡ true = ends_pushed before e lease.number ∙ (rw ends_it (or-true (is_ended before lease.number))) in
      let gone : is_live_on J now lease.topic lease.doc lease ≡ false = rw ended refl in
      let fresh : earlier < lease.until = omega (arith, leb-false lease.until now own.unexpired, later) in
      let was : is_live_on before earlier lease.topic lease.doc lease ≡ true =
      and_from (is_live before earlier lease) (on_doc lease.topic lease.doc lease)
      (and_from (not (is_ended before lease.number)) (nat_lt earlier lease.until) (rw (own.unended) refl) (lt-ltb earlier lease.until fresh)) on in
      let one_less =
      count_one_fewer (is_live_on J now lease.topic lease.doc) (is_live_on before earlier lease.topic lease.doc) (leases before) (number - 1) lease
      (live_before before e earlier now lease.topic lease.doc later) at.place_is gone was in
      labelled_few l (ap (lease_in e.core.caller.name) told) labelled
      (omega (
        arith,
        one_less,
        longer_by_one e.core.caller.name grade (labels_on before lease.topic lease.doc),
        live_count before earlier lease.topic lease.doc,
      ))

  amended_few : (topic doc : Text) (grade : ℕ) → e.core.command ≡ command.Amend topic doc grade → lease_in e.core.caller.name e.reply ≡ None → AreFew J
  amended_few topic doc grade is none =
      let amended : command_outcome before e.core.caller now (command.Amend topic doc grade) ≡ Ok e.reply =
      ap (command_outcome before e.core.caller now) (sym is) ∙ outcome_is in
      let has = third-passes (wrong_phase_unless Judging before) (refusal.UnknownTopic when not (is_topic before topic)) refusal.NotLabelled
      (is_labelled_by before topic doc e.core.caller.name)
      (grade_range before grade ∷ []) (Ok reply.Done) e.reply amended in
      let l : Label = record { topic = topic; doc = doc; assessor = e.core.caller.name; grade = grade } in
      let labelled : label_of e ≡ Some l = rw is refl in
      labelled_few l none labelled (omega (arith, as_long e.core.caller.name grade (labels_on before topic doc) has, kept_few topic doc))

  granted_few : (topic : Text) → e.core.command ≡ command.Lease topic → IsGranted before e.core.caller now e.reply topic → AreFew J
  granted_few topic is granted t d = step (on_doc t d new) refl
    where
      new : Lease
      new = record {
        number = length (leases before) + 1;
        assessor = e.core.caller.name;
        topic = topic;
        doc = granted.doc;
        until = now
            + (rules_of before).term;
      }

      made : lease_in e.core.caller.name e.reply ≡ Some new
      made = ap (lease_in e.core.caller.name) granted.told_is

      unlabelled : label_of e ≡ None
      unlabelled = rw is refl

      count_is : length (live_leases_on J (moment_after J 0) t d) ≡ count (is_live_on J now t d) (leases before ++ new ∷ [])
      count_is =
          ap (λ m. length (live_leases_on J m t d)) moment_is ∙ live_count J now t d
          ∙ ap (count (is_live_on J now t d)) (leases_pushed before e ∙ (rw made refl))

      labels_same : length (labels_on J t d) ≡ length (labels_on before t d)
      labels_same = ap length (labels-stay before e t d unlabelled)

      one_more : (s : Bool) → is_live_on J now t d new ≡ s → count (is_live_on J now t d) (leases before ++ new ∷ []) ≤ kept t d + 1
      one_more true s = omega (arith, count_pushed (is_live_on J now t d) (leases before) new true s)
      one_more false s = omega (arith, count_pushed (is_live_on J now t d) (leases before) new false s)

      step : (t0 : Bool) → on_doc t d new ≡ t0 → length (labels_on J t d) + length (live_leases_on J (moment_after J 0) t d) ≤ need J t
      step false other =
          let none : is_live_on J now t d new ≡ false = rw other (and-false (is_live J now new)) in
          omega (
            arith,
            few t d,
            kept_few t d,
            count_is,
            count_pushed (is_live_on J now t d) (leases before) new false none,
            labels_same,
            same_need before e t legal,
          )
      step true here =
          let topic_is : topic ≡ t = (bytes_eq-Decides topic t).0 (first_of_both (bytes_eq topic t) (bytes_eq granted.doc d) here) in
          let doc_is : granted.doc ≡ d = (bytes_eq-Decides granted.doc d).0 (second_of_both (bytes_eq topic t) (bytes_eq granted.doc d) here) in
          let room = open_room before now e.core.caller.name topic granted.doc (named_open before now e.core.caller.name topic granted.doc granted.named_is) in
          let room_here : length (labels_on before t d) + length (live_leases_on before now t d) < need before t = rw (topic_is, doc_is) at room in
          let now_le : now ≤ now = omega arith in
          omega (
            arith,
            room_here,
            count_is,
            one_more (is_live_on J now t d new) refl,
            fewer before e now now t d now_le,
            live_count before now t d,
            labels_same,
            same_need before e t legal,
          )

  -- by what the command is
  by_command : (c : Command) → e.core.command ≡ c → lease_in e.core.caller.name e.reply ≡ None → AreFew J
  by_command (command.Grade number grade) is none = graded_few number grade is
  by_command (command.Amend topic doc grade) is none = amended_few topic doc grade is none
  by_command _ is none = unlabelled_few none (rw is refl)

  few_pushed : AreFew J
  few_pushed = step (other_told before e.core.caller now e.core.command e.reply outcome_is)
    where
      step : ((topic : Text) × (e.core.command ≡ command.Lease topic) × IsGranted before e.core.caller now e.reply topic)
          ⊎ (lease_in e.core.caller.name e.reply ≡ None) → AreFew J
      step (inl (topic, is, granted)) = granted_few topic is granted
      step (inr none) = by_command e.core.command refl none

pub labels_few : (H : History) → IsLegal H → AreFew H
labels_few = legal_induction AreFew (λ before e legal few accepted. few_pushed before e legal few accepted) founding_few
