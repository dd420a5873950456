-- Leases of a list of entries that can come about: they are numbered by their places, Grade and Release name theirs, and each ends once.
use Rattle.std.proofs.Common.{◌≡◌, ◌⊎◌, inl, inr, ℕ, zero, suc, ◌+◌, ◌-◌, ◌≤◌, Bool, true, false, not, List, [], ◌∷◌, ◌++◌, Option, None, Some, Ok, Err, length, refl, sym, ap, ◌∙◌, subst, arith}
use Rattle.std.specs.Prelude.{if◌then◌else◌, nat_le, nat_lt, slice_get}
use Rattle.std.specs.List.{cons_option, filter_map}
use Rattle.std.specs.Str.{bytes_eq}
use Rattle.std.proofs.lemmas.Bool.{eqb-true, ltb-true, not-false}
use Rattle.std.proofs.lemmas.List.{append-nil}
use Rattle.std.proofs.lemmas.List.Elements.{filter_map-append}
use Rattle.std.proofs.lemmas.Slice.Eq.{bytes_eq-Decides}
use Rattle.decimal_rank.proofs.Lists.{slice-front}
use Rattle.rulebook.specs.declared.ask.Command.{Command}
use Rattle.rulebook.specs.declared.ask.Command.TheVariants as command
use Rattle.rulebook.specs.declared.entry.Entry.{Entry}
use Rattle.rulebook.specs.declared.reply.Refusal.{Refusal}
use Rattle.rulebook.specs.declared.reply.Refusal.TheVariants as refusal
use Rattle.rulebook.specs.declared.reply.Reply.{Reply}
use Rattle.rulebook.specs.declared.reply.Reply.TheVariants as reply
use Rattle.rulebook.specs.declared.rules.Caller.{Caller}
use Rattle.rulebook.specs.Answers.{command_outcome, grade_outcome, grade_range, graded_lease, judging_tests, lease_outcome, lease_outcome_of, lease_refusals, lease_tests, moment_after, release_outcome, released_lease}
use Rattle.rulebook.specs.Campaign.{History, line_count, rules_of, title}
use Rattle.rulebook.specs.Histories.Facts.{GradesLease, label_by_lease}
use Rattle.rulebook.specs.Judgements.Grades.{given_labels, label_in, label_of}
use Rattle.rulebook.specs.Judgements.JudgingOrder.{named_document}
use Rattle.rulebook.specs.Judgements.Leases.{Lease, ends, is_ended, lease_in, lease_numbered, leases}
use Rattle.rulebook.specs.Histories.Legal.{IsAccepted, IsFounding, IsLegal}
use Rattle.rulebook.specs.Requests.Refusals.{Outcome, unless, unless_missing, ◌when◌}
use Rattle.rulebook.specs.Words.{Text}
use Rattle.rulebook.proofs.LegalHistories.LegalWalk.{accepted_of, legal_induction}
use Rattle.rulebook.proofs.LegalHistories.Outcomes.{Accepts, Counts, Enters, Grades, Grants, ComesTo, Refuses, outcome}
use Rattle.rulebook.proofs.Elements.PassingCounts.{count, count_none, count_pushed, count_single}

-- What is accepted follows its refusals, none of which held.

pub unless_ok : (tests : List (Option Refusal)) (outcome : Outcome) (told : Reply) → unless tests outcome ≡ Ok told → outcome ≡ Ok told
unless_ok [] outcome told is = is
unless_ok (None ∷ tests) outcome told is = unless_ok tests outcome told is
unless_ok (Some r ∷ tests) outcome told is = cc is

pub passed : (r : Refusal) (test : Bool) (tests : List (Option Refusal)) (outcome : Outcome) (told : Reply) → unless ((r when test) ∷ tests) outcome ≡ Ok told
    → (test ≡ false) × (unless tests outcome ≡ Ok told)
passed r true tests outcome told is = cc is
passed r false tests outcome told is = (refl, is)

given_ok : {X : Type 0} (o : Option X) (r : Refusal) (follows : X → Outcome) (told : Reply)
    → unless_missing o r follows ≡ Ok told → (x : X) × (o ≡ Some x) × (follows x ≡ Ok told)
given_ok None r follows told is = cc is
given_ok (Some x) r follows told is = (x, refl, is)

-- what holds of the lease that an accepted Grade or Release names
pub record IsOwnLease (H : History) (who : Caller) (now number : ℕ) (lease : Lease) : Type 0 where
  pub lease_is : lease_numbered H number ≡ Some lease
  pub assessor_is : lease.assessor ≡ who.name
  pub unended : is_ended H lease.number ≡ false
  pub unexpired : nat_le lease.until now ≡ false

own_of : (H : History) (who : Caller) (now number : ℕ) (lease : Lease) (more : List (Option Refusal)) (outcome : Outcome) (told : Reply)
    → lease_numbered H number ≡ Some lease
    → unless (lease_refusals H who now lease ++ more) outcome ≡ Ok told → IsOwnLease H who now number lease
own_of H who now number lease more outcome told found is =
    let expired : Option Refusal = refusal.Expired lease.until when nat_le lease.until now in
    let ended : Option Refusal = refusal.Ended when is_ended H lease.number in
    let mine = passed refusal.NotYours (not (bytes_eq lease.assessor who.name)) (ended ∷ expired ∷ more) outcome told is in
    let free = passed refusal.Ended (is_ended H lease.number) (expired ∷ more) outcome told mine.1 in
    let fresh = passed (refusal.Expired lease.until) (nat_le lease.until now) more outcome told free.1 in
    record {
      lease_is = found;
      assessor_is = (bytes_eq-Decides lease.assessor who.name).0 (not-false (bytes_eq lease.assessor who.name) mine.0);
      unended = free.0;
      unexpired = fresh.0;
    }

-- an accepted grade is of such a lease, and tells its topic and its document
pub grade_told : (H : History) (who : Caller) (now number grade : ℕ) (told : Reply) → grade_outcome H who now number grade ≡ Ok told
    → (lease : Lease) × IsOwnLease H who now number lease × (told ≡ reply.Graded lease.topic lease.doc grade)
grade_told H who now number grade told is =
    let follows = unless_ok (judging_tests H) (unless_missing (lease_numbered H number) refusal.UnknownLease (graded_lease H who now grade)) told is in
    let (lease, found, rest) = given_ok (lease_numbered H number) refusal.UnknownLease (graded_lease H who now grade) told follows in
    let outcome : Outcome = Ok (reply.Graded lease.topic lease.doc grade) in
    let last = unless_ok (lease_refusals H who now lease ++ grade_range H grade ∷ []) outcome told rest in
    let same : told ≡ reply.Graded lease.topic lease.doc grade = cc last in
    (lease, own_of H who now number lease (grade_range H grade ∷ []) outcome told found rest, same)

pub release_told : (H : History) (who : Caller) (now number : ℕ) (told : Reply) → release_outcome H who now number ≡ Ok told
    → (lease : Lease) × IsOwnLease H who now number lease
release_told H who now number told is =
    let follows = unless_ok (judging_tests H) (unless_missing (lease_numbered H number) refusal.UnknownLease (released_lease H who now)) told is in
    let (lease, found, rest) = given_ok (lease_numbered H number) refusal.UnknownLease (released_lease H who now) told follows in (
      lease,
      own_of H who now number lease [] (Ok reply.Done) told found
          (subst (λ tests. unless tests (Ok reply.Done) ≡ Ok told) (sym (append-nil (lease_refusals H who now lease))) rest),
    )

-- what holds of an accepted lease
pub record IsGranted (H : History) (who : Caller) (now : ℕ) (told : Reply) (topic : Text) : Type 0 where
  pub doc : Text
  pub named_is : named_document H now who.name topic ≡ Some doc
  pub told_is : told ≡ reply.Leased (length (leases H) + 1) topic doc (now + (rules_of H).term) (title H topic)

pub lease_told : (H : History) (who : Caller) (now : ℕ) (topic : Text) (told : Reply) → lease_outcome H who now topic ≡ Ok told → IsGranted H who now told topic
lease_told H who now topic told is =
    let follows =
    unless_ok (lease_tests H who now topic) (unless_missing (named_document H now who.name topic) refusal.NothingLeft (lease_outcome_of H now topic)) told is in
    let (doc, found, rest) = given_ok (named_document H now who.name topic) refusal.NothingLeft (lease_outcome_of H now topic) told follows in
    record {
      doc = doc;
      named_is = found;
      told_is = let same : told ≡ reply.Leased (length (leases H) + 1) topic doc (now + (rules_of H).term) (title H topic) =
          cc rest in same;
    }

-- every other accepted command is told no lease
abbrev no_lease : Text → Reply → Type 0
no_lease assessor told = lease_in assessor told ≡ None

pub other_told : (H : History) (who : Caller) (now : ℕ) (c : Command) (told : Reply) → command_outcome H who now c ≡ Ok told
    → ((topic : Text) × (c ≡ command.Lease topic) × IsGranted H who now told topic) ⊎ no_lease who.name told
other_told H who now c told is = step (outcome H who now c)
  where
    told_is : (r : Reply) → command_outcome H who now c ≡ Ok r → told ≡ r
    told_is r also = let same : ◌≡◌ {A = Outcome} (Ok told) (Ok r) = sym is ∙ also in cc same

    none : (r : Reply) → lease_in who.name r ≡ None → command_outcome H who now c ≡ Ok r → no_lease who.name told
    none r tells_none also = ap (lease_in who.name) (told_is r also) ∙ tells_none

    step : ComesTo H who now c (command_outcome H who now c)
        → ((topic : Text) × (c ≡ command.Lease topic) × IsGranted H who now told topic) ⊎ no_lease who.name told
    step (Refuses r also) = let same : ◌≡◌ {A = Outcome} (Ok told) (Err r) = sym is ∙ also in cc same
    step (Accepts also) = inr (none reply.Done refl also)
    step (Counts topics also) = inr (none (reply.Topics (length topics)) refl also)
    step (Enters run lists command_is also) = inr (none (reply.Submitted run (length lists) (line_count lists)) refl also)
    step (Grants topic doc command_is named_is also) =
        inl (
          topic,
          command_is,
          record {
            doc = doc;
            named_is = named_is;
            told_is = told_is (reply.Leased (length (leases H) + 1) topic doc (now + (rules_of H).term) (title H topic)) also;
          },
        )
    step (Grades number grade lease found also) = inr (none (reply.Graded lease.topic lease.doc grade) refl also)

-- Leases are numbered by their places.

pub leases_pushed : (H : History) (e : Entry) → leases (H ++ e ∷ []) ≡ leases H ++ cons_option (lease_in e.core.caller.name e.reply) []
leases_pushed H e = filter_map-append (λ (e : Entry). lease_in e.core.caller.name e.reply) H (e ∷ [])

-- an element of a longer list is one of the list, or the last one
get_last : {X : Type 0} (xs : List X) (y : X) (i : ℕ) (x : X) → slice_get (xs ++ y ∷ []) i ≡ Some x → (slice_get xs i ≡ Some x) ⊎ ((i ≡ length xs) × (y ≡ x))
get_last [] y zero x is = inr (refl, let same : y ≡ x = cc is in same)
get_last [] y (suc i) x is = cc is
get_last (z ∷ xs) y zero x is = inl is
get_last (z ∷ xs) y (suc i) x is = step (get_last xs y i x is)
  where
    step : (slice_get xs i ≡ Some x) ⊎ ((i ≡ length xs) × (y ≡ x)) → (slice_get (z ∷ xs) (suc i) ≡ Some x) ⊎ ((suc i ≡ length (z ∷ xs)) × (y ≡ x))
    step (inl there) = inl there
    step (inr (at, same)) = inr (ap suc at, same)

abbrev AreNumbered : History → Type 0
AreNumbered H = (i : ℕ) (lease : Lease) → slice_get (leases H) i ≡ Some lease → lease.number ≡ i + 1

numbered_pushed : (before : History) (e : Entry) → IsLegal before → AreNumbered before → IsAccepted before e → AreNumbered (before ++ e ∷ [])
numbered_pushed before e legal numbered accepted i lease at =
    step (other_told before who now e.core.command e.reply (accepted_of before e accepted).outcome_is) shown
  where
    who : Caller
    who = e.core.caller

    now : ℕ
    now = moment_after before e.core.moment

    shown : slice_get (leases before ++ cons_option (lease_in who.name e.reply) []) i ≡ Some lease
    shown = ap (λ (ls : List Lease). slice_get ls i) (sym (leases_pushed before e)) ∙ at

    step : ((topic : Text) × (e.core.command ≡ command.Lease topic) × IsGranted before who now e.reply topic) ⊎ no_lease who.name e.reply
        → slice_get (leases before ++ cons_option (lease_in who.name e.reply) []) i ≡ Some lease → lease.number ≡ i + 1
    step (inr none) there =
        let same : slice_get (leases before ++ []) i ≡ Some lease = rw none at there in
        numbered i lease (ap (λ (ls : List Lease). slice_get ls i) (sym (append-nil (leases before))) ∙ same)
    step (inl (topic, is, granted)) there =
        let new : Lease =
        record { number = length (leases before) + 1; assessor = who.name; topic = topic; doc = granted.doc; until = now + (rules_of before).term } in
        let made : lease_in who.name e.reply ≡ Some new = ap (lease_in who.name) granted.told_is in
        newest new refl (get_last (leases before) new i lease (rw made at there))
      where
        newest : (new : Lease) → new.number ≡ length (leases before) + 1
            → (slice_get (leases before) i ≡ Some lease) ⊎ ((i ≡ length (leases before)) × (new ≡ lease)) → lease.number ≡ i + 1
        newest new number (inl earlier) = numbered i lease earlier
        newest new number (inr (at, same)) = ap (λ (l : Lease). l.number) (sym same) ∙ number ∙ ap (λ n. n + 1) (sym at)

pub leases_numbered : (H : History) → IsLegal H → AreNumbered H
leases_numbered =
    legal_induction AreNumbered numbered_pushed (λ first is i lease at. let none : slice_get (leases (first ∷ [])) i ≡ None = rw (is.2) refl in cc (none, at))

-- the lease that a number names has that number, at its place
pub record IsNamedLease (H : History) (number : ℕ) (lease : Lease) : Type 0 where
  pub place_is : slice_get (leases H) (number - 1) ≡ Some lease
  pub number_is : lease.number ≡ number

pub named_lease : (H : History) → IsLegal H → (number : ℕ) (lease : Lease) → lease_numbered H number ≡ Some lease → IsNamedLease H number lease
named_lease H legal number lease is = step (nat_lt 0 number) refl is
  where
    step : (t : Bool) → nat_lt 0 number ≡ t → (if t then slice_get (leases H) (number - 1) else None) ≡ Some lease → IsNamedLease H number lease
    step true some there =
        record { place_is = there; number_is = let at = leases_numbered H legal (number - 1) lease there in omega (arith, at, ltb-true 0 number some) }
    step false none there = cc there

-- Each lease ends once.

abbrev Ends : ℕ → Entry → Bool
Ends number e = ends number e.core.command

-- a command that ends a lease names one that has no end
ended_first : (H : History) → IsLegal H → (who : Caller) (now : ℕ) (c : Command) (told : Reply) (number : ℕ)
    → command_outcome H who now c ≡ Ok told → ends number c ≡ true → is_ended H number ≡ false
ended_first H legal who now (command.Grade n grade) told number is same =
    let (lease, own, told_is) = grade_told H who now n grade told is in
    let at : lease.number ≡ number = (named_lease H legal n lease own.lease_is).number_is ∙ eqb-true n number same in
    ap (is_ended H) (sym at) ∙ own.unended
ended_first H legal who now (command.Release n) told number is same =
    let (lease, own) = release_told H who now n told is in
    let at : lease.number ≡ number = (named_lease H legal n lease own.lease_is).number_is ∙ eqb-true n number same in
    ap (is_ended H) (sym at) ∙ own.unended
ended_first H legal who now _ told number is same = cc same

abbrev AreEndedOnce : History → Type 0
AreEndedOnce H = (number : ℕ) → count (Ends number) H ≤ 1

once_pushed : (before : History) (e : Entry) → IsLegal before → AreEndedOnce before → IsAccepted before e → AreEndedOnce (before ++ e ∷ [])
once_pushed before e legal once accepted number = by (Ends number e) refl
  where
    by : (t : Bool) → Ends number e ≡ t → count (Ends number) (before ++ e ∷ []) ≤ 1
    by false is = omega (arith, count_pushed (Ends number) before e false is, once number)
    by true is =
        let none = ended_first before legal e.core.caller (moment_after before e.core.moment) e.core.command e.reply number
        (accepted_of before e accepted).outcome_is is in
        omega (arith, count_pushed (Ends number) before e true is, count_none (Ends number) before none)

pub ended_once : (H : History) → IsLegal H → AreEndedOnce H
ended_once = legal_induction AreEndedOnce once_pushed (λ first is number. count_single (Ends number) first)

-- Grades tell their leases.

abbrev AreTold : History → Type 0
AreTold H = (place : ℕ) (e : Entry) (number grade : ℕ) → slice_get H place ≡ Some e → e.core.command ≡ command.Grade number grade → GradesLease H e number grade

numbered_grows : (H more : History) (number : ℕ) (lease : Lease) → lease_numbered H number ≡ Some lease → lease_numbered (H ++ more) number ≡ Some lease
numbered_grows H more number lease is = step (nat_lt 0 number) is
  where
    step : (t : Bool) → (if t then slice_get (leases H) (number - 1) else None) ≡ Some lease
        → (if t then slice_get (leases (H ++ more)) (number - 1) else None) ≡ Some lease
    step true there =
        ap (λ (ls : List Lease). slice_get ls (number - 1)) (filter_map-append (λ (e : Entry). lease_in e.core.caller.name e.reply) H more)
        ∙ slice-front (leases H) (leases more) (number - 1) lease there
    step false none = cc none

told_pushed : (before : History) (e : Entry) → IsLegal before → AreTold before → IsAccepted before e → AreTold (before ++ e ∷ [])
told_pushed before e legal told accepted place x number grade at is = step (get_last before e place x at)
  where
    step : (slice_get before place ≡ Some x) ⊎ ((place ≡ length before) × (e ≡ x)) → GradesLease (before ++ e ∷ []) x number grade
    step (inl earlier) =
        let w = told place x number grade earlier is in
        record { lease = w.lease; lease_is = numbered_grows before (e ∷ []) number w.lease w.lease_is; assessor_is = w.assessor_is; reply_is = w.reply_is }
    step (inr (last, same)) =
        let command_is : e.core.command ≡ command.Grade number grade = ap (λ (e : Entry). e.core.command) same ∙ is in
        let outcome_is : grade_outcome before e.core.caller (moment_after before e.core.moment) number grade ≡ Ok e.reply
        = ap (command_outcome before e.core.caller (moment_after before e.core.moment)) (sym command_is) ∙ (accepted_of before e accepted).outcome_is in
        let (lease, own, reply_is) = grade_told before e.core.caller (moment_after before e.core.moment) number grade e.reply outcome_is in
        record {
          lease = lease;
          lease_is = numbered_grows before (e ∷ []) number lease own.lease_is;
          assessor_is = own.assessor_is ∙ ap (λ (e : Entry). e.core.caller.name) same;
          reply_is = ap (λ (e : Entry). e.reply) (sym same) ∙ reply_is;
        }

pub grades_told : (H : History) → IsLegal H → AreTold H
grades_told = legal_induction AreTold told_pushed founding
  where
    founding : (first : Entry) → IsFounding first → AreTold (first ∷ [])
    founding first is zero e number grade at command_is =
        let same : first ≡ e = cc at in
        let found : (command.Found is.0) ≡ command.Grade number grade = ap (λ (e : Entry). e.core.command) (sym is.2 ∙ same) ∙ command_is in
        cc found
    founding first is (suc place) e number grade at command_is = cc at

-- Labels go by leases.

same_given : {X Y : Type 0} (f g : X → Option Y) (xs : List X) → ((i : ℕ) (x : X) → slice_get xs i ≡ Some x → f x ≡ g x) → filter_map f xs ≡ filter_map g xs
same_given f g [] same = refl
same_given f g (x ∷ xs) same =
    ap (λ o. cons_option o (filter_map f xs)) (same zero x refl) ∙ ap (cons_option (g x)) (same_given f g xs (λ i y at. same (suc i) y at))

label_by : (H : History) (name : Text) (c : Command) (told : Reply)
    → ((number grade : ℕ) → c ≡ command.Grade number grade
    → (lease : Lease) × (lease_numbered H number ≡ Some lease) × (told ≡ reply.Graded lease.topic lease.doc grade))
    → label_in name c told ≡ label_by_lease H name c
label_by H name (command.Grade number grade) told graded =
    let (lease, found, is) = graded number grade refl in
    ap (label_in name (command.Grade number grade)) is ∙ (rw found refl)
label_by H name _ told graded = refl

pub labels_by_leases : (H : History) → IsLegal H → given_labels H ≡ filter_map (λ e. label_by_lease H e.core.caller.name e.core.command) H
labels_by_leases H legal =
    same_given label_of (λ (e : Entry). label_by_lease H e.core.caller.name e.core.command) H
    (λ i e at. label_by H e.core.caller.name e.core.command e.reply
    (λ number grade is. let w = grades_told H legal i e number grade at is in (w.lease, w.lease_is, w.reply_is)))
