-- What is so where the rules accept a command on leases.
use Rattle.std.proofs.Common.{◌≡◌, ◌||◌, ◌<◌, ◌≤◌, ◌+◌, ◌-◌, ℕ, suc, zero, Bool, true, false, not, List, [], ◌∷◌, ◌++◌, Option, None, Some, Ok, length, map, refl, sym, ap, ◌∙◌, arith}
use Rattle.std.specs.Prelude.{◌&&◌, ◌^◌, if◌then◌else◌, nat_le, nat_lt, slice_get}
use Rattle.std.specs.List.{list_all, list_any}
use Rattle.std.proofs.lemmas.Bool.{ltb-false, ltb-true, not-false, and_parts}
use Rattle.std.specs.Str.{bytes_eq}
use Rattle.decimal_rank.proofs.TruthValues.{bytes_eq-swap}
use Rattle.rulebook.specs.declared.rules.Caller.{Caller}
use Rattle.rulebook.specs.declared.rules.Phase.{Phase}
use Rattle.rulebook.specs.declared.rules.Phase.TheVariants.{Collecting, Judging, Published}
use Rattle.rulebook.specs.declared.reply.Refusal.{Refusal}
use Rattle.rulebook.specs.declared.reply.Refusal.TheVariants as refusal
use Rattle.rulebook.specs.declared.reply.Reply.{Reply}
use Rattle.rulebook.specs.declared.reply.Reply.TheVariants as reply
use Rattle.trec_formats.specs.declared.Topic.{Topic}
use Rattle.rulebook.specs.Words.{Text, contains_text}
use Rattle.rulebook.specs.Requests.Refusals.{Outcome, ◌when◌, unless_missing, is_phase, unless, wrong_phase_unless}
use Rattle.rulebook.specs.Answers.{amend_outcome, grade_outcome, grade_range, lease_outcome, lease_refusals, open_outcome, publish_outcome, release_outcome, rule_outcome, run_refusals, submit_outcome, submit_tests, topics_outcome, withdraw_outcome}
use Rattle.rulebook.specs.Spelling.{differ, is_plain, is_plain_topic}
use Rattle.rulebook.specs.declared.ask.Command.TheVariants as command
use Rattle.rulebook.specs.declared.limits.TheConstants.{MAX_TOPICS}
use Rattle.rulebook.specs.declared.reply.Quantity.TheVariants as quantity
use Rattle.trec_formats.specs.declared.TopicList.{TopicList}
use Rattle.rulebook.specs.Campaign.{History, Run, has_topics, is_topic, is_withdrawn, line_count, phase, rules_of, title}
use Rattle.rulebook.specs.Judgements.Grades.{is_labelled, is_labelled_by}
use Rattle.rulebook.specs.Judgements.JudgingOrder.{named_document}
use Rattle.rulebook.specs.Judgements.Leases.{Lease, is_ended, lease_numbered, leases, live_leases_of}
use Rattle.rulebook.specs.Requests.Roles.{is_group}
use Rattle.rulebook.specs.Reports.Scores.{is_submitter, run_named}
use Rattle.rulebook.proofs.LegalHistories.GrantedLeases.{passed, unless_ok}
use Rattle.campaign_core.proofs.Entries.Judgements.QuietEntries.{given-ok}

judging-from : (p : Phase) → not (is_phase Judging p) ≡ false → p ≡ Judging
judging-from Judging is = refl
judging-from Collecting is = cc is
judging-from Published is = cc is

same-reply : (answer r : Reply) → (let told : Outcome = Ok r in let wanted : Outcome = Ok answer in told ≡ wanted) → answer ≡ r
same-reply answer r e = let back : r ≡ answer = cc e in sym back

-- an accepted lease names a document of a topic of the campaign
pub record LeaseTold (H : History) (who : Caller) (now : ℕ) (topic : Text) (answer : Reply) : Type 0 where
  pub judging : phase H ≡ Judging
  pub listed : is_topic H topic ≡ true
  pub doc : Text
  pub named_is : named_document H now who.name topic ≡ Some doc
  pub reply_is : answer ≡ reply.Leased (length (leases H) + 1) topic doc (now + (rules_of H).term) (title H topic)

pub lease-told : (H : History) (who : Caller) (now : ℕ) (topic : Text) (answer : Reply)
    → lease_outcome H who now topic ≡ Ok answer → LeaseTold H who now topic answer
lease-told H who now topic answer is =
    let live : ℕ = length (live_leases_of H now who.name) in
    let many : Bool = nat_le (rules_of H).hold live in
    let follows : Text → Outcome = λ doc. Ok (reply.Leased (length (leases H) + 1) topic doc (now + (rules_of H).term) (title H topic)) in
    let ruling : Outcome = unless_missing (named_document H now who.name topic) refusal.NothingLeft follows in
    let later : List (Option Refusal) = (refusal.TooMany live when many) ∷ [] in
    let a = passed (refusal.WrongPhase (phase H)) (not (is_phase Judging (phase H)))
    ((refusal.UnknownTopic when not (is_topic H topic)) ∷ later) ruling answer is in
    let b = passed refusal.UnknownTopic (not (is_topic H topic)) later ruling answer a.1 in
    let found = given-ok (named_document H now who.name topic) refusal.NothingLeft follows answer (unless_ok later ruling answer b.1) in
    record {
      judging = judging-from (phase H) a.0;
      listed = not-false (is_topic H topic) b.0;
      doc = found.0;
      named_is = found.1;
      reply_is = same-reply answer (reply.Leased (length (leases H) + 1) topic found.0 (now + (rules_of H).term) (title H topic)) found.2;
    }

-- an accepted command on a lease finds it, and it has no end
pub record OnLease (H : History) (who : Caller) (number : ℕ) : Type 0 where
  pub judging : phase H ≡ Judging
  pub lease : Lease
  pub found : lease_numbered H number ≡ Some lease
  pub mine : bytes_eq lease.assessor who.name ≡ true
  pub unended : is_ended H lease.number ≡ false

on-lease : (H : History) (who : Caller) (now number : ℕ) (more : Lease → List (Option Refusal)) (ruling : Lease → Outcome) (answer : Reply)
    → unless ((refusal.WrongPhase (phase H) when not (is_phase Judging (phase H))) ∷ [])
    (unless_missing (lease_numbered H number) refusal.UnknownLease (λ lease. unless (lease_refusals H who now lease ++ more lease) (ruling lease))) ≡ Ok answer
    → (w : OnLease H who number) × (ruling w.lease ≡ Ok answer)
on-lease H who now number more ruling answer is =
    let follows : Lease → Outcome = λ lease. unless (lease_refusals H who now lease ++ more lease) (ruling lease) in
    let a = passed (refusal.WrongPhase (phase H)) (not (is_phase Judging (phase H))) []
    (unless_missing (lease_numbered H number) refusal.UnknownLease follows) answer is in
    let found = given-ok (lease_numbered H number) refusal.UnknownLease follows answer a.1 in
    let l : Lease = found.0 in
    let b = passed refusal.NotYours (not (bytes_eq l.assessor who.name))
    ((refusal.Ended when is_ended H l.number) ∷ (refusal.Expired l.until when nat_le l.until now) ∷ more l) (ruling l) answer found.2 in
    let c = passed refusal.Ended (is_ended H l.number) ((refusal.Expired l.until when nat_le l.until now) ∷ more l) (ruling l) answer b.1 in (
      record { judging = judging-from (phase H) a.0; lease = l; found = found.1; mine = not-false (bytes_eq l.assessor who.name) b.0; unended = c.0 },
      unless_ok ((refusal.Expired l.until when nat_le l.until now) ∷ more l) (ruling l) answer c.1,
    )

pub grade-told : (H : History) (who : Caller) (now number grade : ℕ) (answer : Reply) → grade_outcome H who now number grade ≡ Ok answer
    → (w : OnLease H who number) × (answer ≡ reply.Graded w.lease.topic w.lease.doc grade)
grade-told H who now number grade answer is =
    let told = on-lease H who now number (λ lease. (refusal.GradeRange when nat_lt (rules_of H).top_grade grade) ∷ [])
    (λ lease. Ok (reply.Graded lease.topic lease.doc grade)) answer is in
    (told.0, same-reply answer (reply.Graded told.0.lease.topic told.0.lease.doc grade) told.1)

pub release-told : (H : History) (who : Caller) (now number : ℕ) (answer : Reply) → release_outcome H who now number ≡ Ok answer
    → OnLease H who number × (answer ≡ reply.Done)
release-told H who now number answer is =
    let told = on-lease H who now number (λ lease. []) (λ lease. Ok reply.Done) answer is in
    (told.0, same-reply answer reply.Done told.1)

-- The lease of a number.

slice-within : {X : Type 0} (xs : List X) (i : ℕ) (x : X) → slice_get xs i ≡ Some x → i < length xs
slice-within [] i x is = cc is
slice-within (y ∷ xs) zero x is = omega arith
slice-within (y ∷ xs) (suc i) x is = omega (arith, slice-within xs i x is)

slice-all : {X : Type 0} (p : X → Bool) (xs : List X) (i : ℕ) (x : X) → list_all p xs ≡ true → slice_get xs i ≡ Some x → p x ≡ true
slice-all p [] i x all is = cc is
slice-all p (y ∷ xs) zero x all is = let same : y ≡ x = cc is in ap p (sym same) ∙ head (p y) all
  where
    head : (t : Bool) → (t && list_all p xs) ≡ true → t ≡ true
    head true all = refl
    head false all = cc all
slice-all p (y ∷ xs) (suc i) x all is = slice-all p xs i x (tail (p y) all) is
  where
    tail : (t : Bool) → (t && list_all p xs) ≡ true → list_all p xs ≡ true
    tail true all = all
    tail false all = cc all

pub numbered-at : (H : History) (number : ℕ) (l : Lease) → lease_numbered H number ≡ Some l → (0 < number) × (slice_get (leases H) (number - 1) ≡ Some l)
numbered-at H number l is = step (nat_lt 0 number) refl is
  where
    step : (t : Bool) → nat_lt 0 number ≡ t → (if t then slice_get (leases H) (number - 1) else None) ≡ Some l
        → (0 < number) × (slice_get (leases H) (number - 1) ≡ Some l)
    step true some at = (ltb-true 0 number some, at)
    step false none at = cc at

pub numbered-within : (H : History) (number : ℕ) (l : Lease) → lease_numbered H number ≡ Some l → number ≤ length (leases H)
numbered-within H number l is = let at = numbered-at H number l is in omega (arith, slice-within (leases H) (number - 1) l at.1, at.0)

pub numbered-all : (p : Lease → Bool) (H : History) (number : ℕ) (l : Lease) → list_all p (leases H) ≡ true → lease_numbered H number ≡ Some l → p l ≡ true
numbered-all p H number l all is = slice-all p (leases H) (number - 1) l all (numbered-at H number l is).1

-- a topic of the campaign is among the ids
pub listed-id : (ts : List Topic) (topic : Text) → list_any (λ t. bytes_eq t.id topic) ts ≡ contains_text (map (λ (t : Topic). t.id) ts) topic
listed-id [] topic = refl
listed-id (t ∷ ts) topic =
    ap (λ b. b || list_any (λ t. bytes_eq t.id topic) ts) (bytes_eq-swap t.id topic) ∙ ap (λ b. bytes_eq topic t.id || b) (listed-id ts topic)

pub some-same : {X : Type 0} (x y : X) → (let this : Option X = Some x in let that : Option X = Some y in this ≡ that) → x ≡ y
some-same x y is = cc is

-- Topics, Submit and Open

pub topics-reply : (H : History) (ts : List Topic) (answer : Reply) → topics_outcome H ts ≡ Ok answer → answer ≡ reply.Topics (length ts)
topics-reply H ts answer is =
    same-reply answer (reply.Topics (length ts))
    (unless_ok (wrong_phase_unless Collecting H ∷ (refusal.TopicsFixed when has_topics H)
    ∷ (refusal.Limit quantity.Topics when nat_lt MAX_TOPICS (length ts)) ∷ []) (Ok (reply.Topics (length ts))) answer is)

pub topics-few : (H : History) (ts : List Topic) (answer : Reply) → topics_outcome H ts ≡ Ok answer → length ts ≤ MAX_TOPICS
topics-few H ts answer is =
    let ruling : Outcome = Ok (reply.Topics (length ts)) in
    let last : List (Option Refusal) = (refusal.Limit quantity.Topics when nat_lt MAX_TOPICS (length ts)) ∷ [] in
    let a = passed (refusal.WrongPhase (phase H)) (not (is_phase Collecting (phase H))) ((refusal.TopicsFixed when has_topics H) ∷ last) ruling answer is in
    let b = passed refusal.TopicsFixed (has_topics H) last ruling answer a.1 in
    let c = passed (refusal.Limit quantity.Topics) (nat_lt MAX_TOPICS (length ts)) [] ruling answer b.1 in
    ltb-false MAX_TOPICS (length ts) c.0

pub topics-plain : (ts : List Topic) → is_plain (command.Topics ts) ≡ true → differ (map (λ (t : Topic). t.id) ts) ≡ true
topics-plain ts is = (and_parts (nat_lt (length ts) (2 ^ 32) && list_all is_plain_topic ts) (differ (map (λ (t : Topic). t.id) ts)) is).1

pub submit-reply : (H : History) (name : Text) (lists : List TopicList) (answer : Reply) → submit_outcome H name lists ≡ Ok answer
    → answer ≡ reply.Submitted name (length lists) (line_count lists)
submit-reply H name lists answer is =
    same-reply answer (reply.Submitted name (length lists) (line_count lists))
    (unless_ok (submit_tests H name lists) (Ok (reply.Submitted name (length lists) (line_count lists))) answer is)

pub open-reply : (H : History) (answer : Reply) → open_outcome H ≡ Ok answer → answer ≡ reply.Done
open-reply H answer is = same-reply answer reply.Done (unless_ok (wrong_phase_unless Collecting H ∷ []) (Ok reply.Done) answer is)

-- Amendments and rulings

abbrev grade_tests : History → ℕ → List (Option Refusal)
grade_tests H grade = grade_range H grade ∷ []

-- an accepted amendment or ruling is of a topic of the campaign
pub record OnDoc (H : History) (topic : Text) (labelled : Bool) (answer : Reply) : Type 0 where
  pub judging : phase H ≡ Judging
  pub listed : is_topic H topic ≡ true
  pub has_label : labelled ≡ true
  pub reply_is : answer ≡ reply.Done

on-doc : (H : History) (topic : Text) (labelled : Bool) (grade : ℕ) (answer : Reply)
    → unless ((refusal.WrongPhase (phase H) when not (is_phase Judging (phase H))) ∷ (refusal.UnknownTopic when not (is_topic H topic))
    ∷ (refusal.NotLabelled when not labelled) ∷ grade_tests H grade) (Ok reply.Done) ≡ Ok answer
    → OnDoc H topic labelled answer
on-doc H topic labelled grade answer is =
    let ruling : Outcome = Ok reply.Done in
    let a = passed (refusal.WrongPhase (phase H)) (not (is_phase Judging (phase H)))
    ((refusal.UnknownTopic when not (is_topic H topic)) ∷ (refusal.NotLabelled when not labelled) ∷ grade_tests H grade) ruling answer is in
    let b = passed refusal.UnknownTopic (not (is_topic H topic)) ((refusal.NotLabelled when not labelled) ∷ grade_tests H grade) ruling answer a.1 in
    let c = passed refusal.NotLabelled (not labelled) (grade_tests H grade) ruling answer b.1 in
    record {
      judging = judging-from (phase H) a.0;
      listed = not-false (is_topic H topic) b.0;
      has_label = not-false labelled c.0;
      reply_is = same-reply answer reply.Done (unless_ok (grade_tests H grade) ruling answer c.1);
    }

pub amend-told : (H : History) (who : Caller) (topic doc : Text) (grade : ℕ) (answer : Reply) → amend_outcome H who topic doc grade ≡ Ok answer
    → OnDoc H topic (is_labelled_by H topic doc who.name) answer
amend-told H who topic doc grade answer is = on-doc H topic (is_labelled_by H topic doc who.name) grade answer is

pub rule-told : (H : History) (topic doc : Text) (grade : ℕ) (answer : Reply) → rule_outcome H topic doc grade ≡ Ok answer
    → OnDoc H topic (is_labelled H topic doc) answer
rule-told H topic doc grade answer is = on-doc H topic (is_labelled H topic doc) grade answer is

-- Withdraw and Publish

-- an accepted withdrawal is of a live run
pub record WithdrawTold (H : History) (name : Text) (answer : Reply) : Type 0 where
  pub run : Run
  pub found : run_named H name ≡ Some run
  pub live : is_withdrawn H name ≡ false
  pub reply_is : answer ≡ reply.Done

pub withdraw-told : (H : History) (who : Caller) (name : Text) (answer : Reply) → withdraw_outcome H who name ≡ Ok answer → WithdrawTold H name answer
withdraw-told H who name answer is =
    let done : Outcome = Ok reply.Done in
    let follows : Run → Outcome = λ run. unless (run_refusals H who name) done in
    let a = passed (refusal.WrongPhase (phase H)) (is_phase Published (phase H)) []
    (unless_missing (run_named H name) refusal.UnknownRun follows) answer is in
    let b = given-ok (run_named H name) refusal.UnknownRun follows answer a.1 in
    let c = passed refusal.NotYours (is_group who.role && not (is_submitter H who.name name))
    ((refusal.Withdrawn when is_withdrawn H name) ∷ []) done answer b.2 in
    let d = passed refusal.Withdrawn (is_withdrawn H name) [] done answer c.1 in
    record { run = b.0; found = b.1; live = d.0; reply_is = same-reply answer reply.Done d.1 }

pub publish-told : (H : History) (answer : Reply) → publish_outcome H ≡ Ok answer → answer ≡ reply.Done
publish-told H answer is = same-reply answer reply.Done (unless_ok (wrong_phase_unless Judging H ∷ []) (Ok reply.Done) answer is)
