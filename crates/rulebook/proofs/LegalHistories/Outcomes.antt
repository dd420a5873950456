-- What a command comes to: a refusal, or one of five replies.
use Rattle.std.proofs.Common.{◌≡◌, ℕ, List, [], ◌∷◌, ◌++◌, Option, None, Some, Ok, Err, length, refl}
use Rattle.trec_formats.specs.declared.Topic.{Topic}
use Rattle.trec_formats.specs.declared.TopicList.{TopicList}
use Rattle.rulebook.specs.declared.ask.Command.{Command}
use Rattle.rulebook.specs.declared.ask.Command.TheVariants as command
use Rattle.rulebook.specs.declared.reply.Refusal.{Refusal}
use Rattle.rulebook.specs.declared.reply.Refusal.TheVariants as refusal
use Rattle.rulebook.specs.declared.reply.Reply.TheVariants as reply
use Rattle.rulebook.specs.declared.rules.Caller.{Caller}
use Rattle.rulebook.specs.Answers.{amend_tests, command_outcome, grade_range, graded_lease, judging_tests, lease_outcome_of, lease_refusals, lease_tests, open_tests, released_lease, rule_tests, run_refusals, submit_tests, topics_tests, withdraw_tests}
use Rattle.rulebook.specs.Campaign.{History, Run, line_count, phase}
use Rattle.rulebook.specs.Judgements.JudgingOrder.{named_document}
use Rattle.rulebook.specs.Judgements.Leases.{Lease, lease_numbered}
use Rattle.rulebook.specs.Requests.Refusals.{Outcome, unless, unless_missing}
use Rattle.rulebook.specs.Reports.Scores.{run_named}
use Rattle.rulebook.specs.Words.{Text}

module _ (H : History) (who : Caller) (now : ℕ) where
  -- it is refused, accepted without more, or told the count of its topics, its run, the lease that it asked for, or the document that its lease is on
  pub data ComesTo (c : Command) (outcome : Outcome) : Type 0 where
    Refuses : (r : Refusal) → outcome ≡ Err r → ComesTo c outcome
    Accepts : outcome ≡ Ok reply.Done → ComesTo c outcome
    Counts : (topics : List Topic) → outcome ≡ Ok (reply.Topics (length topics)) → ComesTo c outcome
    Enters : (run : Text) (lists : List TopicList) → c ≡ command.Submit run lists
        → outcome ≡ Ok (reply.Submitted run (length lists) (line_count lists)) → ComesTo c outcome
    Grants : (topic doc : Text) → c ≡ command.Lease topic → named_document H now who.name topic ≡ Some doc
        → outcome ≡ lease_outcome_of H now topic doc → ComesTo c outcome
    Grades : (number grade : ℕ) (lease : Lease) → lease_numbered H number ≡ Some lease
        → outcome ≡ Ok (reply.Graded lease.topic lease.doc grade) → ComesTo c outcome

  module _ (c : Command) where
    -- what follows comes to it, unless a refusal holds
    by_tests : (tests : List (Option Refusal)) (outcome : Outcome) → ComesTo c outcome → ComesTo c (unless tests outcome)
    by_tests [] outcome follows = follows
    by_tests (None ∷ tests) outcome follows = by_tests tests outcome follows
    by_tests (Some r ∷ tests) outcome follows = Refuses r refl

    -- and where the value is there
    by_value : {X : Type 0} (o : Option X) (r : Refusal) (outcome : X → Outcome)
        → ((x : X) → o ≡ Some x → ComesTo c (outcome x)) → ComesTo c (unless_missing o r outcome)
    by_value None r outcome follows = Refuses r refl
    by_value (Some x) r outcome follows = follows x refl

  pub outcome : (c : Command) → ComesTo c (command_outcome H who now c)
  outcome (command.Found rules) = Refuses (refusal.WrongPhase (phase H)) refl
  outcome (command.Topics topics) = by_tests (command.Topics topics) (topics_tests H topics) (Ok (reply.Topics (length topics))) (Counts topics refl)
  outcome (command.Submit run lists) =
      by_tests (command.Submit run lists) (submit_tests H run lists) (Ok (reply.Submitted run (length lists) (line_count lists))) (Enters run lists refl refl)
  outcome command.Open = by_tests command.Open (open_tests H) (Ok reply.Done) (Accepts refl)
  outcome (command.Lease topic) =
      let c = command.Lease topic in
      by_tests c (lease_tests H who now topic) (unless_missing (named_document H now who.name topic) refusal.NothingLeft (lease_outcome_of H now topic))
      (by_value c (named_document H now who.name topic) refusal.NothingLeft (lease_outcome_of H now topic) (λ doc is. Grants topic doc refl is refl))
  outcome (command.Grade number grade) =
      let c = command.Grade number grade in
      by_tests c (judging_tests H) (unless_missing (lease_numbered H number) refusal.UnknownLease (graded_lease H who now grade))
      (by_value c (lease_numbered H number) refusal.UnknownLease (graded_lease H who now grade)
      (λ lease is. by_tests c (lease_refusals H who now lease ++ grade_range H grade ∷ [])
      (Ok (reply.Graded lease.topic lease.doc grade)) (Grades number grade lease is refl)))
  outcome (command.Release number) =
      let c = command.Release number in
      by_tests c (judging_tests H) (unless_missing (lease_numbered H number) refusal.UnknownLease (released_lease H who now))
      (by_value c (lease_numbered H number) refusal.UnknownLease (released_lease H who now)
      (λ lease is. by_tests c (lease_refusals H who now lease) (Ok reply.Done) (Accepts refl)))
  outcome (command.Amend topic doc grade) = by_tests (command.Amend topic doc grade) (amend_tests H who topic doc grade) (Ok reply.Done) (Accepts refl)
  outcome (command.Rule topic doc grade) = by_tests (command.Rule topic doc grade) (rule_tests H topic doc grade) (Ok reply.Done) (Accepts refl)
  outcome (command.Withdraw run) =
      let c = command.Withdraw run in
      let follows : Run → Outcome = λ found. unless (run_refusals H who run) (Ok reply.Done) in
      by_tests c (withdraw_tests H) (unless_missing (run_named H run) refusal.UnknownRun follows)
      (by_value c (run_named H run) refusal.UnknownRun follows (λ found is. by_tests c (run_refusals H who run) (Ok reply.Done) (Accepts refl)))
  outcome command.Publish = by_tests command.Publish (judging_tests H) (Ok reply.Done) (Accepts refl)
