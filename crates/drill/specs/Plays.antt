-- How a generated campaign is played, message by message.
use Rattle.std.specs.Prelude.{◌≡◌, ◌<◌, ◌≤◌, ℕ, zero, suc, ◌+◌, ◌*◌, false, List, [], ◌∷◌, None, Some, codes, length}
use Rattle.std.specs.List.{list_any}
use Rattle.rulebook.specs.Campaign.{History}
use Rattle.rulebook.specs.Histories.Legal.{founding}
use Rattle.rulebook.specs.Requests.Numbers.{is_numbered}
use Rattle.drill.specs.declared.numbers.DrillNumbers.{DrillNumbers}
use Rattle.drill.specs.declared.plays.Sent.{Sent}
use Rattle.drill.specs.Answers.{leased_doc}
use Rattle.drill.specs.Exchanges.{IsExchange, IsSent}
use Rattle.drill.specs.Figures.{drill_grade}
use Rattle.drill.specs.Messages.{grade_message, lease_message, message_text, open_message, publish_message, rules, run_message, topics_message}

-- the steps 1 up to a number lead from one state to another
abbrev pub After : {A : Type 0} → (ℕ → A → A → Type 0) → ℕ → A → A → Type 0
After step zero old new = new ≡ old
After {A} step (suc n) old new = (mid : A) × After step n old mid × step (suc n) mid new

-- the accepted entries, how many messages the assessor sent, and how many leases were accepted
pub record Judging : Type 0 where
  pub history : History
  pub number : ℕ
  pub leases : ℕ

-- with what was counted of the messages so far
abbrev pub judging_after : History → Sent → Judging
judging_after H sent = record { history = H; number = sent.number; leases = sent.leases }

-- no entry of the assessor has a greater number
abbrev pub IsNumberedTo : ℕ → History → Type 0
IsNumberedTo n H = (k : ℕ) → n < k → list_any (is_numbered (codes "asr") k) H ≡ false

-- The assessor sends no more messages, and has no more leases: two for each accepted lease, each of which is an entry, and one for each topic.
abbrev pub most_messages : ℕ
most_messages = 9000000

-- Before the last message for topic t: the next number is unused, the assessor sent two messages for each accepted lease and one for each topic
-- before, and each accepted lease is an entry.
pub record IsBeforeLastMessage (t : ℕ) (now : Judging) : Type 0 where
  pub numbered : IsNumberedTo now.number now.history
  pub messages : now.number < 2 * now.leases + t
  pub entries : now.leases ≤ length now.history

-- a lease on a topic was accepted, and the document graded
pub record IsGraded (numbers : DrillNumbers) (t : ℕ) (old new : Judging) : Type 0 where
  pub answers : List ℕ
  pub leased : History
  pub doc : ℕ
  pub lease : IsExchange old.history (message_text (lease_message t (old.number + 1))) leased answers
  pub doc_is : leased_doc answers ≡ Some doc
  pub grade : IsSent leased (grade_message (old.leases + 1) (old.number + 2) (drill_grade numbers t doc)) new.history
  pub number_is : new.number ≡ old.number + 2
  pub leases_are : new.leases ≡ old.leases + 1

-- a lease on a topic wasn't accepted
pub record IsRefused (t : ℕ) (old new : Judging) : Type 0 where
  pub answers : List ℕ
  pub lease : IsExchange old.history (message_text (lease_message t (old.number + 1))) new.history answers
  pub none : leased_doc answers ≡ None
  pub number_is : new.number ≡ old.number + 1
  pub leases_are : new.leases ≡ old.leases

-- a topic's documents are leased and graded, one after another, until no lease is accepted
pub record IsJudged (numbers : DrillNumbers) (t : ℕ) (old new : Judging) : Type 0 where
  pub count : ℕ
  pub last : Judging
  pub graded : After (λ k. IsGraded numbers t) count old last
  pub refused : IsRefused t last new

-- before the first lease
abbrev pub before_judging : History → Judging
before_judging H = record { history = H; number = 0; leases = 0 }

-- all topics are judged, one after another
abbrev pub AreJudged : DrillNumbers → History → History → Type 0
AreJudged numbers old new = (judged : Judging) × After (IsJudged numbers) numbers.topics (before_judging old) judged × (new ≡ judged.history)

-- From the founding entry on: the topics, the runs, the opening, the leases and grades topic by topic, and the publication.
pub record IsPlayed (numbers : DrillNumbers) (H : History) : Type 0 where
  pub with_topics : History
  pub with_runs : History
  pub opened : History
  pub judged : History
  pub topics : IsSent (founding rules ∷ []) (topics_message numbers) with_topics
  pub runs : After (λ r old new. IsSent old (run_message numbers r) new) numbers.runs with_topics with_runs
  pub open_ : IsSent with_runs open_message opened
  pub leases : AreJudged numbers opened judged
  pub publish : IsSent judged publish_message H
