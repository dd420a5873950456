-- What is seen of a campaign from outside, and what one request makes of it.
use Rattle.std.specs.Prelude.{◌≡◌, ◌≢◌, ℕ, ◌≤◌, [], ◌++◌, IsTrue}
use Rattle.decimal_rank.specs.Causes.{Rose}
use Rattle.rulebook.specs.declared.answer.Answer.{Answer}
use Rattle.rulebook.specs.declared.answer.Answer.TheVariants as answered
use Rattle.rulebook.specs.declared.ask.Addressed.{Addressed}
use Rattle.rulebook.specs.declared.reply.Reply.{Reply}
use Rattle.rulebook.specs.Answers.{answer}
use Rattle.rulebook.specs.Campaign.{History}
use Rattle.rulebook.specs.Histories.Legal.{IsLegal, is_well_addressed}

-- the accepted entries, the count of the disk's faults, and that count when the campaign was opened, which no step changes
pub record Story : Type 0 where
  pub list : History
  pub faults : ℕ
  pub opening : ℕ

-- a list begins with another
abbrev pub StartsWith : History → History → Type 0
StartsWith longer shorter = (rest : History) × (longer ≡ shorter ++ rest)

-- nothing of the first is lost in the second
pub record IsPartOf (a b : Story) : Type 0 where
  pub longer : StartsWith b.list a.list
  pub later : a.faults ≤ b.faults
  pub opening : a.opening ≡ b.opening

-- a request that may be answered
abbrev pub IsAddressed : Addressed → Type 0
IsAddressed asked = IsTrue (is_well_addressed asked.who asked.number asked.ask asked.moment)

-- what the rules add on a list of entries
abbrev pub added_by : History → Addressed → History
added_by H asked = (answer H asked.who asked.number asked.ask asked.moment).added

-- the reply that the rules give on a list of entries
abbrev pub reply_by : History → Addressed → Reply
reply_by H asked = (answer H asked.who asked.number asked.ask asked.moment).reply

-- What an answer says: a reply is that of the rules, and what they add is added; the disk failed where an entry would
-- be added, and none is; nothing is added without memory.
abbrev pub Leads : Story → Addressed → Answer → Story → Type 0
Leads before asked (answered.Reply r) after = (r ≡ reply_by before.list asked) × (after.list ≡ before.list ++ added_by before.list asked)
Leads before asked answered.DiskFault after = (added_by before.list asked ≢ []) × (after.list ≡ before.list) × Rose before.faults after.faults
Leads before asked answered.Memory after = after.list ≡ before.list

-- a request was answered between two moments of a campaign whose entries can come about
pub record IsTold (before : Story) (asked : Addressed) (answer : Answer) (after : Story) : Type 0 where
  pub legal : IsLegal before.list
  pub leads : Leads before asked answer after
  pub later : before.faults ≤ after.faults
  pub opening : before.opening ≡ after.opening
