-- A connection to a campaign in a hall, on which others act too.
use Rattle.std.specs.Prelude.{◌≡◌, ◌⊎◌, ℕ, suc, ◌+◌, ◌-◌, ◌^◌, ◌≤◌, false, List, [], ◌∷◌, ◌++◌, length, map}
use Rattle.hall.specs.Acts.{HallActs, Known}
use Rattle.routes.specs.declared.answers.Answered.{Answered}
use Rattle.routes.specs.declared.answers.Answered.TheVariants as answered
use Rattle.routes.specs.declared.keys.KeyRow.{KeyRow}
use Rattle.rulebook.specs.declared.answer.Answer.{Answer}
use Rattle.rulebook.specs.declared.ask.Addressed.{Addressed}
use Rattle.rulebook.specs.declared.entry.Entry.{Entry}
use Rattle.rulebook.specs.Campaign.{History}
use Rattle.rulebook.specs.Histories.Stories.{IsPartOf}
use Rattle.book.specs.Halls.{BookTells, seen_as}
use Rattle.campaign_server.specs.declared.ends.End.{End}
use Rattle.campaign_server.specs.Conversations.Chains.{Said}
use Rattle.campaign_server.specs.Connections.{ConnectionEnds}
use Rattle.campaign_server.specs.Links.{Alike, Clock, LinkState}
use Rattle.campaign_server.specs.Conversations.Talks.{Talks}

-- one request of a caller: it was told in a state that begins with all that the caller had seen
abbrev pub TellsInHall : Known Entry → Addressed → Answer → Known Entry → Type 0
TellsInHall old asked answer new = HallActs BookTells old asked answer new × (new.hall ≡ old.hall)

-- 1 where the answer tells of a disk fault
abbrev pub disk_fault : Answered → ℕ
disk_fault (answered.Reply reply query) = 0
disk_fault (answered.Route cause) = 0
disk_fault (answered.Wire cause) = 0
disk_fault answered.DiskFault = 1
disk_fault answered.Memory = 0

-- how many of the answers tell of a disk fault
abbrev pub disk_faults : List Said → ℕ
disk_faults [] = 0
disk_faults (x ∷ said) = disk_fault x.answer + disk_faults said

-- so many disk faults are told, and the count rose by as many at least, or it stands at its end
abbrev pub Licensed : ℕ → ℕ → ℕ → Type 0
Licensed told before after = (told + before ≤ after) ⊎ (2 ^ 64 - 1 ≤ after)

-- a talk beside others, with what it added at these places, and so many disk faults told
pub record IsTalkAmong (keys : List KeyRow) (n c : ℕ) (clock : Clock) (S : History) (last : ℕ) (later : Clock)
    (places : List ℕ) (told : ℕ) (said : List Said) : Type 0 where
  pub talk : Talks false keys n c clock S last later places said
  pub told_is : told ≡ disk_faults said

-- What a connection comes to: what the caller had seen begins what is seen at the end, over which the talk is; the places of what it added,
-- from 1, are the caller's own; and each disk fault that it told has a rise of the count of its own. The link tells the same parts at the end as before.
pub record Serves (keys : List KeyRow) (pass later : Known Entry) (was is : LinkState) (how : End) : Type 0 where
  pub grown : IsPartOf (seen_as pass.seen) (seen_as later.seen)
  pub alike : Alike was is
  pub places : List ℕ
  pub gained : later.mine ≡ pass.mine ++ map suc places
  pub told : ℕ
  pub ends : ConnectionEnds
      (IsTalkAmong keys (length pass.seen.list) pass.seen.faults was.clock later.seen.list later.seen.faults is.clock places told) was is how
  pub licensed : Licensed told pass.seen.faults later.seen.faults
