-- A session with a campaign on a disk: what is said in it, and which entry it may leave on the disk beside the accepted ones.
use Rattle.std.specs.Prelude.{◌≡◌, ◌⊎◌, ◌≤◌, ℕ, true, List, [], ◌∷◌, ◌++◌, Some, Ok, filter, length}
use Rattle.disk_model.specs.Disks.{DiskState}
use Rattle.book.specs.Books.{BookView, story_of}
use Rattle.routes.specs.declared.answers.Answered.TheVariants as answered
use Rattle.routes.specs.declared.keys.KeyRow.{KeyRow}
use Rattle.routes.specs.Asks.{Asked, Reads}
use Rattle.rulebook.specs.declared.entry.Entry.{Entry}
use Rattle.rulebook.specs.Campaign.{History}
use Rattle.rulebook.specs.Requests.Numbers.{is_numbered}
use Rattle.rulebook.specs.Histories.Stories.{Story, added_by}
use Rattle.campaign_server.specs.Conversations.Chains.{Said, at_moment}
use Rattle.campaign_server.specs.Links.{Clock}
use Rattle.campaign_server.specs.Conversations.Talks.{Talks}

-- A talk in which nobody else adds an entry, from one state of a campaign to another: each answer is the rules' behind
-- the entries so far, and each 503 has a failed disk call of its own.
abbrev pub IsTalkAlone : List KeyRow → Story → Clock → Story → Clock → List Said → Type 0
IsTalkAlone keys before clock after later said = (places : List ℕ)
    × Talks true keys (length before.list) before.faults clock after.list after.faults later places said

-- An entry that the rules add on the entries at the end, for a request that was answered 503; the requests before it
-- had led to these entries, so nothing was accepted behind it.
pub record IsLeft (keys : List KeyRow) (before : Story) (clock : Clock) (after : Story) (said : List Said) (e : Entry) : Type 0 where
  pub front : List Said
  pub refused : Said
  pub behind : List Said
  pub split : said ≡ front ++ refused ∷ behind
  pub answer : refused.answer ≡ answered.DiskFault
  pub asked : Asked
  pub reads : Reads refused.request keys (Ok asked)
  pub adds : added_by after.list (at_moment asked refused.moment) ≡ e ∷ []
  pub count : ℕ
  pub time : Clock
  pub first : IsTalkAlone keys before clock (record after { faults = count }) time front

-- What was said in a session, and what is pending at its end: what was so at its start, where nothing was accepted, or an entry that was answered 503.
pub record IsSession {D : Type 0} (seen : D → DiskState) (keys : List KeyRow) (old : BookView D) (clock : Clock)
    (new : BookView D) (later : Clock) (said : List Said) : Type 0 where
  pub talk : IsTalkAlone keys (story_of seen old) clock (story_of seen new) later said
  pub left : (e : Entry) → new.pending ≡ Some e
      → ((old.pending ≡ Some e) × (new.history ≡ old.history)) ⊎ IsLeft keys (story_of seen old) clock (story_of seen new) said e

-- No two entries have one caller's name and one number.
abbrev pub AreNumberedOnce : History → Type 0
AreNumberedOnce H = (name : List ℕ) (number : ℕ) → length (filter (is_numbered name number) H) ≤ 1
