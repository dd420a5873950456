-- A connection's talk over the one list of entries that is seen at its end.
use Rattle.std.specs.Prelude.{◌≡◌, ◌≢◌, ℕ, ◌≤◌, Bool, true, false, List, [], ◌∷◌, ◌++◌, length, Ok, Err}
use Rattle.decimal_rank.specs.Causes.{Rose}
use Rattle.http_wire.specs.declared.messages.HttpRequest.{HttpRequest}
use Rattle.routes.specs.declared.answers.Answered.{Answered}
use Rattle.routes.specs.declared.answers.Answered.TheVariants as answered
use Rattle.routes.specs.declared.keys.KeyRow.{KeyRow}
use Rattle.routes.specs.Asks.{Asked, Reads}
use Rattle.rulebook.specs.Campaign.{History}
use Rattle.rulebook.specs.declared.ask.Addressed.{Addressed}
use Rattle.rulebook.specs.declared.answer.Answer.{Answer}
use Rattle.campaign_server.specs.Links.{Clock, Ticks}
use Rattle.campaign_server.specs.Conversations.Chains.{Said, at_moment}
use Rattle.rulebook.specs.Histories.Stories.{Story, IsPartOf, IsTold, StartsWith, added_by, reply_by}
use Rattle.campaign_server.specs.Conversations.Stories.{added_since, is_query}

-- how many entries there may be at a request, behind which so many stood before: as many where nobody else adds any
abbrev pub Between : Bool → ℕ → ℕ → Type 0
Between true n k = k ≡ n
Between false n k = n ≤ k

-- What a request is answered behind these entries, and what it adds: the rules' answer, the fault that is read, want of
-- memory, or a disk fault where the rules add an entry.
abbrev pub SaysByRules : List KeyRow → History → HttpRequest → ℕ → Answered → History → Type 0
SaysByRules keys H request moment (answered.Reply reply query) more =
    (asked : Asked) × Reads request keys (Ok asked) × (query ≡ is_query asked.2)
    × (reply ≡ reply_by H (at_moment asked moment)) × (more ≡ added_by H (at_moment asked moment))
SaysByRules keys H request moment (answered.Route cause) more = Reads request keys (Err cause) × (more ≡ [])
SaysByRules keys H request moment (answered.Wire cause) more = ⊥
SaysByRules keys H request moment answered.DiskFault more =
    (asked : Asked) × Reads request keys (Ok asked) × (added_by H (at_moment asked moment) ≢ []) × (more ≡ [])
SaysByRules keys H request moment answered.Memory more = more ≡ []

-- the places, from 0, of what is added behind these entries
abbrev pub places_added : History → History → List ℕ
places_added H [] = []
places_added H (_ ∷ _) = length H ∷ []

-- one answer of a talk: behind H, which begins S, where n entries stood before; it adds `more`; and c disk calls failed before, d behind it
pub record Stands (alone : Bool) (keys : List KeyRow) (n c : ℕ) (x : Said) (S H more : History) (d : ℕ) : Type 0 where
  pub after : Between alone n (length H)
  pub says : SaysByRules keys H x.request x.moment x.answer more
  pub stands : StartsWith S (H ++ more)
  pub later : c ≤ d
  pub fault : x.answer ≡ answered.DiskFault → Rose c d

-- The answers in order, from n entries and c failed disk calls on: each is the rules' behind the first entries of S, no fewer than before, and
-- what it adds stands there next. At the end S is seen, and `last` disk calls have failed. The places are those of what was added.
abbrev pub Talk : Bool → List KeyRow → ℕ → ℕ → History → ℕ → List ℕ → List Said → Type 0
Talk alone keys n c S last places [] = Between alone n (length S) × (c ≤ last) × (places ≡ [])
Talk alone keys n c S last places (x ∷ said) =
    (H : History) × (more : History) × (d : ℕ) × (others : List ℕ) × Stands alone keys n c x S H more d
    × (places ≡ places_added H more ++ others) × Talk alone keys (length (H ++ more)) d S last others said

-- each moment is the clock's next
abbrev pub Ticked : Clock → Clock → List Said → Type 0
Ticked clock later [] = later ≡ clock
Ticked clock later (x ∷ said) = (next : Clock) × Ticks clock next x.moment × Ticked next later said

-- a talk with its moments
pub record Talks (alone : Bool) (keys : List KeyRow) (n c : ℕ) (clock : Clock) (S : History) (last : ℕ)
    (later : Clock) (places : List ℕ) (said : List Said) : Type 0 where
  pub talk : Talk alone keys n c S last places said
  pub moments : Ticked clock later said

-- before a request a story may have been followed by another, where others add entries too
abbrev pub Before : Bool → Story → Story → Type 0
Before true seen b = b ≡ seen
Before false seen b = IsPartOf seen b

-- A teller's states are seen as stories: each request is told from one that the state's may be followed by, and what is gained are the
-- places of what it adds.
pub record IsSeen {S : Type 0} (tells : S → Addressed → Answer → S → Type 0) (alone : Bool) (look : S → Story) (gains : S → List ℕ → S → Type 0) : Type 0 where
  pub step : (old : S) (asked : Addressed) (answer : Answer) (new : S) → tells old asked answer new
      → (b : Story) × Before alone (look old) b × IsTold b asked answer (look new) × gains old (places_added b.list (added_since b.list (look new).list)) new
  pub none : (s : S) → gains s [] s
  pub both : (a b c : S) (places others : List ℕ) → gains a places b → gains b others c → gains a (places ++ others) c

-- a talk stays one where S is longer and more disk calls failed, and where it starts from less; one without others is one with others
pub record TalkLaws (keys : List KeyRow) (n c : ℕ) (S : History) (last : ℕ) (places : List ℕ) (said : List Said) : Type 0 where
  pub longer : (more : History) (later : ℕ) → last ≤ later → Talk false keys n c S last places said → Talk false keys n c (S ++ more) later places said
  pub earlier : (m b : ℕ) → m ≤ n → b ≤ c → Talk false keys n c S last places said → Talk false keys m b S last places said
  pub loosened : Talk true keys n c S last places said → Talk false keys n c S last places said
