-- A session with a book: what the chain of its states says at the end.
use Rattle.std.proofs.Common.{◌≡◌, ◌⊎◌, inl, inr, ℕ, List, [], ◌∷◌, ◌++◌, true, None, Some, Ok, refl, sym, ap, subst, ◌∙◌}
use Rattle.disk_model.specs.Disks.{DiskState, OnlyNow}
use Rattle.book.specs.Books.{Acts, BookView, IsSound, Runs, Settles, story_of}
use Rattle.book.specs.RunLaws.{join_runs, no_run}
use Rattle.http_wire.specs.declared.messages.HttpRequest.{HttpRequest}
use Rattle.routes.specs.declared.answers.Answered.{Answered}
use Rattle.routes.specs.declared.answers.Answered.TheVariants as answered
use Rattle.routes.specs.declared.keys.KeyRow.{KeyRow}
use Rattle.routes.specs.Asks.{Asked, Reads}
use Rattle.rulebook.specs.declared.entry.Entry.{Entry}
use Rattle.rulebook.specs.Campaign.{History}
use Rattle.rulebook.specs.Histories.Stories.{added_by}
use Rattle.campaign_server.specs.declared.ends.End.{End}
use Rattle.campaign_server.specs.Conversations.Chains.{Answers, Chain, Said, at_moment}
use Rattle.campaign_server.specs.Connections.{ConnectionEnds}
use Rattle.campaign_server.specs.Links.{Clock, LinkState}
use Rattle.campaign_server.specs.Sessions.{IsLeft, IsSession, IsTalkAlone}
use Rattle.campaign_server.specs.Conversations.Talks.{IsSeen}
use Rattle.campaign_server.proofs.TalkSteps.TalkChains.{chain_talks}
use Rattle.campaign_server.proofs.TalkSteps.KnownTalks.{ends_known}

module _ {D : Type 0} (seen : D → DiskState) (keys : List KeyRow) where
  -- a book's states are seen as stories
  book_seen : IsSeen (Acts seen) true (story_of seen) (λ (old : BookView D) (places : List ℕ) (new : BookView D). Unit {0})
  book_seen = record {
    step = λ old asked answer new acts. (story_of seen old, refl, acts.told, tt);
    none = λ s. tt;
    both = λ a b c places others first second. tt;
  }

  chain_alone : (old : BookView D) (at : Clock) (new : BookView D) (later : Clock) (said : List Said) → Chain (Acts seen) keys old at new later said
      → IsTalkAlone keys (story_of seen old) at (story_of seen new) later said
  chain_alone old at new later said chain =
      let talked =
      chain_talks (Acts seen) keys true (story_of seen)
      (λ (old : BookView D) (places : List ℕ) (new : BookView D). Unit {0}) book_seen old at new later said chain in
      (talked.places, talked.talks)

  -- what one answer leaves pending: what was so, with nothing accepted, or the entry that a fault of the disk kept from being added
  record Faulted (old : BookView D) (request : HttpRequest) (moment : ℕ) (answer : Answered) (mid : BookView D) (e : Entry) : Type 0 where
    is : answer ≡ answered.DiskFault
    asked : Asked
    reads : Reads request keys (Ok asked)
    adds : added_by old.history (at_moment asked moment) ≡ e ∷ []
    same : mid.history ≡ old.history

  abbrev Stayed : BookView D → BookView D → Entry → Type 0
  Stayed old mid e = (old.pending ≡ Some e) × (mid.history ≡ old.history)

  stays : (old mid : BookView D) (e : Entry) → mid ≡ old → mid.pending ≡ Some e → Stayed old mid e
  stays old mid e same pending = (ap (λ (s : BookView D). s.pending) (sym same) ∙ pending, ap (λ (s : BookView D). s.history) same)

  settled : (old mid : BookView D) (added : History) (e : Entry) → Settles seen old added mid → mid.pending ≡ Some e → Stayed old mid e
  settled old mid [] e same pending = stays old mid e same pending
  settled old mid (x ∷ added) e none pending = let wrong : None ≡ Some e = sym none ∙ pending in absurd (cc wrong)

  one_left : (old : BookView D) (request : HttpRequest) (moment : ℕ) (answer : Answered) (mid : BookView D) (e : Entry)
      → Answers (Acts seen) keys old request moment answer mid → mid.pending ≡ Some e
      → Stayed old mid e ⊎ Faulted old request moment answer mid e
  one_left old request moment (answered.Reply reply query) mid e (asked, reads, is, acts) pending =
      inl (settled old mid (added_by old.history (at_moment asked moment)) e acts.leaves pending)
  one_left old request moment (answered.Route cause) mid e (reads, same) pending = inl (stays old mid e same pending)
  one_left old request moment (answered.Wire cause) mid e none pending = absurd none
  one_left old request moment answered.DiskFault mid e (asked, reads, acts) pending = by acts.leaves
    where
      by : (x : Entry) × (added_by old.history (at_moment asked moment) ≡ x ∷ []) × ((mid.pending ≡ old.pending) ⊎ (mid.pending ≡ Some x))
          → Stayed old mid e ⊎ Faulted old request moment answered.DiskFault mid e
      by (x, added, inl was) = inl (sym was ∙ pending, acts.told.leads.1)
      by (x, added, inr here) =
          let same : x ≡ e = cc (here, pending) in
          inr (record { is = refl; asked = asked; reads = reads; adds = added ∙ ap (λ (x : Entry). x ∷ []) same; same = acts.told.leads.1 })
  one_left old request moment answered.Memory mid e (inl same) pending = inl (stays old mid e same pending)
  one_left old request moment answered.Memory mid e (inr (asked, reads, inl acts)) pending = inl (stays old mid e acts.leaves pending)
  one_left old request moment answered.Memory mid e (inr (asked, reads, inr (reply, query, acts))) pending =
      inl (settled old mid (added_by old.history (at_moment asked moment)) e acts.leaves pending)

  -- the request whose entry is pending at the end, in the chain
  record ChainLeft (old : BookView D) (at : Clock) (new : BookView D) (said : List Said) (e : Entry) : Type 0 where
    front : List Said
    refused : Said
    behind : List Said
    split : said ≡ front ++ refused ∷ behind
    mid : BookView D
    time : Clock
    first : Chain (Acts seen) keys old at mid time front
    fault : Faulted mid refused.request refused.moment refused.answer new e

  chain_left : (old : BookView D) (at : Clock) (new : BookView D) (later : Clock) (said : List Said) (e : Entry)
      → Chain (Acts seen) keys old at new later said → new.pending ≡ Some e
      → Stayed old new e ⊎ ChainLeft old at new said e
  chain_left old at new later [] e chain pending = inl (stays old new e chain.0 pending)
  chain_left old at new later (x ∷ said) e (mid, next, ticks, answers, chain) pending = by (chain_left mid next new later said e chain pending)
    where
      first : Stayed mid new e → Stayed old mid e ⊎ Faulted old x.request x.moment x.answer mid e → Stayed old new e ⊎ ChainLeft old at new (x ∷ said) e
      first stayed (inl was) = inl (was.0, stayed.1 ∙ was.1)
      first stayed (inr w) = inr (record {
        front = [];
        refused = x;
        behind = said;
        split = refl;
        mid = old;
        time = at;
        first = (refl, refl);
        fault = record { is = w.is; asked = w.asked; reads = w.reads; adds = w.adds; same = stayed.1 ∙ w.same };
      })

      by : Stayed mid new e ⊎ ChainLeft mid next new said e → Stayed old new e ⊎ ChainLeft old at new (x ∷ said) e
      by (inl stayed) = first stayed (one_left old x.request x.moment x.answer mid e answers stayed.0)
      by (inr w) = inr (record {
        front = x ∷ w.front;
        refused = w.refused;
        behind = w.behind;
        split = ap (λ (said : List Said). x ∷ said) w.split;
        mid = w.mid;
        time = w.time;
        first = (mid, next, ticks, answers, w.first);
        fault = w.fault;
      })

  left_of : (old : BookView D) (at : Clock) (new : BookView D) (said : List Said) (e : Entry) → Stayed old new e ⊎ ChainLeft old at new said e
      → Stayed old new e ⊎ IsLeft keys (story_of seen old) at (story_of seen new) said e
  left_of old at new said e (inl stayed) = inl stayed
  left_of old at new said e (inr w) = inr (record {
    front = w.front;
    refused = w.refused;
    behind = w.behind;
    split = w.split;
    answer = w.fault.is;
    asked = w.fault.asked;
    reads = w.fault.reads;
    adds = subst (λ (H : History). added_by H (at_moment w.fault.asked w.refused.moment) ≡ e ∷ []) (sym w.fault.same) w.fault.adds;
    count = (seen w.mid.disk).faults;
    time = w.time;
    first = talk w.fault.same (chain_alone old at w.mid w.time w.front w.first);
  })
    where
      talk : new.history ≡ w.mid.history → IsTalkAlone keys (story_of seen old) at (story_of seen w.mid) w.time w.front
          → IsTalkAlone keys (story_of seen old) at (record { list = new.history; faults = (seen w.mid.disk).faults; opening = new.opening }) w.time w.front
      talk same is = subst
          (λ (H : History). IsTalkAlone keys (story_of seen old) at
          (record { list = H; faults = (seen w.mid.disk).faults; opening = new.opening }) w.time w.front) (sym same) is

  -- each state of the chain is sound, and the first runs to it
  abbrev Keeps : BookView D → BookView D → Type 0
  Keeps old new = Runs seen old new × IsSound seen new

  module _ (only_now : (disk : D) → OnlyNow (seen disk)) where
    still : (old new : BookView D) → IsSound seen old → new ≡ old → Keeps old new
    still old new sound same = subst (Keeps old) (sym same) (no_run seen only_now old sound, sound)

    one_keeps : (old : BookView D) (request : HttpRequest) (moment : ℕ) (answer : Answered) (mid : BookView D) → IsSound seen old
        → Answers (Acts seen) keys old request moment answer mid → Keeps old mid
    one_keeps old request moment (answered.Reply reply query) mid sound (asked, reads, is, acts) = (acts.runs, acts.after)
    one_keeps old request moment (answered.Route cause) mid sound (reads, same) = still old mid sound same
    one_keeps old request moment (answered.Wire cause) mid sound none = absurd none
    one_keeps old request moment answered.DiskFault mid sound (asked, reads, acts) = (acts.runs, acts.after)
    one_keeps old request moment answered.Memory mid sound (inl same) = still old mid sound same
    one_keeps old request moment answered.Memory mid sound (inr (asked, reads, inl acts)) = (acts.runs, acts.after)
    one_keeps old request moment answered.Memory mid sound (inr (asked, reads, inr (reply, query, acts))) = (acts.runs, acts.after)

    chain_keeps : (old : BookView D) (at : Clock) (new : BookView D) (later : Clock) (said : List Said)
        → IsSound seen old → Chain (Acts seen) keys old at new later said → Keeps old new
    chain_keeps old at new later [] sound chain = still old new sound chain.0
    chain_keeps old at new later (x ∷ said) sound (mid, next, ticks, answers, chain) =
        let first = one_keeps old x.request x.moment x.answer mid sound answers in
        let rest = chain_keeps mid next new later said first.1 chain in
        (join_runs seen old mid new first.0 rest.0, rest.1)

    pub session_ends : (old new : BookView D) (was is : LinkState) (e : End) → IsSound seen old
        → ConnectionEnds (Chain (Acts seen) keys old was.clock new is.clock) was is e
        → Keeps old new × ConnectionEnds (IsSession seen keys old was.clock new is.clock) was is e
    session_ends old new was is e sound ends =
        ends_known {I = Keeps old new} (Chain (Acts seen) keys old was.clock new is.clock) (λ kept said. IsSession seen keys old was.clock new is.clock said)
        (λ said chain. (
          chain_keeps old was.clock new is.clock said sound chain,
          record {
            talk = chain_alone old was.clock new is.clock said chain;
            left = λ entry pending. left_of old was.clock new said entry (chain_left old was.clock new is.clock said entry chain pending);
          },
        )) was is e ends
