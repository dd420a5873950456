-- A session in which no call failed: no answer of it tells a fault of the disk, and it ended by no failed call.
use Rattle.std.proofs.Common.{◌≡◌, ◌≤◌, ◌⊎◌, ◌++◌, inl, inr, ℕ, Bool, true, List, [], ◌∷◌, length, sym, ap, subst, ◌∙◌, arith}
use Rattle.decimal_rank.specs.Causes.{Rose}
use Rattle.disk_model.specs.Disks.{DiskState}
use Rattle.http_wire.specs.Messages.{End as Ending}
use Rattle.routes.specs.declared.keys.KeyRow.{KeyRow}
use Rattle.rulebook.specs.Campaign.{History}
use Rattle.campaign_server.specs.declared.ends.End.{End}
use Rattle.campaign_server.specs.declared.ends.End.TheVariants as end
use Rattle.campaign_server.specs.Conversations.Chains.{Said}
use Rattle.campaign_server.specs.Connections.{EndsOn, SpokeAll}
use Rattle.campaign_server.specs.Links.{LinkState}
use Rattle.campaign_server.specs.Sessions.{IsSession}
use Rattle.campaign_server.specs.Conversations.Talks.{Talk}
use Rattle.campaign_cli.specs.Surroundings.Outside.{Outside}
use Rattle.campaign_cli.specs.CalmSessions.{CalmSessionsAreAnswered, HasNoDiskFault, IsCalmEnd, IsCalmlyAnswered}
use Rattle.campaign_cli.specs.declared.endings.Cause.TheVariants as cause
use Rattle.campaign_cli.specs.Ends.BookEnds.{BookWay, cause_by_work, unopened, worked}
use Rattle.campaign_cli.specs.Causes.{Ending as Told, TellsEnding, silent}
use Rattle.campaign_cli.specs.Kinds.{ended, unread}
use Rattle.campaign_cli.specs.Ends.SessionEnds.{HoldsSession, session_cause}
use Rattle.campaign_cli.proofs.ToldDisks.{none_opened}

-- the disk's count at the end of a talk is no less than at its start
talk_later : (alone : Bool) (keys : List KeyRow) (n c : ℕ) (S : History) (last : ℕ) (places : List ℕ) (said : List Said)
    → Talk alone keys n c S last places said → c ≤ last
talk_later alone keys n c S last places [] talk = talk.1
talk_later alone keys n c S last places (x ∷ said) (H, more, d, others, stands, places_are, rest) =
    let behind = talk_later alone keys (length (H ++ more)) d S last others said rest in
    omega (arith, stands.later, behind)

-- where it hasn't risen since some moment before, no answer tells a fault of the disk
no_fault : (base last : ℕ) → ¬ (Rose base last) → (alone : Bool) (keys : List KeyRow) (n c : ℕ) (S : History) (places : List ℕ) (said : List Said)
    → base ≤ c → Talk alone keys n c S last places said → HasNoDiskFault said
no_fault base last calm alone keys n c S places [] from talk = tt
no_fault base last calm alone keys n c S places (x ∷ said) from (H, more, d, others, stands, places_are, rest) = (
  λ told.
      let rose : Rose c d = stands.fault told in
      let behind = talk_later alone keys (length (H ++ more)) d S last others said rest in
      calm (omega (arith, rose, behind, from)),
  no_fault base last calm alone keys (length (H ++ more)) d S others said (omega (arith, stands.later, from)) rest,
)

-- what holds of each talk holds of that of a connection
module _ (P Q : List Said → Type 0) (also : (said : List Said) → P said → Q said) where
  all_spoke : (old new : LinkState) (bytes : List ℕ) (ending : Ending) → SpokeAll P old bytes new ending → SpokeAll Q old bytes new ending
  all_spoke old new bytes ending spoke =
      record { said = spoke.said; are_messages = spoke.are_messages; talk = also spoke.said spoke.talk; written = spoke.written }

  calm_ends : (old new : LinkState) (bytes : List ℕ) (how : End) → IsCalmEnd how → EndsOn P bytes old new how → EndsOn Q bytes old new how
  calm_ends old new bytes end.Ended calm (few, inl over) = (few, inl (over.0, all_spoke old new bytes _ over.1))
  calm_ends old new bytes end.Ended calm (few, inr closed) = (few, inr (all_spoke old new bytes _ closed))
  calm_ends old new bytes end.Cut calm (few, over, spoke) = (few, over, all_spoke old new bytes _ spoke)
  calm_ends old new bytes (end.Refused cause) calm (few, spoke) = (few, all_spoke old new bytes _ spoke)
  calm_ends old new bytes end.ReadFault calm ends = absurd calm
  calm_ends old new bytes end.WriteFault calm ends = absurd calm
  calm_ends old new bytes end.Memory calm (rest, spoke) =
      (rest, record { said = spoke.said; split = spoke.split; talk = also spoke.said spoke.talk; written = spoke.written; later = spoke.later })
  calm_ends old new bytes end.Worn calm (many, (ending, spoke)) = (many, (ending, all_spoke old new bytes ending spoke))

-- no read and no write of the link failed
calm_end : (old new : LinkState) (talks : List Said → Type 0) (bytes : List ℕ) (how : End)
    → ¬ (Rose old.reading.faults new.reading.faults) → ¬ (Rose old.writing.faults new.writing.faults)
    → EndsOn talks bytes old new how → IsCalmEnd how
calm_end old new talks bytes end.Ended reading writing ends = tt
calm_end old new talks bytes end.Cut reading writing ends = tt
calm_end old new talks bytes (end.Refused cause) reading writing ends = tt
calm_end old new talks bytes end.ReadFault reading writing ends = reading ends.1
calm_end old new talks bytes end.WriteFault reading writing ends = writing (elim ends [ inl part ↦ part.fault | inr cut ↦ cut.fault ])
calm_end old new talks bytes end.Memory reading writing ends = tt
calm_end old new talks bytes end.Worn reading writing ends = tt

module _ {D : Type 0} (seen : D → DiskState) where
  pub calm_sessions : CalmSessionsAreAnswered seen
  calm_sessions old new status (unread same e) can calm = inl (e, ap (λ (o : Outside D). o.own) same)
  calm_sessions old new status (ended ending done tells) can calm = by done.way (subst (λ (e : Told). TellsEnding e old.out new.out status) done.told tells)
    where
      by : (way : BookWay seen (HoldsSession seen old.own new.own old.disk new.disk) (new.own ≡ old.own) old.shelf new.shelf old.disk new.disk)
          → TellsEnding (cause_by_work seen (session_cause seen) way) old.out new.out status
          → ((status ≡ 7) × (new.own ≡ old.own)) ⊎ IsCalmlyAnswered seen old new status
      by (unopened none same) told =
          let here : TellsEnding (silent cause.Memory) old.out new.out status =
          subst (λ (e : Told). TellsEnding e old.out new.out status) (none_opened seen old new calm can none) told in
          inl (here.1, same)
      by (worked (text, settings, gives, is, holds)) told =
          let before = old.own in
          let after = new.own in
          let talks : List Said → Type 0 = IsSession seen settings.callers holds.opened before.clock holds.closed after.clock in
          let quiet = calm_end before after talks holds.talk.bytes holds.how calm.reading calm.writing holds.talk.ends in
          let still : ¬ (Rose (seen old.disk).faults (seen holds.closed.disk).faults) =
          λ rose. calm.disk (subst (λ (disk : D). Rose (seen old.disk).faults (seen disk).faults) (sym holds.closes) rose) in
          let also : (said : List Said) → talks said → talks said × HasNoDiskFault said = λ said session. (
            session,
            no_fault (seen old.disk).faults (seen holds.closed.disk).faults still true settings.callers (length holds.opened.history)
                (seen holds.opened.disk).faults holds.closed.history session.talk.0 said holds.opens.later session.talk.1.talk,
          ) in
          inr (record {
            text = text;
            settings = settings;
            given = gives;
            read = is;
            opened = holds.opened;
            closed = holds.closed;
            opens = holds.opens;
            how = holds.how;
            calm = quiet;
            status_is = told.1;
            talk = record {
              bytes = holds.talk.bytes;
              heard = holds.talk.heard;
              ends = calm_ends talks (λ said. talks said × HasNoDiskFault said) also before after holds.talk.bytes holds.how quiet holds.talk.ends;
              no_more = holds.talk.no_more;
            };
          })
