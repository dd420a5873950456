-- What a connection to a campaign in a hall comes to.
use Rattle.std.proofs.Common.{◌≡◌, ℕ, List, [], false, length, refl, sym, append-nil, arith, inl}
use Rattle.hall.specs.Acts.{Known}
use Rattle.routes.specs.declared.keys.KeyRow.{KeyRow}
use Rattle.rulebook.specs.declared.entry.Entry.{Entry}
use Rattle.rulebook.specs.Histories.Stories.{IsPartOf}
use Rattle.campaign_server.specs.declared.ends.End.{End}
use Rattle.campaign_server.specs.declared.ends.End.TheVariants as end
use Rattle.campaign_server.specs.Conversations.Chains.{Chain, Said}
use Rattle.campaign_server.specs.Connections.{ConnectionEnds}
use Rattle.campaign_server.specs.Links.{Alike, LinkState}
use Rattle.campaign_server.specs.HallConnections.{IsTalkAmong, Licensed, Serves, disk_faults}
use Rattle.campaign_server.proofs.ReadPieces.ConnectionBytes.{ends_before}
use Rattle.campaign_server.proofs.TalkSteps.TalkChains.{chain_talks}
use Rattle.campaign_server.proofs.TalkSteps.KnownTalks.{ends_known}
use Rattle.campaign_server.proofs.TalkSteps.FaultCounts.{talk_licensed}
use Rattle.campaign_server.proofs.BookTalks.HallPlaces.{Asks, Gains, look, visits_seen}

module _ {S N : Type 0} (pass : S → Known Entry) (name : S → N) (keys : List KeyRow) (old new : S) (was is : LinkState) where
  -- What a pass gained on a connection
  record Came : Type 0 where
    grown : IsPartOf (look pass name old) (look pass name new)
    places : List ℕ
    gained : Gains pass name old places new
    told : ℕ
    licensed : Licensed told (pass old).seen.faults (pass new).seen.faults

  -- what is said, with what was gained
  abbrev Talked : Came → List Said → Type 0
  Talked came said =
      IsTalkAmong keys (length (pass old).seen.list) (pass old).seen.faults was.clock (pass new).seen.list
      (pass new).seen.faults is.clock came.places came.told said

  came_by : (said : List Said) → Chain (Asks pass name) keys old was.clock new is.clock said → (came : Came) × Talked came said
  came_by said chain =
      let talked = chain_talks (Asks pass name) keys false (look pass name) (Gains pass name) (visits_seen pass name) old was.clock new is.clock said chain in
      let licensed =
      talk_licensed false keys (length (pass old).seen.list) (pass old).seen.faults (pass new).seen.list (pass new).seen.faults talked.places said
      talked.talks.talk in (
        record {
          grown = record { longer = talked.longer; later = talked.fewer; opening = talked.gained.opening };
          places = talked.places;
          gained = talked.gained;
          told = disk_faults said;
          licensed = licensed.1;
        },
        record { talk = talked.talks; told_is = refl },
      )

  -- the caller's pass behind a connection: it is the one that was lent, of the same hall, and what it serves
  pub connection_serves : (how : End) → ConnectionEnds (Chain (Asks pass name) keys old was.clock new is.clock) was is how → Alike was is
      → (name new ≡ name old) × ((pass new).hall ≡ (pass old).hall) × Serves keys (pass old) (pass new) was is how
  connection_serves how ends alike =
      let (came, come) = ends_known {I = Came} (Chain (Asks pass name) keys old was.clock new is.clock) Talked came_by was is how ends in (
        came.gained.name_is,
        came.gained.hall,
        record { grown = came.grown; alike = alike; places = came.places; gained = came.gained.mine; told = came.told; ends = come; licensed = came.licensed },
      )

-- a connection for which there was no memory
pub connection_missed : (keys : List KeyRow) (pass : Known Entry) (was : LinkState) → Alike was was → Serves keys pass pass was was end.Memory
connection_missed keys pass was alike = record {
  grown = record { longer = ([], sym (append-nil pass.seen.list)); later = omega arith; opening = refl };
  alike = alike;
  places = [];
  gained = sym (append-nil pass.mine);
  told = 0;
  ends =
      ends_before (IsTalkAmong keys (length pass.seen.list) pass.seen.faults was.clock pass.seen.list pass.seen.faults was.clock [] 0) was
      (record { talk = record { talk = (omega arith, omega arith, refl); moments = refl }; told_is = refl });
  licensed = inl (omega arith);
}
