-- What is known of all that is said on a connection.
use Rattle.std.proofs.Common.{List, [], ◌∷◌, ◌++◌, inl, inr}
use Rattle.campaign_server.specs.declared.ends.End.{End}
use Rattle.campaign_server.specs.declared.ends.End.TheVariants as end
use Rattle.campaign_server.specs.Conversations.Chains.{Said}
use Rattle.campaign_server.specs.Connections.{ConnectionEnds, EndsOn, Spoke, SpokeAll, SpokeCut, SpokePart}
use Rattle.campaign_server.specs.Links.{LinkState}
use Rattle.std.specs.Prelude.{ℕ}
use Rattle.http_wire.specs.Messages.{End as Ending}

module _ {I : Type 0} (P : List Said → Type 0) (Q : I → List Said → Type 0) (known : (said : List Said) → P said → (i : I) × Q i said)
    (old : LinkState) (bytes : List ℕ) (new : LinkState) where
  known_spoke : (rest : List ℕ) → Spoke P old bytes rest new → (i : I) × Spoke (Q i) old bytes rest new
  known_spoke rest spoke =
      let (i, talk) = known spoke.said spoke.talk in
      (i, record { said = spoke.said; split = spoke.split; talk = talk; written = spoke.written; later = spoke.later })

  known_all : (ending : Ending) → SpokeAll P old bytes new ending → (i : I) × SpokeAll (Q i) old bytes new ending
  known_all ending spoke =
      let (i, talk) = known spoke.said spoke.talk in
      (i, record { said = spoke.said; are_messages = spoke.are_messages; talk = talk; written = spoke.written })

  known_part : SpokePart P old bytes new → (i : I) × SpokePart (Q i) old bytes new
  known_part spoke =
      let (i, talk) = known (spoke.said ++ spoke.last ∷ []) spoke.talk in (
        i,
        record {
          said = spoke.said;
          last = spoke.last;
          rest = spoke.rest;
          next = spoke.next;
          count = spoke.count;
          split = spoke.split;
          front = spoke.front;
          talk = talk;
          few = spoke.few;
          written = spoke.written;
          fault = spoke.fault;
        },
      )

  known_cut : SpokeCut P old bytes new → (i : I) × SpokeCut (Q i) old bytes new
  known_cut spoke =
      let (i, talk) = known spoke.said spoke.talk in (
        i,
        record {
          said = spoke.said;
          cause = spoke.cause;
          count = spoke.count;
          are_messages = spoke.are_messages;
          talk = talk;
          few = spoke.few;
          written = spoke.written;
          fault = spoke.fault;
        },
      )

  known_ends : (e : End) → EndsOn P bytes old new e → (i : I) × EndsOn (Q i) bytes old new e
  known_ends end.Ended (few, inl (at_end, all)) = let (i, spoke) = known_all _ all in (i, (few, inl (at_end, spoke)))
  known_ends end.Ended (few, inr all) = let (i, spoke) = known_all _ all in (i, (few, inr spoke))
  known_ends end.Cut (few, at_end, all) = let (i, spoke) = known_all _ all in (i, (few, at_end, spoke))
  known_ends (end.Refused cause) (few, all) = let (i, spoke) = known_all _ all in (i, (few, spoke))
  known_ends end.ReadFault ((clean, all), rose) = let (i, spoke) = known_all _ all in (i, ((clean, spoke), rose))
  known_ends end.WriteFault (inl part) = let (i, spoke) = known_part part in (i, inl spoke)
  known_ends end.WriteFault (inr cut) = let (i, spoke) = known_cut cut in (i, inr spoke)
  known_ends end.Memory (rest, all) = let (i, spoke) = known_spoke rest all in (i, (rest, spoke))
  known_ends end.Worn (full, (ending, all)) = let (i, spoke) = known_all ending all in (i, (full, (ending, spoke)))

pub ends_known : {I : Type 0} (P : List Said → Type 0) (Q : I → List Said → Type 0) (known : (said : List Said) → P said → (i : I) × Q i said)
    (old new : LinkState) (e : End) → ConnectionEnds P old new e → (i : I) × ConnectionEnds (Q i) old new e
ends_known P Q known old new e ends =
    let (i, on) = known_ends P Q known old ends.bytes new e ends.ends in
    (i, record { bytes = ends.bytes; heard = ends.heard; ends = on; no_more = ends.no_more })
