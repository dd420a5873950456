-- A talk stays one over a longer list and from an earlier start.
use Rattle.std.proofs.Common.{ℕ, ◌≤◌, List, [], ◌∷◌, ◌++◌, Bool, true, false, length, ap, ◌∙◌, arith, subst, append-nil, append_assoc, length-append}
use Rattle.routes.specs.declared.keys.KeyRow.{KeyRow}
use Rattle.rulebook.specs.Campaign.{History}
use Rattle.campaign_server.specs.Conversations.Chains.{Said}
use Rattle.campaign_server.specs.Conversations.Talks.{Between, Talk, TalkLaws}
use Rattle.campaign_server.proofs.TalkSteps.SpokenRequests.{rose_later}

between_on : (alone : Bool) (n k m : ℕ) → m ≤ n → Between alone n k → m ≤ k
between_on true n k m fewer same = omega (arith, fewer, same)
between_on false n k m fewer few = omega (arith, fewer, few)

-- over a longer list, from an earlier start, and with others
pub talk_on : (alone : Bool) (keys : List KeyRow) (n c : ℕ) (S : History) (last : ℕ) (places : List ℕ) (said : List Said) (m b : ℕ) (more : History) (later : ℕ)
    → m ≤ n → b ≤ c → last ≤ later → Talk alone keys n c S last places said → Talk false keys m b (S ++ more) later places said
talk_on alone keys n c S last places [] m b more later fewer less least (few, small, none) =
    let within = between_on alone n (length S) m fewer few in (omega (arith, within, length-append S more), omega (arith, less, small, least), none)
talk_on alone keys n c S last places (x ∷ said) m b more later fewer less least (H, added, d, others, stands, are, talk) =
    let (rest, is) = stands.stands in (
      H,
      added,
      d,
      others,
      record {
        after = between_on alone n (length H) m fewer stands.after;
        says = stands.says;
        stands = (rest ++ more, ap (λ s. s ++ more) is ∙ append_assoc (H ++ added) rest more);
        later = omega (arith, stands.later, less);
        fault = λ is. rose_later b c d less (stands.fault is);
      },
      are,
      talk_on alone keys (length (H ++ added)) d S last others said (length (H ++ added)) d more later (omega arith) (omega arith) least talk,
    )

pub talk_laws : (keys : List KeyRow) (n c : ℕ) (S : History) (last : ℕ) (places : List ℕ) (said : List Said) → TalkLaws keys n c S last places said
talk_laws keys n c S last places said = record {
  longer = λ more later least talk. talk_on false keys n c S last places said n c more later (omega arith) (omega arith) least talk;
  earlier = λ m b fewer less talk.
      subst (λ list. Talk false keys m b list last places said) (append-nil S)
      (talk_on false keys n c S last places said m b [] last fewer less (omega arith) talk);
  loosened = λ talk.
      subst (λ list. Talk false keys n c list last places said) (append-nil S)
      (talk_on true keys n c S last places said n c [] last (omega arith) (omega arith) (omega arith) talk);
}
