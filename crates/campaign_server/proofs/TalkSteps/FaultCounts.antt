-- How many disk faults a talk may tell of: no more than failed meanwhile.
use Rattle.std.proofs.Common.{◌≡◌, ◌⊎◌, ℕ, ◌+◌, ◌-◌, ◌^◌, ◌≤◌, List, [], ◌∷◌, ◌++◌, Bool, true, false, length, refl, arith, inl, inr, nat_le, leb-true, leb-false}
use Rattle.decimal_rank.specs.Causes.{Rose}
use Rattle.routes.specs.declared.answers.Answered.{Answered}
use Rattle.routes.specs.declared.answers.Answered.TheVariants as answered
use Rattle.routes.specs.declared.keys.KeyRow.{KeyRow}
use Rattle.rulebook.specs.Campaign.{History}
use Rattle.campaign_server.specs.Conversations.Chains.{Said}
use Rattle.campaign_server.specs.HallConnections.{Licensed, disk_fault, disk_faults}
use Rattle.campaign_server.specs.Conversations.Talks.{Talk}

-- the count rose by one at least, or it stands at its end
rose_by : (c d : ℕ) → Rose c d → (1 + c ≤ d) ⊎ (2 ^ 64 - 1 ≤ d)
rose_by c d rose = step (nat_le (2 ^ 64 - 1) d) refl
  where
    step : (great : Bool) → nat_le (2 ^ 64 - 1) d ≡ great → (1 + c ≤ d) ⊎ (2 ^ 64 - 1 ≤ d)
    step true e = inr (leb-true (2 ^ 64 - 1) d e)
    step false e = inl (omega (arith, leb-false (2 ^ 64 - 1) d e, rose))

one_fault : (answer : Answered) (c d : ℕ) → c ≤ d → (answer ≡ answered.DiskFault → Rose c d) → Licensed (disk_fault answer) c d
one_fault (answered.Reply reply query) c d later fault = inl (omega (arith, later))
one_fault (answered.Route cause) c d later fault = inl (omega (arith, later))
one_fault (answered.Wire cause) c d later fault = inl (omega (arith, later))
one_fault answered.DiskFault c d later fault = rose_by c d (fault refl)
one_fault answered.Memory c d later fault = inl (omega (arith, later))

-- two calls one after another
pub licensed_both : (told more c d last : ℕ) → d ≤ last → Licensed told c d → Licensed more d last → Licensed (told + more) c last
licensed_both told more c d last later (inl few) (inl others) = inl (omega (arith, few, others))
licensed_both told more c d last later (inl few) (inr great) = inr great
licensed_both told more c d last later (inr great) others = inr (omega (arith, great, later))

pub talk_licensed : (alone : Bool) (keys : List KeyRow) (n c : ℕ) (S : History) (last : ℕ) (places : List ℕ) (said : List Said)
    → Talk alone keys n c S last places said → (c ≤ last) × Licensed (disk_faults said) c last
talk_licensed alone keys n c S last places [] (between, small, none) = (small, inl (omega (arith, small)))
talk_licensed alone keys n c S last places (x ∷ said) (H, more, d, others, stands, are, talk) =
    let (later, licensed) = talk_licensed alone keys (length (H ++ more)) d S last others said talk in (
      omega (arith, stands.later, later),
      licensed_both (disk_fault x.answer) (disk_faults said) c d last later
          (one_fault x.answer c d stands.later stands.fault) licensed,
    )
