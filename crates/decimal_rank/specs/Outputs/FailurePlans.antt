-- Which calls of a memory form are to fail.
use Rattle.std.specs.Prelude.{ℕ, ◌+◌, ◌-◌, ◌^◌, Bool, List, ◌==◌, nat_lt, if◌then◌else◌}
use Rattle.std.specs.List.{list_any}

-- one more; a count stands still at its end, the greatest u64
abbrev pub count_more : ℕ → ℕ
count_more n = if nat_lt n (2 ^ 64 - 1) then n + 1 else n

-- the places, from 1, of the calls that are to fail, and the number of calls so far
pub record PlanState : Type 0 where
  pub fails : List ℕ
  pub calls : ℕ

-- the next call is to fail
abbrev pub fails_next : PlanState → Bool
fails_next plan = list_any (λ place. place == count_more plan.calls) plan.fails

-- the plan after one more call
abbrev pub after_call : PlanState → PlanState
after_call plan = record plan { calls = count_more plan.calls }
