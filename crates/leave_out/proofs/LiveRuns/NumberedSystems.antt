-- The live runs with their groups and their scores, by their numbers.
use Rattle.std.proofs.Common.{◌≡◌, ◌+◌, ◌∙◌, ℕ, suc, Bool, true, false, cond, not, List, [], ◌∷◌, None, Option, Some, ap, arith, filter, map, refl, sym}
use Rattle.std.specs.Prelude.{if◌then◌else◌, slice_get, unwrap_or}
use Rattle.std.specs.List.{cons_option, enumerate_from, filter_map}
use Rattle.std.specs.Option.{option_and_then, option_map}
use Rattle.rulebook.specs.declared.systems.System.{System}
use Rattle.rulebook.specs.Campaign.{History, Run, is_withdrawn, numbered_runs, run_in, runs}
use Rattle.rulebook.specs.Reports.Systems.{system_in, system_of, systems}
use Rattle.rulebook.specs.Words.{Text}
use Rattle.campaign_core.specs.Views.Groups.{group_of, groups_of}

abbrev pub system_at : History → ℕ × Run → System
system_at H one = system_of H (group_of H one.0) one.1

abbrev lives : History → ℕ × Run → Bool
lives H one = not (is_withdrawn H one.1.name)

from : (J H : History) (n : ℕ) → ((k : ℕ) → unwrap_or (slice_get (groups_of J) (n + k)) [] ≡ unwrap_or (slice_get (groups_of H) k) [])
    → filter_map (system_in J) H ≡ map (system_at J) (filter (lives J) (enumerate_from n (runs H)))
from J [] n at = refl
from J (e ∷ H) n at = step (run_in e.core.command) at (from J H)
  where
    name : Text
    name = e.core.caller.name

    named : Run → Text
    named run = name

    live : Run → Option System
    live run = if is_withdrawn J run.name then None else Some (system_of J name run)

    kept : (t : Bool) (run : Run) → group_of J n ≡ name → filter_map (system_in J) H ≡ map (system_at J) (filter (lives J) (enumerate_from (n + 1) (runs H)))
        → cons_option (if t then None else Some (system_of J name run)) (filter_map (system_in J) H)
        ≡ map (system_at J) (cond (not t) ((n, run) ∷ filter (lives J) (enumerate_from (n + 1) (runs H))) (filter (lives J) (enumerate_from (n + 1) (runs H))))
    kept true run is rest = rest
    kept false run is rest = ap (λ (ss : List System). system_of J name run ∷ ss) rest
        ∙ ap (λ (group : Text). system_of J group run ∷ map (system_at J) (filter (lives J) (enumerate_from (n + 1) (runs H)))) (sym is)

    step : (o : Option Run)
        → ((k : ℕ) → unwrap_or (slice_get (groups_of J) (n + k)) [] ≡ unwrap_or (slice_get (cons_option (option_map named o) (groups_of H)) k) [])
        → ((n : ℕ) → ((k : ℕ) → unwrap_or (slice_get (groups_of J) (n + k)) [] ≡ unwrap_or (slice_get (groups_of H) k) [])
        → filter_map (system_in J) H ≡ map (system_at J) (filter (lives J) (enumerate_from n (runs H))))
        → cons_option (option_and_then live o) (filter_map (system_in J) H) ≡ map (system_at J) (filter (lives J) (enumerate_from n (cons_option o (runs H))))
    step None at rest = rest n at
    step (Some run) at rest =
        kept (is_withdrawn J run.name) run
        (ap (λ k. unwrap_or (slice_get (groups_of J) k) []) (let start : n ≡ n + 0 = omega arith in start) ∙ at 0)
        (rest (n + 1) (λ k. ap (λ k. unwrap_or (slice_get (groups_of J) k) []) (let next : n + 1 + k ≡ n + suc k = omega arith in next) ∙ at (suc k)))

pub systems-numbered : (H : History) → systems H ≡ map (system_at H) (numbered_runs H)
systems-numbered H = from H H 0 (λ k. ap (λ k. unwrap_or (slice_get (groups_of H) k) []) (let start : 0 + k ≡ k = omega arith in start))
