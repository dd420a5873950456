-- No live run was withdrawn.
use Rattle.std.proofs.Common.{ℕ, Bool, not}
use Rattle.std.specs.Prelude.{All, IsTrue}
use Rattle.std.specs.List.{enumerate_from}
use Rattle.std.proofs.lemmas.List.Sums.{AllPass-from_list_all}
use Rattle.rulebook.specs.Campaign.{History, Run, is_withdrawn, live, numbered_runs, runs}
use Rattle.rulebook.proofs.Elements.AllPass.{all_images, all_passed}

pub live_unwithdrawn : (H : History) → All (λ run. IsTrue (not (is_withdrawn H run.name))) (live H)
live_unwithdrawn H =
    let is_kept : Run → Bool = λ run. not (is_withdrawn H run.name) in
    AllPass-from_list_all is_kept (live H)
    (all_images is_kept (λ (run : ℕ × Run). run.1) (numbered_runs H) (all_passed (λ (run : ℕ × Run). is_kept run.1) (enumerate_from 0 (runs H))))
