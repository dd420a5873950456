-- The best run is the first with the greatest mean among the live ones so far, and the mean is at most 10^15.
use Rattle.std.proofs.Common.{◌≡◌, ◌≤◌, ◌^◌, [], None, Some, take}
use Rattle.std.specs.Option.{option_map}
use Rattle.rulebook.specs.Campaign.{History, runs}
use Rattle.campaign_core.specs.Views.Tallies.{first_best, greatest, map_of, submitted_at}
use Rattle.campaign_core.proofs.Entries.Runs.LiveRunLists.{live_of}
use Rattle.campaign_core.proofs.tallies.best_of.Given as goal

abbrev pub invariant-loop-number : goal.invariant-loop-number
invariant-loop-number l =
    let H : History = l.fn.campaign.history.items in
    record {
      best_is : option_map (submitted_at H) l.best ≡ option_map Some (first_best (map_of H) (live_of H (take l.number (runs H))));
      greatest_is : l.greatest ≡ greatest (map_of H) (live_of H (take l.number (runs H)));
      none_yet : l.best ≡ None → live_of H (take l.number (runs H)) ≡ [];
      fits : l.greatest ≤ 10 ^ 15;
    }
