-- The groups that submitted the runs of a campaign whose list of accepted entries is H.
use Rattle.std.specs.Prelude.{ℕ, [], List, Option, slice_get, unwrap_or}
use Rattle.std.specs.List.{filter_map}
use Rattle.std.specs.Option.{option_map}
use Rattle.rulebook.specs.declared.entry.Entry.{Entry}
use Rattle.rulebook.specs.Campaign.{History, run_in}
use Rattle.rulebook.specs.Words.{Text}

-- the group that submits a run by an entry
abbrev pub group_in_entry : Entry → Option Text
group_in_entry e = option_map (λ run. e.core.caller.name) (run_in e.core.command)

-- the groups of the submitted runs, in their order
abbrev pub groups_of : History → List Text
groups_of H = filter_map group_in_entry H

-- the group of the run of a number of submission
abbrev pub group_of : History → ℕ → Text
group_of H number = unwrap_or (slice_get (groups_of H) number) []
