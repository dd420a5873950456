-- What a campaign tells of its runs once it is released, and when that is sound. H is its list of accepted entries.
use Rattle.std.specs.Prelude.{ℕ, Bool, ◌&&◌, ◌^◌, List, Option, None, Some, if◌then◌else◌, map, length, nat_le}
use Rattle.std.specs.List.{filter_map, list_all}
use Rattle.std.specs.Option.{option_and_then}
use Rattle.measures.specs.declared.means.Summary.{Summary}
use Rattle.trec_formats.specs.Names.{is_name}
use Rattle.rulebook.specs.declared.systems.System.{System}
use Rattle.rulebook.specs.declared.entry.Entry.{Entry}
use Rattle.rulebook.specs.Campaign.{History, Run, is_withdrawn, run_in}
use Rattle.rulebook.specs.Requests.Limits.{max_runs}
use Rattle.rulebook.specs.Reports.Scores.{summary_on}
use Rattle.rulebook.specs.Spelling.{differ}
use Rattle.rulebook.specs.Words.{Text}

-- a run that a caller submitted, with its sums and means over the topics that count
abbrev pub system_of : History → Text → Run → System
system_of H group run = record { run = run.name; group = group; summary = summary_on H run }

-- the run that an entry submits, where it is live
abbrev pub system_in : History → Entry → Option System
system_in H e = option_and_then (λ run. if is_withdrawn H run.name then None else Some (system_of H e.core.caller.name run)) (run_in e.core.command)

-- the live runs, by submission
abbrev pub systems : History → List System
systems H = filter_map (system_in H) H

-- a mean, in units of 10^-15, is at most 1
abbrev pub is_mean : ℕ → Bool
is_mean value = nat_le value (10 ^ 15)

abbrev pub are_means : Summary → Bool
are_means summary = is_mean summary.map && is_mean summary.r_prec && is_mean summary.bpref && is_mean summary.recip && list_all is_mean summary.at

abbrev pub is_sound_system : System → Bool
is_sound_system system = is_name system.run && is_name system.group && are_means system.summary

abbrev pub runs_of : List System → List Text
runs_of systems = map (λ system. system.run) systems

-- as many as runs may be, each of them sound, and no two of one run name
abbrev pub are_sound_systems : List System → Bool
are_sound_systems systems = nat_le (length systems) max_runs && list_all is_sound_system systems && differ (runs_of systems)
