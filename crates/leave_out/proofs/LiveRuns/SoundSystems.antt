-- The means of sound systems are at most 1.
use Rattle.std.proofs.Common.{◌≡◌, ◌&&◌, ◌<◌, ℕ, true, List, get_or, length}
use Rattle.std.specs.Prelude.{nat_le}
use Rattle.std.specs.List.{list_all}
use Rattle.std.proofs.lemmas.Bool.{and_parts}
use Rattle.decimal_rank.proofs.Lists.{all_at}
use Rattle.measures.specs.declared.means.Summary.{Summary}
use Rattle.trec_formats.specs.Names.{is_name}
use Rattle.rulebook.specs.Requests.Limits.{max_runs}
use Rattle.rulebook.specs.declared.systems.System.{System}
use Rattle.rulebook.specs.Spelling.{differ}
use Rattle.rulebook.specs.Reports.Systems.{are_means, are_sound_systems, is_mean, is_sound_system, runs_of}

first-mean : (s : Summary) → are_means s ≡ true → is_mean s.map ≡ true
first-mean s means =
    let four = and_parts (is_mean s.map && is_mean s.r_prec && is_mean s.bpref && is_mean s.recip) (list_all is_mean s.at) means in
    let three = and_parts (is_mean s.map && is_mean s.r_prec && is_mean s.bpref) (is_mean s.recip) four.0 in
    let two = and_parts (is_mean s.map && is_mean s.r_prec) (is_mean s.bpref) three.0 in
    (and_parts (is_mean s.map) (is_mean s.r_prec) two.0).0

pub sound-mean : (systems : List System) (i : ℕ) (d : System) → are_sound_systems systems ≡ true → i < length systems
    → is_mean (get_or systems i d).summary.map ≡ true
sound-mean systems i d sound within =
    let few = and_parts (nat_le (length systems) max_runs && list_all is_sound_system systems) (differ (runs_of systems)) sound in
    let all = (and_parts (nat_le (length systems) max_runs) (list_all is_sound_system systems) few.0).1 in
    let one : System = get_or systems i d in
    let here = all_at is_sound_system systems i d within all in
    first-mean one.summary (and_parts (is_name one.run && is_name one.group) (are_means one.summary) here).1
