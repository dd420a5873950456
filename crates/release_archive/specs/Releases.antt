-- What an archive keeps of a release, and which releases are sound.
use Rattle.std.specs.Prelude.{Bool, ◌&&◌, ◌==◌, List, Option, map, find, nat_eq, bytes_eq}
use Rattle.std.specs.Cmp.Lexicographic.{pointwise}
use Rattle.std.specs.List.{list_all}
use Rattle.measures.specs.declared.means.Summary.{Summary}
use Rattle.trec_formats.specs.Names.{is_name}
use Rattle.rulebook.specs.Spelling.{differ}
use Rattle.rulebook.specs.Reports.Systems.{are_sound_systems}
use Rattle.rulebook.specs.Words.{Text}
use Rattle.rulebook.specs.declared.systems.System.{System}
use Rattle.release_archive.specs.declared.kept.Kept.{Kept}

-- its name is one, and its systems are sound
abbrev pub is_sound : Kept → Bool
is_sound kept = is_name kept.name && are_sound_systems kept.systems

abbrev pub release_names : List Kept → List Text
release_names releases = map (λ kept. kept.name) releases

-- the releases of an archive: each is sound, and no two have one name
abbrev pub are_kept : List Kept → Bool
are_kept releases = list_all is_sound releases && differ (release_names releases)

abbrev pub release_named : List Kept → Text → Option Kept
release_named releases name = find (λ kept. bytes_eq name kept.name) releases

-- Whether all of a release is the same

abbrev pub same_summary : Summary → Summary → Bool
same_summary a b =
    a.topics == b.topics && a.ret == b.ret && a.rel == b.rel && a.rel_ret == b.rel_ret && a.map == b.map && a.r_prec == b.r_prec
    && a.bpref == b.bpref && a.recip == b.recip && pointwise nat_eq a.at b.at

abbrev pub same_system : System → System → Bool
same_system a b = bytes_eq a.run b.run && bytes_eq a.group b.group && same_summary a.summary b.summary

abbrev pub same_kept : Kept → Kept → Bool
same_kept a b = bytes_eq a.name b.name && bytes_eq a.qrels b.qrels && pointwise same_system a.systems b.systems
