use Rattle.std.proofs.Common.{ap, ◌∙◌}
use Rattle.std.specs.List.{list_all}
use Rattle.release_archive.specs.Releases.{is_sound}
use Rattle.archive_reports.specs.Orders.{by_name, releases_behind}
use Rattle.archive_reports.proofs.ReadBack.{reads-back}
use Rattle.archive_reports.proofs.SortedReleases.{sound-by_name}
use Rattle.archive_reports.proofs.exports.write_csv.Goals as goal

pub csv_of-requires : goal.csv_of-requires
csv_of-requires c =
    ap (λ items. list_all is_sound (releases_behind items)) c.deref.ensures.value
    ∙ ap (list_all is_sound) c.in_ok-by_name.ensures
    ∙ sound-by_name c.args.all.now c.requires

pub returns-clause-reads : goal.returns-clause-reads
returns-clause-reads c = reads-back (by_name c.args.all.now)
