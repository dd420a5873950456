use Rattle.std.proofs.Common.{◌≡◌, ℕ, List, [], Option, Some, true, take, get_or, unwrap_or, refl, sym, ap, subst, ◌∙◌}
use Rattle.std.proofs.lemmas.List.{take_all}
use denote.Ref.{Bor}
use Rattle.csv.specs.Writing.{text_written}
use Rattle.release_archive.specs.declared.kept.Kept.{Kept}
use Rattle.release_archive.specs.Releases.{is_sound}
use Rattle.archive_reports.specs.Orders.{releases_behind}
use Rattle.archive_reports.specs.Exports.{Writes, csv_text, release_rows, rows_in, written_bytes}
use Rattle.archive_reports.proofs.WrittenRecords.{one-release}
use Rattle.archive_reports.proofs.SortedReleases.{sound-at}
use Rattle.archive_reports.proofs.exports.csv_of.Goals as goal

pub loop-kept-init : goal.loop-kept-init
loop-kept-init c =
    let from = c.from_writer-writer.ensures in
    let start : text_written written_bytes c.from_writer-writer.result ≡ Some [] = rw (from.wtr, from.empty, c.new.ensures.items) refl in
    (c.in_ok-write_row.ensures.between, c.in_ok-write_row.ensures.bytes [] start)

pub write_release-requires-clause-between : goal.write_release-requires-clause-between
write_release-requires-clause-between c = c.loop-kept.invariant.0

pub loop-kept-preserved : goal.loop-kept-preserved
loop-kept-preserved c =
    let releases = c.args.releases.now in
    let i = c.loop-kept.kept-index in
    let item = c.kept-item.result in
    let here : Writes c.loop-kept.writer c.write_release.new.writer (csv_text (release_rows (get_or releases i item).now)) =
    subst (λ (k : Bor Kept). Writes c.loop-kept.writer c.write_release.new.writer (csv_text (release_rows k.now))) c.kept-item.is
    c.in_ok-write_release.ensures in (
      here.between,
      here.bytes (csv_text (rows_in (releases_behind (take i releases)))) c.loop-kept.invariant.1
          ∙ ap Some (sym (one-release releases i item c.loop-kept-test.true)),
    )

pub returns-in-Ok : goal.returns-in-Ok
returns-in-Ok c =
    let releases = c.args.releases.now in
    let all = take_all c.loop-kept.kept-index releases c.loop-kept-test.false in
    c.in-Ok.ensures.ok ∙ ap (λ (known : Option (List ℕ)). unwrap_or known []) c.loop-kept.invariant.1
    ∙ ap (λ (some : List (Bor Kept)). csv_text (rows_in (releases_behind some))) all

pub write_release-requires-clause-sound : goal.write_release-requires-clause-sound
write_release-requires-clause-sound c =
    subst (λ (kept : Bor Kept). is_sound kept.now ≡ true) (sym c.kept-item.is)
    (sound-at c.args.releases.now c.loop-kept.kept-index c.kept-item.result c.requires c.loop-kept-test.true)
