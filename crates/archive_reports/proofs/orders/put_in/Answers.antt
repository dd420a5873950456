use Rattle.std.proofs.Common.{ap, ◌∙◌}
use Rattle.std.specs.Prelude.{insert}
use Rattle.std.specs.List.{position_or_len}
use Rattle.archive_reports.specs.Orders.{is_before, releases_behind}
use Rattle.archive_reports.proofs.SortedReleases.{shown-insert}
use Rattle.archive_reports.proofs.orders.put_in.Goals as goal

pub returns : goal.returns
returns c =
    let sorted = c.args.sorted.now.items in
    let kept = c.args.kept.now in
    ap releases_behind c.in_ok-insert.ensures.items
    ∙ shown-insert sorted c.place_in-place.result c.args.kept
    ∙ ap (λ place. insert (releases_behind sorted) place kept)
    (c.place_in-place.ensures.place
    ∙ ap (λ name. position_or_len (λ other. is_before name other.name) (releases_behind c.deref.result.now)) c.bytes.ensures
    ∙ ap (λ items. position_or_len (λ other. is_before kept.name other.name) (releases_behind items)) c.deref.ensures.value)
