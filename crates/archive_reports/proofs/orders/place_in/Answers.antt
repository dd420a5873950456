use Rattle.std.proofs.Common.{◌≡◌, true, false, length, get_or, sym, ap, ◌∙◌, arith, below_more}
use Rattle.std.proofs.lemmas.List.{get_or_default}
use Rattle.std.proofs.lemmas.List.Sums.{position_or_len_is}
use denote.Ref.{Bor}
use Rattle.release_archive.specs.declared.kept.Kept.{Kept}
use Rattle.archive_reports.specs.Orders.{is_before}
use Rattle.archive_reports.proofs.SortedReleases.{no-release, position-shown}
use Rattle.archive_reports.proofs.orders.place_in.Goals as goal

pub loop-place-preserved : goal.loop-place-preserved
loop-place-preserved c = λ k d less.
    let sorted = c.args.sorted.now in
    let name = c.args.name.now in
    let place = c.loop-place.place in
    let item = c.index-sorted-place.result in
    let same : item ≡ get_or sorted place d = c.index-sorted-place.is ∙ get_or_default sorted place item d c.loop-place-test.true in
    let here : is_before name (get_or sorted place d).now.name ≡ false =
    ap (λ (kept : Bor Kept). is_before name kept.now.name) (sym same) ∙ ap (is_before name) (sym c.bytes.ensures)
    ∙ sym c.is_before.ensures ∙ c.if-is_before.false in
    below_more (λ k. is_before name (get_or sorted k d).now.name ≡ false) place (λ k less. c.loop-place.invariant k d less) here k less

pub returns-then-is_before-clause-place : goal.returns-then-is_before-clause-place
returns-then-is_before-clause-place c =
    let sorted = c.args.sorted.now in
    let name = c.args.name.now in
    let place = c.loop-place.place in
    let item = c.index-sorted-place.result in
    let here : is_before name (get_or sorted place item).now.name ≡ true =
    ap (λ (kept : Bor Kept). is_before name kept.now.name) (sym c.index-sorted-place.is)
    ∙ ap (is_before name) (sym c.bytes.ensures) ∙ sym c.is_before.ensures ∙ c.if-is_before.true in
    sym (position_or_len_is (λ (kept : Bor Kept). is_before name kept.now.name) sorted place item
    (omega arith) (λ k less. c.loop-place.invariant k item less) (λ _. here))
    ∙ position-shown (λ kept. is_before name kept.name) sorted

pub returns-clause-place : goal.returns-clause-place
returns-clause-place c =
    let sorted = c.args.sorted.now in
    let name = c.args.name.now in
    let end : length sorted ≡ c.loop-place.place = omega arith in
    sym (position_or_len_is (λ (kept : Bor Kept). is_before name kept.now.name) sorted (length sorted) no-release (omega arith)
    (λ k less. c.loop-place.invariant k no-release (omega (arith, less, end))) (λ less. absurd (omega (arith, less))))
    ∙ position-shown (λ kept. is_before name kept.name) sorted
