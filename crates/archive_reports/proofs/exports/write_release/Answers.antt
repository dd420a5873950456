use Rattle.std.proofs.Common.{[], ◌∷◌, map, get_or, sym, ap, subst, ◌∙◌}
use Rattle.std.proofs.lemmas.List.{take_all}
use Rattle.archive_reports.specs.Exports.{Writes, csv_text, system_row}
use Rattle.archive_reports.proofs.WrittenRecords.{one-system, writes-none, writes-on}
use Rattle.archive_reports.proofs.exports.write_release.Goals as goal

pub loop-system-init : goal.loop-system-init
loop-system-init c = writes-none _ c.requires.between

pub write_system-requires-clause-between : goal.write_system-requires-clause-between
write_system-requires-clause-between c = c.loop-system.invariant.between

pub loop-system-preserved : goal.loop-system-preserved
loop-system-preserved c =
    let systems = c.items-system-items.result.now in
    let i = c.loop-system.system-index in
    let item = c.system-item.result in
    let name = c.args.kept.now.name in
    let one : Writes c.loop-system.writer c.write_system.new.writer (csv_text (system_row name item ∷ [])) =
    subst (λ n. Writes c.loop-system.writer c.write_system.new.writer (csv_text (system_row n item ∷ []))) c.bytes.ensures c.in_ok-write_system.ensures in
    let here : Writes c.loop-system.writer c.write_system.new.writer (csv_text (system_row name (get_or systems i item) ∷ [])) =
    subst (λ s. Writes c.loop-system.writer c.write_system.new.writer (csv_text (system_row name s ∷ []))) c.system-item.is one in
    subst (Writes c.args.writer.now c.write_system.new.writer) (sym (one-system name systems i item c.loop-system-test.true))
    (writes-on c.args.writer.now c.loop-system.writer c.write_system.new.writer _ _ c.loop-system.invariant here)

pub returns : goal.returns
returns c =
    let systems = c.items-system-items.result.now in
    let name = c.args.kept.now.name in
    subst (Writes c.args.writer.now c.loop-system.writer)
    (ap (λ some. csv_text (map (system_row name) some)) (take_all c.loop-system.system-index systems c.loop-system-test.false ∙ c.items-system-items.ensures))
    c.loop-system.invariant
