use Rattle.std.proofs.Common.{◌+◌, ◌≤◌, ◌++◌, ◌∷◌, [], ap, arith, length, map, sym}
use Rattle.std.proofs.lemmas.Bool.{eqb-true, eqb-false}
use Rattle.std.proofs.lemmas.List.{length-map, length_push, map-append, nil_from_length}
use Rattle.trec_formats.specs.Faults.{Stand}
use Rattle.trec_formats.specs.RunFormat.LineViews.{qrel_shown}
use Rattle.trec_formats.specs.QrelsFormat.Qrels.{qrel_of}
use Rattle.trec_formats.proofs.LineTexts.Readings.{Stand-IsFormat}
use Rattle.trec_formats.proofs.LineTexts.Progress.{goes_on, stops_at, is_empty, is_whole}
use Rattle.trec_formats.proofs.qrels.read_lines.Goals as goal

pub returns-in-Err-clause-fault : goal.returns-in-Err-clause-fault
returns-in-Err-clause-fault c =
    rw c.at.ensures
    (stops_at (Stand qrel_of) (λ _. qrel_of) (Stand-IsFormat qrel_of) _ _ _ _ _ _ _ c.loop-row.invariant.read c.in-Some.ensures.row c.in-Err.ensures)

pub loop-row-preserved : goal.loop-row-preserved
loop-row-preserved c =
    let lines = c.loop-row.lines.items in
    let view = c.in-Ok.view in
    let read = goes_on (Stand qrel_of) (λ _. qrel_of) (Stand-IsFormat qrel_of) _ _ _ _ _ _
    (qrel_shown view) c.loop-row.invariant.read c.in-Some.ensures.row c.in-Some.ensures.fits c.in-Ok.ensures in
    let few : length (lines ++ view ∷ []) + length c.in-Some.row.rest.now ≤ length c.args.bytes.now =
    omega (arith, length_push lines view, c.loop-row.invariant.few, c.in-Some.ensures.shorter) in
    rw c.in_ok-push.ensures.items (record { read = rw (map-append qrel_shown lines (view ∷ [])) read; few = few })

pub returns-then-is_empty-clause-fault : goal.returns-then-is_empty-clause-fault
returns-then-is_empty-clause-fault c =
    rw c.at-then-is_empty.ensures
    (is_empty (Stand qrel_of) (λ _. qrel_of) (Stand-IsFormat qrel_of) _ _ _ _ c.loop-row.invariant.read c.in_default.ensures.row
    (ap (map qrel_shown) (nil_from_length _ (omega (arith, eqb-true _ _ (sym c.if-is_empty.ensures), c.loop-row.lines.ok.0)))))

pub returns-clause-lines : goal.returns-clause-lines
returns-clause-lines c =
    is_whole (Stand qrel_of) (λ _. qrel_of) (Stand-IsFormat qrel_of) _ _ _ _ c.loop-row.invariant.read c.in_default.ensures.row
    (λ nil. eqb-false _ _ (sym c.if-is_empty.ensures) (omega (arith, ap length nil, length-map c.loop-row.lines.items qrel_shown, c.loop-row.lines.ok.0)))
