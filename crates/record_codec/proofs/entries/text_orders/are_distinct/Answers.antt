-- The texts seen are those so far, no two of them the same.
use Rattle.std.proofs.Common.{sym, ap, ◌∙◌}
use Rattle.std.specs.Prelude.{is_some}
use Rattle.record_codec.proofs.DistinctTexts.{key_of, seen_next, seen_twice}
use Rattle.record_codec.proofs.entries.text_orders.are_distinct.Goals as goal

pub returns-in-Some : goal.returns-in-Some
returns-in-Some c =
    sym (seen_twice c.loop-text.seen c.args.texts.now c.loop-text.text-index c.loop-text-test.true c.loop-text.invariant
    (ap is_some (sym c.in_ok-insert.ensures.old ∙ c.in-Some.is)))

pub loop-text-preserved : goal.loop-text-preserved
loop-text-preserved c =
    seen_next c.loop-text.seen c.args.texts.now c.loop-text.text-index c.insert.new.self c.loop-text-test.true c.loop-text.invariant
    (λ other. c.in_ok-insert.ensures.updates.0 (key_of other)) (ap is_some (sym c.in_ok-insert.ensures.old ∙ c.in_default.is))
