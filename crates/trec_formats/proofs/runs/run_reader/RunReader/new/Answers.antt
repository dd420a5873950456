use Rattle.std.proofs.Common.{arith, ap, [], refl}
use Rattle.trec_formats.specs.declared.runs.run_reader.Ended.{Ended}
use Rattle.trec_formats.specs.RunFormat.PackedRuns.{lines_in}
use Rattle.trec_formats.proofs.RunTexts.RunEnds.{going_none}
use Rattle.trec_formats.proofs.runs.run_reader.RunReader.new.Goals as goal

pub invariant_of-result : goal.invariant_of-result
invariant_of-result c =
    let ended : Ended = record { number = 0; run = c.new.result; counts = c.new-2.result } in
    record {
      few = omega arith;
      held = (
        record {
          ended = record {
            topics = omega (arith, c.new-2.ensures.few);
            placed = rw c.new.ensures.lines
                (λ k d within. absurd (omega (arith, within)));
            tally = c.new-2.ensures.tally;
          };
          held = rw c.new-4.ensures.items (omega arith);
        },
        omega arith,
        (
          [],
          going_none ended c.new-3.result c.new-4.result.items refl
              (ap (lines_in c.new.result.bytes.items) c.new.ensures.lines) c.new-2.ensures.none c.new-3.ensures c.new-4.ensures.items,
        ),
      );
    }

pub returns-clause-after : goal.returns-clause-after
returns-clause-after c =
    let ended : Ended = record { number = 0; run = c.new.result; counts = c.new-2.result } in
    going_none ended c.new-3.result c.new-4.result.items refl
    (ap (lines_in c.new.result.bytes.items) c.new.ensures.lines) c.new-2.ensures.none c.new-3.ensures c.new-4.ensures.items
