use Rattle.std.proofs.Common.{◌++◌, map, drop, take, [], ap, ◌∙◌, arith}
use Rattle.std.specs.List.{concat}
use Rattle.decimal_rank.proofs.GrowingBytes.ByteParts.{part_fits, first_of_parts, first_kept}
use Rattle.decimal_rank.proofs.texts.appends.append_all.Goals as goal

pub returns-in-Err : goal.returns-in-Err
returns-in-Err c =
    let first = first_of_parts c.loop-rest.rest.now (record { ref_ptr = (0, 0); now = [] }) c.in-len1-up.len_at_least in
    record {
      text_added = tt;
      unchanged = c.truncate.ensures.items ∙ ap (take c.len-before.result) c.in-Err.ensures.unchanged
          ∙ ap (λ n. take n c.loop-rest.out.items) c.loop-rest.invariant.before
          ∙ first_kept c.args.out.now.items _ c.loop-rest.out.items _ c.loop-rest.invariant.bytes c.loop-rest.invariant.grown;
      room = λ fits. c.in-Err.ensures.room
          (part_fits c.args.out.now.items _ c.loop-rest.out.items _ (concat (map (λ part. part.now) (drop 1 c.loop-rest.rest.now))) _
          (c.loop-rest.invariant.bytes ∙ ap (λ text. c.loop-rest.out.items ++ text) first) (omega (arith, fits, c.loop-rest.invariant.capacity)));
      capacity = omega (arith, c.truncate.ensures.capacity, c.in-Err.ensures.capacity, c.loop-rest.invariant.capacity);
    }
