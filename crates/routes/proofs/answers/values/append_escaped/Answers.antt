use Rattle.std.proofs.Common.{◌≡◌, get_or, ◌++◌, Some, drop, take, ap, ◌∙◌, arith}
use Rattle.std.specs.Prelude.{slice_get}
use Rattle.std.specs.List.{flat_map}
use Rattle.routes.specs.Json.Objects.{escaped_byte}
use Rattle.decimal_rank.proofs.GrowingBytes.ByteParts.{part_fits, first_kept}
use Rattle.routes.proofs.AnswerTexts.ByteParts.{first_of, first_byte}
use Rattle.routes.proofs.answers.values.append_escaped.Goals as goal

pub returns-in-Err : goal.returns-in-Err
returns-in-Err c =
    let all = flat_map escaped_byte c.args.text.now in
    let left = flat_map escaped_byte c.loop-rest.rest.now in
    let here : slice_get c.loop-rest.rest.now 0 ≡ Some (get_or c.loop-rest.rest.now 0 0) = first_byte c.loop-rest.rest.now c.in-len1-up.len_at_least in
    let first = first_of escaped_byte c.loop-rest.rest.now (get_or c.loop-rest.rest.now 0 0) here in
    record {
      text_added = tt;
      unchanged = c.truncate.ensures.items ∙ ap (take c.len-before.result) c.in-Err.ensures.unchanged
          ∙ ap (λ n. take n c.loop-rest.out.items) c.loop-rest.invariant.before
          ∙ first_kept c.args.out.now.items all c.loop-rest.out.items left c.loop-rest.invariant.bytes c.loop-rest.invariant.grown;
      room = λ fits. c.in-Err.ensures.room
          (part_fits c.args.out.now.items all c.loop-rest.out.items (escaped_byte (get_or c.loop-rest.rest.now 0 0))
          (flat_map escaped_byte (drop 1 c.loop-rest.rest.now)) _
          (c.loop-rest.invariant.bytes ∙ ap (λ text. c.loop-rest.out.items ++ text) first) (omega (arith, fits, c.loop-rest.invariant.capacity)));
      capacity = omega (arith, c.truncate.ensures.capacity, c.in-Err.ensures.capacity, c.loop-rest.invariant.capacity);
    }
