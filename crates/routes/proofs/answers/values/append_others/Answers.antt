use Rattle.std.proofs.Common.{rules, ◌≡◌, ◌++◌, ◌∷◌, ℕ, List, Some, drop, take, ap, ◌∙◌, arith}
use Rattle.std.specs.Prelude.{slice_get}
use Rattle.std.specs.List.{flat_map}
use Rattle.routes.specs.Bytes.{comma}
use Rattle.routes.specs.Json.Objects.{quoted}
use Rattle.decimal_rank.proofs.GrowingBytes.ByteParts.{part_fits, first_kept}
use Rattle.routes.proofs.AnswerTexts.ByteParts.{first_of}
use Rattle.routes.proofs.answers.values.append_others.Goals as goal

pub returns-in-Err : goal.returns-in-Err
returns-in-Err c =
    let behind : List ℕ → List ℕ = λ text. comma ∷ quoted text in
    let all = flat_map behind c.args.texts.now in
    let left = flat_map behind c.loop-rest.rest.now in
    let here : slice_get c.loop-rest.rest.now 0 ≡ Some c.bytes.result.now = rw c.bytes.ensures (search (rules, c.text-item.is)) in
    let first = first_of behind c.loop-rest.rest.now c.bytes.result.now here in
    record {
      text_added = tt;
      unchanged = c.truncate.ensures.items ∙ ap (take c.len-before.result) c.in-Err.ensures.unchanged
          ∙ ap (λ n. take n c.loop-rest.out.items) c.loop-rest.invariant.before
          ∙ first_kept c.args.out.now.items all c.loop-rest.out.items left c.loop-rest.invariant.bytes c.loop-rest.invariant.grown;
      room = λ fits. c.in-Err.ensures.room
          (part_fits c.args.out.now.items all c.loop-rest.out.items (behind c.bytes.result.now) (flat_map behind (drop 1 c.loop-rest.rest.now)) _
          (c.loop-rest.invariant.bytes ∙ ap (λ text. c.loop-rest.out.items ++ text) first) (omega (arith, fits, c.loop-rest.invariant.capacity)));
      capacity = omega (arith, c.truncate.ensures.capacity, c.in-Err.ensures.capacity, c.loop-rest.invariant.capacity);
    }
