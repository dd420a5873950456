use Rattle.std.proofs.Common.{rules, ◌≡◌, ◌∷◌, ◌++◌, ℕ, List, Some, drop, take, ap, ◌∙◌, arith}
use Rattle.std.specs.Prelude.{slice_get}
use denote.Ref.{Bor}
use Rattle.routes.specs.declared.answers.values.Value.{Value}
use Rattle.std.specs.List.{flat_map}
use Rattle.routes.specs.Bytes.{comma}
use Rattle.routes.specs.Json.MemberValues.{shown}
use Rattle.routes.specs.Json.Objects.{member_text}
use Rattle.decimal_rank.proofs.GrowingBytes.ByteParts.{part_fits, first_kept}
use Rattle.routes.proofs.AnswerTexts.ByteParts.{first_of}
use Rattle.routes.proofs.answers.objects.append_others.Goals as goal

pub returns-in-Err : goal.returns-in-Err
returns-in-Err c =
    let behind = λ (member : Bor (List ℕ) × Value). comma ∷ member_text (shown member) in
    let all = flat_map behind c.args.members.now in
    let left = flat_map behind c.loop-rest.rest.now in
    let here : slice_get c.loop-rest.rest.now 0 ≡ Some c.member-item.result = search (rules, c.member-item.is) in
    let first = first_of behind c.loop-rest.rest.now c.member-item.result here in
    record {
      text_added = tt;
      unchanged = c.truncate.ensures.items ∙ ap (take c.len-before.result) c.in-Err.ensures.unchanged
          ∙ ap (λ n. take n c.loop-rest.out.items) c.loop-rest.invariant.before
          ∙ first_kept c.args.out.now.items all c.loop-rest.out.items left c.loop-rest.invariant.bytes c.loop-rest.invariant.grown;
      room = λ fits. c.in-Err.ensures.room
          (part_fits c.args.out.now.items all c.loop-rest.out.items (behind c.member-item.result) (flat_map behind (drop 1 c.loop-rest.rest.now)) _
          (c.loop-rest.invariant.bytes ∙ ap (λ text. c.loop-rest.out.items ++ text) first) (omega (arith, fits, c.loop-rest.invariant.capacity)));
      capacity = omega (arith, c.truncate.ensures.capacity, c.in-Err.ensures.capacity, c.loop-rest.invariant.capacity);
    }
