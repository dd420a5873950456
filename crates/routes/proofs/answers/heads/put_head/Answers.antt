use Rattle.http_wire.specs.Answers.{head_text}
use Rattle.std.proofs.Common.{rules, ◌-◌, ◌<◌, ◌^◌, ap, arith, length, length-append, true}
use Rattle.routes.proofs.AnswerTexts.AnswerSizes.{head_short}
use Rattle.routes.proofs.AnswerTexts.ByteParts.{put_in_front}
use Rattle.routes.proofs.answers.heads.put_head.Goals as goal

pub bring_forward-requires-clause-few : goal.bring_forward-requires-clause-few
bring_forward-requires-clause-few c =
    let size = c.len.result - c.args.before in
    let head = head_text c.args.status true c.args.close size in
    let known : c.args.status < 2 ^ 64 = search rules in
    let whole : c.len.result < 2 ^ 64 = search rules in
    let small : size < 2 ^ 64 = omega (arith, whole) in
    omega (
      arith,
      ap length c.in_ok-write_head.ensures.ok,
      length-append c.args.out.now.items head,
      head_short c.args.status true c.args.close size known small,
      c.args.out.now.ok.0,
      c.write_head.new.out.ok.0,
      c.len.ensures,
      c.requires.within,
    )

pub returns-clause-ok : goal.returns-clause-ok
returns-clause-ok c =
    put_in_front c.args.out.now.items c.len.result (λ size. head_text c.args.status true c.args.close size) c.write_head.new.out.items
    c.bring_forward.new.out.items c.args.before (omega (arith, c.args.out.now.ok.0, c.len.ensures)) (omega (arith, c.requires.within, c.len.ensures))
    c.in_ok-write_head.ensures.ok c.bring_forward.ensures.items
