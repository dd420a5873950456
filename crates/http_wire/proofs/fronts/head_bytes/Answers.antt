use Rattle.std.proofs.Common.{sym, arith}
use Rattle.std.proofs.lemmas.List.{length-take, take_all}
use Rattle.http_wire.proofs.fronts.head_bytes.Goals as goal

pub slice_bounds-result-end : goal.slice_bounds-result-end
slice_bounds-result-end c = omega (arith, length-take 8192 c.args.message.now)

pub returns-then-message-le-MOST_HEAD : goal.returns-then-message-le-MOST_HEAD
returns-then-message-le-MOST_HEAD c = sym (take_all 8192 c.args.message.now c.if-message-le-MOST_HEAD.true)
