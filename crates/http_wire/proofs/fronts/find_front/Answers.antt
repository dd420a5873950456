use Rattle.std.proofs.Common.{◌≡◌, ◌+◌, sym, ap, ◌∙◌, length, drop, arith, subst}
use Rattle.std.specs.Option.{option_map}
use Rattle.std.proofs.lemmas.List.{length-take}
use Rattle.http_wire.specs.Heads.{head_length}
use Rattle.http_wire.specs.declared.fronts.Found.TheVariants as found
use Rattle.http_wire.specs.Fronts.{IsFound}
use Rattle.http_wire.proofs.MessageFronts.{unfinished_head, long_head}
use Rattle.http_wire.proofs.HeadSearches.{ends_now}
use Rattle.http_wire.proofs.fronts.find_front.Goals as goal

pub find_head_from-requires-clause-ends : goal.find_head_from-requires-clause-ends
find_head_from-requires-clause-ends c =
    subst (λ text. head_length text ≡ option_map (λ n. n + c.args.searched) (head_length (drop c.args.searched text))) (sym c.head_bytes.ensures)
    (ends_now c.args.message.now c.args.searched c.requires.searched)

pub read_message-requires-clause-inside : goal.read_message-requires-clause-inside
read_message-requires-clause-inside c = omega (arith, c.in-Some.ensures.inside, ap length c.head_bytes.ensures, length-take 8192 c.args.message.now)

pub returns-in-None : goal.returns-in-None
returns-in-None c =
    subst (λ k. IsFound c.args.message.now (found.Unfinished k)) (sym c.saturating_sub.ensures)
    (unfinished_head c.args.message.now (sym (c.in-None.ensures.value ∙ ap head_length c.head_bytes.ensures)) c.if-message-lt-MOST_HEAD.true)

pub returns-in-None-2 : goal.returns-in-None-2
returns-in-None-2 c = long_head c.args.message.now (sym (c.in-None.ensures.value ∙ ap head_length c.head_bytes.ensures)) c.if-message-lt-MOST_HEAD.false
