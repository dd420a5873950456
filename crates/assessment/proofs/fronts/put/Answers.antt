use Rattle.std.proofs.Common.{◌+◌, ◌-◌, ◌<◌, ◌++◌, ◌∙◌, List, ℕ, ap, arith, get_or, length, replicate, set, take_all, vec_len}
use Rattle.std.proofs.Math.Nat.{le-max_left, le-max_right}
use Rattle.std.proofs.lemmas.List.{get_or-set_other, get_or-set_same}
use Rattle.assessment.proofs.FrontSteps.{padded}
use Rattle.assessment.proofs.fronts.put.Goals as goal

pub returns-clause-here : goal.returns-clause-here
returns-clause-here c =
    let items = c.resize.new.self.items in
    let within : c.args.run.0 < length items =
    omega (
      arith,
      c.in_ok-resize.ensures.len,
      c.resize.new.self.ok.0,
      c.max-len.ensures,
      le-max_right c.len.result (c.from-place.result + 1),
      c.from-place.ensures,
    ) in
    ap (λ (n : ℕ). get_or (set items n c.args.front) c.args.run.0 0) c.from-place.ensures ∙ get_or-set_same items c.args.run.0 c.args.front 0 within

pub returns-clause-others : goal.returns-clause-others
returns-clause-others c = λ other apart.
    let old = c.args.fronts.now in
    let items = c.resize.new.self.items in
    let len = c.max-len.result in
    let more = len - vec_len old in
    ap (λ (n : ℕ). get_or (set items n c.args.front) other 0) c.from-place.ensures
    ∙ get_or-set_other items c.args.run.0 other c.args.front 0 apart
    ∙ ap (λ (list : List ℕ). get_or list other 0) c.in_ok-resize.ensures.items
    ∙ ap (λ (list : List ℕ). get_or (list ++ replicate more 0) other 0)
    (take_all len old.items (omega (arith, c.max-len.ensures, le-max_left c.len.result (c.from-place.result + 1), c.len.ensures, old.ok.0)))
    ∙ padded old.items more other
