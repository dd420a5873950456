use Rattle.std.proofs.Common.{◌∙◌, ◌%◌, true, false, ℕ, List, Bool, ap, arith, get_or-set_same, length}
use Rattle.std.proofs.lemmas.List.{length-set}
use Rattle.score_index.specs.Filters.{Bits, admits}
use Rattle.score_index.proofs.Admissions.{bit-within, still-admitted}
use Rattle.score_index.proofs.filters.Filter.admit.Goals as goal

-- bits of so many
abbrev bits_of : ℕ → List Bool → Bits
bits_of count on = record { count = count; on = on }

pub put-requires : goal.put-requires
put-requires g c = bit-within c.self.inside.count c.self.inside.bits c.args.doc c.self.invariant.0 c.self.invariant.1

pub invariant_of-self : goal.invariant_of-self
invariant_of-self g c =
    let long = ap length c.put.ensures.places in
    let same = length-set c.self.inside.bits (c.args.doc.0 % c.self.inside.count) true in
    (c.self.invariant.0, omega (arith, long, same, c.self.invariant.1))

pub returns-clause-admitted : goal.returns-clause-admitted
returns-clause-admitted g c =
    let within = bit-within c.self.inside.count c.self.inside.bits c.args.doc c.self.invariant.0 c.self.invariant.1 in
    ap (λ (on : List Bool). admits (bits_of c.self.inside.count on) c.args.doc) c.put.ensures.places
    ∙ get_or-set_same c.self.inside.bits (c.args.doc.0 % c.self.inside.count) true false within

pub returns-clause-others : goal.returns-clause-others
returns-clause-others g c = λ other is.
    let within = bit-within c.self.inside.count c.self.inside.bits c.args.doc c.self.invariant.0 c.self.invariant.1 in
    ap (λ (on : List Bool). admits (bits_of c.self.inside.count on) other) c.put.ensures.places
    ∙ still-admitted (bits_of c.self.inside.count c.self.inside.bits) (c.args.doc.0 % c.self.inside.count) other within
    (ap (λ (bits : Bits). admits bits other) c.self.view_is ∙ is)
