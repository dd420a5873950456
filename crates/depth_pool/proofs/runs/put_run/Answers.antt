use Rattle.std.proofs.Common.{◌≡◌, ◌∙◌, ap, arith, nat_lt, not, rules}
use Rattle.std.specs.List.{insert, position_or_len}
use Rattle.std.proofs.lemmas.List.Sums.{prefix_len-le-length}
use Rattle.depth_pool.specs.Holdings.{Held}
use Rattle.depth_pool.proofs.Lists.{insert_put}
use Rattle.depth_pool.proofs.runs.put_run.Goals as goal

pub insert-requires : goal.insert-requires
insert-requires c =
    let short = prefix_len-le-length (λ (held : Held). not (nat_lt c.held.inside.run.0 held.run.0)) c.as_slice.result.now in
    omega (arith, c.place_after-place.ensures, c.as_slice.ensures.len)

pub returns : goal.returns
returns c =
    let runs = c.args.runs.now.items in
    let held = c.args.held in
    let put : c.insert.new.self.items ≡ insert runs c.place_after-place.result held = search rules in
    let place : c.place_after-place.result ≡ position_or_len (λ (other : Held). nat_lt held.run.0 other.run.0) runs =
    c.place_after-place.ensures ∙ ap (position_or_len (λ (other : Held). nat_lt c.held.inside.run.0 other.run.0)) c.as_slice.ensures.value
    ∙ ap (λ (view : Held). position_or_len (λ (other : Held). nat_lt view.run.0 other.run.0) runs) c.held.view_is in
    put ∙ ap (λ i. insert runs i held) place ∙ insert_put (λ other. nat_lt held.run.0 other.run.0) held runs
