use Rattle.std.proofs.Common.{◌≡◌, ◌∙◌, ◌+◌, ◌≤◌, ◌++◌, ap, sym, subst, length, drop, arith, length-append}
use Rattle.std.proofs.lemmas.List.{drop-append-le}
use Rattle.http_wire.specs.Fronts.{IsSearched}
use Rattle.http_wire.specs.Heads.{behind_line_ends}
use Rattle.http_wire.proofs.HeadSearches.{searched-append}
use Rattle.http_wire.proofs.wires.Wire.feed.Goals as goal

pub invariant_of-self-2 : goal.invariant_of-self-2
invariant_of-self-2 c =
    let wire = c.self.inside in
    let old = drop wire.done wire.bytes.items in
    let half : wire.done + wire.done ≤ length wire.bytes.items = c.self.invariant.half in
    let left : drop wire.done c.extend_from_slice.new.self.items ≡ old ++ c.args.piece.now =
    ap (drop wire.done) c.in_ok-extend_from_slice.ensures.items ∙ drop-append-le wire.done wire.bytes.items c.args.piece.now (omega (arith, half)) in
    record {
      half = omega (arith, half, ap length c.in_ok-extend_from_slice.ensures.items, length-append wire.bytes.items c.args.piece.now);
      searched = subst (λ bytes. IsSearched (behind_line_ends bytes) wire.searched) (sym left)
          (searched-append old c.args.piece.now wire.searched c.self.invariant.searched);
    }
