use Rattle.std.proofs.Common.{◌≡◌, ◌+◌, ◌<◌, ◌≤◌, ◌∙◌, true, length, get_or, refl, sym, ap, subst, arith}
use Rattle.lease_desk.specs.Series.{up_to}
use Rattle.lease_desk.proofs.SeriesCounts.{IsCounted, as_number, as_number-le, goes_on, is_counted, starts, some_lease, some_link, counts_then, stops}
use Rattle.lease_desk.proofs.walks.count_live.Goals as goal
use Rattle.lease_desk.proofs.walks.count_live.Goals.{then-counts, else-counts}

pub loop-next-init : goal.loop-next-init
loop-next-init c = record {
  within = let h = c.requires.within in omega arith;
  counted = λ key series. starts key _ _ _ _ _ series;
}

pub returns-then-links-place : goal.returns-then-links-place
returns-then-links-place c =
    let next_is = ap up_to c.in-Some.is in
    let room = c.loop-next.invariant.within in
    let within : c.in-Some.place < length c.args.leases.now = omega (arith, next_is, room) in
    λ key series. stops key _ _ _ _ _ series c.loop-next.count c.in-Some.place some_lease some_link within c.if-links-place.true
    (subst (IsCounted key _ c.args.now c.args.leases.now c.loop-next.count) c.in-Some.is (c.loop-next.invariant.counted key series))

pub loop-next-preserved : goal.loop-next-preserved
loop-next-preserved c =
    let place = c.in-Some.place in
    let lease = c.index-leases-place.result in
    let next_is = ap up_to c.in-Some.is in
    let room = c.loop-next.invariant.within in
    let within : place < length c.args.leases.now = omega (arith, next_is, room) in
    let within_links : place < length c.args.links.now = let e = c.requires.as_many in omega arith in
    let back = c.requires.back place some_link within_links in
    let more : c.if-counts.count ≡ c.loop-next.count + as_number c.counts.result = elim c.if-counts.branch [
      | then-counts w ↦ let one : as_number c.counts.result ≡ 1 = ap as_number w.if-counts.true in omega (arith, one, w.count-is)
      | else-counts w ↦ let none : as_number c.counts.result ≡ 0 = ap as_number w.if-counts.false in omega (arith, none, w.count-is)
    ] in
    let at_most : as_number c.counts.result ≤ 1 = as_number-le c.counts.result in
    record {
      within = omega (arith, next_is, room, back, more, at_most);
      counted = λ key series.
          let counted = subst (IsCounted key _ c.args.now c.args.leases.now c.loop-next.count) c.in-Some.is (c.loop-next.invariant.counted key series) in
          let here : key lease ≡ true = ap key c.index-leases-place.is ∙ counted.passes place lease refl in
          let told = counts_then key _ c.args.now lease c.counts.result here c.counts.ensures in
          let same : is_counted key _ c.args.now (get_or c.args.leases.now place lease) ≡ c.counts.result =
          ap (is_counted key _ c.args.now) (sym c.index-leases-place.is) ∙ told in
          goes_on key _ _ _ _ _ series c.loop-next.count c.if-counts.count place lease some_link within
          (more ∙ ap (λ t. c.loop-next.count + as_number t) (sym same)) counted;
    }
