use Rattle.std.proofs.Common.{◌≡◌, ◌+◌, ◌++◌, ◌∷◌, [], length, ap, sym, ◌∙◌, arith, subst, None, map}
use Rattle.std.proofs.lemmas.List.{take_all}
use Rattle.std.specs.HashMap.{get}
use Rattle.std.specs.Prelude.{nat_eq}
use Rattle.decimal_rank.specs.Rankings.Places.{AreDistinct, place_in}
use Rattle.decimal_rank.proofs.Standings.ListPlaces.{docs_to, docs_to-more, length-docs_to, noted, distinct-push, repeats, numbered}
use Rattle.decimal_rank.proofs.rankings.first_repeat.Goals as goal

pub returns-in-Some : goal.returns-in-Some
returns-in-Some c =
    let line = c.index-lines-i.result in
    repeats c.args.lines.now c.loop-i.i c.in-Some.first line c.loop-i-test.true c.index-lines-i.is c.loop-i.invariant.0
    (sym (c.loop-i.invariant.1 line.doc.0) ∙ sym c.in_ok-first.ensures.old ∙ c.in-Some.is)

pub loop-i-preserved : goal.loop-i-preserved
loop-i-preserved c =
    let lines = c.args.lines.now in
    let line = c.index-lines-i.result in
    let docs = docs_to c.loop-i.i lines in
    let more : docs_to (c.loop-i.i + 1) lines ≡ docs ++ line.doc ∷ [] =
    docs_to-more lines c.loop-i.i line c.loop-i-test.true ∙ ap (λ l. docs ++ l.doc ∷ []) (sym c.index-lines-i.is) in
    let old : get nat_eq c.loop-i.line_of line.doc.0 ≡ None = sym c.in_ok-first.ensures.old ∙ c.in_default.is in
    let second : c.loop-i.i + 1 ≡ length docs + 1 = omega (arith, length-docs_to lines c.loop-i.i (omega arith)) in (
      subst AreDistinct (sym more) (distinct-push docs line.doc c.loop-i.invariant.0 (sym (c.loop-i.invariant.1 line.doc.0) ∙ old)),
      λ q. noted docs line.doc (get nat_eq c.loop-i.line_of) (get nat_eq c.insert.new.self) c.loop-i.invariant.1 old
          (rw (← second) c.in_ok-first.ensures.updates.0) q ∙ ap (λ ds. place_in ds (numbered q)) (sym more),
    )

pub returns : goal.returns
returns c =
    let lines = c.args.lines.now in
    subst (λ ls. AreDistinct (map (λ line. line.doc) ls)) (take_all c.loop-i.i lines (omega arith)) c.loop-i.invariant.0
