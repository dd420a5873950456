use Rattle.std.proofs.Common.{◌≡◌, ◌∙◌, ◌+◌, ◌++◌, ◌<◌, Bor, ℕ, [], List, ap, append_assoc, arith, get_or, length, map, sym}
use Rattle.std.proofs.lemmas.List.{append-nil, get_or-map, length-map}
use Rattle.measures.specs.ScoreLines.{value_line}
use Rattle.measures.proofs.ValueLines.{all_lines, lines_to, one_more_line}
use Rattle.measures.proofs.score_lines.write_values.Goals as goal

abbrev texts : List (Bor (List ℕ)) → List (List ℕ)
texts names = map (λ name. name.now) names

-- one more line behind those so far
appended : (run topic : List ℕ) (names : List (Bor (List ℕ))) (values : List ℕ) (place : ℕ) (d : Bor (List ℕ)) (start old new : List ℕ)
    → length names ≡ length values → place < length names → old ≡ start ++ lines_to run topic (texts names) values place
    → new ≡ old ++ value_line run topic (get_or names place d).now (get_or values place 0)
    → new ≡ start ++ lines_to run topic (texts names) values (place + 1)
appended run topic names values place d start old new same within so_far is =
    let line = value_line run topic (get_or (texts names) place []) (get_or values place 0) in
    let long = length-map names (λ name. name.now) in
    is
    ∙ ap (λ name. old ++ value_line run topic name (get_or values place 0)) (sym (get_or-map (λ name. name.now) names place d [] within))
    ∙ ap (λ text. text ++ line) so_far
    ∙ append_assoc start (lines_to run topic (texts names) values place) line
    ∙ ap (λ lines. start ++ lines) (sym (one_more_line run topic (texts names) values place (long ∙ same) (omega (arith, long, within))))

pub loop-place-init : goal.loop-place-init
loop-place-init c = sym (append-nil c.args.page.now.items)

pub loop-place-preserved : goal.loop-place-preserved
loop-place-preserved c =
    appended c.args.run.now c.args.topic.now c.args.names.now c.args.values.now c.loop-place.place _ c.args.page.now.items c.loop-place.page.items
    c.write_value.new.page.items c.requires.same c.loop-place-test.true c.loop-place.invariant c.in_ok-write_value.ensures

pub returns : goal.returns
returns c =
    let names = c.args.names.now in
    let long = length-map names (λ name. name.now) in
    c.loop-place.invariant
    ∙ ap (λ lines. c.args.page.now.items ++ lines)
    (all_lines c.args.run.now c.args.topic.now (texts names) c.args.values.now c.loop-place.place (long ∙ c.requires.same)
    (omega (arith, long, c.loop-place-test.false)))
