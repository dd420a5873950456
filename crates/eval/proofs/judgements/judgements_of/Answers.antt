use Rattle.std.proofs.Common.{◌≡◌, ◌<◌, ◌∙◌, ℕ, List, [], ap, arith, get_or, length, map, set, sym, take}
use Rattle.std.proofs.lemmas.List.{get_or-map, length-map}
use Rattle.trec_formats.specs.declared.qrels.QrelLine.{QrelLine}
use Rattle.trec_formats.specs.declared.qrels.QrelView.{QrelView}
use Rattle.trec_formats.specs.RunFormat.LineViews.{qrel_shown}
use Rattle.eval.specs.declared.judgements.Tally.{Tally}
use Rattle.eval.specs.Tables.{tally_more, tally_on}
use Rattle.eval.proofs.Tallies.{others-le, relevant-le, tallied_next, tally_here}
use Rattle.eval.proofs.Topics.{length-topics_of-le}
use Rattle.eval.proofs.judgements.judgements_of.Goals as goal

-- what the loop takes where there is no line
abbrev no_view : QrelView
no_view = record { line = 0; topic = record { ref_ptr = (0, 0); now = [] }; doc = record { ref_ptr = (0, 0); now = [] }; grade = 0 }

abbrev line_at : List QrelView → ℕ → QrelLine
line_at views i = qrel_shown (get_or views i no_view)

shown_within : (views : List QrelView) (i : ℕ) → i < length views → i < length (map qrel_shown views)
shown_within views i within = omega (arith, within, length-map views qrel_shown)

shown_at : (views : List QrelView) (i : ℕ) → i < length views → line_at views i ≡ get_or (map qrel_shown views) i (line_at views i)
shown_at views i within = sym (get_or-map qrel_shown views i no_view (line_at views i) within)

pub place_of-requires : goal.place_of-requires
place_of-requires c =
    omega (
      arith,
      ap length c.loop-line.invariant.topics_are,
      length-topics_of-le (map qrel_shown c.args.qrels.now) c.loop-line.line-index
          (omega (arith, shown_within c.args.qrels.now c.loop-line.line-index c.loop-line-test.true)),
      c.requires,
    )

pub count-requires-clause-relevant : goal.count-requires-clause-relevant
count-requires-clause-relevant c =
    let qrels = map qrel_shown c.args.qrels.now in
    let line = line_at c.args.qrels.now c.loop-line.line-index in
    let within = shown_within c.args.qrels.now c.loop-line.line-index c.loop-line-test.true in
    let item = shown_at c.args.qrels.now c.loop-line.line-index c.loop-line-test.true in
    let old = c.index_mut.result.now in
    let is : old ≡ tally_on (take c.loop-line.line-index qrels) line.topic = c.index_mut.ensures.value
    ∙ tally_here qrels c.loop-line.line-index line c.loop-line.topics c.place_of.new.topics c.loop-line.tallies.items c.in_ok-place.place within item
    c.loop-line.invariant c.in_ok-place.ensures.topics c.in_ok-place.ensures.place c.place_of.new.tallies.items old c.in_ok-place.ensures.tallies in
    omega (arith, ap (λ (t : Tally). t.relevant) is, relevant-le qrels c.loop-line.line-index line.topic)

pub count-requires-clause-others : goal.count-requires-clause-others
count-requires-clause-others c =
    let qrels = map qrel_shown c.args.qrels.now in
    let line = line_at c.args.qrels.now c.loop-line.line-index in
    let within = shown_within c.args.qrels.now c.loop-line.line-index c.loop-line-test.true in
    let item = shown_at c.args.qrels.now c.loop-line.line-index c.loop-line-test.true in
    let old = c.index_mut.result.now in
    let is : old ≡ tally_on (take c.loop-line.line-index qrels) line.topic = c.index_mut.ensures.value
    ∙ tally_here qrels c.loop-line.line-index line c.loop-line.topics c.place_of.new.topics c.loop-line.tallies.items c.in_ok-place.place within item
    c.loop-line.invariant c.in_ok-place.ensures.topics c.in_ok-place.ensures.place c.place_of.new.tallies.items old c.in_ok-place.ensures.tallies in
    omega (arith, ap (λ (t : Tally). t.others) is, others-le qrels c.loop-line.line-index line.topic)

pub loop-line-preserved : goal.loop-line-preserved
loop-line-preserved c =
    let qrels = map qrel_shown c.args.qrels.now in
    let line = line_at c.args.qrels.now c.loop-line.line-index in
    let within = shown_within c.args.qrels.now c.loop-line.line-index c.loop-line-test.true in
    let item = shown_at c.args.qrels.now c.loop-line.line-index c.loop-line-test.true in
    let old = c.index_mut.result.now in
    let now = c.place_of.new.tallies.items in
    tallied_next qrels c.loop-line.line-index line c.loop-line.topics c.place_of.new.topics c.loop-line.tallies.items c.in_ok-place.place within item
    c.loop-line.invariant c.in_ok-place.ensures.topics c.in_ok-place.ensures.place now _ old c.in_ok-place.ensures.distinct c.in_ok-place.ensures.tallies
    (ap (set now c.in_ok-place.place) (c.count.ensures ∙ ap (λ t. tally_more t line.grade) c.index_mut.ensures.value))
