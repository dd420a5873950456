use Rattle.std.proofs.Common.{◌≡◌, ◌+◌, [], ◌∷◌, ◌++◌, ◌∙◌, List, ap, arith, length, map, subst, sym, take, take_all}
use Rattle.std.proofs.lemmas.List.{length-map, map-append, take_more}
use Rattle.decimal_rank.specs.Rankings.Places.{AreDistinct}
use Rattle.decimal_rank.specs.declared.naming.DocId.{DocId}
use Rattle.assessment.specs.TopicFacts.{TopicFacts, TopicView, facts_of}
use Rattle.rulebook.specs.Campaign.{docnos, docs_on}
use Rattle.rulebook.specs.Words.{Text}
use Rattle.campaign_core.specs.Numbering.Numbers.{doc_in, docs_in}
use Rattle.campaign_core.proofs.Numbers.AddedDocs.{length-docnos}
use Rattle.campaign_core.proofs.Numbers.DocNumbers.{numbers-differ}
use Rattle.campaign_core.proofs.campaign.topics.rankings_of.Goals as goal

pub numbers_on-requires : goal.numbers_on-requires
numbers_on-requires c =
    ap (λ (numbers : List DocId). length numbers) c.requires.1.numbers_are
    ∙ length-map (docnos c.args.lists.now) (doc_in c.requires.0) ∙ length-docnos c.args.lists.now

pub loop-topic-init : goal.loop-topic-init
loop-topic-init c = λ names are. c.in_ok-made.ensures.items

pub listed-requires-clause-few : goal.listed-requires-clause-few
listed-requires-clause-few c =
    let names = c.requires.0 in
    let there = c.requires.1 in
    let docs = docs_on c.args.lists.now c.id.result.now in
    omega (
      arith,
      ap (λ (docs : List DocId). length docs) (c.in_ok-docs.ensures.items ∙ c.numbers_on.ensures names there.numbers_are),
      length-map docs (doc_in names),
      (there.rankable c.id.result.now).few,
    )

pub listed-requires-clause-distinct : goal.listed-requires-clause-distinct
listed-requires-clause-distinct c =
    let names = c.requires.0 in
    let there = c.requires.1 in
    let on = there.rankable c.id.result.now in
    subst AreDistinct (sym (c.in_ok-docs.ensures.items ∙ c.numbers_on.ensures names there.numbers_are))
    (numbers-differ names (docs_on c.args.lists.now c.id.result.now) on.distinct on.named)

pub loop-topic-preserved : goal.loop-topic-preserved
loop-topic-preserved c = λ names are.
    let i = c.loop-topic.topic-index in
    let topic = c.topic-item.result in
    let topics = c.args.topics.now in
    let ranked : TopicFacts → List DocId = λ facts. docs_in names (docs_on c.args.lists.now facts.id) in
    let told = c.in_ok-listed.field-0 in
    let told_is : told ≡ ranked (facts_of topic) =
    c.in_ok-listed.ensures ∙ c.in_ok-docs.ensures.items ∙ c.numbers_on.ensures names are.numbers_are
    ∙ ap (λ (id : Text). docs_in names (docs_on c.args.lists.now id)) c.id.ensures in
    let more : take (i + 1) topics ≡ take i topics ++ topic ∷ [] =
    take_more topics i topic c.loop-topic-test.true ∙ ap (λ (t : TopicView). take i topics ++ t ∷ []) (sym c.topic-item.is) in
    c.in_ok-push.ensures.items
    ∙ ap (λ made. made ++ told ∷ []) (c.loop-topic.invariant names are)
    ∙ ap (λ docs. map ranked (map facts_of (take i topics)) ++ docs ∷ []) told_is
    ∙ sym (map-append ranked (map facts_of (take i topics)) (facts_of topic ∷ []))
    ∙ ap (map ranked) (sym (map-append facts_of (take i topics) (topic ∷ [])))
    ∙ ap (λ ts. map ranked (map facts_of ts)) (sym more)

pub returns : goal.returns
returns c = λ names are.
    let ranked : TopicFacts → List DocId = λ facts. docs_in names (docs_on c.args.lists.now facts.id) in
    c.loop-topic.invariant names are ∙ ap (λ ts. map ranked (map facts_of ts)) (take_all c.loop-topic.topic-index c.args.topics.now c.loop-topic-test.false)
