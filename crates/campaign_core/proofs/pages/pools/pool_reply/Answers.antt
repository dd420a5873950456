use Rattle.std.proofs.Common.{◌≡◌, ◌∙◌, ◌<◌, ℕ, List, ap, sym, map, None, Some, true, subst, length}
use Rattle.std.specs.Prelude.{All}
use Rattle.decimal_rank.specs.Names.{docno_of}
use Rattle.decimal_rank.specs.declared.naming.DocId.{DocId}
use Rattle.depth_pool.specs.Holdings.{AreByDocno, Held, some_run_holds}
use Rattle.rulebook.specs.Campaign.{is_topic, pool, topics}
use Rattle.campaign_core.specs.Numbering.Numbers.{names_of}
use Rattle.campaign_core.specs.Assessments.Topics.{KeptTopic, pool_of}
use Rattle.std.specs.Option.{option_map}
use Rattle.std.specs.Str.{bytes_eq}
use Rattle.assessment.specs.TopicFacts.{TopicFacts, facts_of}
use Rattle.campaign_core.proofs.Lists.Elements.{find-map}
use Rattle.campaign_core.proofs.PageTexts.PoolTexts.{look, pool-numbers, pool-texts, pool-told, pool-unknown}
use Rattle.campaign_core.proofs.pages.pools.pool_reply.Goals as goal

pub returns-in_default : goal.returns-in_default
returns-in_default c = λ H w.
    let absent =
    look H (map facts_of c.args.topics.now) (topics H) c.bytes.result.now w.topics_are None
    (sym (find-map (λ (t : TopicFacts). bytes_eq t.id c.bytes.result.now) facts_of c.args.topics.now) ∙ sym (ap (option_map facts_of) c.in_default.ensures)) in
    pool-unknown H c.args.topic (rw c.bytes.ensures at absent)

pub docs-requires : goal.docs-requires
docs-requires c =
    let H = c.requires.stands.0 in
    let w = c.requires.stands.1 in
    let at = look H (map facts_of c.args.topics.now) (topics H) c.bytes.result.now w.topics_are (Some c.in-Some.kept.now.facts)
    (sym (find-map (λ (t : TopicFacts). bytes_eq t.id c.bytes.result.now) facts_of c.args.topics.now) ∙ sym (ap (option_map facts_of) c.in-Some.ensures)) in
    let runs : c.in-Some.kept.now.facts.pool ≡ pool_of H c.bytes.result.now = ap (λ (k : KeptTopic). k.runs) at.1 in
    let Within : List Held → ℕ → Type 0 = λ rs n. All (λ h. All (λ doc. doc.0 < n) h.docs) rs in
    record {
      docs_named = subst (λ rs. Within rs (length c.args.docnos.now)) (sym c.pool.ensures.runs)
          (subst (Within c.in-Some.kept.now.facts.pool) (ap length (sym w.names_are))
          (subst (λ rs. Within rs (length (names_of H))) (sym runs) (pool-numbers H c.bytes.result.now)));
    }

pub returns : goal.returns
returns c = λ H w.
    let id = c.bytes.result.now in
    let docs = c.in_ok-docs.docs.items in
    let at = look H (map facts_of c.args.topics.now) (topics H) id w.topics_are (Some c.in-Some.kept.now.facts)
    (sym (find-map (λ (t : TopicFacts). bytes_eq t.id c.bytes.result.now) facts_of c.args.topics.now) ∙ sym (ap (option_map facts_of) c.in-Some.ensures)) in
    let known : is_topic H c.args.topic ≡ true = rw c.bytes.ensures at at.0 in
    let runs : c.in-Some.kept.now.facts.pool ≡ pool_of H id = ap (λ (k : KeptTopic). k.runs) at.1 in
    let sorted : AreByDocno (names_of H) docs = subst (λ names. AreByDocno names docs) w.names_are c.in_ok-docs.ensures.ascending in
    let texts = pool-texts H id docs c.in-Some.kept.now.facts.pool c.one_list_by_docno.ensures runs sorted
    (λ doc. c.in_ok-docs.ensures.each doc ∙ ap (some_run_holds doc) c.pool.ensures.runs) in
    let told : c.in_ok-texts.field-0 ≡ pool H c.args.topic =
    c.in_ok-texts.ensures
    ∙ ap (λ ds. map (λ (doc : DocId). docno_of c.args.docnos.now doc.0) ds) c.deref.ensures.value
    ∙ ap (λ names. map (λ (doc : DocId). docno_of names doc.0) docs) w.names_are
    ∙ texts ∙ ap (pool H) c.bytes.ensures in
    pool-told H c.args.topic c.in_ok-texts.field-0 known told
