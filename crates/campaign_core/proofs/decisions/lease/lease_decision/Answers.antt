use Rattle.std.proofs.Common.{◌≡◌, ◌<◌, ◌+◌, ◌∙◌, ℕ, List, None, Ok, Some, ap, arith, false, get_or, length, map, refl, subst, sym}
use Rattle.std.proofs.lemmas.Int.{ints}
use Rattle.std.proofs.lemmas.List.{length-map}
use Rattle.assessment.specs.TopicFacts.{TopicView, facts_of}
use Rattle.decimal_rank.specs.Names.{docno_of}
use Rattle.decimal_rank.specs.declared.naming.DocId.{DocId}
use Rattle.rulebook.specs.declared.limits.TheConstants.{MAX_TOPICS}
use Rattle.rulebook.specs.declared.reply.Reply.{Reply}
use Rattle.rulebook.specs.declared.reply.Reply.TheVariants as reply
use Rattle.rulebook.specs.declared.rules.Phase.TheVariants.{Judging}
use Rattle.rulebook.specs.declared.rules.Rules.{Rules}
use Rattle.rulebook.specs.Answers.{command_outcome}
use Rattle.rulebook.specs.Campaign.{rules_of, title}
use Rattle.rulebook.specs.Judgements.Leases.{Lease, lease_in, leases, live_leases_of}
use Rattle.rulebook.specs.Requests.Refusals.{is_phase}
use Rattle.rulebook.specs.Words.{Text, contains_text}
use Rattle.campaign_core.specs.Commands.Decisions.{IsDecision}
use Rattle.campaign_core.specs.CampaignStates.{KnowsAll}
use Rattle.campaign_core.specs.Assessments.DeskLeases.{first_open, is_open_in}
use Rattle.campaign_core.specs.Numbering.Numbers.{doc_in, names_of}
use Rattle.campaign_core.proofs.NamedDocuments.LiveLeases.{live-of-same}
use Rattle.campaign_core.proofs.Rulings.KeptTopics.{Placed, Standing, doc-told, known-topic, none-named, stands-at, unknown-topic}
use Rattle.campaign_core.proofs.Rulings.LeaseRulings.{few-leases, lease-granted, lease-many, lease-nothing, lease-unknown}
use Rattle.campaign_core.proofs.Rulings.TestOrder.{out-of-phase}
use Rattle.campaign_core.proofs.Entries.Judgements.LeaseSteps.{desk-long}
use Rattle.campaign_core.proofs.Lists.Elements.{get-map}
use Rattle.campaign_core.proofs.Numbers.DocNumbers.{docno-back}
use Rattle.campaign_core.proofs.Numbers.TopicPlaces.{as-long}
use Rattle.campaign_core.proofs.Rulings.AcceptedEntries.{moment-of, term-fits}
use Rattle.campaign_core.proofs.decisions.lease.lease_decision.Goals.{After-from, After-named}
use Rattle.campaign_core.proofs.decisions.lease.lease_decision.Goals as goal

knows : (c : After-from) → KnowsAll c.args.campaign.now.history.items (map facts_of c.args.campaign.now.assessment.topics.topics) c.desk-desk.result.now.leases
knows c = subst (KnowsAll c.args.campaign.now.history.items (map facts_of c.args.campaign.now.assessment.topics.topics))
    (sym c.desk-desk.ensures) c.requires.asked.asked.asked.known.assessed.knows

-- the number of the topic
at : (c : After-from) → Placed c.args.campaign.now.history.items (map facts_of c.args.campaign.now.assessment.topics.topics) c.args.topic.now c.in-Some.number
at c =
    let all = c.args.campaign.now.assessment.topics.topics in
    known-topic c.args.campaign.now.history.items (map facts_of all) c.args.topic.now c.in-Some.number (knows c).topics_are
    (sym c.in-Some.is ∙ c.requires.number c.args.topic.now refl)

-- how many live leases the assessor has
live_is : (c : After-from)
    → c.live_of-live.result ≡ length (live_leases_of c.args.campaign.now.history.items c.args.core.now.moment c.args.core.now.caller.name)
live_is c =
    let H = c.args.campaign.now.history.items in
    let now = c.args.core.now.moment in
    c.live_of-live.ensures ∙ live-of-same H (names_of H) c.desk-desk.result.now.leases now c.bytes-assessor.result.now (knows c).leased
    ∙ ap (λ (name : Text). length (live_leases_of H now name)) c.bytes-assessor.ensures

hold_is : (c : After-from) → c.from.result ≡ (rules_of c.args.campaign.now.history.items).hold
hold_is c = c.from.ensures ∙ ap (λ (r : Rules). r.hold) c.rules-rules.ensures

-- the topic that was looked up
stands : (c : After-named) → Standing c.args.campaign.now.history.items c.index-topics-number.result.facts c.args.topic.now
stands c =
    let H = c.args.campaign.now.history.items in
    let all = c.args.campaign.now.assessment.topics.topics in
    let known = c.requires.asked.asked.asked.known in
    let topic = c.index-topics-number.result in
    let topic_is = ap facts_of (c.index-topics-number.is ∙ ap (λ (items : List TopicView). get_or items c.in-Some.number topic) c.topics-topics.ensures)
    ∙ sym (get-map facts_of all c.in-Some.number topic) in
    let found = sym c.in-Some.is ∙ c.requires.number c.args.topic.now refl in
    let placed = known-topic H (map facts_of all) c.args.topic.now c.in-Some.number known.assessed.knows.topics_are found in
    stands-at H (map facts_of all) c.args.campaign.now.assessment.leases known.assessed.knows c.args.topic.now
    c.in-Some.number placed.number_is placed.listed topic.facts topic_is

-- the number is small, as there are few topics
small : (c : After-from) → c.in-Some.number < MAX_TOPICS
small c =
    let all = c.args.campaign.now.assessment.topics.topics in
    let H = c.args.campaign.now.history.items in
    omega (arith, (at c).within, as-long H (map facts_of all) c.desk-desk.result.now.leases (knows c), (knows c).topics_fit)

pub returns-then-not-is_in : goal.returns-then-not-is_in
returns-then-not-is_in c =
    let campaign = c.args.campaign.now in
    let H = campaign.history.items in
    let core = c.args.core.now in
    let other : false ≡ is_phase Judging campaign.phase = sym c.if-not-is_in.true ∙ c.is_in.ensures in
    subst (IsDecision campaign c.args.docnos.now core) (sym c.wrong_phase.ensures)
    (ap (command_outcome H core.caller core.moment) c.requires.asked.asked.command_is
    ∙ out-of-phase H Judging campaign.phase _ _ c.requires.asked.asked.asked.known.phase_is other)

pub offset_bounds-topics-number : goal.offset_bounds-topics-number
offset_bounds-topics-number c = omega (arith, ints, small (goal.at.offset_bounds-topics-number c).After-from)

pub bounds-topics-number : goal.bounds-topics-number
bounds-topics-number c =
    let all = c.args.campaign.now.assessment.topics.topics in
    omega (arith, (at (goal.at.bounds-topics-number c).After-from).within, length-map all facts_of, ap length c.topics-topics.ensures)

pub overflow_cast-number : goal.overflow_cast-number
overflow_cast-number c = omega (arith, ints, small (goal.at.overflow_cast-number c).After-from)

pub overflow_cast-grant : goal.overflow_cast-grant
overflow_cast-grant c = omega (arith, ints, small (goal.at.overflow_cast-grant c).After-from)

pub returns-in_default : goal.returns-in_default
returns-in_default c =
    let campaign = c.args.campaign.now in
    let H = campaign.history.items in
    let all = campaign.assessment.topics.topics in
    let who = c.args.core.now.caller in
    let now = c.args.core.now.moment in
    let known = c.requires.asked.asked.asked.known in
    ap (command_outcome H who now) c.requires.asked.asked.command_is
    ∙ sym (lease-unknown H who now c.args.topic.now campaign.phase known.phase_is c.if-not-is_in.ensures
    (unknown-topic H (map facts_of all) c.args.topic.now known.assessed.knows.topics_are
    (sym c.in_default.is ∙ c.requires.number c.args.topic.now refl)))

pub returns-then-live-from : goal.returns-then-live-from
returns-then-live-from c =
    let before = (goal.at.returns-then-live-from c).After-from in
    let campaign = c.args.campaign.now in
    let H = campaign.history.items in
    let who = c.args.core.now.caller in
    let now = c.args.core.now.moment in
    ap (command_outcome H who now) c.requires.asked.asked.command_is
    ∙ sym (lease-many H who now c.args.topic.now campaign.phase c.requires.asked.asked.asked.known.phase_is c.if-not-is_in.ensures
    (at before).listed c.live_of-live.result (live_is before)
    (omega (arith, hold_is before, c.if-live-from.true)))

pub overflow_add-reply : goal.overflow_add-reply
overflow_add-reply c =
    let known = c.requires.asked.asked.asked.known in
    let many = ap length c.desk-desk.ensures in
    omega (
      arith,
      many,
      c.len.ensures.len,
      desk-long c.args.campaign.now.history.items c.args.campaign.now.assessment.leases known.assessed.knows.leased,
      few-leases c.args.campaign.now.history.items,
      known.entries_fit,
    )

pub overflow_add-until : goal.overflow_add-until
overflow_add-until c =
    let core = c.args.core.now in
    let known = c.requires.asked.asked.asked.known in
    omega (
      arith,
      moment-of core.caller core.number core.command core.moment c.requires.asked.asked.asked.addressed,
      term-fits c.args.campaign.now.history.items known.legal,
      ap (λ (r : Rules). r.term) c.rules-rules.ensures,
    )

pub returns : goal.returns
returns c =
    let campaign = c.args.campaign.now in
    let H = campaign.history.items in
    let all = campaign.assessment.topics.topics in
    let ts = map facts_of all in
    let who = c.args.core.now.caller in
    let now = c.args.core.now.moment in
    let topic = c.args.topic.now in
    let known = c.requires.asked.asked.asked.known in
    let before = goal.at.returns c in
    let desk = c.desk-desk.result.now.leases in
    let knows = knows before.After-from in
    let number = c.in-Some.number in
    let at = at before.After-from in
    let few : length (live_leases_of H now who.name) < (rules_of H).hold =
    omega (arith, live_is before.After-from, hold_is before.After-from, c.if-live-from.false) in
    let s = c.index-topics-number.result.facts in
    let stands = stands before.After-named in
    let doc = c.in-Some-named.doc in
    let queue = c.in-Some-named.ensures.0 in
    let is : Some doc ≡ first_open (is_open_in s.need s.marked desk number now who.name) s.pool queue.order =
    c.in-Some-named.ensures.2
    ∙ ap (λ (name : Text). first_open (is_open_in s.need s.marked desk number now name) s.pool queue.order) c.bytes-assessor.ensures in
    let told = doc-told H ts desk knows topic number at.number_is at.listed s stands queue
    c.in-Some-named.ensures.1 now who.name c.first_that_passes.ensures doc is in
    let doc_is : doc ≡ doc_in c.args.docnos.now told.text = told.doc_is ∙ ap (λ names. doc_in names told.text) (sym c.requires.asked.names) in
    let docno : c.in_ok-docno.field-0 ≡ told.text =
    c.in_ok-docno.ensures ∙ ap (λ (names : List Text). docno_of names doc.0) c.requires.asked.names
    ∙ ap (λ (d : DocId). docno_of (names_of H) d.0) told.doc_is ∙ docno-back (names_of H) told.text told.known in
    let titled : c.in_ok-from_slice.field-0 ≡ title H topic = c.in_ok-from_slice.ensures.text ∙ c.title.ensures topic at.number_is in
    let many = ap length c.desk-desk.ensures in
    let number_is : c.len.result + 1 ≡ length (leases H) + 1 =
    omega (arith, many, c.len.ensures.len, desk-long H campaign.assessment.leases known.assessed.knows.leased) in
    let until : now + c.rules-rules.result.now.term ≡ now + (rules_of H).term = ap (λ (r : Rules). now + r.term) c.rules-rules.ensures in
    let last = now + c.rules-rules.result.now.term in
    let leased : ℕ → Text → Text → ℕ → Text → Reply = λ n t d u title. reply.Leased n t d u title in
    let reply_is : leased (c.len.result + 1) c.in_ok-copy.field-0 c.in_ok-docno.field-0 last c.in_ok-from_slice.field-0
    ≡ leased (length (leases H) + 1) topic told.text (now + (rules_of H).term) (title H topic) =
    ap (λ n. leased n c.in_ok-copy.field-0 c.in_ok-docno.field-0 last c.in_ok-from_slice.field-0) number_is
    ∙ ap (λ t. leased (length (leases H) + 1) t c.in_ok-docno.field-0 last c.in_ok-from_slice.field-0) c.in_ok-copy.ensures.copy
    ∙ ap (λ d. leased (length (leases H) + 1) topic d last c.in_ok-from_slice.field-0) docno
    ∙ ap (λ u. leased (length (leases H) + 1) topic told.text u c.in_ok-from_slice.field-0) until
    ∙ ap (λ title. leased (length (leases H) + 1) topic told.text (now + (rules_of H).term) title) titled in
    let granted = lease-granted H who now topic campaign.phase known.phase_is c.if-not-is_in.ensures at.listed few told.text told.named_is in
    let lease : Lease = record { number = length (leases H) + 1; assessor = who.name; topic = topic; doc = told.text; until = now + (rules_of H).term } in (
      ap (command_outcome H who now) c.requires.asked.asked.command_is ∙ sym granted ∙ ap Ok (sym reply_is),
      record {
        command_is = (topic, c.requires.asked.asked.command_is);
        lease = lease;
        told = ap (lease_in who.name) reply_is;
        topic_is = at.number_is;
        doc_is = doc_is;
        until_is = until;
        assessor_is = c.in_ok-holder.ensures.copy;
        doc_named = ap (λ names. contains_text names told.text) c.requires.asked.names ∙ told.known;
      },
    )

pub returns-in_default-named : goal.returns-in_default-named
returns-in_default-named c =
    let campaign = c.args.campaign.now in
    let H = campaign.history.items in
    let all = campaign.assessment.topics.topics in
    let ts = map facts_of all in
    let who = c.args.core.now.caller in
    let now = c.args.core.now.moment in
    let topic = c.args.topic.now in
    let known = c.requires.asked.asked.asked.known in
    let before = goal.at.returns-in_default-named c in
    let desk = c.desk-desk.result.now.leases in
    let knows = knows before.After-from in
    let number = c.in-Some.number in
    let at = at before.After-from in
    let few : length (live_leases_of H now who.name) < (rules_of H).hold =
    omega (arith, live_is before.After-from, hold_is before.After-from, c.if-live-from.false) in
    let s = c.index-topics-number.result.facts in
    let stands = stands before.After-named in
    let queue = c.in_default-named.ensures.0 in
    let is : None ≡ first_open (is_open_in s.need s.marked desk number now who.name) s.pool queue.order =
    c.in_default-named.ensures.2
    ∙ ap (λ (name : Text). first_open (is_open_in s.need s.marked desk number now name) s.pool queue.order) c.bytes-assessor.ensures in
    ap (command_outcome H who now) c.requires.asked.asked.command_is
    ∙ sym (lease-nothing H who now topic campaign.phase known.phase_is c.if-not-is_in.ensures at.listed few
    (none-named H ts desk knows topic number at.number_is at.listed s stands queue c.in_default-named.ensures.1 now who.name c.first_that_passes.ensures is))
