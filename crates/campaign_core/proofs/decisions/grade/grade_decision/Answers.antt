use Rattle.std.proofs.Common.{◌≡◌, ◌<◌, ◌≤◌, ◌∙◌, List, Ok, ap, arith, get_or, length, map, subst, sym, false}
use Rattle.std.proofs.lemmas.List.{length-map}
use Rattle.assessment.specs.Changes.{IsUnended}
use Rattle.assessment.specs.TopicFacts.{TopicView, facts_of}
use Rattle.decimal_rank.specs.Names.{docno_of}
use Rattle.rulebook.specs.declared.reply.Reply.{Reply}
use Rattle.rulebook.specs.declared.reply.Reply.TheVariants as reply
use Rattle.rulebook.specs.declared.rules.Rules.{Rules}
use Rattle.rulebook.specs.Answers.{command_outcome}
use Rattle.rulebook.specs.Words.{Text}
use Rattle.campaign_core.specs.CampaignStates.{KnowsAll}
use Rattle.campaign_core.specs.Assessments.DeskLeases.{KnownLease}
use Rattle.campaign_core.specs.Numbering.Numbers.{doc_in, names_of}
use Rattle.campaign_core.specs.Assessments.Topics.{KeptTopic}
use Rattle.campaign_core.proofs.Rulings.LeaseRulings.{found-lease, grade-given, grade-outside, grade-refused, grade-unknown, unended}
use Rattle.campaign_core.proofs.Rulings.KeptTopics.{stands-at, within-states}
use Rattle.campaign_core.proofs.Rulings.TestOrder.{out-of-phase}
use Rattle.campaign_core.proofs.Lists.Elements.{get-map}
use Rattle.campaign_core.proofs.Numbers.DocNumbers.{docno-back}
use Rattle.rulebook.specs.declared.rules.Phase.TheVariants.{Judging}
use Rattle.rulebook.specs.Requests.Refusals.{is_phase}
use Rattle.campaign_core.specs.Commands.Decisions.{IsDecision}
use Rattle.campaign_core.proofs.decisions.grade.grade_decision.Goals as goal

pub returns-then-not-is_in : goal.returns-then-not-is_in
returns-then-not-is_in c =
    let campaign = c.args.campaign.now in
    let core = c.args.core.now in
    let other : false ≡ is_phase Judging campaign.phase = sym c.if-not-is_in.true ∙ c.is_in.ensures in
    subst (IsDecision campaign c.args.docnos.now core) (sym c.wrong_phase.ensures)
    (ap (command_outcome campaign.history.items core.caller core.moment) c.requires.asked.command_is
    ∙ out-of-phase campaign.history.items Judging campaign.phase _ _ c.requires.asked.asked.known.phase_is other)

pub returns-in_default : goal.returns-in_default
returns-in_default c =
    let campaign = c.args.campaign.now in
    let H = campaign.history.items in
    let ts = map facts_of campaign.assessment.topics.topics in
    let who = c.args.core.now.caller in
    let now = c.args.core.now.moment in
    let known = c.requires.asked.asked.known in
    let desk = c.desk.result.now.leases in
    let knows : KnowsAll H ts desk = subst (KnowsAll H ts) (sym c.desk.ensures) known.assessed.knows in
    ap (command_outcome H who now) c.requires.asked.command_is
    ∙ sym (grade-unknown H (names_of H) desk who now c.args.number campaign.phase known.phase_is c.if-not-is_in.ensures knows.leased
    (sym c.in_default.ensures.lease) c.args.grade)

pub returns-in-Some-lease_refusal : goal.returns-in-Some-lease_refusal
returns-in-Some-lease_refusal c =
    let campaign = c.args.campaign.now in
    let H = campaign.history.items in
    let ts = map facts_of campaign.assessment.topics.topics in
    let who = c.args.core.now.caller in
    let now = c.args.core.now.moment in
    let known = c.requires.asked.asked.known in
    let desk = c.desk.result.now.leases in
    let knows : KnowsAll H ts desk = subst (KnowsAll H ts) (sym c.desk.ensures) known.assessed.knows in
    ap (command_outcome H who now) c.requires.asked.command_is
    ∙ sym (grade-refused H (names_of H) desk who now c.args.number campaign.phase known.phase_is c.if-not-is_in.ensures knows.leased c.in-Some.lease.now
    (sym c.in-Some.ensures.lease) c.args.grade c.in-Some-lease_refusal.refusal
    (sym c.lease_refusal.ensures ∙ c.in-Some-lease_refusal.is))

pub returns-then-grade-rules : goal.returns-then-grade-rules
returns-then-grade-rules c =
    let campaign = c.args.campaign.now in
    let H = campaign.history.items in
    let ts = map facts_of campaign.assessment.topics.topics in
    let who = c.args.core.now.caller in
    let now = c.args.core.now.moment in
    let known = c.requires.asked.asked.known in
    let desk = c.desk.result.now.leases in
    let knows : KnowsAll H ts desk = subst (KnowsAll H ts) (sym c.desk.ensures) known.assessed.knows in
    ap (command_outcome H who now) c.requires.asked.command_is
    ∙ sym (grade-outside H (names_of H) desk who now c.args.number campaign.phase known.phase_is c.if-not-is_in.ensures knows.leased c.in-Some.lease.now
    (sym c.in-Some.ensures.lease) c.args.grade
    (sym c.lease_refusal.ensures ∙ c.in_default-lease_refusal.is)
    (subst (λ (r : Rules). r.top_grade < c.args.grade) c.rules.ensures c.if-grade-rules.true))

pub bounds-topics-lease : goal.bounds-topics-lease
bounds-topics-lease c =
    let campaign = c.args.campaign.now in
    let H = campaign.history.items in
    let all = campaign.assessment.topics.topics in
    let ts = map facts_of all in
    let desk = c.desk.result.now.leases in
    let knows : KnowsAll H ts desk = subst (KnowsAll H ts) (sym c.desk.ensures) c.requires.asked.asked.known.assessed.knows in
    let w = found-lease H (names_of H) desk c.args.number c.in-Some.lease.now knows.leased (sym c.in-Some.ensures.lease) in
    let inside = within-states H ts desk knows w.lease.topic c.in-Some.lease.now.topic (ap (λ (k : KnownLease). k.topic) w.alike) w.listed in
    let many = ap length c.topics-topics.ensures in
    omega (arith, inside, length-map all facts_of, many)

pub returns : goal.returns
returns c =
    let campaign = c.args.campaign.now in
    let H = campaign.history.items in
    let all = campaign.assessment.topics.topics in
    let ts = map facts_of all in
    let who = c.args.core.now.caller in
    let now = c.args.core.now.moment in
    let known = c.requires.asked.asked.known in
    let desk = c.desk.result.now.leases in
    let knows : KnowsAll H ts desk = subst (KnowsAll H ts) (sym c.desk.ensures) known.assessed.knows in
    let lease = c.in-Some.lease.now in
    let w = found-lease H (names_of H) desk c.args.number lease knows.leased (sym c.in-Some.ensures.lease) in
    let kept = c.index-topics-lease.result in
    let s = kept.facts in
    let s_is : s ≡ get_or ts lease.topic s =
    ap facts_of (c.index-topics-lease.is ∙ ap (λ (items : List TopicView). get_or items lease.topic kept) c.topics-topics.ensures)
    ∙ sym (get-map facts_of all lease.topic kept) in
    let at = stands-at H ts desk knows w.lease.topic lease.topic (ap (λ (k : KnownLease). k.topic) w.alike) w.listed s s_is in
    let topic : c.in_ok-from_slice.field-0 ≡ w.lease.topic = c.in_ok-from_slice.ensures.text ∙ c.id.ensures ∙ ap (λ (k : KeptTopic). k.id) at.kept_is in
    let doc : c.in_ok-docno.field-0 ≡ w.lease.doc =
    c.in_ok-docno.ensures
    ∙ ap (λ names. docno_of names lease.doc.0) c.requires.names
    ∙ ap (λ (k : KnownLease). docno_of (names_of H) k.doc.0) w.alike
    ∙ docno-back (names_of H) w.lease.doc w.doc_named in
    let reply_is : reply.Graded c.in_ok-from_slice.field-0 c.in_ok-docno.field-0 c.args.grade ≡ reply.Graded w.lease.topic w.lease.doc c.args.grade =
    ap (λ (t : Text). let r : Reply = reply.Graded t c.in_ok-docno.field-0 c.args.grade in r) topic
    ∙ ap (λ (d : Text). let r : Reply = reply.Graded w.lease.topic d c.args.grade in r) doc in
    let none = sym c.lease_refusal.ensures ∙ c.in_default-lease_refusal.is in
    let given = grade-given H (names_of H) desk who now c.args.number campaign.phase known.phase_is c.if-not-is_in.ensures knows.leased lease
    (sym c.in-Some.ensures.lease) c.args.grade none
    (subst (λ (r : Rules). c.args.grade ≤ r.top_grade) c.rules.ensures c.if-grade-rules.false) in (
      ap (command_outcome H who now) c.requires.asked.command_is ∙ sym given ∙ ap Ok (sym reply_is),
      record {
        command_is = c.requires.asked.command_is;
        lease = w.lease;
        found = w.found;
        topic_is = ap (λ (k : KnownLease). k.topic) w.alike;
        doc_is = ap (λ (k : KnownLease). k.doc) w.alike ∙ ap (λ names. doc_in names w.lease.doc) (sym c.requires.names);
        assessor_is = c.in_ok-assessor.ensures.copy;
        unended = subst (IsUnended c.args.number) c.desk.ensures (unended desk c.args.number lease who.name now (sym c.in-Some.ensures.lease) none);
      },
    )
