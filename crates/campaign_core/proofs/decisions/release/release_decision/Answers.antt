use Rattle.std.proofs.Common.{◌∙◌, ap, subst, sym, ◌≡◌, false}
use Rattle.assessment.specs.Changes.{IsUnended}
use Rattle.rulebook.specs.Answers.{command_outcome}
use Rattle.campaign_core.specs.Assessments.DeskLeases.{IsLeased}
use Rattle.campaign_core.specs.Numbering.Numbers.{names_of}
use Rattle.campaign_core.proofs.Rulings.LeaseRulings.{release-done, release-refused, release-unknown, unended}
use Rattle.campaign_core.proofs.Rulings.TestOrder.{out-of-phase}
use Rattle.rulebook.specs.declared.rules.Phase.TheVariants.{Judging}
use Rattle.rulebook.specs.Requests.Refusals.{is_phase}
use Rattle.campaign_core.specs.Commands.Decisions.{IsDecision}
use Rattle.campaign_core.proofs.decisions.release.release_decision.Goals as goal

pub returns-then-not-is_in : goal.returns-then-not-is_in
returns-then-not-is_in c =
    let campaign = c.args.campaign.now in
    let core = c.args.core.now in
    let other : false ≡ is_phase Judging campaign.phase = sym c.if-not-is_in.true ∙ c.is_in.ensures in
    subst (IsDecision campaign (names_of campaign.history.items) core) (sym c.wrong_phase.ensures)
    (ap (command_outcome campaign.history.items core.caller core.moment) c.requires.command_is
    ∙ out-of-phase campaign.history.items Judging campaign.phase _ _ c.requires.asked.known.phase_is other)

pub returns-in_default : goal.returns-in_default
returns-in_default c =
    let campaign = c.args.campaign.now in
    let H = campaign.history.items in
    let who = c.args.core.now.caller in
    let now = c.args.core.now.moment in
    let known = c.requires.asked.known in
    let desk = c.desk.result.now.leases in
    let leased : IsLeased H (names_of H) desk = subst (IsLeased H (names_of H)) (sym c.desk.ensures) known.assessed.knows.leased in
    ap (command_outcome H who now) c.requires.command_is
    ∙ sym (release-unknown H (names_of H) desk who now c.args.number campaign.phase known.phase_is c.if-not-is_in.ensures leased
    (sym c.in_default.ensures.lease))

pub returns-in-Some-lease_refusal : goal.returns-in-Some-lease_refusal
returns-in-Some-lease_refusal c =
    let campaign = c.args.campaign.now in
    let H = campaign.history.items in
    let who = c.args.core.now.caller in
    let now = c.args.core.now.moment in
    let known = c.requires.asked.known in
    let desk = c.desk.result.now.leases in
    let leased : IsLeased H (names_of H) desk = subst (IsLeased H (names_of H)) (sym c.desk.ensures) known.assessed.knows.leased in
    ap (command_outcome H who now) c.requires.command_is
    ∙ sym (release-refused H (names_of H) desk who now c.args.number campaign.phase known.phase_is c.if-not-is_in.ensures leased c.in-Some.lease.now
    (sym c.in-Some.ensures.lease) c.in-Some-lease_refusal.refusal
    (sym c.lease_refusal.ensures ∙ c.in-Some-lease_refusal.is))

pub returns : goal.returns
returns c =
    let campaign = c.args.campaign.now in
    let H = campaign.history.items in
    let who = c.args.core.now.caller in
    let now = c.args.core.now.moment in
    let known = c.requires.asked.known in
    let desk = c.desk.result.now.leases in
    let leased : IsLeased H (names_of H) desk = subst (IsLeased H (names_of H)) (sym c.desk.ensures) known.assessed.knows.leased in
    let none = sym c.lease_refusal.ensures ∙ c.in_default-lease_refusal.is in (
      ap (command_outcome H who now) c.requires.command_is
          ∙ sym (release-done H (names_of H) desk who now c.args.number campaign.phase known.phase_is c.if-not-is_in.ensures leased c.in-Some.lease.now
          (sym c.in-Some.ensures.lease) none),
      (
        c.requires.command_is,
        subst (IsUnended c.args.number) c.desk.ensures
            (unended desk c.args.number c.in-Some.lease.now who.name now (sym c.in-Some.ensures.lease) none),
      ),
    )
