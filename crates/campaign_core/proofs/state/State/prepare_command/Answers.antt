use Rattle.std.proofs.Common.{◌≡◌, ◌<◌, ◌∙◌, List, None, Some, ap, arith, length, refl, subst, sym, take}
use Rattle.rulebook.specs.declared.entry.EntryCore.{EntryCore}
use Rattle.rulebook.specs.declared.limits.TheConstants.{MAX_ENTRIES}
use Rattle.rulebook.specs.Answers.{moment_after}
use Rattle.rulebook.specs.Words.{Text}
use Rattle.campaign_core.specs.Growth.{BeginsWith}
use Rattle.campaign_core.specs.CampaignStates.{IsKept, IsPrepared, IsReadyWith}
use Rattle.campaign_core.specs.Numbering.NumberedRequests.{NumberedRequest}
use Rattle.campaign_core.specs.StateViews.{StateView}
use Rattle.campaign_core.specs.declared.state.State.TheInside.{Inside}
use Rattle.campaign_core.proofs.Entries.CommandAnswers.{first-accepted, first-refused, full-told}
use Rattle.campaign_core.proofs.Entries.Preparations.KeptStates.{idle-of, kept-idle, kept-on}
use Rattle.campaign_core.proofs.state.State.prepare_command.Goals.{After-len, After-prepared}
use Rattle.campaign_core.proofs.state.State.prepare_command.Goals as goal

-- the history that contracts see is the campaign's
seen : (c : After-len) → c.self.inside.campaign.history.items ≡ c.args.self.now.history
seen c = ap (λ (s : StateView). s.history) c.self.view_is

-- the command with a copy of its caller, at its moment
abbrev core_of : (c : After-prepared) → EntryCore
core_of c = record { caller = c.in_ok-copy.field-0; number = c.args.number; moment = c.moment_after.result; command = c.args.command }

few : (c : After-prepared) → length c.args.self.now.history < MAX_ENTRIES
few c = omega (
  arith,
  c.if-len.false,
  c.len.ensures,
  c.self.inside.campaign.history.ok.0,
  ap (λ (s : StateView). length s.history) c.self.view_is,
  c.self.invariant.known.entries_fit,
)

when : (c : After-prepared) → c.moment_after.result ≡ moment_after c.args.self.now.history c.args.moment
when c = c.moment_after.ensures ∙ ap (λ (s : StateView). moment_after s.history c.args.moment) c.self.view_is

back : (c : After-prepared) → c.prepared.new.campaign.history.items ≡ c.args.self.now.history
back c = c.prepared.ensures.unchanged.history_is ∙ ap (λ (s : StateView). s.history) c.self.view_is

pub returns-then-len-clause-verdict : goal.returns-then-len-clause-verdict
returns-then-len-clause-verdict c =
    let H = c.args.self.now.history in
    let full : length H ≡ MAX_ENTRIES =
    omega (arith, c.if-len.true, c.len.ensures, c.self.inside.campaign.history.ok.0, ap length (seen (goal.at.returns-then-len-clause-verdict c).After-len)) in
    let told = full-told H c.args.who.now c.args.number c.args.command c.args.moment c.requires.unused full in
    (told.0, told.1, c.requires.none)

pub returns-in-Ok-clause-verdict : goal.returns-in-Ok-clause-verdict
returns-in-Ok-clause-verdict c =
    let at = (goal.at.returns-in-Ok-clause-verdict c).After-prepared in
    let made = subst
    (IsPrepared c.prepared.new.campaign c.prepared.new.docnos c.prepared.new.numbers (core_of at)) c.in-Ok.is c.in_ok-prepared.ensures.prepared in (
      first-accepted c.args.self.now.history c.prepared.new.campaign.history.items c.args.who.now c.in_ok-copy.field-0
          c.args.number c.args.command c.args.moment c.moment_after.result c.requires.unused (few at) (back at)
          c.in_ok-copy.ensures (when at) c.in-Ok.prepared made.0 made.1,
      ap Some (c.of.ensures ∙ c.prepared-in-Ok.view_is),
    )

pub returns-in-Err-clause-verdict : goal.returns-in-Err-clause-verdict
returns-in-Err-clause-verdict c =
    let at = (goal.at.returns-in-Err-clause-verdict c).After-prepared in
    let refused =
    subst (IsPrepared c.prepared.new.campaign c.prepared.new.docnos c.prepared.new.numbers (core_of at)) c.in-Err.is c.in_ok-prepared.ensures.prepared in
    let told = first-refused c.args.self.now.history c.prepared.new.campaign.history.items c.args.who.now c.in_ok-copy.field-0
    c.args.number c.args.command c.args.moment c.moment_after.result c.requires.unused (few at) (back at)
    c.in_ok-copy.ensures (when at) c.in-Err.refusal refused.0 in
    (told.0, told.1, ap (λ (s : StateView). s.prepared) c.self.view_is ∙ c.requires.none)

pub prepared-requires-clause-idle : goal.prepared-requires-clause-idle
prepared-requires-clause-idle c = idle-of c.self.inside c.self.invariant (ap (λ (s : StateView). s.prepared) c.self.view_is ∙ c.requires.none)

-- the docnos and the numbers begin with those of the history

docnos-grown : (c : After-prepared) → BeginsWith (take c.self.inside.docnos_kept c.self.inside.docnos) c.prepared.new.docnos
docnos-grown c = subst (λ (names : List Text). BeginsWith names c.prepared.new.docnos) c.cut.ensures c.prepared.ensures.docnos_grown

numbers-grown : (c : After-prepared) → BeginsWith (take c.self.inside.numbers_kept c.self.inside.numbers) c.prepared.new.numbers
numbers-grown c = subst (λ (all : List NumberedRequest). BeginsWith all c.prepared.new.numbers) c.cut-2.ensures c.prepared.ensures.numbers_grown

-- the state behind an answer that adds nothing
idle : (c : After-prepared) → c.prepared.new.campaign.assessment.pending ≡ None
    → IsKept (record c.self.inside { campaign = c.prepared.new.campaign; docnos = c.prepared.new.docnos; numbers = c.prepared.new.numbers })
idle c nothing =
    let old = c.self.inside in
    let new : Inside = record old { campaign = c.prepared.new.campaign; docnos = c.prepared.new.docnos; numbers = c.prepared.new.numbers } in
    kept-idle old new c.self.invariant c.prepared.ensures.unchanged refl refl (docnos-grown c) (numbers-grown c)
    (ap (λ (s : StateView). s.prepared) c.self.view_is ∙ c.requires.none) nothing

pub invariant_of-self : goal.invariant_of-self
invariant_of-self c = idle (goal.at.invariant_of-self c).After-prepared c.in_err-prepared.ensures.err

pub invariant_of-self-in-Err : goal.invariant_of-self-in-Err
invariant_of-self-in-Err c =
    let at = (goal.at.invariant_of-self-in-Err c).After-prepared in
    let refused =
    subst (IsPrepared c.prepared.new.campaign c.prepared.new.docnos c.prepared.new.numbers (core_of at)) c.in-Err.is c.in_ok-prepared.ensures.prepared in
    idle at refused.1

pub invariant_of-self-in-Ok : goal.invariant_of-self-in-Ok
invariant_of-self-in-Ok c =
    let at = (goal.at.invariant_of-self-in-Ok c).After-prepared in
    let campaign = c.prepared.new.campaign in
    let docnos = c.prepared.new.docnos in
    let numbers = c.prepared.new.numbers in
    let old = c.self.inside in
    let new : Inside = record old { campaign = campaign; docnos = docnos; numbers = numbers; prepared = Some c.of.result } in
    let made = subst (IsPrepared campaign docnos numbers (core_of at)) c.in-Ok.is c.in_ok-prepared.ensures.prepared in
    kept-on old new c.self.invariant c.prepared.ensures.unchanged refl refl (docnos-grown at) (numbers-grown at)
    (subst (IsReadyWith campaign docnos numbers) (sym (c.of.ensures ∙ c.prepared-in-Ok.view_is)) made.2)
