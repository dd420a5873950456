use Rattle.std.proofs.Common.{◌≡◌, ◌+◌, ◌++◌, ◌∙◌, ap, arith, length, refl, subst, sym}
use Rattle.std.proofs.lemmas.Int.{ints}
use Rattle.assessment.specs.Changes.{facts}
use Rattle.rulebook.specs.declared.entry.Entry.{Entry}
use Rattle.rulebook.specs.Requests.Numbers.{entry_of_number}
use Rattle.campaign_core.specs.Commands.Decisions.{IsDecision, IsWithinLimits, KeepsLimits}
use Rattle.campaign_core.specs.Numbering.NumberedRequests.{number_in, place_of_number}
use Rattle.campaign_core.specs.declared.decisions.Decision.TheVariants.{Accepted}
use Rattle.campaign_core.proofs.Entries.Preparations.FittingChanges.{fits}
use Rattle.campaign_core.proofs.Entries.Preparations.KeptStates.{unchanged}
use Rattle.campaign_core.proofs.Entries.Preparations.ReadyEntries.{prepared-entry}
use Rattle.campaign_core.proofs.Numbers.UsedNumbers.{unused-kept}
use Rattle.campaign_core.proofs.state.preparations.decided.Goals.{After-len}
use Rattle.campaign_core.proofs.state.preparations.decided.Goals as goal

pub decide-requires-clause-asked : goal.decide-requires-clause-asked
decide-requires-clause-asked c = record { asked = record { asked = c.requires.new.asked; command_is = refl }; names = c.requires.new.names_are }

pub returns-in_err-refusal-clause-unchanged : goal.returns-in_err-refusal-clause-unchanged
returns-in_err-refusal-clause-unchanged c = unchanged c.args.campaign.now

pub returns-in-Refused-clause-unchanged : goal.returns-in-Refused-clause-unchanged
returns-in-Refused-clause-unchanged c = unchanged c.args.campaign.now

pub returns-in-Refused-clause-prepared : goal.returns-in-Refused-clause-prepared
returns-in-Refused-clause-prepared c =
    (subst (IsDecision c.args.campaign.now c.decide.new.docnos c.args.core) c.in-Refused.is c.in_ok-refusal.ensures.decision, c.requires.idle)

-- how many entries there are
counted : (c : After-len) → c.len.result ≡ length c.args.campaign.now.history.items
counted c = omega (arith, c.len.ensures, c.args.campaign.now.history.ok.0)

pub overflow_cast-len : goal.overflow_cast-len
overflow_cast-len c = omega (arith, ints, counted c, c.requires.new.entries_fit)

pub overflow_add-len : goal.overflow_add-len
overflow_add-len c = omega (arith, ints, counted c, c.requires.new.entries_fit)

pub add_number-requires : goal.add_number-requires
add_number-requires c = λ number is.
    let H = c.args.campaign.now.history.items in
    let name = c.args.core.caller.name in
    ap (place_of_number name number) c.requires.new.numbers_are ∙ unused-kept H name number (ap (entry_of_number H name) (sym is) ∙ c.requires.new.unused)

pub reserve-requires-clause-fits : goal.reserve-requires-clause-fits
reserve-requires-clause-fits c =
    let campaign = c.args.campaign.now in
    let H = campaign.history.items in
    let names = c.decide.new.docnos in
    let e : Entry = record { core = c.args.core; reply = c.in-Accepted.reply } in
    let decided : IsDecision campaign names c.args.core (Accepted c.in-Accepted.reply c.in-Accepted.change) =
    subst (IsDecision campaign names c.args.core) c.in-Accepted.is c.in_ok-refusal.ensures.decision in
    let limits : IsWithinLimits H names c.args.core.command = subst (KeepsLimits H names c.args.core.command) c.in-Accepted.is c.in_ok-refusal.ensures.limits in
    fits H (facts campaign.assessment) c.requires.new.asked.known.assessed c.requires.new.entries_fit
    names e c.in-Accepted.change decided.0 limits.names_are decided.1

pub returns-in_ok-reserve-in-Accepted-clause-prepared : goal.returns-in_ok-reserve-in-Accepted-clause-prepared
returns-in_ok-reserve-in-Accepted-clause-prepared c =
    let campaign = c.args.campaign.now in
    let H = campaign.history.items in
    let names = c.decide.new.docnos in
    let decided : IsDecision campaign names c.args.core (Accepted c.in-Accepted.reply c.in-Accepted.change) =
    subst (IsDecision campaign names c.args.core) c.in-Accepted.is c.in_ok-refusal.ensures.decision in
    let limits : IsWithinLimits H names c.args.core.command = subst (KeepsLimits H names c.args.core.command) c.in-Accepted.is c.in_ok-refusal.ensures.limits in
    let place = ap (λ n. n + 1) (counted (goal.at.returns-in_ok-reserve-in-Accepted-clause-prepared c).After-len) in
    let numbers_are : c.add_number.new.numbers ≡ c.args.numbers.now ++ number_in (length H + 1) c.args.core =
    c.in_ok-add_number-in-Accepted.ensures.ok ∙ ap (λ n. c.args.numbers.now ++ number_in n c.args.core) place in
    prepared-entry campaign c.reserve.new.self c.args.docnos.now names c.args.numbers.now c.add_number.new.numbers
    c.args.core c.in_ok-told-in-Accepted.told c.in-Accepted.reply c.in-Accepted.change
    c.requires.new c.in_ok-reserve-in-Accepted.ensures.unchanged c.in_ok-reserve-in-Accepted.ensures.room
    c.in_ok-refusal.ensures.grown decided limits numbers_are c.in_ok-told-in-Accepted.ensures
