use Rattle.std.proofs.Common.{◌≡◌, ◌∙◌, None, Option, Some, ap, sym, ℕ}
use Rattle.std.specs.List.{position}
use Rattle.std.specs.Str.{bytes_eq}
use Rattle.rulebook.specs.Campaign.{History, Run, runs}
use Rattle.rulebook.specs.Words.{Text}
use Rattle.campaign_core.proofs.Entries.Runs.WithdrawalSteps.{flag-at}
use Rattle.campaign_core.proofs.Rulings.RunRulings.{asked-another, asked-live, asked-unknown, asked-withdrawn}
use Rattle.campaign_core.proofs.campaign.submissions.run_asked.Goals as goal

found : (H : History) (place : Option ℕ) (name given : Text) → given ≡ name → place ≡ position (λ (run : Run). bytes_eq run.name given) (runs H)
    → place ≡ position (λ (run : Run). bytes_eq run.name name) (runs H)
found H place name given same is = is ∙ ap (λ (name : Text). position (λ (run : Run). bytes_eq run.name name) (runs H)) same

pub returns-in_default : goal.returns-in_default
returns-in_default c =
    asked-unknown c.args.history.now c.args.who.now c.args.name.now
    (found c.args.history.now None c.args.name.now c.bytes.result.now c.bytes.ensures c.in_default.ensures)

pub returns-then-is_another_group : goal.returns-then-is_another_group
returns-then-is_another_group c =
    asked-another c.args.history.now c.args.who.now c.args.name.now c.in-Some.number
    (found c.args.history.now (Some c.in-Some.number) c.args.name.now c.bytes.result.now c.bytes.ensures c.in-Some.ensures) c.if-is_another_group.ensures

pub returns-then-submissions-number : goal.returns-then-submissions-number
returns-then-submissions-number c =
    let first = found c.args.history.now (Some c.in-Some.number) c.args.name.now c.bytes.result.now c.bytes.ensures c.in-Some.ensures in
    asked-withdrawn c.args.history.now c.args.who.now c.args.name.now c.in-Some.number first c.if-is_another_group.ensures
    (sym c.if-submissions-number.true ∙ flag-at c.args.history.now c.args.submissions.now c.args.name.now c.in-Some.number _ c.requires first)

pub returns : goal.returns
returns c =
    let first = found c.args.history.now (Some c.in-Some.number) c.args.name.now c.bytes.result.now c.bytes.ensures c.in-Some.ensures in
    asked-live c.args.history.now c.args.who.now c.args.name.now c.in-Some.number first c.if-is_another_group.ensures
    (sym c.if-submissions-number.false ∙ flag-at c.args.history.now c.args.submissions.now c.args.name.now c.in-Some.number _ c.requires first)
