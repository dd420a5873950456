use Rattle.std.proofs.Common.{◌≡◌, ◌∙◌, ap, subst, sym}
use Rattle.std.specs.Prelude.{IfOk, IsTrue}
use Rattle.rulebook.specs.declared.ask.Ask.{Ask}
use Rattle.rulebook.specs.declared.ask.Ask.TheVariants.{Act}
use Rattle.rulebook.specs.Answers.{Answer, answer}
use Rattle.rulebook.specs.Campaign.{History}
use Rattle.rulebook.specs.Histories.Legal.{is_well_addressed}
use Rattle.rulebook.specs.Requests.Numbers.{entry_of_number}
use Rattle.campaign_core.specs.State.{IsVerdict}
use Rattle.campaign_core.proofs.Entries.CommandAnswers.{number-unused, told-again}
use Rattle.campaign_core.proofs.state.State.prepare.Goals as goal

pub prepare_command-requires : goal.prepare_command-requires
prepare_command-requires c =
    let who = c.args.who.now in
    let H = c.args.self.now.history in
    let none = sym c.in-None.is ∙ c.in_ok-reply-in-Act.ensures.reply in
    record {
      addressed = subst (λ (ask : Ask). IsTrue (is_well_addressed who c.args.number ask c.args.moment)) c.in-Act.is c.requires.addressed;
      unused = ap (λ (h : History). entry_of_number h who.name c.args.number) c.repeated.ensures.rest.history
          ∙ number-unused H who.name c.args.number c.in-Act.command none;
      none = c.repeated.ensures.rest.prepared;
    }

pub returns-in-Some-clause-verdict : goal.returns-in-Some-clause-verdict
returns-in-Some-clause-verdict c =
    let who = c.args.who.now in
    let H = c.args.self.now.history in
    let kept = sym c.in-Some.is ∙ c.in_ok-reply-in-Act.ensures.reply in
    let told = told-again H who c.args.number c.in-Act.command c.args.moment c.in-Some.reply kept in
    let asked : answer H who c.args.number (Act c.in-Act.command) c.args.moment ≡ answer H who c.args.number c.args.ask c.args.moment =
    ap (λ (ask : Ask). answer H who c.args.number ask c.args.moment) (sym c.in-Act.is) in
    (ap (λ (a : Answer). a.added) (sym asked) ∙ told.0, told.1 ∙ ap (λ (a : Answer). a.reply) asked, c.repeated.ensures.rest.prepared)

pub returns-in-None-clause-verdict : goal.returns-in-None-clause-verdict
returns-in-None-clause-verdict c =
    let who = c.args.who.now in
    let back = c.repeated.ensures.rest.history in
    let told = subst
    (λ (h : History). IfOk c.prepare_command.result
    (λ verdict. IsVerdict (answer h who c.args.number (Act c.in-Act.command) c.args.moment) verdict c.prepare_command.new.self.prepared))
    back c.prepare_command.ensures.verdict in
    subst (λ (ask : Ask). IfOk c.prepare_command.result
    (λ verdict. IsVerdict (answer c.args.self.now.history who c.args.number ask c.args.moment) verdict c.prepare_command.new.self.prepared))
    (sym c.in-Act.is) told
