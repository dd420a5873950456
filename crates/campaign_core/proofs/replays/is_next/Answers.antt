use Rattle.std.proofs.Common.{◌≡◌, ◌<◌, ◌∙◌, ap, arith, false, is_some, length, sym, true}
use Rattle.rulebook.specs.declared.limits.TheConstants.{MAX_ENTRIES}
use Rattle.rulebook.specs.Campaign.{History}
use Rattle.rulebook.specs.Requests.Numbers.{entry_of_number}
use Rattle.campaign_core.proofs.Entries.EnteredAgain.{full-again, next-by, unused-yet, used-again}
use Rattle.campaign_core.proofs.replays.is_next.Goals as goal

pub returns-then-used : goal.returns-then-used
returns-then-used c =
    let H = c.args.campaign.now.history.items in
    let core = c.args.core.now in
    let is : is_some (entry_of_number H core.caller.name core.number) ≡ true =
    ap (λ (h : History). is_some (entry_of_number h core.caller.name core.number)) (sym c.deref.ensures.value) ∙ sym c.in_ok-used.ensures ∙ c.if-used.true in
    used-again H core is

pub returns-then-len : goal.returns-then-len
returns-then-len c =
    let H = c.args.campaign.now.history.items in
    let core = c.args.core.now in
    let is : is_some (entry_of_number H core.caller.name core.number) ≡ false =
    ap (λ (h : History). is_some (entry_of_number h core.caller.name core.number)) (sym c.deref.ensures.value) ∙ sym c.in_ok-used.ensures ∙ c.if-used.false in
    let full : length H ≡ MAX_ENTRIES = omega (arith, c.if-len.true, c.len.ensures, c.args.campaign.now.history.ok.0) in
    full-again H core (unused-yet H core is) full

pub returns : goal.returns
returns c =
    let H = c.args.campaign.now.history.items in
    let core = c.args.core.now in
    let is : is_some (entry_of_number H core.caller.name core.number) ≡ false =
    ap (λ (h : History). is_some (entry_of_number h core.caller.name core.number)) (sym c.deref.ensures.value) ∙ sym c.in_ok-used.ensures ∙ c.if-used.false in
    let few : length H < MAX_ENTRIES = omega (arith, c.if-len.false, c.len.ensures, c.args.campaign.now.history.ok.0, c.requires.known.entries_fit) in
    next-by H core c.moment_after.result (unused-yet H core is) few c.moment_after.ensures
