use Rattle.std.proofs.Common.{◌∙◌, ap, is_some, sym}
use Rattle.rulebook.specs.Requests.Numbers.{entry_of_number}
use Rattle.campaign_core.specs.Numbering.NumberedRequests.{place_of_number}
use Rattle.campaign_core.proofs.Entries.EnteredAgain.{used-there}
use Rattle.campaign_core.proofs.replays.is_used.Goals as goal

pub returns : goal.returns
returns c =
    let H = c.args.history.now in
    let name = c.args.core.now.caller.name in
    let number = c.in-Some.number in
    c.is_some.ensures ∙ ap is_some (c.in_ok-place.ensures ∙ ap (place_of_number name number) c.requires) ∙ used-there H name number
    ∙ ap (λ given. is_some (entry_of_number H name given)) (sym c.in-Some.is)
