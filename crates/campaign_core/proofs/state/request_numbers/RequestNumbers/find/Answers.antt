use Rattle.std.proofs.Common.{◌∙◌, ap}
use Rattle.std.specs.Map.{lookup}
use Rattle.rulebook.specs.Words.{Text}
use Rattle.campaign_core.specs.Numbering.NumberedRequests.{place_of_number}
use Rattle.campaign_core.proofs.Numbers.NumberTables.{is_key, lookup-place}
use Rattle.campaign_core.proofs.state.request_numbers.RequestNumbers.find.Goals as goal

pub returns : goal.returns
returns c =
    let entries = c.self.inside.places.entries in
    c.copied.ensures ∙ c.get.ensures.value
    ∙ ap (λ (name : Text). lookup (is_key name c.args.number) entries) c.in_ok-copy.ensures.copy
    ∙ lookup-place c.args.caller.now c.args.number entries
    ∙ ap (place_of_number c.args.caller.now c.args.number) c.self.view_is
