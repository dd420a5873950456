use Rattle.std.proofs.Common.{◌≡◌, ◌∙◌, ◌++◌, ◌∷◌, [], None, ap, map}
use Rattle.std.proofs.lemmas.List.{map-append}
use Rattle.indexmap.proofs.CallerLemmas.{insert_entry-new}
use Rattle.std.specs.Map.{lookup}
use Rattle.campaign_core.specs.Numbering.NumberedRequests.{numbered_at, place_of_number}
use Rattle.campaign_core.proofs.Numbers.NumberTables.{is_key, lookup-place, shown}
use Rattle.campaign_core.proofs.state.request_numbers.RequestNumbers.add.Goals as goal

pub returns-clause-ok : goal.returns-clause-ok
returns-clause-ok c =
    let table = c.self.inside.places in
    let name = c.args.caller in
    let number = c.args.number in
    let none : lookup (is_key name number) table.entries ≡ None = lookup-place name number table.entries
    ∙ ap (place_of_number name number) c.self.view_is ∙ c.requires in
    ap (map shown) (c.in_ok-insert.ensures.entries
    ∙ insert_entry-new (λ a b. is_key a.0 a.1 b) table (name, number) c.args.place none)
    ∙ map-append shown table.entries (((name, number), c.args.place) ∷ [])
    ∙ ap (λ all. all ++ numbered_at c.args.place name number ∷ []) c.self.view_is
