use Rattle.std.proofs.Common.{◌∙◌, sym, ap, List}
use Rattle.std.specs.Prelude.{map, string_bytes}
use Rattle.std.specs.Option.{option_map_or}
use Rattle.command_words.specs.Words.{Form, given_by}
use Rattle.campaign_cli.specs.Requests.{Nothing, request_by_name}
use Rattle.campaign_cli.proofs.CodeForms.{code_forms}
use Rattle.campaign_cli.proofs.words.read_words.Goals as goal

pub returns-in-Some-clause-asked : goal.returns-in-Some-clause-asked
returns-in-Some-clause-asked c =
    ap (λ (forms : List Form). option_map_or request_by_name (given_by forms (map string_bytes c.args.words.now)) Nothing) (sym code_forms)
    ∙ ap (λ found. option_map_or request_by_name found Nothing) (sym (rw c.in-Some.is at c.in_ok-found.ensures)) ∙ sym c.command_of.ensures.request

pub returns-in-None-clause-asked : goal.returns-in-None-clause-asked
returns-in-None-clause-asked c =
    ap (λ (forms : List Form). option_map_or request_by_name (given_by forms (map string_bytes c.args.words.now)) Nothing) (sym code_forms)
    ∙ ap (λ found. option_map_or request_by_name found Nothing) (sym (rw c.in-None.is at c.in_ok-found.ensures))
