-- The forms by which the code reads words are those of the commands.
use Rattle.std.proofs.Common.{◌≡◌, refl}
use Rattle.std.specs.Prelude.{map}
use Rattle.campaign_cli.specs.declared.words.TheConstants.{FORMS}
use Rattle.campaign_cli.specs.Requests.{form, forms}

pub code_forms : map (λ row. form row.0.now (map (λ name. name.now) row.1.now) (map (λ name. name.now) row.2.now)) FORMS ≡ forms
code_forms = refl
