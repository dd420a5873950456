-- The roles of the table are those of the rules.
use Rattle.std.specs.Prelude.{◌≡◌, ℕ, Bool, List, Ok}
use Rattle.rulebook.specs.declared.ask.Ask.{Ask}
use Rattle.rulebook.specs.declared.ask.Ask.TheVariants.{Act, See}
use Rattle.rulebook.specs.declared.rules.Role.{Role}
use Rattle.rulebook.specs.Campaign.{may_give}
use Rattle.rulebook.specs.Requests.Roles.{may_see}
use Rattle.routes.specs.declared.route_table.Route.{Route}
use Rattle.routes.specs.PathTable.RouteTable.{Asks, IsRow, may_ask}

-- whether the rules let a role ask this
abbrev pub rules_let : Role → Ask → Bool
rules_let role (Act c) = may_give role c
rules_let role (See q) = may_see role q

-- what is asked at a row of the table may be asked there by the roles that the rules let ask it, and by no others
abbrev pub RolesAreTheRules : Type 0
RolesAreTheRules =
    (place : Route) (text body : List ℕ) (ask : Ask) (role : Role) → IsRow place → Asks place.question text body (Ok ask)
    → may_ask role place.askers ≡ rules_let role ask
