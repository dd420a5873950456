use Rattle.std.proofs.Common.{◌≡◌, sym, subst}
use Rattle.std.proofs.lemmas.Result.{IfOk-weaker}
use Rattle.routes.specs.PathTable.RouteTable.{IsRow}
use Rattle.routes.proofs.PathTable.TableRows.{known_row}
use Rattle.routes.proofs.openings.find_place.Goals as goal

pub returns-in-Some-clause-known : goal.returns-in-Some-clause-known
returns-in-Some-clause-known c =
    IfOk-weaker c.with_parameter.result (λ found. found ≡ c.in-Some.place) IsRow
    (λ found same. subst IsRow (sym same) (known_row _ c.in-Some.place c.in-Some.ensures)) c.with_parameter.ensures.same
