-- The rows that the code adds are those of the table.
use Rattle.std.proofs.Common.{◌≡◌, [], ap, refl}
use Rattle.std.specs.Prelude.{map}
use Rattle.std.specs.List.{fold}
use Rattle.routes.specs.declared.route_table.TheConstants.{ROWS}
use Rattle.routes.specs.PathTable.RouteTable.{route_at, rows}
use Rattle.routes.specs.PathTable.Router.{table, with_row_route}

code_rows : map (λ row. (row.0.now, route_at row.1 row.2 row.3 row.4)) ROWS ≡ rows
code_rows = refl

pub code_table : fold with_row_route [] (map (λ row. (row.0.now, route_at row.1 row.2 row.3 row.4)) ROWS) ≡ table
code_table = ap (λ all. fold with_row_route [] all) code_rows
