-- The paths of the table as routes, and the row of a path.
use Rattle.std.specs.Prelude.{ℕ, Bool, true, false, ◌&&◌, List, [], ◌∷◌, Option, None, Result, Ok, Err, is_none, if◌then◌else◌}
use Rattle.std.specs.Option.{option_map}
use Rattle.std.specs.List.{fold}
use Rattle.std.specs.Str.{is_utf8}
use Rattle.matchit.specs.Order.{placed}
use Rattle.matchit.specs.Rows.{RowsOf}
use Rattle.matchit.specs.Route.{Scan, parse_route}
use Rattle.matchit.specs.Router.{RouteOf, nearest, route_from}
use Rattle.matchit.specs.Seek.{first}
use Rattle.matchit.specs.declared.error.InsertError.{InsertError}
use Rattle.routes.specs.declared.route_table.Route.{Route}
use Rattle.routes.specs.PathTable.RouteTable.{rows}

abbrev pub Routes : Type 0
Routes = RowsOf (RouteOf Route)

-- the routes with one more, where its path can be read as a route's
abbrev pub with_read : Result Scan InsertError → Route → Routes → Routes
with_read (Ok s) place routes = placed (s.pattern, route_from s place) routes
with_read (Err e) place routes = routes

abbrev pub with_row_route : Routes → List ℕ × Route → Routes
with_row_route routes row = with_read (parse_route row.0) row.1 routes

-- whether a path that was read can be a route beside these, none of which it conflicts with
abbrev pub is_free_route : Result Scan InsertError → Routes → Bool
is_free_route (Ok s) routes = is_none (nearest s.pattern routes)
is_free_route (Err e) routes = false

-- whether each of these rows can, beside those before it
abbrev pub are_free : Routes → List (List ℕ × Route) → Bool
are_free routes [] = true
are_free routes (row ∷ later) = is_free_route (parse_route row.0) routes && are_free (with_row_route routes row) later

-- the paths of the table as routes of `matchit`
abbrev pub table : Routes
table = fold with_row_route [] rows

-- The row of a path, by the matching of `matchit`. A path that isn't UTF-8 has none.
abbrev pub matched_route : List ℕ → Option Route
matched_route path = if is_utf8 path then option_map (λ route. route.value) (first table path) else None
