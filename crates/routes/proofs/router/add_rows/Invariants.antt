-- The rows left are free, and added to the router as it is they give what all rows add to the first one.
use Rattle.std.proofs.Common.{◌≡◌, map, true, length}
use Rattle.std.specs.List.{fold}
use Rattle.routes.specs.PathTable.RouteTable.{route_at}
use Rattle.routes.specs.PathTable.Router.{are_free, with_row_route}
use Rattle.routes.proofs.router.add_rows.Given as goal

abbrev pub invariant-loop-rest : goal.invariant-loop-rest
invariant-loop-rest l = record {
  added : fold with_row_route l.initial.router (map (λ row. (row.0.now, route_at row.1 row.2 row.3 row.4)) l.rows)
      ≡ fold with_row_route l.router (map (λ row. (row.0.now, route_at row.1 row.2 row.3 row.4)) l.rest);
  free : are_free l.router (map (λ row. (row.0.now, route_at row.1 row.2 row.3 row.4)) l.rest) ≡ true;
}

abbrev pub decreases-loop-rest : goal.decreases-loop-rest
decreases-loop-rest l = length l.rest
