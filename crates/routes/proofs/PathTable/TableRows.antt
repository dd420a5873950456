-- The rows of the table: what holds of each of them holds of a row, and a path leads to one of them.
use Rattle.std.proofs.Common.{◌≡◌, inl, inr, ℕ, Bool, true, false, List, [], ◌∷◌, Option, Some, None, Ok, Err, Result, cond, refl, sym, subst, fold, zero, suc, ◌-◌, ◌==◌, length}
use Rattle.std.specs.Prelude.{IfSome, IsTrue, ltb}
use Rattle.std.specs.Option.{option_map}
use Rattle.matchit.specs.Order.{placed}
use Rattle.matchit.specs.Rows.{catch_all_token, comes_before, param_token}
use Rattle.matchit.specs.Route.{Scan, parse_route}
use Rattle.matchit.specs.Router.{RouteOf, route_from}
use Rattle.matchit.specs.Seek.{first, has_slash, longest_suffix, or_else, own, param_step, same_text, seek, segment, step, with_suffix}
use Rattle.matchit.specs.declared.error.InsertError.{InsertError}
use Rattle.routes.specs.declared.route_table.Route.{Route}
use Rattle.routes.specs.declared.route_table.Parameter.TheVariants.{Number}
use Rattle.routes.specs.declared.route_table.Question.{Question}
use Rattle.routes.specs.PathTable.RouteTable.{Among, IsRow, fits, is_path_number, rows}
use Rattle.routes.specs.PathTable.Router.{Routes, table, with_read, with_row_route}

-- What holds of each row

abbrev pub Each : (Route → Type 0) → List (List ℕ × Route) → Type 0
Each P [] = Unit {0}
Each P (row ∷ others) = P row.1 × Each P others

-- of one among them
each_among : (P : Route → Type 0) (all : List (List ℕ × Route)) → Each P all → (place : Route) → Among place all → P place
each_among P [] each place among = absurd among
each_among P (row ∷ others) (here, later) place (inl is) = subst P is here
each_among P (row ∷ others) (here, later) place (inr among) = each_among P others later place among

-- of a row of the table
pub of_row : (P : Route → Type 0) → Each P rows → (place : Route) → IsRow place → P place
unfolding IsRow
of_row P each place known = each_among P rows each place known

-- a row's parameter is a number where it is one at each row at which the same is asked
pub numbered : (q : Question) → Each (λ row. row.question ≡ q → row.parameter ≡ Number) rows
    → (place : Route) → IsRow place → place.question ≡ q → (text : List ℕ) → IsTrue (fits place.parameter text) → IsTrue (is_path_number text)
numbered q each place known is text fitting =
    let number = of_row (λ row. row.question ≡ q → row.parameter ≡ Number) each place known is in rw number at fitting

-- A path leads to a row of the table

-- what holds of the values of all routes holds of the one that a path leads to

module _ (P : Route → Type 0) where
  abbrev EachRoute : Routes → Type 0
  EachRoute [] = Unit {0}
  EachRoute ((pattern, route) ∷ others) = P route.value × EachRoute others

  own_holds : (routes : Routes) → EachRoute routes → IfSome (own routes) (λ route. P route.value)
  own_holds [] each = tt
  own_holds (([], route) ∷ others) (here, later) = here
  own_holds ((x ∷ t, route) ∷ others) (here, later) = own_holds others later

  step_holds : (b : ℕ) (routes : Routes) → EachRoute routes → EachRoute (step b routes)
  step_holds b [] each = tt
  step_holds b (([], route) ∷ others) (here, later) = step_holds b others later
  step_holds b ((x ∷ t, route) ∷ others) (here, later) = by (x == b) here (step_holds b others later)
    where
      by : (same : Bool) → P route.value → EachRoute (step b others) → EachRoute (cond same ((t, route) ∷ step b others) (step b others))
      by true now rest = (now, rest)
      by false now rest = rest

  suffix_holds : (suffix : List ℕ) (routes : Routes) → EachRoute routes → EachRoute (with_suffix suffix routes)
  suffix_holds suffix [] each = tt
  suffix_holds suffix ((t, route) ∷ others) (here, later) = by (same_text (segment t) suffix) here (suffix_holds suffix others later)
    where
      by : (b : Bool) → P route.value → EachRoute (with_suffix suffix others)
          → EachRoute (cond b ((t, route) ∷ with_suffix suffix others) (with_suffix suffix others))
      by true now rest = (now, rest)
      by false now rest = rest

  param_holds : (routes : Routes) (path : List ℕ) → EachRoute routes → EachRoute (param_step routes path).1
  unfolding param_step
  param_holds routes path each =
      by (ltb 0 (length (longest_suffix (segment path) routes))) (has_slash path) (suffix_holds (longest_suffix (segment path) routes) routes each)
    where
      by : (a b : Bool) → EachRoute (with_suffix (longest_suffix (segment path) routes) routes)
          → EachRoute (cond {A = ℕ × Routes} a
          (length (segment path) - length (longest_suffix (segment path) routes), with_suffix (longest_suffix (segment path) routes) routes)
          (cond {A = ℕ × Routes} b (0, []) (length path, routes))).1
      by true b rest = rest
      by false true rest = tt
      by false false rest = each

  or_holds : (a b : Option (RouteOf Route)) → IfSome a (λ route. P route.value) → IfSome b (λ route. P route.value)
      → IfSome (or_else a b) (λ route. P route.value)
  or_holds None b first second = second
  or_holds (Some route) b first second = first

  seek_holds : (path : List ℕ) (skip : ℕ) (routes : Routes) → EachRoute routes → IfSome (seek skip routes path) (λ route. P route.value)
  unfolding seek
  seek_holds [] skip routes each = own_holds routes each
  seek_holds (b ∷ path) (suc skip) routes each = seek_holds path skip routes each
  seek_holds (b ∷ path) zero routes each =
      or_holds (seek 0 (step b routes) path) _ (seek_holds path 0 (step b routes) (step_holds b routes each))
      (or_holds (seek ((param_step (step param_token routes) (b ∷ path)).0 - 1) (param_step (step param_token routes) (b ∷ path)).1 path)
      (own (step catch_all_token routes))
      (seek_holds path ((param_step (step param_token routes) (b ∷ path)).0 - 1) (param_step (step param_token routes) (b ∷ path)).1
      (param_holds (step param_token routes) (b ∷ path) (step_holds param_token routes each)))
      (own_holds (step catch_all_token routes) (step_holds catch_all_token routes each)))

  placed_holds : (pattern : List ℕ) (route : RouteOf Route) (routes : Routes) → P route.value → EachRoute routes → EachRoute (placed (pattern, route) routes)
  placed_holds pattern route [] here each = (here, tt)
  placed_holds pattern route ((t, other) ∷ others) here (now, later) = by (comes_before pattern t) (placed_holds pattern route others here later)
    where
      by : (b : Bool) → EachRoute (placed (pattern, route) others)
          → EachRoute (cond b ((pattern, route) ∷ (t, other) ∷ others) ((t, other) ∷ placed (pattern, route) others))
      by true rest = (here, (now, later))
      by false rest = (now, rest)

  read_holds : (found : Result Scan InsertError) (place : Route) (routes : Routes) → P place → EachRoute routes → EachRoute (with_read found place routes)
  read_holds (Ok s) place routes here each = placed_holds s.pattern (route_from s place) routes here each
  read_holds (Err e) place routes here each = each

  routes_hold : (all : List (List ℕ × Route)) (routes : Routes) → Each P all → EachRoute routes → EachRoute (fold with_row_route routes all)
  routes_hold [] routes each known = known
  routes_hold (row ∷ others) routes (here, later) known =
      routes_hold others (with_row_route routes row) later (read_holds (parse_route row.0) row.1 routes here known)

each_more : (P Q : Route → Type 0) (all : List (List ℕ × Route)) → ((place : Route) → P place → Q place) → Each P all → Each Q all
each_more P Q [] more each = tt
each_more P Q (row ∷ others) more (here, later) = (more row.1 here, each_more P Q others more later)

all_among : (all : List (List ℕ × Route)) → Each (λ place. Among place all) all
all_among [] = tt
all_among (row ∷ others) =
    (inl refl, each_more (λ place. Among place others) (λ place. Among place (row ∷ others)) others (λ place among. inr among) (all_among others))

found_value : (P : Route → Type 0) (found : Option (RouteOf Route)) → IfSome found (λ route. P route.value) → IfSome (option_map (λ route. route.value) found) P
found_value P None known = tt
found_value P (Some route) known = known

-- a path leads to a row of the table
matched_known : (path : List ℕ) → IfSome (option_map (λ route. route.value) (first table path)) IsRow
unfolding IsRow
matched_known path = found_value IsRow (first table path) (seek_holds IsRow path 0 table (routes_hold IsRow rows [] (all_among rows) tt))

pub known_row : (path : List ℕ) (place : Route) → Some place ≡ option_map (λ route. route.value) (first table path) → IsRow place
known_row path place is = subst (λ found. IfSome found IsRow) (sym is) (matched_known path)
