-- Who asks, and where: what is read of a request before its body.
use Rattle.std.specs.Prelude.{ℕ, Bool, ◌&&◌, List, [], ◌∷◌, Option, None, Some, Result, Ok, Err, codes, bytes_eq, length, nat_le, nat_lt}
use Rattle.std.specs.Str.Parse.{digits_value}
use Rattle.decimal_rank.specs.Decimals.DecimalText.{are_digits}
use Rattle.http_wire.specs.declared.messages.HttpField.{HttpField}
use Rattle.http_wire.specs.Heads.{values_named}
use Rattle.rulebook.specs.Requests.Limits.{number_bound}
use Rattle.routes.specs.declared.faults.RouteFault.{RouteFault}
use Rattle.routes.specs.declared.faults.RouteFault.TheVariants as faults
use Rattle.routes.specs.declared.keys.KeyRow.{KeyRow}
use Rattle.routes.specs.declared.route_table.Method.{Method}
use Rattle.routes.specs.declared.route_table.Method.TheVariants as methods
use Rattle.routes.specs.declared.route_table.Route.{Route}
use Rattle.routes.specs.Faults.{◌>>=◌, or_fault, demand}
use Rattle.routes.specs.Keys.{caller_with}
use Rattle.routes.specs.Limits.{most_number_digits}
use Rattle.routes.specs.PathTable.RouteTable.{parameter, fits, method_name, may_ask}
use Rattle.routes.specs.PathTable.Router.{matched_route}

-- which caller asks at which row, and with which number
pub record Opening : Type 0 where
  pub place : Route
  pub caller : KeyRow
  pub number : Option ℕ

-- The faults before the body, in their order: the route, its method, the key, the role of the key's caller, and the number.

abbrev pub with_parameter : List ℕ → Route → Result Route RouteFault
with_parameter text place = demand faults.Route (fits place.parameter text) place

-- the row of a path
abbrev pub route_of : List ℕ → Result Route RouteFault
route_of path = or_fault faults.Route (matched_route path) >>= with_parameter (parameter path)

abbrev pub with_method : List ℕ → Route → Result Route RouteFault
with_method method place = demand faults.Method (bytes_eq method (method_name place.method)) place

-- the caller of the one key that is given
abbrev pub one_caller : List KeyRow → List (List ℕ) → Result KeyRow RouteFault
one_caller keys [] = Err faults.Key
one_caller keys (key ∷ []) = or_fault faults.Key (caller_with keys key)
one_caller keys (_ ∷ _ ∷ _) = Err faults.Key

abbrev pub with_role : Route → KeyRow → Result KeyRow RouteFault
with_role place caller = demand faults.Role (may_ask caller.role place.askers) caller

-- the number of a command
abbrev pub is_request_number : List ℕ → Bool
is_request_number text = are_digits text && nat_le (length text) most_number_digits && nat_lt (digits_value 10 text) number_bound

abbrev pub with_number : List ℕ → Result (Option ℕ) RouteFault
with_number text = demand faults.Number (is_request_number text) (Some (digits_value 10 text))

-- the one number that is given, or none
abbrev pub one_number : List (List ℕ) → Result (Option ℕ) RouteFault
one_number [] = Ok None
one_number (text ∷ []) = with_number text
one_number (_ ∷ _ ∷ _) = Err faults.Number

abbrev pub number_in_fields : List HttpField → Result (Option ℕ) RouteFault
number_in_fields fields = one_number (values_named (codes "x-request-number") fields)

-- the number of a command; at a query the field isn't looked at
abbrev pub number_by_method : Method → List HttpField → Result (Option ℕ) RouteFault
number_by_method methods.Post fields = number_in_fields fields
number_by_method methods.Get fields = Ok None

-- what is read of a request's method, path and fields, or the first fault
unfoldable pub opening_of : List ℕ → List ℕ → List HttpField → List KeyRow → Result Opening RouteFault
opening_of method path fields keys = do
  place ← route_of path >>= with_method method
  caller ← one_caller keys (values_named (codes "x-campaign-key") fields) >>= with_role place
  number ← number_by_method place.method fields
  Ok (record { place = place; caller = caller; number = number })
