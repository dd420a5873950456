-- A message that is read asks by its own number, and in the name of its key.
use Rattle.std.proofs.Common.{◌≡◌, ◌<◌, ◌^◌, ℕ, Bool, true, false, List, Err, Ok, Option, Result, Some, codes, decimal, refl, sym, ap, subst, arith, ◌∙◌}
use Rattle.std.specs.Str.{bytes_eq}
use Rattle.std.specs.Str.Parse.{digits_value}
use Rattle.std.proofs.lemmas.Fmt.{decimal_is_IsNumeral}
use Rattle.http_wire.specs.declared.messages.HttpField.{HttpField}
use Rattle.http_wire.specs.Heads.{values_named}
use Rattle.routes.specs.Asks.{Asked, Reads, ReadsBehind}
use Rattle.routes.specs.Faults.{◌>>=◌, demand, or_fault}
use Rattle.routes.specs.Keys.{caller_with}
use Rattle.routes.specs.Openings.{Opening, is_request_number, number_by_method, one_caller, opening_of, route_of, with_method, with_number, with_role}
use Rattle.routes.specs.PathTable.RouteTable.{may_ask, method_name}
use Rattle.routes.specs.declared.faults.RouteFault.{RouteFault}
use Rattle.routes.specs.declared.faults.RouteFault.TheVariants as faults
use Rattle.routes.specs.declared.keys.KeyRow.{KeyRow}
use Rattle.routes.specs.declared.route_table.Method.{Method}
use Rattle.routes.specs.declared.route_table.Method.TheVariants.{Get, Post}
use Rattle.routes.specs.declared.route_table.Route.{Route}
use Rattle.drill.specs.Messages.{IsSendable, Message, callers}
use Rattle.drill.proofs.OwnMessages.OwnRequests.{sent_request}
use Rattle.drill.proofs.VisibleTexts.{decimal_visible, trimmed}

demanded : {A : Type 0} (cause : RouteFault) (test : Bool) (x y : A) → demand cause test x ≡ Ok y → y ≡ x
demanded cause true x y is = let same : x ≡ y = cc in sym same
demanded cause false x y is = cc

-- what an opening was made of
pub record IsMadeOf (place : Result Route RouteFault) (row : Route → Result KeyRow RouteFault) (number : Route → Result (Option ℕ) RouteFault)
    (opening : Opening) : Type 0 where
  pub place_is : place ≡ Ok opening.place
  pub row_is : row opening.place ≡ Ok opening.caller
  pub number_is : number opening.place ≡ Ok opening.number

made_of : (place : Result Route RouteFault) (row : Route → Result KeyRow RouteFault) (number : Route → Result (Option ℕ) RouteFault) (opening : Opening)
    → (place >>= λ p. row p >>= λ r. number p >>= λ n. Ok (record { place = p; caller = r; number = n })) ≡ Ok opening → IsMadeOf place row number opening
made_of (Err cause) row number opening is = cc
made_of (Ok place) row number opening is = by_row (row place) refl is
  where
    by_number : (r : KeyRow) (given : Result (Option ℕ) RouteFault) → row place ≡ Ok r → number place ≡ given
        → (given >>= λ n. Ok (record { place = place; caller = r; number = n })) ≡ Ok opening → IsMadeOf (Ok place) row number opening
    by_number r (Err cause) row_is number_is is = cc
    by_number r (Ok n) row_is number_is is =
        let same : (let made : Opening = record { place = place; caller = r; number = n } in made) ≡ opening = cc in
        subst (λ (o : Opening). IsMadeOf (Ok place) row number o) same (record { place_is = refl; row_is = row_is; number_is = number_is })

    by_row : (given : Result KeyRow RouteFault) → row place ≡ given
        → (given >>= λ r. number place >>= λ n. Ok (record { place = place; caller = r; number = n })) ≡ Ok opening → IsMadeOf (Ok place) row number opening
    by_row (Err cause) row_is is = cc
    by_row (Ok r) row_is is = by_number r (number place) row_is refl is

opened : (method path : List ℕ) (fields : List HttpField) (keys : List KeyRow) (opening : Opening) → opening_of method path fields keys ≡ Ok opening
    → IsMadeOf (route_of path >>= with_method method) (λ place. one_caller keys (values_named (codes "x-campaign-key") fields) >>= with_role place)
    (λ place. number_by_method place.method fields) opening
unfolding opening_of
opened method path fields keys opening is =
    made_of (route_of path >>= with_method method) (λ place. one_caller keys (values_named (codes "x-campaign-key") fields) >>= with_role place)
    (λ place. number_by_method place.method fields) opening is

posted : (found : Result Route RouteFault) (place : Route) → (found >>= with_method (codes "POST")) ≡ Ok place → place.method ≡ Post
posted (Err cause) place is = cc
posted (Ok found) place is = by found.method refl is
  where
    by : (method : Method) → found.method ≡ method → demand faults.Method (bytes_eq (codes "POST") (method_name method)) found ≡ Ok place → place.method ≡ Post
    by Post method_is is = ap (λ (p : Route). p.method) (demanded faults.Method true found place is) ∙ method_is
    by Get method_is is = cc

module _ (message : Message) (is : IsSendable message) (row : KeyRow) (row_is : caller_with callers message.key ≡ Some row) where
  abbrev fields : List HttpField
  fields = (sent_request message).fields

  small : message.number < 2 ^ 64
  small = omega (arith, is.number)

  its-row : (place : Route) (found : KeyRow) → (one_caller callers (values_named (codes "x-campaign-key") fields) >>= with_role place) ≡ Ok found → found ≡ row
  its-row place found given =
      let read : (Ok row >>= with_role place) ≡ Ok found =
      ap (λ o. or_fault faults.Key o >>= with_role place) (sym row_is)
      ∙ ap (λ key. or_fault faults.Key (caller_with callers key) >>= with_role place) (sym (trimmed message.key is.key.visible))
      ∙ given in
      demanded faults.Role (may_ask row.role place.askers) row found read

  its-number : (method : Method) (number : Option ℕ) → method ≡ Post → number_by_method method fields ≡ Ok number → number ≡ Some message.number
  its-number method number post given =
      let text = decimal message.number in
      let shown = decimal_visible message.number small in
      let read : with_number text ≡ Ok number =
      ap with_number (sym (trimmed text shown)) ∙ ap (λ m. number_by_method m fields) (sym post) ∙ given in
      demanded faults.Number (is_request_number text) (Some (digits_value 10 text)) number read
      ∙ ap (λ n. let o : Option ℕ = Some n in o) (decimal_is_IsNumeral message.number small).1

  pub asked-own : (asked : Asked) → Reads (sent_request message) callers (Ok asked) → (asked.0.name ≡ row.name) × (asked.1 ≡ Some message.number)
  asked-own asked reads = behind (opening_of (codes "POST") message.path fields callers) refl reads
    where
      behind : (found : Result Opening RouteFault) → opening_of (codes "POST") message.path fields callers ≡ found
          → ReadsBehind found (sent_request message) (Ok asked)
          → (asked.0.name ≡ row.name) × (asked.1 ≡ Some message.number)
      behind (Err cause) found_is wrong = cc wrong
      behind (Ok opening) found_is (ask, asks, made) =
          let parts = opened (codes "POST") message.path fields callers opening found_is in
          let its = its-row opening.place opening.caller parts.row_is in
          let numbered = its-number opening.place.method opening.number (posted (route_of message.path) opening.place parts.place_is) parts.number_is in
          (ap (λ (a : Asked). a.0.name) made ∙ ap (λ (r : KeyRow). r.name) its, ap (λ (a : Asked). a.1) made ∙ numbered)
