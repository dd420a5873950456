-- What is read of a request may be answered.
use Rattle.std.proofs.Common.{◌≡◌, ℕ, ◌+◌, ◌≤◌, ◌∙◌, ◌&&◌, List, Option, Some, None, Ok, true, length, sym, arith, length-append, le-leb}
use Rattle.std.specs.Prelude.{IsTrue, nat_le}
use Rattle.std.proofs.lemmas.Bool.{and_from}
use Rattle.decimal_rank.proofs.Lists.{eight_bytes}
use Rattle.trec_formats.specs.Names.{is_name}
use Rattle.rulebook.specs.Requests.Limits.{max_moment, max_entry_bytes}
use Rattle.rulebook.specs.declared.ask.Ask.{Ask}
use Rattle.rulebook.specs.declared.ask.Ask.TheVariants.{Act, See}
use Rattle.rulebook.specs.declared.ask.Command.{Command}
use Rattle.rulebook.specs.declared.rules.Caller.{Caller}
use Rattle.rulebook.specs.Histories.Legal.{is_well_addressed, is_named, core_of}
use Rattle.rulebook.specs.Campaign.{may_give}
use Rattle.rulebook.specs.Requests.Roles.{may_see}
use Rattle.rulebook.specs.Spelling.{entry_bytes, command_bytes, number_bytes, is_number, is_plain, has_spelling}
use Rattle.routes.specs.declared.route_table.Question.TheVariants as question
use Rattle.routes.specs.declared.route_table.Route.{Route}
use Rattle.routes.specs.Asks.{HasSoundTopics}
use Rattle.routes.specs.Limits.{most_body}
use Rattle.routes.specs.PathTable.RoleRules.{rules_let}
use Rattle.routes.specs.PathTable.RouteTable.{Asks, IsRow, fits, may_ask}
use Rattle.routes.proofs.PathTable.RowAsks.{IsPlainAsk, agrees}
use Rattle.routes.proofs.Requests.NameSizes.{name_short}

number_short : (number : Option ℕ) → length (number_bytes number) ≤ 9
number_short None = omega arith
number_short (Some n) = omega (arith, eight_bytes n)

entry_short : (who : Caller) (number : Option ℕ) (moment : ℕ) (c : Command) → length who.name ≤ 32
    → length (entry_bytes (core_of who number moment c)) ≤ length (command_bytes c) + 100
entry_short who number moment c name = simp (length-append, eight_bytes) (omega (arith, name, number_short number))

-- what a role may ask and can be spelled is well addressed
addressed : (who : Caller) (number : Option ℕ) (ask : Ask) (moment : ℕ) → is_name who.name ≡ true → is_number number ≡ true → moment ≤ max_moment
    → rules_let who.role ask ≡ true → IsPlainAsk ask → IsTrue (is_well_addressed who number ask moment)
addressed who number (Act c) moment name numbered latest role is =
    let short : length (entry_bytes (core_of who number moment c)) ≤ max_entry_bytes =
    omega (arith, is.few, entry_short who number moment c (name_short who.name name)) in
    let named = and_from (is_name who.name) (is_number number) name numbered in
    let timed = and_from (is_name who.name && is_number number) (nat_le moment max_moment) named (le-leb moment max_moment latest) in
    let spelled = and_from (is_name who.name && is_number number && nat_le moment max_moment) (is_plain c) timed is.plain in
    let both = and_from (may_give who.role c) (has_spelling (core_of who number moment c)) role spelled in
    and_from (may_give who.role c && has_spelling (core_of who number moment c))
    (nat_le (length (entry_bytes (core_of who number moment c))) max_entry_bytes) both (le-leb _ max_entry_bytes short)
addressed who number (See q) moment name numbered latest role is =
    let named = and_from (may_see who.role q) (is_name who.name) role name in
    let plain = and_from (may_see who.role q && is_name who.name) (is_named q) named is in
    and_from (may_see who.role q && is_name who.name && is_named q) (nat_le moment max_moment) plain (le-leb moment max_moment latest)

pub addressed_at : (place : Route) (who : Caller) (number : Option ℕ) (text body : List ℕ) (ask : Ask) (moment : ℕ) → IsRow place
    → is_name who.name ≡ true → is_number number ≡ true → may_ask who.role place.askers ≡ true → fits place.parameter text ≡ true
    → Asks place.question text body (Ok ask) → (place.question ≡ question.Topics → HasSoundTopics ask) → length body ≤ most_body
    → moment ≤ max_moment → IsTrue (is_well_addressed who number ask moment)
addressed_at place who number text body ask moment known name numbered role fitting asks sound few latest =
    let may = (agrees place known).asked text body ask asks in
    addressed who number ask moment name numbered latest (sym (may.roles who.role) ∙ role) (may.plain fitting sound few)
