-- Each row of the table: who may ask what is asked there, that it can be spelled, and that the body of a GET isn't looked at.
use Rattle.std.proofs.Common.{◌≡◌, ◌≢◌, ◌≤◌, ◌∙◌, ◌^◌, ℕ, List, true, Option, Some, Ok, Result, length, map, refl, sym, subst, arith, length-append}
use Rattle.std.specs.Prelude.{nat_lt, option_and_then}
use Rattle.std.specs.List.{flat_map}
use Rattle.std.specs.Option.{option_map}
use Rattle.std.specs.Int.{to_le_bytes, w32}
use Rattle.std.specs.Str.Parse.{digits_value}
use Rattle.std.proofs.lemmas.Bool.{and_from, lt-ltb}
use Rattle.decimal_rank.proofs.Lists.{four_bytes, pairs_map}
use Rattle.trec_formats.specs.RunFormat.Lists.{IsRankedRun}
use Rattle.trec_formats.specs.Names.{is_name}
use Rattle.trec_formats.specs.TopicsFormat.SoundTopics.{AreSoundTopics}
use Rattle.trec_formats.specs.TopicsFormat.Topics.{IsTopics}
use Rattle.trec_formats.specs.declared.runs.lists.TopicList.{TopicList}
use Rattle.trec_formats.specs.declared.topics.Topic.{Topic}
use Rattle.rulebook.specs.declared.ask.Ask.{Ask}
use Rattle.rulebook.specs.declared.ask.Ask.TheVariants.{Act, See}
use Rattle.rulebook.specs.declared.ask.Command.{Command}
use Rattle.rulebook.specs.declared.ask.Command.TheVariants as command
use Rattle.rulebook.specs.declared.ask.Query.{Query}
use Rattle.rulebook.specs.declared.ask.Query.TheVariants as query
use Rattle.rulebook.specs.declared.rules.Role.{Role}
use Rattle.rulebook.specs.Histories.Legal.{is_named}
use Rattle.rulebook.specs.Campaign.{may_give}
use Rattle.rulebook.specs.Requests.Roles.{may_see}
use Rattle.rulebook.specs.Spelling.{command_bytes, is_plain, list_bytes, spelled_list, topic_bytes}
use Rattle.routes.specs.declared.faults.RouteFault.{RouteFault}
use Rattle.routes.specs.declared.faults.RouteFault.TheVariants as faults
use Rattle.routes.specs.declared.route_table.Method.TheVariants.{Get, Post}
use Rattle.routes.specs.declared.route_table.Question.TheVariants as question
use Rattle.routes.specs.declared.route_table.Route.{Route}
use Rattle.routes.specs.Asks.{HasSoundTopics}
use Rattle.routes.specs.Faults.{or_fault}
use Rattle.routes.specs.Json.Bodies.{Judgement, grade_in, json_of, judgement_in}
use Rattle.routes.specs.Limits.{most_body}
use Rattle.routes.specs.PathTable.RoleRules.{RolesAreTheRules, rules_let}
use Rattle.routes.specs.PathTable.RouteTable.{Asks, AsksSubmit, AsksTopics, IsRow, fits, is_path_number, may_ask, rows, with_nothing}
use Rattle.routes.proofs.PathTable.TableRows.{Each, of_row}
use Rattle.routes.proofs.Requests.BodyAsks.{grade_alone, judgement_doc, judgement_grade, lease_given, nothing_given, some_given}
use Rattle.routes.proofs.Requests.NameSizes.{docno_short, name_short}
use Rattle.routes.proofs.Requests.RunRequests.{differ_once, few_items, lists_are_plain}
use Rattle.routes.proofs.Requests.TopicSizes.{topics_short}

-- What can be spelled

pub record IsSpellable (c : Command) : Type 0 where
  pub plain : is_plain c ≡ true
  pub few : length (command_bytes c) ≤ 33000000

abbrev pub IsPlainAsk : Ask → Type 0
IsPlainAsk (Act c) = IsSpellable c
IsPlainAsk (See q) = is_named q ≡ true

topics_spelled : (body : List ℕ) (topics : List Topic) → IsTopics body topics → AreSoundTopics topics → length body ≤ most_body
    → IsSpellable (command.Topics topics)
topics_spelled body topics is sound few = record {
  plain = rw (counted, sound.each, differ_once (map (λ (t : Topic). t.id) topics) (pairs_map (λ (t : Topic). t.id) (λ a b. a ≢ b) topics sound.differ)) refl;
  few = omega (arith, few, topics_short body topics is);
}
  where
    counted : nat_lt (length topics) (2 ^ 32) ≡ true
    counted =
        let items = few_items topic_bytes topics (λ topic. omega arith) in
        let bytes = length-append (to_le_bytes w32 (length topics)) (flat_map topic_bytes topics) in
        lt-ltb (length topics) (2 ^ 32) (omega (arith, few, items, bytes, topics_short body topics is))

run_spelled : (run body : List ℕ) (lists : List TopicList) → is_name run ≡ true → IsRankedRun body lists → length body ≤ most_body
    → IsSpellable (command.Submit run lists)
run_spelled run body lists name ranked few =
    let plain = lists_are_plain body lists few ranked in
    record {
      plain = rw (name, plain.some, plain.each, plain.ascending) refl;
      few = omega (arith, few, name_short run name, plain.short, length-append run (spelled_list list_bytes lists));
    }

grade_spelled : (lease body : List ℕ) (grade : ℕ) → is_path_number lease ≡ true → option_and_then grade_in (json_of body) ≡ Some grade
    → IsSpellable (command.Grade (digits_value 10 lease) grade)
grade_spelled lease body grade number is = record {
  plain = and_from (nat_lt (digits_value 10 lease) (2 ^ 32)) (nat_lt grade 256) (lease_given lease number) (grade_alone body grade is);
  few = omega (arith, four_bytes (digits_value 10 lease));
}

doc_command_short : (topic doc : List ℕ) (grade : ℕ) → length topic ≤ 32 → length doc ≤ 64 → length (command_bytes (command.Amend topic doc grade)) ≤ 33000000
doc_command_short topic doc grade short_topic short_doc = simp length-append (omega (arith, short_topic, short_doc))

amendment_spelled : (topic body : List ℕ) (given : Judgement) → is_name topic ≡ true → option_and_then judgement_in (json_of body) ≡ Some given
    → IsSpellable (command.Amend topic given.doc given.grade)
amendment_spelled topic body given name is =
    let doc = judgement_doc body given is in
    record {
      plain = rw (name, doc, judgement_grade body given is) refl;
      few = doc_command_short topic given.doc given.grade (name_short topic name) (docno_short given.doc doc);
    }

ruling_spelled : (topic body : List ℕ) (given : Judgement) → is_name topic ≡ true → option_and_then judgement_in (json_of body) ≡ Some given
    → IsSpellable (command.Rule topic given.doc given.grade)
ruling_spelled topic body given name is =
    let same = amendment_spelled topic body given name is in record { plain = same.plain; few = same.few }

-- What holds of a row

-- The rules let those ask this that the row names, and it can be spelled where the path's parameter fits and the body isn't too long.
pub record MayBeAsked (place : Route) (text body : List ℕ) (ask : Ask) : Type 0 where
  pub roles : (role : Role) → may_ask role place.askers ≡ rules_let role ask
  pub plain : fits place.parameter text ≡ true → (place.question ≡ question.Topics → HasSoundTopics ask) → length body ≤ most_body → IsPlainAsk ask

pub record Agrees (place : Route) : Type 0 where
  -- whatever is asked there may be
  pub asked : (text body : List ℕ) (ask : Ask) → Asks place.question text body (Ok ask) → MayBeAsked place text body ask
  -- the body of a GET isn't looked at
  pub unread : place.method ≡ Get → (text body other : List ℕ) (result : Result Ask RouteFault) → Asks place.question text body result
      → Asks place.question text other result

is_command : (place : Route) (text body : List ℕ) (c : Command) (ask : Ask) → Act c ≡ ask → ((role : Role) → may_ask role place.askers ≡ may_give role c)
    → (fits place.parameter text ≡ true → (place.question ≡ question.Topics → HasSoundTopics (Act c)) → length body ≤ most_body → IsSpellable c)
    → MayBeAsked place text body ask
is_command place text body c ask is roles plain =
    let may : MayBeAsked place text body (Act c) = record { roles = roles; plain = plain } in subst (MayBeAsked place text body) is may

post_not_get : Post ≡ Get → ⊥
post_not_get is = cc

-- a row at which commands are given
commands_at : (place : Route) → place.method ≡ Post
    → ((text body : List ℕ) (ask : Ask) → Asks place.question text body (Ok ask) → MayBeAsked place text body ask) → Agrees place
commands_at place posted asked = record { asked = asked; unread = λ is. absurd (post_not_get (sym posted ∙ is)) }

-- one whose body is empty
bare_command_at : (place : Route) (make : List ℕ → Command) → place.method ≡ Post
    → ((text body : List ℕ) (ask : Ask) → Asks place.question text body (Ok ask) → Ok ask ≡ with_nothing body (Act (make text)))
    → ((text : List ℕ) (role : Role) → may_ask role place.askers ≡ may_give role (make text))
    → ((text : List ℕ) → fits place.parameter text ≡ true → IsSpellable (make text)) → Agrees place
bare_command_at place make posted asks roles spelled =
    commands_at place posted (λ text body ask given.
    is_command place text body (make text) ask (nothing_given body (Act (make text)) ask (asks text body ask given)) (roles text)
    (λ fitting sound few. spelled text fitting))

-- one whose body is an object
object_command_at : {X : Type 0} (place : Route) (found : List ℕ → Option X) (make : List ℕ → X → Command) → place.method ≡ Post
    → ((text body : List ℕ) (ask : Ask) → Asks place.question text body (Ok ask)
    → Ok ask ≡ or_fault faults.Body (option_map (λ x. Act (make text x)) (found body)))
    → ((text : List ℕ) (x : X) (role : Role) → may_ask role place.askers ≡ may_give role (make text x))
    → ((text body : List ℕ) (x : X) → fits place.parameter text ≡ true → found body ≡ Some x → IsSpellable (make text x)) → Agrees place
object_command_at place found make posted asks roles spelled =
    commands_at place posted (λ text body ask given.
    let (x, found_is, same) = some_given (found body) (λ x. Act (make text x)) ask (asks text body ask given) in
    is_command place text body (make text x) ask same (roles text x) (λ fitting sound few. spelled text body x fitting found_is))

topics_asked : (place : Route) (text body : List ℕ) (ask : Ask) → place.question ≡ question.Topics → AsksTopics body (Ok ask)
    → ((topics : List Topic) (role : Role) → may_ask role place.askers ≡ may_give role (command.Topics topics)) → MayBeAsked place text body ask
topics_asked place text body ask asked (topics, reading, is) roles =
    is_command place text body (command.Topics topics) ask (sym is) (roles topics)
    (λ fitting sound few. topics_spelled body topics reading (sound asked) few)

run_asked : (place : Route) (run body : List ℕ) (ask : Ask) → AsksSubmit run body (Ok ask)
    → ((lists : List TopicList) (role : Role) → may_ask role place.askers ≡ may_give role (command.Submit run lists))
    → (fits place.parameter run ≡ true → is_name run ≡ true) → MayBeAsked place run body ask
run_asked place run body ask (lists, ranked, is) roles named =
    is_command place run body (command.Submit run lists) ask (sym is) (roles lists)
    (λ fitting sound few. run_spelled run body lists (named fitting) ranked few)

ok_same : (a b : Ask) → ◌≡◌ {A = Result Ask RouteFault} (Ok a) (Ok b) → b ≡ a
ok_same a b is = cc

-- a row at which a query is asked
query_at : (place : Route) (make : List ℕ → Query)
    → ((text body : List ℕ) (result : Result Ask RouteFault) → Asks place.question text body result → result ≡ Ok (See (make text)))
    → ((text body : List ℕ) (result : Result Ask RouteFault) → result ≡ Ok (See (make text)) → Asks place.question text body result)
    → ((text : List ℕ) (role : Role) → may_ask role place.askers ≡ may_see role (make text))
    → ((text : List ℕ) → fits place.parameter text ≡ true → is_named (make text) ≡ true) → Agrees place
query_at place make told tells roles named = record {
  asked = λ text body ask given.
      let may : MayBeAsked place text body (See (make text)) = record { roles = roles text; plain = λ fitting sound few. named text fitting } in
      subst (MayBeAsked place text body) (ok_same ask (See (make text)) (told text body (Ok ask) given)) may;
  unread = λ is text body other result given. tells text other result (told text body result given);
}

-- Each row, in the order of the table

infixr 5 ◌&◌
-- what holds of a row, and of those behind it
◌&◌ : {A B : Type 0} → A → B → A × B
here & later = (here, later)

rows_agree : Each Agrees rows
rows_agree =
    commands_at _ refl (λ text body ask asks. topics_asked _ text body ask refl asks (λ topics role. refl))
    & commands_at _ refl (λ run body ask asks. run_asked _ run body ask asks (λ lists role. refl) (λ fitting. fitting))
    & bare_command_at _ (λ text. command.Open) refl (λ _ _ _ asks. asks) (λ text role. refl) (λ text fitting. record { plain = refl; few = omega arith })
    & bare_command_at _ (λ topic. command.Lease topic) refl (λ _ _ _ asks. asks) (λ topic role. refl)
    (λ topic fitting. record { plain = fitting; few = omega (arith, name_short topic fitting) })
    & object_command_at _ (λ body. option_and_then grade_in (json_of body)) (λ lease grade. command.Grade (digits_value 10 lease) grade) refl
    (λ _ _ _ asks. asks) (λ lease grade role. refl) grade_spelled
    & bare_command_at _ (λ lease. command.Release (digits_value 10 lease)) refl (λ _ _ _ asks. asks) (λ lease role. refl)
    (λ lease fitting. record { plain = lease_given lease fitting; few = omega (arith, four_bytes (digits_value 10 lease)) })
    & object_command_at _ (λ body. option_and_then judgement_in (json_of body)) (λ topic given. command.Amend topic given.doc given.grade) refl
    (λ _ _ _ asks. asks) (λ topic given role. refl) amendment_spelled
    & object_command_at _ (λ body. option_and_then judgement_in (json_of body)) (λ topic given. command.Rule topic given.doc given.grade) refl
    (λ _ _ _ asks. asks) (λ topic given role. refl) ruling_spelled
    & bare_command_at _ (λ run. command.Withdraw run) refl (λ _ _ _ asks. asks) (λ run role. refl)
    (λ run fitting. record { plain = fitting; few = omega (arith, name_short run fitting) })
    & bare_command_at _ (λ text. command.Publish) refl (λ _ _ _ asks. asks) (λ text role. refl) (λ text fitting. record { plain = refl; few = omega arith })
    & query_at _ (λ topic. query.Pool topic) (λ _ _ _ asks. asks) (λ _ _ _ asks. asks) (λ topic role. refl) (λ topic fitting. fitting)
    & query_at _ (λ text. query.Qrels) (λ _ _ _ asks. asks) (λ _ _ _ asks. asks) (λ text role. refl) (λ text fitting. refl)
    & query_at _ (λ run. query.Scores run) (λ _ _ _ asks. asks) (λ _ _ _ asks. asks) (λ run role. refl) (λ run fitting. fitting)
    & query_at _ (λ text. query.Table) (λ _ _ _ asks. asks) (λ _ _ _ asks. asks) (λ text role. refl) (λ text fitting. refl)
    & query_at _ (λ text. query.Disagreements) (λ _ _ _ asks. asks) (λ _ _ _ asks. asks) (λ text role. refl) (λ text fitting. refl)
    & query_at _ (λ text. query.Progress) (λ _ _ _ asks. asks) (λ _ _ _ asks. asks) (λ text role. refl) (λ text fitting. refl)
    & query_at _ (λ release. query.ReleaseQrels (digits_value 10 release)) (λ _ _ _ asks. asks) (λ _ _ _ asks. asks) (λ release role. refl)
    (λ release fitting. refl)
    & query_at _ (λ release. query.ReleaseScores (digits_value 10 release)) (λ _ _ _ asks. asks) (λ _ _ _ asks. asks) (λ release role. refl)
    (λ release fitting. refl)
    & tt

pub agrees : (place : Route) → IsRow place → Agrees place
agrees place known = of_row Agrees rows_agree place known

pub roles_same : RolesAreTheRules
roles_same place text body ask role known asks = ((agrees place known).asked text body ask asks).roles role
