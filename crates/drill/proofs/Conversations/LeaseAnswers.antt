-- The answer to a request that adds nothing doesn't tell a lease, unless its number was used.
use Rattle.std.proofs.Common.{◌≡◌, ◌+◌, ◌<◌, ◌^◌, ℕ, nat_eq, Bool, true, false, List, [], ◌++◌, None, Option, Some, codes, decimal, map, refl, sym, ap, subst, arith, append_assoc, ◌∙◌}
use Rattle.std.specs.Prelude.{if◌then◌else◌, option_and_then}
use Rattle.std.specs.List.{starts_with}
use Rattle.std.specs.Int.Digits.{digits_of}
use Rattle.std.proofs.lemmas.Fmt.{decimal-digits_of}
use Rattle.routes.specs.Answers.{refusal_status, reply_status, route_status}
use Rattle.routes.specs.declared.faults.RouteFault.{RouteFault}
use Rattle.routes.specs.declared.faults.RouteFault.TheVariants as route
use Rattle.rulebook.specs.Answers.{answer}
use Rattle.rulebook.specs.Campaign.{History}
use Rattle.rulebook.specs.Requests.Numbers.{entry_of_number}
use Rattle.rulebook.specs.declared.ask.Ask.{Ask}
use Rattle.rulebook.specs.declared.ask.Ask.TheVariants.{Act, See}
use Rattle.rulebook.specs.declared.reply.Refusal.{Refusal}
use Rattle.rulebook.specs.declared.reply.Refusal.TheVariants as refusal
use Rattle.rulebook.specs.declared.reply.Reply.{Reply}
use Rattle.rulebook.specs.declared.reply.Reply.TheVariants as reply
use Rattle.rulebook.specs.declared.rules.Caller.{Caller}
use Rattle.campaign_server.specs.Conversations.Stories.{is_query}
use Rattle.drill.specs.Answers.{behind_part, four_digit_number, leased_doc}
use Rattle.drill.proofs.Conversations.OwnEntries.{refusing}

-- what begins with this status doesn't begin with 201
abbrev pub IsOther : ℕ → Type 0
IsOther status = (rest : List ℕ) → starts_with nat_eq (codes "HTTP/1.1 " ++ (decimal status ++ rest)) (codes "HTTP/1.1 201 ") ≡ false

other : (status : ℕ) → 0 < status → status < 2 ^ 64
    → ((rest : List ℕ) → starts_with nat_eq (codes "HTTP/1.1 " ++ (map (λ d. 48 + d) (digits_of 10 status) ++ rest)) (codes "HTTP/1.1 201 ") ≡ false)
    → IsOther status
other status some small differs rest =
    ap (λ digits. starts_with nat_eq (codes "HTTP/1.1 " ++ (digits ++ rest)) (codes "HTTP/1.1 201 ")) (decimal-digits_of status some small) ∙ differs rest

ok : IsOther 200
ok = other 200 (omega arith) (omega arith) (λ rest. refl)

bad : IsOther 400
bad = other 400 (omega arith) (omega arith) (λ rest. refl)

unauthorized : IsOther 401
unauthorized = other 401 (omega arith) (omega arith) (λ rest. refl)

forbidden : IsOther 403
forbidden = other 403 (omega arith) (omega arith) (λ rest. refl)

missing : IsOther 404
missing = other 404 (omega arith) (omega arith) (λ rest. refl)

not_allowed : IsOther 405
not_allowed = other 405 (omega arith) (omega arith) (λ rest. refl)

conflict : IsOther 409
conflict = other 409 (omega arith) (omega arith) (λ rest. refl)

too_many : IsOther 429
too_many = other 429 (omega arith) (omega arith) (λ rest. refl)

unavailable : IsOther 503
unavailable = other 503 (omega arith) (omega arith) (λ rest. refl)

short_of_memory : IsOther 507
short_of_memory = other 507 (omega arith) (omega arith) (λ rest. refl)

refusal-other : (r : Refusal) → IsOther (refusal_status r)
refusal-other refusal.UnknownTopic = missing
refusal-other refusal.UnknownRun = missing
refusal-other refusal.UnknownLease = missing
refusal-other refusal.NotYours = forbidden
refusal-other (refusal.WrongPhase p) = conflict
refusal-other refusal.TagTaken = conflict
refusal-other refusal.TopicsFixed = conflict
refusal-other refusal.NothingLeft = conflict
refusal-other (refusal.TooMany live) = too_many
refusal-other (refusal.Expired until) = conflict
refusal-other refusal.Ended = conflict
refusal-other refusal.GradeRange = bad
refusal-other refusal.NotLabelled = conflict
refusal-other refusal.Withdrawn = conflict
refusal-other (refusal.Reused entry) = conflict
refusal-other (refusal.Limit which) = conflict
refusal-other refusal.UnknownRelease = missing
refusal-other (refusal.LineTopic line) = bad

query-other : (r : Reply) → IsOther (reply_status r true)
query-other reply.Done = ok
query-other (reply.Topics topics) = ok
query-other (reply.Submitted run topics lines) = ok
query-other (reply.Leased lease topic doc until title) = ok
query-other (reply.Graded topic doc grade) = ok
query-other (reply.Pool topic docs) = ok
query-other (reply.Page text) = ok
query-other (reply.Refused r) = refusal-other r

pub route-other : (cause : RouteFault) → IsOther (route_status cause)
route-other route.Route = missing
route-other route.Method = not_allowed
route-other route.Key = unauthorized
route-other route.Role = forbidden
route-other route.Number = bad
route-other route.Body = bad
route-other (route.Format at) = bad
route-other route.Memory = short_of_memory

pub disk-other : IsOther 503
disk-other = unavailable

pub memory-other : IsOther 507
memory-other = short_of_memory

pub reply-other : (H : History) (who : Caller) (number : Option ℕ) (ask : Ask) (r : Reply) (query : Bool)
    → entry_of_number H who.name number ≡ None → query ≡ is_query ask
    → r ≡ (answer H who number ask 0).reply → (answer H who number ask 0).added ≡ [] → IsOther (reply_status r query)
reply-other H who number (See q) r query fresh query_is told none = subst (λ t. IsOther (reply_status r t)) (sym query_is) (query-other r)
reply-other H who number (Act c) r query fresh query_is told none =
    let refused = refusing H who number c 0 fresh none in
    subst (λ given. IsOther (reply_status given query)) (sym (told ∙ refused.1)) (refusal-other refused.0)

-- answers that tell a lease begin with 201
begun : (t : Bool) (found : Option ℕ) (doc : ℕ) → (if t then found else None) ≡ Some doc → t ≡ true
begun true found doc is = refl
begun false found doc is = cc

pub leased-begins : (answers : List ℕ) (doc : ℕ) → leased_doc answers ≡ Some doc → starts_with nat_eq answers (codes "HTTP/1.1 201 ") ≡ true
leased-begins answers doc is =
    begun (starts_with nat_eq answers (codes "HTTP/1.1 201 ")) (option_and_then four_digit_number (behind_part (codes "{\"doc\":\"D") answers)) doc is

regrouped : (a d b r t : List ℕ) → ((a ++ (d ++ b)) ++ r) ++ t ≡ a ++ (d ++ (b ++ (r ++ t)))
regrouped a d b r t = simp append_assoc

-- so no answer of another status tells one
pub untold : (answers rest tail : List ℕ) (status doc : ℕ) → answers ≡ ((codes "HTTP/1.1 " ++ (decimal status ++ codes " ")) ++ rest) ++ tail → IsOther status
    → leased_doc answers ≡ Some doc → ⊥
untold answers rest tail status doc is differs leased =
    let begins = leased-begins answers doc leased in
    let text = is ∙ regrouped (codes "HTTP/1.1 ") (decimal status) (codes " ") rest tail in
    let wrong : true ≡ false = sym begins ∙ ap (λ a. starts_with nat_eq a (codes "HTTP/1.1 201 ")) text ∙ differs (codes " " ++ (rest ++ tail)) in cc wrong
