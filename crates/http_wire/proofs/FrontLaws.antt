-- One thing stands at the front of bytes, it stays there where more bytes come, and it is their first request or their end.
use Rattle.std.proofs.Common.{◌≡◌, ℕ, ◌<◌, ◌≤◌, List, [], ◌∷◌, ◌++◌, Option, Some, None, Bool, true, false, length, take, drop, refl, sym, ap, ◌∙◌, subst, arith, inl, inr, length-append}
use Rattle.std.specs.Prelude.{nat_lt, not, Result, Ok, Err, MatchBool, if◌then◌else◌}
use Rattle.std.proofs.lemmas.Bool.{cond_both, ltb-false, le-ltb, lt-ltb}
use Rattle.std.proofs.lemmas.List.{take-append-le, drop-append-le, length-take}
use Rattle.std.proofs.Math.Seq.{take-append_seam, drop-append_seam}
use Rattle.httparse.specs.Grammar.{RequestHead}
use Rattle.httparse.proofs.GrammarLemmas.{request_unique}
use Rattle.http_wire.specs.declared.messages.HttpHead.{HttpHead}
use Rattle.http_wire.specs.declared.messages.HttpRequest.{HttpRequest}
use Rattle.http_wire.specs.declared.messages.WireFault.{WireFault}
use Rattle.http_wire.specs.declared.messages.WireFault.TheVariants as fault
use Rattle.http_wire.specs.Heads.{behind_line_ends, head_length, IsHead, head_fields, is_filled, body_length}
use Rattle.http_wire.specs.Messages.{HeadFront, Heads, Faults, Needs, Front, Whole, Faulty, Unfinished, head_of, request_with, behind_head, front_of, AtHead, AtLength, AtMessage, IsHeadFront, IsFront, Closed, Clean, Cut, Messages, Stays, FrontGoesOn}
use Rattle.http_wire.proofs.HeadLengths.{passed-append, head_stays, head_inside}

one_head : (text : List ℕ) (a b : RequestHead) → IsHead text a → IsHead text b → a ≡ b
one_head text a b first second = (request_unique text a b [] [] first.0 second.0).0

one_at_head : (text rest : List ℕ) (a b : HeadFront) → AtHead text rest a → AtHead text rest b → a ≡ b
one_at_head text rest a b (inl (none, is)) (inl (other, same)) = is ∙ sym same
one_at_head text rest a b (inl (none, is)) (inr (head, found, same)) = absurd (none head found)
one_at_head text rest a b (inr (head, found, is)) (inl (none, same)) = absurd (none head found)
one_at_head text rest a b (inr (head, found, is)) (inr (other, there, same)) =
    is ∙ ap (λ h. behind_head h (body_length h.method (head_fields h)) rest) (one_head text head other found there) ∙ sym same

one_at_length : (message : List ℕ) (found : Option ℕ) (a b : HeadFront) → AtLength message found a
    → AtLength message found b → a ≡ b
one_at_length message None a b first second = first ∙ sym second
one_at_length message (Some n) a b first second = one_at_head (take n message) (drop n message) a b first second

pub head_front_is_one : (bytes : List ℕ) (a b : HeadFront) → IsHeadFront bytes a → IsHeadFront bytes b → a ≡ b
head_front_is_one bytes a b first second =
    one_at_length (behind_line_ends bytes) (head_length (take 8192 (behind_line_ends bytes))) a b first second

pub front_is_one : (bytes : List ℕ) (a b : Front) → IsFront bytes a → IsFront bytes b → a ≡ b
front_is_one bytes a b (upto, at, is) (other, there, same) =
    is ∙ ap front_of (head_front_is_one bytes upto other at there) ∙ sym same

-- a head stands at the front of what a message goes on to be
at_head_more : (message more : List ℕ) (n : ℕ) (front : HeadFront) → head_length (take 8192 message) ≡ Some n
    → n ≤ length message
    → AtHead (take n message) (drop n message ++ more) front → AtMessage (message ++ more) front
at_head_more message more n front ends inside at =
    let found : head_length (take 8192 (message ++ more)) ≡ Some n = head_stays 8192 message more n ends in
    let text = subst (λ text. AtHead text (drop n message ++ more) front) (sym (take-append-le n message more inside)) at in
    let whole = subst (λ rest. AtHead (take n (message ++ more)) rest front) (sym (drop-append-le n message more inside)) text in
    subst (λ found. AtLength (message ++ more) found front) (sym found) whole

-- the head's length is that of its first bytes, which are no more than the message
pub inside_of : (k : ℕ) (message : List ℕ) (n : ℕ) → head_length (take k message) ≡ Some n → (0 < n) × (n ≤ length message)
inside_of k message n ends = let p = head_inside (take k message) n ends in (p.0, omega (arith, p.1, length-take k message))

heads_more : (head : RequestHead) (size : Result ℕ WireFault) (behind more : List ℕ) (given : HttpHead) (rest : List ℕ)
    → Heads given rest ≡ behind_head head size behind → Heads given (rest ++ more) ≡ behind_head head size (behind ++ more)
heads_more head (Err cause) behind more given rest is = cc
heads_more head (Ok n) behind more given rest is =
    let first : given ≡ head_of head n = cc in
    let second : rest ≡ behind = cc in
    rw (first, second) refl

faults_more : (head : RequestHead) (size : Result ℕ WireFault) (behind more : List ℕ) (cause : WireFault)
    → Faults cause ≡ behind_head head size behind → Faults cause ≡ behind_head head size (behind ++ more)
faults_more head (Err other) behind more cause is = is
faults_more head (Ok n) behind more cause is = cc

heads_go_on : (message more : List ℕ) (found : Option ℕ) (given : HttpHead) (rest : List ℕ)
    → head_length (take 8192 message) ≡ found
    → AtLength message found (Heads given rest) → AtMessage (message ++ more) (Heads given (rest ++ more))
heads_go_on message more None given rest ends is =
    cond_both (nat_lt (length message) 8192) Needs (Faults fault.HeadSize)
    (λ front. Heads given rest ≡ front → AtMessage (message ++ more) (Heads given (rest ++ more))) (λ few wrong. cc) (λ many wrong. cc) is
heads_go_on message more (Some n) given rest ends (inl (none, is)) = cc
heads_go_on message more (Some n) given rest ends (inr (head, found, is)) =
    at_head_more message more n (Heads given (rest ++ more)) ends (inside_of 8192 message n ends).1
    (inr (head, found, heads_more head (body_length head.method (head_fields head)) (drop n message) more given rest is))

-- over 8,192 bytes end no head, and so do what they go on to be
long_stays : (k : ℕ) (message more : List ℕ) → k ≤ length message → head_length (take k message) ≡ None
    → head_length (take k (message ++ more)) ≡ None
long_stays k message more long none = ap head_length (take-append-le k message more long) ∙ none

faults_go_on : (message more : List ℕ) (found : Option ℕ) (cause : WireFault) → head_length (take 8192 message) ≡ found
    → AtLength message found (Faults cause) → AtMessage (message ++ more) (Faults cause)
faults_go_on message more None cause ends is =
    cond_both (nat_lt (length message) 8192) Needs (Faults fault.HeadSize)
    (λ front. Faults cause ≡ front → AtMessage (message ++ more) (Faults cause))
    (λ few wrong. cc)
    (λ many same.
    let long : 8192 ≤ length message = ltb-false (length message) 8192 many in
    let none = long_stays 8192 message more long ends in
    let still : nat_lt (length (message ++ more)) 8192 ≡ false = le-ltb (length (message ++ more)) 8192 (omega (arith, long, length-append message more)) in
    subst (λ found. AtLength (message ++ more) found (Faults cause)) (sym none) (rw still same)) is
faults_go_on message more (Some n) cause ends (inl (none, is)) =
    at_head_more message more n (Faults cause) ends (inside_of 8192 message n ends).1 (inl (none, is))
faults_go_on message more (Some n) cause ends (inr (head, found, is)) =
    at_head_more message more n (Faults cause) ends (inside_of 8192 message n ends).1
    (inr (head, found, faults_more head (body_length head.method (head_fields head)) (drop n message) more cause is))

filled_heads : (message : List ℕ) (given : HttpHead) (rest : List ℕ) → AtMessage message (Heads given rest)
    → 0 < length message
filled_heads [] given rest at = let wrong : Heads given rest ≡ Needs = at in cc
filled_heads (b ∷ message) given rest at = omega arith

filled_faults : (message : List ℕ) (cause : WireFault) → AtMessage message (Faults cause) → 0 < length message
filled_faults [] cause at = let wrong : Faults cause ≡ Needs = at in cc
filled_faults (b ∷ message) cause at = omega arith

pub heads_stay : (bytes more : List ℕ) (given : HttpHead) (rest : List ℕ) → IsHeadFront bytes (Heads given rest)
    → IsHeadFront (bytes ++ more) (Heads given (rest ++ more))
heads_stay bytes more given rest at =
    subst (λ message. AtMessage message (Heads given (rest ++ more))) (sym (passed-append bytes more (filled_heads (behind_line_ends bytes) given rest at)))
    (heads_go_on (behind_line_ends bytes) more (head_length (take 8192 (behind_line_ends bytes))) given rest refl at)

pub faults_stay : (bytes more : List ℕ) (cause : WireFault) → IsHeadFront bytes (Faults cause)
    → IsHeadFront (bytes ++ more) (Faults cause)
faults_stay bytes more cause at =
    subst (λ message. AtMessage message (Faults cause)) (sym (passed-append bytes more (filled_faults (behind_line_ends bytes) cause at)))
    (faults_go_on (behind_line_ends bytes) more (head_length (take 8192 (behind_line_ends bytes))) cause refl at)

pub heads_filled : (bytes : List ℕ) (given : HttpHead) (rest : List ℕ) → IsHeadFront bytes (Heads given rest)
    → is_filled (behind_line_ends bytes) ≡ true
heads_filled bytes given rest at = some (behind_line_ends bytes) (filled_heads (behind_line_ends bytes) given rest at)
  where
    some : (message : List ℕ) → 0 < length message → is_filled message ≡ true
    some [] filled = absurd (omega (arith, filled))
    some (b ∷ message) filled = refl

-- a head with fewer bytes behind it than its body has, or as many
pub short_body : (head : HttpHead) (rest : List ℕ) → length rest < head.length → Unfinished ≡ front_of (Heads head rest)
short_body head rest few =
    let short : nat_lt (length rest) head.length ≡ true = lt-ltb (length rest) head.length few in rw short refl

pub whole_body : (head : HttpHead) (body rest : List ℕ) → length body ≡ head.length
    → Whole (request_with head body) rest ≡ front_of (Heads head (body ++ rest))
whole_body head body rest all =
    let enough : nat_lt (length (body ++ rest)) head.length ≡ false =
    le-ltb (length (body ++ rest)) head.length (omega (arith, all, length-append body rest)) in
    let front : take head.length (body ++ rest) ≡ body = ap (λ n. take n (body ++ rest)) (sym all) ∙ take-append_seam body rest in
    let behind : drop head.length (body ++ rest) ≡ rest = ap (λ n. drop n (body ++ rest)) (sym all) ∙ drop-append_seam body rest in
    rw (enough, front, behind) refl

whole_more : (head : HttpHead) (behind more : List ℕ) (request : HttpRequest) (rest : List ℕ)
    → Whole request rest ≡ front_of (Heads head behind)
    → Whole request (rest ++ more) ≡ front_of (Heads head (behind ++ more))
whole_more head behind more request rest is =
    cond_both (nat_lt (length behind) head.length) Unfinished (Whole (request_with head (take head.length behind)) (drop head.length behind))
    (λ front. Whole request rest ≡ front → Whole request (rest ++ more) ≡ front_of (Heads head (behind ++ more)))
    (λ few wrong. cc)
    (λ enough same.
    let there : head.length ≤ length behind = ltb-false (length behind) head.length enough in
    let still : nat_lt (length (behind ++ more)) head.length ≡ false =
    le-ltb (length (behind ++ more)) head.length (omega (arith, there, length-append behind more)) in
    let body : take head.length (behind ++ more) ≡ take head.length behind = take-append-le head.length behind more there in
    let left : drop head.length (behind ++ more) ≡ drop head.length behind ++ more = drop-append-le head.length behind more there in
    let first : request ≡ request_with head (take head.length behind) = cc in
    let second : rest ≡ drop head.length behind = cc in
    rw (still, body, left, first, second) refl) is

not_faulty : (head : HttpHead) (behind : List ℕ) (cause : WireFault) → Faulty cause ≡ front_of (Heads head behind) → ⊥
not_faulty head behind cause is =
    cond_both (nat_lt (length behind) head.length) Unfinished (Whole (request_with head (take head.length behind)) (drop head.length behind))
    (λ front. Faulty cause ≡ front → ⊥) (λ few wrong. cc) (λ enough wrong. cc) is

whole_stays : (bytes more : List ℕ) (upto : HeadFront) (request : HttpRequest) (rest : List ℕ)
    → IsHeadFront bytes upto → Whole request rest ≡ front_of upto
    → IsFront (bytes ++ more) (Whole request (rest ++ more))
whole_stays bytes more (Heads head behind) request rest at is =
    (Heads head (behind ++ more), heads_stay bytes more head behind at, whole_more head behind more request rest is)
whole_stays bytes more (Faults cause) request rest at is = cc
whole_stays bytes more Needs request rest at is = cc

faulty_stays : (bytes more : List ℕ) (upto : HeadFront) (cause : WireFault) → IsHeadFront bytes upto
    → Faulty cause ≡ front_of upto → IsFront (bytes ++ more) (Faulty cause)
faulty_stays bytes more (Heads head behind) cause at is = absurd (not_faulty head behind cause is)
faulty_stays bytes more (Faults other) cause at is = (Faults other, faults_stay bytes more other at, is)
faulty_stays bytes more Needs cause at is = cc

pub front_stays : (bytes more : List ℕ) → Stays bytes more
front_stays bytes more = record {
  whole = λ request rest (upto, at, is). whole_stays bytes more upto request rest at is;
  faulty = λ cause (upto, at, is). faulty_stays bytes more upto cause at is;
}

ends_at : (old : List ℕ) (clean filled : Bool) → IsFront old Unfinished → clean ≡ not filled
    → is_filled (behind_line_ends old) ≡ filled → Messages old [] (if clean then Clean else Cut)
ends_at old true true front is filled = let wrong : true ≡ false = is in cc
ends_at old false true front is filled = (front, filled)
ends_at old false false front is filled = let wrong : false ≡ true = is in cc
ends_at old true false front is filled = (front, empty (behind_line_ends old) filled)
  where
    empty : (message : List ℕ) → is_filled message ≡ false → message ≡ []
    empty [] none = refl
    empty (b ∷ message) none = cc

pub front_goes_on : (old new more : List ℕ) → FrontGoesOn old new more
front_goes_on old new more = record {
  request = λ request requests end front open_ later. (
    new ++ more,
    (front_stays old more).whole request new front,
    subst (λ close. MatchBool close ((requests ≡ []) × (end ≡ Closed)) (Messages (new ++ more) requests end)) (sym open_) later,
  );
  last = λ request front closes. (
    new ++ more,
    (front_stays old more).whole request new front,
    subst (λ close. MatchBool close ((◌≡◌ {A = List HttpRequest} [] []) × (Closed ≡ Closed)) (Messages (new ++ more) [] Closed)) (sym closes) (refl, refl),
  );
  refused = λ cause front. (front_stays old more).faulty cause front;
  ends = λ clean waits. ends_at old clean (is_filled (behind_line_ends old)) waits.0 waits.1 refl;
}
