-- What is found at the front of a message is what stands there.
use Rattle.std.proofs.Common.{◌≡◌, ℕ, ◌+◌, ◌-◌, ◌<◌, ◌≤◌, List, [], ◌∷◌, Some, None, Bool, true, false, length, take, drop, refl, sym, ap, ◌∙◌, subst, arith, inl, inr, leb-true}
use Rattle.std.specs.Prelude.{nat_lt, nat_le, ◌==◌, not, Result, Ok, Err, codes, map, if◌then◌else◌}
use Rattle.std.specs.Str.{bytes_eq}
use Rattle.std.specs.Str.Parse.{digits_value}
use Rattle.std.proofs.lemmas.Bool.{cond_both, le-ltb, lt-ltb, eqb-true}
use Rattle.std.proofs.lemmas.List.{drop-drop}
use Rattle.httparse.specs.Grammar.{Field, RequestHead}
use Rattle.httparse.specs.Spans.{span_bytes, header_bytes, name_and_value, IsRequestAt}
use Rattle.httparse.specs.declared.spans.HeaderSpan.{HeaderSpan}
use Rattle.httparse.specs.declared.spans.RequestSpans.{RequestSpans}
use Rattle.decimal_rank.specs.Decimals.DecimalText.{are_digits}
use Rattle.http_wire.specs.declared.fronts.Found.TheVariants as found
use Rattle.http_wire.specs.declared.heads.Head.{Head}
use Rattle.http_wire.specs.declared.messages.HttpField.{HttpField}
use Rattle.http_wire.specs.declared.messages.HttpHead.{HttpHead}
use Rattle.http_wire.specs.declared.messages.WireFault.{WireFault}
use Rattle.http_wire.specs.declared.messages.WireFault.TheVariants as fault
use Rattle.http_wire.specs.declared.messages.Step.TheVariants as steps
use Rattle.http_wire.specs.Heads.{behind_line_ends, head_length, IsHead, field_of, head_fields, values_named, is_filled, length_of_value, stated_length, body_length, is_last}
use Rattle.http_wire.specs.Fronts.{field_at, SaysHead, head_with, found_with, IsFound}
use Rattle.http_wire.specs.Messages.{HeadFront, Heads, Faults, Needs, head_of, behind_head, AtHead, AtLength, AtMessage, IsHeadFront}
use Rattle.http_wire.specs.Pieces.{HeadSteps}
use Rattle.http_wire.proofs.FrontLaws.{inside_of}
use Rattle.http_wire.proofs.HeadSearches.{searched_short}

-- the fields at some spans, by what the spans cover
pub fields_at : (text : List ℕ) (spans : List HeaderSpan) (fields : List Field) → map (header_bytes text) spans ≡ map name_and_value fields
    → map (field_at text) spans ≡ map field_of fields
fields_at text [] [] same = refl
fields_at text [] (field ∷ fields) same = cc
fields_at text (span ∷ spans) [] same = cc
fields_at text (span ∷ spans) (field ∷ fields) same =
    let first : header_bytes text span ≡ name_and_value field = cc in
    let rest : map (header_bytes text) spans ≡ map name_and_value fields = cc in
    let made : List ℕ × List ℕ → HttpField = λ p. record { name = p.0; value = p.1 } in
    ap (λ f. f ∷ map (field_at text) spans) (ap made first) ∙ ap (λ fs. field_of field ∷ fs) (fields_at text spans fields rest)

-- what is kept of a head, by the spans of its parts
pub says_of : (text : List ℕ) (spans : List HeaderSpan) (parts : RequestSpans) (said : Head) (head : RequestHead) → IsRequestAt text spans parts head
    → said.method ≡ span_bytes text parts.method → said.path ≡ span_bytes text parts.path → said.fields ≡ map (field_at text) (take parts.headers spans)
    → said.close ≡ is_last parts.version said.fields → SaysHead said head
says_of text spans parts said head at method path fields close =
    let fields_are : said.fields ≡ head_fields head = fields ∙ fields_at text (take parts.headers spans) head.fields at.fields in
    record {
      method = method ∙ at.method;
      path = path ∙ at.path;
      fields = fields_are;
      close = close ∙ ap (λ v. is_last v said.fields) at.version ∙ ap (λ f. is_last head.minor f) fields_are;
    }

length_of_value_most : (value : List ℕ) (n : ℕ) → length_of_value value ≡ Ok n → n ≤ 16777216
length_of_value_most value n is =
    cond_both (are_digits value) (if nat_le (digits_value 10 value) 16777216 then Ok (digits_value 10 value) else Err fault.Body) (Err fault.Head)
    (λ r. r ≡ Ok n → n ≤ 16777216)
    (λ digits made.
    cond_both (nat_le (digits_value 10 value) 16777216) (Ok (digits_value 10 value)) (Err fault.Body) (λ r. r ≡ Ok n → n ≤ 16777216)
    (λ few same. let e : digits_value 10 value ≡ n = cc in omega (arith, e, leb-true (digits_value 10 value) 16777216 few))
    (λ many wrong. cc) made)
    (λ other wrong. cc) is

stated_length_most : (method : List ℕ) (values : List (List ℕ)) (n : ℕ) → stated_length method values ≡ Ok n → n ≤ 16777216
stated_length_most method [] n is =
    cond_both (bytes_eq method (codes "POST")) (Err fault.Length) (Ok 0) (λ r. r ≡ Ok n → n ≤ 16777216)
    (λ post wrong. cc) (λ other same. let e : 0 ≡ n = cc in omega (arith, e)) is
stated_length_most method (value ∷ []) n is = length_of_value_most value n is
stated_length_most method (value ∷ other ∷ values) n is = cc

pub body_length_most : (method : List ℕ) (fields : List HttpField) (n : ℕ) → body_length method fields ≡ Ok n → n ≤ 16777216
body_length_most method fields n is =
    cond_both (is_filled (values_named (codes "transfer-encoding") fields)) (Err fault.Coding)
    (stated_length method (values_named (codes "content-length") fields))
    (λ r. r ≡ Ok n → n ≤ 16777216) (λ coded wrong. cc) (λ plain same. stated_length_most method (values_named (codes "content-length") fields) n same) is

-- what stands behind a head of a message
at_head_here : (message : List ℕ) (n : ℕ) (front : HeadFront) → head_length (take 8192 message) ≡ Some n
    → AtHead (take n message) (drop n message) front → AtMessage message front
at_head_here message n front ends at = subst (λ found. AtLength message found front) (sym ends) at

pub none_found : (message : List ℕ) (n : ℕ) → head_length (take 8192 message) ≡ Some n
    → ((head : RequestHead) → ¬ (IsHead (take n message) head)) → IsFound message (found.Faulty fault.Head)
none_found message n ends none = at_head_here message n (Faults fault.Head) ends (inl (none, refl))

head_is : (said : Head) (head : RequestHead) (size : ℕ) → SaysHead said head → head_with said size ≡ head_of head size
head_is said head size says = rw (says.method, says.path, says.fields, says.close) refl

found_size : (message : List ℕ) (n : ℕ) (said : Head) (head : RequestHead) (size : Result ℕ WireFault)
    → head_length (take 8192 message) ≡ Some n → IsHead (take n message) head
    → SaysHead said head → body_length head.method (head_fields head) ≡ size → IsFound message (found_with said n size)
found_size message n said head (Err cause) ends is says fault_is =
    at_head_here message n (Faults cause) ends (inr (head, is, rw fault_is refl))
found_size message n said head (Ok size) ends is says size_is =
    let inside = inside_of 8192 message n ends in
    let front : Heads (head_with said size) (drop n message) ≡ behind_head head (body_length head.method (head_fields head)) (drop n message) =
    rw (size_is, head_is said head size says) refl in (
      at_head_here message n (Heads (head_with said size) (drop n message)) ends (inr (head, is, front)),
      inside.0,
      inside.1,
      body_length_most head.method (head_fields head) size size_is,
    )

pub found_at : (message : List ℕ) (n : ℕ) (said : Head) (head : RequestHead) → head_length (take 8192 message) ≡ Some n
    → IsHead (take n message) head → SaysHead said head
    → IsFound message (found_with said n (body_length said.method said.fields))
found_at message n said head ends is says =
    found_size message n said head (body_length said.method said.fields) ends is says
    (ap (λ m. body_length m (head_fields head)) (sym says.method) ∙ ap (λ f. body_length said.method f) (sym says.fields))

-- the first 8,192 bytes end no head
pub unfinished_head : (message : List ℕ) → head_length (take 8192 message) ≡ None → length message < 8192
    → IsFound message (found.Unfinished (length message - 2))
unfinished_head message none few =
    let short : nat_lt (length message) 8192 ≡ true = lt-ltb (length message) 8192 few in
    (subst (λ found. AtLength message found Needs) (sym none) (rw short refl), searched_short message few none)

pub long_head : (message : List ℕ) → head_length (take 8192 message) ≡ None → 8192 ≤ length message → IsFound message (found.Faulty fault.HeadSize)
long_head message none many =
    let long : nat_lt (length message) 8192 ≡ false = le-ltb (length message) 8192 many in
    subst (λ found. AtLength message found (Faults fault.HeadSize)) (sym none) (rw long refl)

-- the step that comes of what is found
pub look_clean : (bytes message : List ℕ) → message ≡ behind_line_ends bytes → length message ≡ 0
    → HeadSteps bytes (steps.Need true) (record { bytes = message; left = None })
look_clean bytes [] is none = rw (sym is) (refl, refl, refl)
look_clean bytes (b ∷ message) is none = absurd (omega (arith, none))

pub look_head : (bytes message : List ℕ) (taken n : ℕ) (head : HttpHead) → message ≡ behind_line_ends bytes → message ≡ drop taken bytes
    → AtMessage message (Heads head (drop n message)) → IsHeadFront bytes (Heads head (drop (taken + n) bytes))
look_head bytes message taken n head is behind at =
    let rest : drop n message ≡ drop (taken + n) bytes = ap (drop n) behind ∙ drop-drop n taken bytes in
    subst (λ m. AtMessage m (Heads head (drop (taken + n) bytes))) is (subst (λ r. AtMessage message (Heads head r)) rest at)

filled : (message : List ℕ) → 0 < length message → is_filled message ≡ true
filled [] some = absurd (omega (arith, some))
filled (b ∷ message) some = refl

pub look_more : (bytes message : List ℕ) → message ≡ behind_line_ends bytes → 0 < length message → AtMessage message Needs
    → HeadSteps bytes (steps.Need false) (record { bytes = message; left = None })
look_more bytes message is some at = (
  subst (λ m. AtMessage m Needs) is at,
  ap not (sym (filled (behind_line_ends bytes) (omega (arith, some, ap length is)))),
  ap (λ m. record { bytes = m; left = None }) is,
)

pub none_left : (message : List ℕ) (empty : Bool) → empty ≡ (length message == 0) → empty ≡ true → length message ≡ 0
none_left message empty is true_ = eqb-true (length message) 0 (sym is ∙ true_)

pub some_left : (message : List ℕ) (empty : Bool) → empty ≡ (length message == 0) → empty ≡ false → 0 < length message
some_left [] empty is false_ = cc
some_left (b ∷ message) empty is false_ = omega arith
