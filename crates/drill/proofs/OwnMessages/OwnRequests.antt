-- A message that can be sent is one request, and sent twice it is two.
use Rattle.std.proofs.Common.{◌≡◌, ◌+◌, ◌-◌, ◌<◌, ◌≤◌, ◌^◌, ℕ, Bool, true, false, List, [], ◌∷◌, ◌++◌, All, Err, Ok, Some, codes, decimal, drop, inr, length, nat_le, nat_lt, take, refl, sym, ap, subst, arith, append_assoc, append-nil, drop_at, le-leb, le-ltb, length-append, take_all, take_at, ◌∙◌}
use Rattle.std.specs.Prelude.{if◌then◌else◌}
use Rattle.std.specs.List.{list_all}
use Rattle.std.specs.Str.Parse.{digits_value}
use Rattle.std.proofs.Math.Seq.{take-append-add}
use Rattle.std.proofs.lemmas.Fmt.{decimal_is_IsNumeral, length-decimal-le}
use Rattle.std.proofs.lemmas.List.{drop_all}
use Rattle.std.proofs.lemmas.List.Elements.{All-cons, All-nil}
use Rattle.std.proofs.lemmas.Str.{IsUtf8-from_ascii}
use Rattle.httparse.specs.Grammar.{Field, IsField, IsToken, RequestHead, crlf, is_token_byte, is_uri_byte, is_value_byte, print_request}
use Rattle.httparse.proofs.GrammarLemmas.{print_request-append}
use Rattle.decimal_rank.specs.Decimals.DecimalText.{are_digits}
use Rattle.http_wire.specs.declared.messages.HttpRequest.{HttpRequest}
use Rattle.http_wire.specs.declared.messages.WireFault.TheVariants as fault
use Rattle.http_wire.specs.Heads.{IsHead, body_length, head_fields, head_length, length_of_value}
use Rattle.http_wire.specs.Messages.{AtHead, AtLength, Clean, Heads, Needs, IsFront, Messages, Stays, Whole, behind_head, front_of, head_of, request_with}
use Rattle.routes.specs.Limits.{most_body}
use Rattle.drill.specs.Messages.{IsSendable, Message, is_visible, message_text}
use Rattle.drill.proofs.OwnMessages.HeadLines.{EndsHead, lines, lines-end}
use Rattle.drill.proofs.VisibleTexts.{ascii, decimal_digits, decimal_visible, each-passes, in_line, in_target, in_value, is_inside, trimmed, weaker}

-- The head of a message, as the grammar of HTTP has it.

abbrev field : List ℕ → List ℕ → Field
field name value = record { name = name; raw = 32 ∷ value; end = crlf }

abbrev sent_head : Message → RequestHead
sent_head message = record {
  blank = [];
  method = codes "POST";
  target = message.path;
  minor = 1;
  line_end = crlf;
  fields = field (codes "X-Campaign-Key") message.key ∷ field (codes "X-Request-Number") (decimal message.number)
      ∷ field (codes "Content-Length") (decimal (length message.body)) ∷ [];
  last = crlf;
}

-- what a message is read as
abbrev pub sent_request : Message → HttpRequest
sent_request message = request_with (head_of (sent_head message) (length message.body)) message.body

abbrev sent_lines : Message → List ℕ
sent_lines message = lines message.path message.key (decimal message.number) (decimal (length message.body))

regrouped : (a p b k c n d s e t : List ℕ) → a ++ p ++ b ++ k ++ c ++ n ++ d ++ s ++ e ++ t ≡ (a ++ (p ++ (b ++ (k ++ (c ++ (n ++ (d ++ (s ++ e)))))))) ++ t
regrouped a p b k c n d s e t = simp append_assoc

text-lines : (message : Message) → message_text message ≡ sent_lines message ++ message.body
text-lines message =
    regrouped (codes "POST ") message.path (codes " HTTP/1.1\r\nX-Campaign-Key: ") message.key (codes "\r\nX-Request-Number: ") (decimal message.number)
    (codes "\r\nContent-Length: ") (decimal (length message.body)) (codes "\r\n\r\n") message.body

section-lines : (x k y n z s e : List ℕ) → ((((x ++ k) ++ e) ++ (((y ++ n) ++ e) ++ (((z ++ s) ++ e) ++ []))) ++ e) ++ []
    ≡ x ++ (k ++ (e ++ (y ++ (n ++ (e ++ (z ++ (s ++ (e ++ e))))))))
section-lines x k y n z s e = simp (append_assoc, append-nil)

printed-lines : (message : Message) → print_request (sent_head message) ≡ sent_lines message
printed-lines message =
    sym (append-nil (print_request (sent_head message)))
    ∙ print_request-append (sent_head message) []
    ∙ ap (λ section. codes "POST " ++ (message.path ++ (codes " HTTP/1.1\r\n" ++ section)))
    (section-lines (codes "X-Campaign-Key: ") message.key (codes "X-Request-Number: ") (decimal message.number) (codes "Content-Length: ")
    (decimal (length message.body)) (codes "\r\n"))

lengths : (a p b k c n d s e : List ℕ) → length (a ++ (p ++ (b ++ (k ++ (c ++ (n ++ (d ++ (s ++ e))))))))
    ≡ length a + (length p + (length b + (length k + (length c + (length n + (length d + (length s + length e)))))))
lengths a p b k c n d s e = simp length-append

is_token : (name : List ℕ) → 0 < length name → list_all is_token_byte name ≡ true → IsToken name
is_token name some all = (some, each-passes is_token_byte name all)

post-token : list_all is_token_byte (codes "POST") ≡ true
unfolding is_token_byte
post-token = refl

key-token : list_all is_token_byte (codes "X-Campaign-Key") ≡ true
unfolding is_token_byte
key-token = refl

number-token : list_all is_token_byte (codes "X-Request-Number") ≡ true
unfolding is_token_byte
number-token = refl

length-token : list_all is_token_byte (codes "Content-Length") ≡ true
unfolding is_token_byte
length-token = refl

is_field : (name value : List ℕ) → 0 < length name → list_all is_token_byte name ≡ true → list_all is_visible value ≡ true → IsField (field name value)
is_field name value some all shown = record {
  name = is_token name some all;
  raw = each-passes is_value_byte (32 ∷ value) (weaker is_visible is_value_byte in_value value shown);
}

stated : (t : Bool) (value n : ℕ) → t ≡ true → value ≡ n → n ≤ most_body
    → (if t then (if nat_le value most_body then Ok value else Err fault.Body) else Err fault.Head) ≡ Ok n
stated true value n digits is few = let fits : nat_le value most_body ≡ true = le-leb value most_body (omega (arith, is, few)) in rw fits (ap Ok is)
stated false value n digits is few = cc

value-states : (n : ℕ) → n ≤ most_body → length_of_value (decimal n) ≡ Ok n
value-states n few =
    let small : n < 2 ^ 64 = omega (arith, few) in
    stated (are_digits (decimal n)) (digits_value 10 (decimal n)) n (decimal_digits n small) (decimal_is_IsNumeral n small).1 few

module _ (message : Message) (is : IsSendable message) where
  abbrev size : ℕ
  size = length message.body

  few-bytes : size < 2 ^ 64
  few-bytes = omega (arith, is.body)

  few-numbers : message.number < 2 ^ 64
  few-numbers = omega (arith, is.number)

  number-shown : list_all is_visible (decimal message.number) ≡ true
  number-shown = decimal_visible message.number few-numbers

  size-shown : list_all is_visible (decimal size) ≡ true
  size-shown = decimal_visible size few-bytes

  fields-are : All IsField (sent_head message).fields
  fields-are =
      let key = is_field (codes "X-Campaign-Key") message.key (omega arith) key-token is.key.visible in
      let number = is_field (codes "X-Request-Number") (decimal message.number) (omega arith) number-token number-shown in
      let body = is_field (codes "Content-Length") (decimal size) (omega arith) length-token size-shown in
      let third = field (codes "Content-Length") (decimal size) in
      let second = field (codes "X-Request-Number") (decimal message.number) in
      All-cons IsField (field (codes "X-Campaign-Key") message.key) (second ∷ third ∷ []) key
      (All-cons IsField second (third ∷ []) number (All-cons IsField third [] body (All-nil IsField)))

  head-is : IsHead (sent_lines message) (sent_head message)
  head-is = (
    (
      record {
        method = is_token (codes "POST") (omega arith) post-token;
        target = (is.path.some, each-passes is_uri_byte message.path (weaker is_visible is_uri_byte in_target message.path is.path.visible));
        target_text = IsUtf8-from_ascii message.path (ascii message.path is.path.visible);
        minor = omega arith;
        fields = fields-are;
      },
      sym (printed-lines message) ∙ sym (append-nil (print_request (sent_head message))),
    ),
    omega arith,
  )

  in_lines : (text : List ℕ) → list_all is_visible text ≡ true → list_all is_inside text ≡ true
  in_lines text = weaker is_visible is_inside in_line text

  head-ends : EndsHead (sent_lines message)
  head-ends =
      lines-end message.path message.key (decimal message.number) (decimal size) (in_lines message.path is.path.visible) (in_lines message.key is.key.visible)
      (in_lines (decimal message.number) number-shown) (in_lines (decimal size) size-shown)

  short-head : length (sent_lines message) ≤ 8192
  short-head =
      let number = length-decimal-le 10 message.number (omega arith) (omega (arith, is.number)) few-numbers in
      let body = length-decimal-le 8 size (omega arith) (omega (arith, is.body)) few-bytes in
      omega (
        arith,
        lengths (codes "POST ") message.path (codes " HTTP/1.1\r\nX-Campaign-Key: ") message.key (codes "\r\nX-Request-Number: ")
            (decimal message.number) (codes "\r\nContent-Length: ") (decimal size)
            (codes "\r\n\r\n"),
        is.path.few,
        is.key.few,
        number,
        body,
      )

  head-found : head_length (take 8192 (sent_lines message ++ message.body)) ≡ Some (length (sent_lines message))
  head-found =
      let head = sent_lines message in
      let more : ℕ = 8192 - length head in
      let count : length head + more ≡ 8192 = omega (arith, short-head) in
      ap (λ k. head_length (take k (head ++ message.body))) (sym count)
      ∙ ap head_length (take-append-add head message.body more)
      ∙ head-ends (take more message.body)

  size-stated : body_length (codes "POST") (head_fields (sent_head message)) ≡ Ok size
  size-stated = ap length_of_value (trimmed (decimal size) size-shown) ∙ value-states size is.body

  at-head : AtHead (sent_lines message) message.body (Heads (head_of (sent_head message) size) message.body)
  at-head = inr (sent_head message, head-is, ap (λ stated. behind_head (sent_head message) stated message.body) (sym size-stated))

  lines-front : IsFront (sent_lines message ++ message.body) (Whole (sent_request message) [])
  lines-front =
      let head = sent_lines message in
      let body = message.body in
      let front = Heads (head_of (sent_head message) size) body in
      let n : ℕ = length head in
      let taken : AtHead (take n (head ++ body)) body front = subst (λ text. AtHead text body front) (sym (take_at head body n refl)) at-head in
      let at : AtHead (take n (head ++ body)) (drop n (head ++ body)) front = subst (λ rest. AtHead (take n (head ++ body)) rest front)
      (sym (drop_at head body n refl)) taken in
      (front, subst (λ found. AtLength (head ++ body) found front) (sym head-found) at, whole)
    where
      whole : Whole (sent_request message) [] ≡ front_of (Heads (head_of (sent_head message) size) message.body)
      whole =
          let enough : nat_lt size size ≡ false = le-ltb size size (omega arith) in
          let all : take size message.body ≡ message.body = take_all size message.body (omega arith) in
          let none : drop size message.body ≡ [] = drop_all size message.body (omega arith) in
          rw (enough, all, none) refl

  sent-front : IsFront (message_text message) (Whole (sent_request message) [])
  sent-front = subst (λ text. IsFront text (Whole (sent_request message) [])) (sym (text-lines message)) lines-front

  pub short-text : length (message_text message) ≤ 16785408
  short-text = omega (arith, ap length (text-lines message), length-append (sent_lines message) message.body, short-head, is.body)

  -- sent twice it is two requests, and nothing is left
  pub sent-twice : Stays (message_text message) (message_text message)
      → Messages (message_text message ++ message_text message) (sent_request message ∷ sent_request message ∷ []) Clean
  sent-twice stays =
      let text = message_text message in
      (text, stays.whole (sent_request message) [] sent-front, ([], sent-front, ((Needs, refl, refl), refl)))
