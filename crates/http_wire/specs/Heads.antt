-- Where the head of a request ends, and what its fields say of the message.
use Rattle.std.specs.Prelude.{ℕ, ◌+◌, ◌==◌, ◌≤◌, ◌&&◌, ◌||◌, nat_lt, nat_le, Bool, true, false, List, [], ◌∷◌, length, map, filter, Option, Some, None, Result, Ok, Err, if◌then◌else◌, codes}
use Rattle.std.specs.Option.{option_map}
use Rattle.std.specs.List.{list_any}
use Rattle.std.specs.Str.{bytes_eq, str_eq_ignore_ascii_case}
use Rattle.std.specs.Str.Parse.{digits_value}
use Rattle.httparse.specs.Grammar.{Field, field_value, RequestHead, ReadsRequest}
use Rattle.decimal_rank.specs.Bytes.{carriage_return, line_feed}
use Rattle.decimal_rank.specs.Decimals.DecimalText.{are_digits}
use Rattle.http_wire.specs.declared.messages.HttpField.{HttpField}
use Rattle.http_wire.specs.declared.messages.WireFault.{WireFault}
use Rattle.http_wire.specs.declared.messages.WireFault.TheVariants.{Head, Length, Body, Coding}

-- the bytes from the first that is neither CR nor LF
abbrev pub behind_line_ends : List ℕ → List ℕ
behind_line_ends [] = []
behind_line_ends (b ∷ bytes) = if b == line_feed || b == carriage_return then behind_line_ends bytes else b ∷ bytes

-- how many bytes the LF or CR LF at the front has, and 0 where there is none
abbrev pub line_end_length : List ℕ → ℕ
line_end_length [] = 0
line_end_length (b ∷ []) = if b == line_feed then 1 else 0
line_end_length (b ∷ c ∷ bytes) = if b == line_feed then 1 else (if b == carriage_return && c == line_feed then 2 else 0)

-- how many bytes there are up to the least LF that is followed by LF, or by CR and LF, with these
abbrev pub head_length : List ℕ → Option ℕ
head_length [] = None
head_length (b ∷ bytes) =
    if b == line_feed && nat_lt 0 (line_end_length bytes) then Some (line_end_length bytes + 1) else option_map (λ n. n + 1) (head_length bytes)

-- the text, whole, is this request head, which has at most 32 fields
abbrev pub IsHead : List ℕ → RequestHead → Type 0
IsHead text head = ReadsRequest text head [] × (length head.fields ≤ 32)

-- the name and the value, without the white space around it
abbrev pub field_of : Field → HttpField
field_of field = record { name = field.name; value = field_value field }

abbrev pub head_fields : RequestHead → List HttpField
head_fields head = map field_of head.fields

-- the values of the fields of this name
abbrev pub values_named : List ℕ → List HttpField → List (List ℕ)
values_named name fields = map (λ field. field.value) (filter (λ field. str_eq_ignore_ascii_case field.name name) fields)

abbrev pub is_filled : {A : Type 0} → List A → Bool
is_filled [] = false
is_filled (_ ∷ _) = true

-- the length of a body that a value of Content-Length states
abbrev pub length_of_value : List ℕ → Result ℕ WireFault
length_of_value value =
    if are_digits value then (if nat_le (digits_value 10 value) 16777216 then Ok (digits_value 10 value) else Err Body) else Err Head

-- the length of a body by the values of Content-Length
abbrev pub stated_length : List ℕ → List (List ℕ) → Result ℕ WireFault
stated_length method [] = if bytes_eq method (codes "POST") then Err Length else Ok 0
stated_length method (value ∷ []) = length_of_value value
stated_length method (_ ∷ _ ∷ _) = Err Head

-- the length of the body, or the first fault of the fields
abbrev pub body_length : List ℕ → List HttpField → Result ℕ WireFault
body_length method fields =
    if is_filled (values_named (codes "transfer-encoding") fields) then Err Coding
    else stated_length method (values_named (codes "content-length") fields)

-- a field Connection has the value close
abbrev pub says_close : List HttpField → Bool
says_close fields = list_any (λ value. str_eq_ignore_ascii_case value (codes "close")) (values_named (codes "connection") fields)

-- no request follows one of HTTP/1.0, or one that says close
abbrev pub is_last : ℕ → List HttpField → Bool
is_last minor fields = minor == 0 || says_close fields
