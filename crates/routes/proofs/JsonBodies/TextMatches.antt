-- Which bytes are a text.
use Rattle.std.proofs.Common.{◌≡◌, ℕ, List, true, false, Some, None, sym, refl}
use Rattle.std.specs.Str.{IsUtf8, is_utf8}
use Rattle.std.proofs.lemmas.Bool.{false_from_ne_true, cond_both}
use Rattle.std.proofs.lemmas.Str.{IsUtf8-from_is_utf8, is_utf8-from_IsUtf8}
use Rattle.serde_json.specs.Data.{Data}
use Rattle.serde_json.specs.Read.{read}
use Rattle.routes.specs.Json.Bodies.{json_of}

pub is_text : (bytes : List ℕ) → IsUtf8 bytes → is_utf8 bytes ≡ true
is_text bytes is = is_utf8-from_IsUtf8 bytes is

pub is_no_text : (bytes : List ℕ) → ¬ (IsUtf8 bytes) → is_utf8 bytes ≡ false
is_no_text bytes is_not = false_from_ne_true (is_utf8 bytes) (λ is. is_not (IsUtf8-from_is_utf8 bytes is))

-- The values of JSON texts

pub value_read : (body : List ℕ) (value : Data) → IsUtf8 body → read body ≡ Some value → Some value ≡ json_of body
value_read body value text is = rw (is_text body text) (sym is)

pub no_value : (body : List ℕ) → (IsUtf8 body → read body ≡ None) → None ≡ json_of body
no_value body none =
    cond_both (is_utf8 body) (read body) None (λ found. None ≡ found)
    (λ is. sym (none (IsUtf8-from_is_utf8 body is)))
    (λ is_not. refl)
