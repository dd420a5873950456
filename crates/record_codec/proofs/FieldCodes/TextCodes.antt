-- The laws of the texts and numbers of an entry, and of its head.
use Rattle.std.proofs.Common.{◌≡◌, ℕ, ◌^◌, ◌<◌, Bool, true, false, cond, eqb, [], ◌∷◌, ◌++◌, length, Option, Some, None, refl, ap, subst, ◌∙◌, arith}
use Rattle.std.specs.Prelude.{IsTrue, nat_le}
use Rattle.std.specs.Option.{option_map}
use Rattle.std.specs.Int.{w16, w64, to_le_bytes}
use Rattle.std.proofs.lemmas.Bool.{eqb-true, leb-true, ltb-true}
use Rattle.std.proofs.lemmas.Option.{same_Some}
use Rattle.trec_formats.specs.Names.{is_docno, is_name}
use Rattle.rulebook.specs.Requests.Limits.{max_moment}
use Rattle.rulebook.specs.declared.rules.Caller.{Caller}
use Rattle.rulebook.specs.declared.rules.Role.{Role}
use Rattle.rulebook.specs.declared.rules.Role.TheVariants.{Organiser, Group, Assessor}
use Rattle.rulebook.specs.Spelling.{is_number, is_printable, long, number_bytes, role_byte, short}
use Rattle.rulebook.specs.Words.{Text}
use Rattle.record_codec.specs.Readings.{Read, byte_read, caller_of, caller_read, docno_read, is_below_bound, is_moment, long_read, moment_read, name_read, number_read, numbered_of, printable_read, request_read, role_of, role_read, short_read, value_by, value_if}
use Rattle.record_codec.proofs.FieldCodes.Codes.{Codes, IsBytes, IsBytes-behind, bind_some, both, byte_codes, changed, like, map_some, number_codes, tested, text_codes, wide16, wide64}
use Rattle.record_codec.proofs.ShortTexts.{docno_short, name_short, printable_short}

-- an option that is one of two
pub pick : {A : Type 0} (t : Bool) (x y : Option A) (z : A) (P : Type 0) → cond t x y ≡ Some z
    → (t ≡ true → x ≡ Some z → P) → (y ≡ Some z → P) → P
pick true x y z P is here other = here refl is
pick false x y z P is here other = other is

-- Texts

pub short_codes : Codes short (λ text. length text < 256) short_read
unfolding short_read
short_codes = text_codes (λ n. n ∷ []) (λ n. n < 256) byte_read byte_codes

pub long_codes : Codes long (λ text. length text < 2 ^ 16) long_read
unfolding long_read
long_codes = text_codes (to_le_bytes w16) (λ n. n < 2 ^ 16) (number_read w16) (number_codes w16 (2 ^ 16) wide16)

pub name_codes : Codes short (λ text. IsTrue (is_name text)) name_read
unfolding name_read
name_codes = like (tested short_codes is_name) short (λ text. IsTrue (is_name text)) (λ text. refl)
    (λ text fits. fits.1) (λ text is. (name_short text is, is))

pub docno_codes : Codes short (λ text. IsTrue (is_docno text)) docno_read
unfolding docno_read
docno_codes = like (tested short_codes is_docno) short (λ text. IsTrue (is_docno text)) (λ text. refl)
    (λ text fits. fits.1) (λ text is. (docno_short text is, is))

pub printable_codes : (most : ℕ) → most < 2 ^ 16
    → Codes long (λ text. IsTrue (is_printable most text)) (printable_read most)
unfolding printable_read
printable_codes most few =
    like (tested long_codes (is_printable most)) long (λ text. IsTrue (is_printable most text)) (λ text. refl)
    (λ text fits. fits.1)
    (λ text is. let short = printable_short most text is in (omega arith, is))

-- The caller

role_is : (b : ℕ) (r : Role) → role_of b ≡ Some r → b ≡ role_byte r
unfolding role_of
role_is b r is =
    pick (eqb b 1) (Some Organiser) (cond (eqb b 2) (Some Group) (cond (eqb b 3) (Some Assessor) None)) r
    (b ≡ role_byte r) is
    (λ t e. let same : Organiser ≡ r = cc in eqb-true b 1 t ∙ ap role_byte same)
    (λ is. pick (eqb b 2) (Some Group) (cond (eqb b 3) (Some Assessor) None) r (b ≡ role_byte r) is
    (λ t e. let same : Group ≡ r = cc in eqb-true b 2 t ∙ ap role_byte same)
    (λ is. pick (eqb b 3) (Some Assessor) None r (b ≡ role_byte r) is
    (λ t e. let same : Assessor ≡ r = cc in eqb-true b 3 t ∙ ap role_byte same)
    (λ e. absurd cc)))

abbrev role_text : Role → Text
role_text r = role_byte r ∷ []

role_takes : (bytes : Text) (p : Role × Text) → IsBytes bytes → role_read bytes ≡ Some p
    → Unit {0} × (bytes ≡ role_text p.0 ++ p.1)
unfolding role_read
role_takes bytes p fits is =
    let u = bind_some (byte_read bytes) (λ b. option_map (λ (role : Role). (role, b.1)) (role_of b.0)) p is in
    let b : ℕ = u.0.0 in
    let rest : Text = u.0.1 in
    let v = map_some (role_of b) (λ (role : Role). (role, rest)) p u.2 in
    let first = byte_codes.takes bytes u.0 fits u.1 in
    let parts : bytes ≡ role_text v.0 ++ rest = first.1 ∙ ap (λ (n : ℕ). n ∷ rest) (role_is b v.0 v.1) in
    subst (λ (q : Role × Text). Unit {0} × (bytes ≡ role_text q.0 ++ q.1)) v.2 (tt, parts)

role_again : (r : Role) (rest : Text) → Unit {0} → role_read (role_text r ++ rest) ≡ Some (r, rest)
unfolding role_read role_of
role_again Organiser rest fits = refl
role_again Group rest fits = refl
role_again Assessor rest fits = refl

role_codes : Codes role_text (λ r. Unit {0}) role_read
role_codes = record { takes = role_takes; again = role_again }

abbrev pub caller_bytes : Caller → Text
caller_bytes c = short c.name ++ role_byte c.role ∷ []

pub caller_codes : Codes caller_bytes (λ c. IsTrue (is_name c.name)) caller_read
unfolding caller_read
caller_codes =
    like (changed (both name_codes role_codes) caller_of (λ c. (c.name, c.role)) (λ c. refl) (λ p. refl)) caller_bytes
    (λ c. IsTrue (is_name c.name))
    (λ c. refl) (λ c fits. fits.0) (λ c is. (is, tt))

-- The number of a request

below_codes : Codes (to_le_bytes w64) (λ n. IsTrue (is_below_bound n))
    (λ bytes. value_if is_below_bound (number_read w64 bytes))
below_codes =
    like (tested (number_codes w64 (2 ^ 64) wide64) is_below_bound) (to_le_bytes w64) (λ n. IsTrue (is_below_bound n))
    (λ n. refl) (λ n fits. fits.1)
    (λ n is. let below = ltb-true n (2 ^ 63) is in (omega arith, is))

abbrev IsRequest : Text → Option ℕ × Text → Type 0
IsRequest bytes p = IsTrue (is_number p.0) × (bytes ≡ number_bytes p.0 ++ p.1)

request_takes : (bytes : Text) (p : Option ℕ × Text) → IsBytes bytes → request_read bytes ≡ Some p → IsRequest bytes p
unfolding request_read
request_takes bytes p fits is =
    let u = bind_some (byte_read bytes) (λ b. numbered_of b.0 b.1) p is in
    let b : ℕ = u.0.0 in
    let rest : Text = u.0.1 in
    let first = byte_codes.takes bytes u.0 fits u.1 in
    let here : Read (Option ℕ) = Some (None, rest) in
    let behind : Read (Option ℕ) = value_by Some (value_if is_below_bound (number_read w64 rest)) in
    pick (eqb b 0) here (cond (eqb b 1) behind None) p (IsRequest bytes p) u.2
    (λ t e.
    let read : Option ℕ × Text = (None, rest) in
    subst (IsRequest bytes) (same_Some read p e) (refl, first.1 ∙ ap (λ (n : ℕ). n ∷ rest) (eqb-true b 0 t)))
    (λ is. pick (eqb b 1) behind None p (IsRequest bytes p) is
    (λ t e.
    let v = map_some (value_if is_below_bound (number_read w64 rest)) (λ n. (Some n.0, n.1)) p e in
    let second = below_codes.takes rest v.0 (IsBytes-behind bytes (b ∷ []) rest fits first.1) v.1 in
    let parts : bytes ≡ (1 ∷ to_le_bytes w64 v.0.0) ++ v.0.1 =
    first.1 ∙ ap (λ (n : ℕ). n ∷ rest) (eqb-true b 1 t) ∙ ap (λ (r : Text). 1 ∷ r) second.1 in
    subst (IsRequest bytes) v.2 (second.0, parts))
    (λ e. absurd cc))

request_again : (o : Option ℕ) (rest : Text) → IsTrue (is_number o)
    → request_read (number_bytes o ++ rest) ≡ Some (o, rest)
unfolding request_read
request_again None rest fits = refl
request_again (Some n) rest fits = ap (λ (r : Read ℕ). value_by Some r) (below_codes.again n rest fits)

pub request_codes : Codes number_bytes (λ o. IsTrue (is_number o)) request_read
request_codes = record { takes = request_takes; again = request_again }

-- The moment

pub moment_codes : Codes (to_le_bytes w64) (λ m. IsTrue (nat_le m max_moment)) moment_read
unfolding moment_read
moment_codes =
    like (tested (number_codes w64 (2 ^ 64) wide64) is_moment) (to_le_bytes w64) (λ m. IsTrue (nat_le m max_moment))
    (λ m. refl) (λ m fits. fits.1)
    (λ m is. let most = leb-true m max_moment is in (omega arith, is))
