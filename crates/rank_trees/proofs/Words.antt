-- Places as the bits of numbers, and lists of places as words.
use Rattle.std.proofs.Common.{◌≡◌, ℕ, zero, suc, ◌+◌, ◌-◌, ◌*◌, ◌/◌, ◌%◌, ◌^◌, ◌<◌, ◌≤◌, ◌==◌, ◌++◌, Bool, true, false, cond, List, [], ◌∷◌, length, get_or, set, drop, take, replicate, refl, sym, ap, ◌∙◌, arith, subst}
use Rattle.std.specs.Int.RustNames.{count_ones}
use Rattle.std.proofs.Math.Nat.{one-le-pow, pow-succ'}
use Rattle.std.proofs.lemmas.Bool.Decides.{nat_tests}
use Rattle.std.proofs.lemmas.List.{drop-append-le, drop-drop, drop-take, drop_all, get_or-drop, get_or-take, length-append, replicate-append-replicate, set-append_left, set-append_right, set-get_or, take-append-le, take_all}
use Rattle.std.proofs.lemmas.List.Sums.{sum_by-cons}
use Rattle.std.proofs.lemmas.Nat.{div-add-mod', mod-mul-add, mod_below, shr-shr}
use Rattle.std.proofs.lemmas.Simd.{ones-mask_l_cons}
use lib.Lanes.{mask_l}
use Rattle.rank_trees.specs.PlacesOn.{count_on}
use Rattle.rank_trees.specs.Words.{bits, number_of_bits, places_in}

-- ---- numbers

number-mask : (on : List Bool) → number_of_bits on ≡ mask_l on
number-mask [] = refl
number-mask (true ∷ on) = ap (λ n. 1 + 2 * n) (number-mask on)
number-mask (false ∷ on) = ap (λ n. 0 + 2 * n) (number-mask on)

ones-mask : (on : List Bool) → count_ones (mask_l on) ≡ count_on on
unfolding count_ones
ones-mask [] = refl
ones-mask (b ∷ on) = ones-mask_l_cons b on ∙ ap (λ n. cond b 1 0 + n) (ones-mask on) ∙ sym (sum_by-cons (λ t. cond t 1 0) b on)

pub ones-number : (on : List Bool) → count_ones (number_of_bits on) ≡ count_on on
ones-number on = ap count_ones (number-mask on) ∙ ones-mask on

half : (b : Bool) (n : ℕ) → (cond b 1 0 + 2 * n) / 2 ≡ n
half true n = omega arith
half false n = omega arith

odd : (b : Bool) (n : ℕ) → (cond b 1 0 + 2 * n) % 2 ≡ cond b 1 0
odd true n = omega arith
odd false n = omega arith

nothing-over : (k : ℕ) → 0 / 2 ^ k ≡ 0
nothing-over k = search arith

pub number-drop : (k : ℕ) (on : List Bool) → number_of_bits (drop k on) ≡ number_of_bits on / 2 ^ k
number-drop zero on = omega arith
number-drop (suc k) [] = sym (nothing-over (suc k))
number-drop (suc k) (b ∷ on) =
    let e : 1 + k ≡ suc k = omega arith in
    number-drop k on ∙ ap (λ n. n / 2 ^ k) (sym (half b (number_of_bits on))) ∙ shr-shr (number_of_bits (b ∷ on)) 1 k
    ∙ ap (λ n. number_of_bits (b ∷ on) / 2 ^ n) e

pub number-head : (on : List Bool) (i : ℕ) → number_of_bits (drop i on) % 2 ≡ cond (get_or on i false) 1 0
number-head [] zero = refl
number-head [] (suc i) = refl
number-head (b ∷ on) zero = odd b (number_of_bits on)
number-head (b ∷ on) (suc i) = number-head on i

number-behind : (on : List Bool) (i : ℕ) → number_of_bits (drop i on) / 2 ≡ number_of_bits (drop (suc i) on)
number-behind [] zero = refl
number-behind [] (suc i) = refl
number-behind (b ∷ on) zero = half b (number_of_bits on)
number-behind (b ∷ on) (suc i) = number-behind on i

pub number-tail : (on : List Bool) (i : ℕ) → number_of_bits (drop i on) / 2 ≡ number_of_bits (drop (i + 1) on)
number-tail on i = let e : suc i ≡ i + 1 = omega arith in number-behind on i ∙ ap (λ n. number_of_bits (drop n on)) e

one_more : (b : Bool) (r m : ℕ) → r < m → cond b 1 0 + 2 * r < 2 * m
one_more true r m less = omega (arith, less)
one_more false r m less = omega (arith, less)

pub number-take : (k : ℕ) (on : List Bool) → number_of_bits (take k on) ≡ number_of_bits on % 2 ^ k
number-take zero on = omega arith
number-take (suc k) [] = search arith
number-take (suc k) (b ∷ on) =
    let rest = number-take k on in
    let twice = pow-succ' 2 k in
    let some = one-le-pow k 2 (omega arith) in
    ap (λ n. cond b 1 0 + 2 * n) rest ∙ lower b (number_of_bits on) (2 ^ k) some ∙ ap (λ m. (cond b 1 0 + 2 * number_of_bits on) % m) (sym twice)
  where
    lower : (b : Bool) (n m : ℕ) → 1 ≤ m → cond b 1 0 + 2 * (n % m) ≡ (cond b 1 0 + 2 * n) % (2 * m)
    lower b n m some =
        let whole = div-add-mod' n m in
        let part = mod_below n m some in
        let product : (n / m) * (2 * m) ≡ 2 * (n / m * m) = omega arith in
        sym (ap (λ x. x % (2 * m)) (let e : cond b 1 0 + 2 * n ≡ (n / m) * (2 * m) + (cond b 1 0 + 2 * (n % m)) = omega (arith, whole, product) in e)
        ∙ mod-mul-add (n / m) (2 * m) (cond b 1 0 + 2 * (n % m)) (one_more b (n % m) m part))

-- ---- words

pub bits-length : (width word : ℕ) → length (bits width word) ≡ width
bits-length zero word = refl
bits-length (suc width) word = ap suc (bits-length width (word / 2))

bit-number : (n : ℕ) → cond (n % 2 == 1) 1 0 + 2 * (n / 2) ≡ n
bit-number n = grind (arith, nat_tests)

pub bits-number : (width word : ℕ) → word < 2 ^ width → number_of_bits (bits width word) ≡ word
bits-number zero word less = omega (arith, less)
bits-number (suc width) word less =
    let twice = pow-succ' 2 width in
    ap (λ n. cond (word % 2 == 1) 1 0 + 2 * n) (bits-number width (word / 2) (omega (arith, less, twice))) ∙ bit-number word

pub bits-at : (width word k : ℕ) → k < width → get_or (bits width word) k false ≡ (word / 2 ^ k % 2 == 1)
bits-at zero word k less = absurd (omega (arith, less))
bits-at (suc width) word zero less = let e : word / 2 ^ 0 ≡ word = omega arith in ap (λ n. n % 2 == 1) (sym e)
bits-at (suc width) word (suc k) less =
    let e : 1 + k ≡ suc k = omega arith in
    bits-at width (word / 2) k (omega (arith, less)) ∙ ap (λ n. n % 2 == 1) (shr-shr word 1 k ∙ ap (λ n. word / 2 ^ n) e)

pub bits-on : (width word k : ℕ) → k < width → word / 2 ^ k % 2 ≡ 0 → bits width (word + 2 ^ k) ≡ set (bits width word) k true
bits-on zero word k less off = absurd (omega (arith, less))
bits-on (suc width) word zero less off =
    let head : ((word + 2 ^ 0) % 2 == 1) ≡ true = let e : (word + 2 ^ 0) % 2 ≡ 1 = omega (arith, off) in ap (λ n. n == 1) e in
    let tail : (word + 2 ^ 0) / 2 ≡ word / 2 = omega (arith, off) in
    ap (λ b. b ∷ bits width ((word + 2 ^ 0) / 2)) head ∙ ap (λ n. true ∷ bits width n) tail
bits-on (suc width) word (suc k) less off =
    let twice = pow-succ' 2 k in
    let e : 1 + k ≡ suc k = omega arith in
    let still = ap (λ n. n % 2) (shr-shr word 1 k ∙ ap (λ n. word / 2 ^ n) e) in
    let head : (word + 2 ^ suc k) % 2 ≡ word % 2 = omega (arith, twice) in
    let tail : (word + 2 ^ suc k) / 2 ≡ word / 2 + 2 ^ k = omega (arith, twice) in
    ap (λ n. (n == 1) ∷ bits width ((word + 2 ^ suc k) / 2)) head ∙ ap (λ n. (word % 2 == 1) ∷ bits width n) tail
    ∙ ap (λ on. (word % 2 == 1) ∷ on) (bits-on width (word / 2) k (omega (arith, less)) (still ∙ off))

-- a place that is on is part of its word
pub bit-part : (word k : ℕ) → word / 2 ^ k % 2 ≡ 1 → 2 ^ k ≤ word
bit-part word k on = lt-or k word (2 ^ k) on (one-le-pow k 2 (omega arith))
  where
    lt-or : (k word power : ℕ) → word / power % 2 ≡ 1 → 1 ≤ power → power ≤ word
    lt-or k word power on some = let whole = div-add-mod' word power in at_least (word / power) power word on whole
      where
        at_least : (q power word : ℕ) → q % 2 ≡ 1 → q * power + word % power ≡ word → power ≤ word
        at_least zero power word on whole = absurd (omega (arith, on))
        at_least (suc q) power word on whole = omega (arith, whole)

pub bits-off : (width word k : ℕ) → k < width → word / 2 ^ k % 2 ≡ 1 → bits width (word - 2 ^ k) ≡ set (bits width word) k false
bits-off zero word k less on = absurd (omega (arith, less))
bits-off (suc width) word zero less on =
    let head : ((word - 2 ^ 0) % 2 == 1) ≡ false = let e : (word - 2 ^ 0) % 2 ≡ 0 = omega (arith, on) in ap (λ n. n == 1) e in
    let tail : (word - 2 ^ 0) / 2 ≡ word / 2 = omega (arith, on) in
    ap (λ b. b ∷ bits width ((word - 2 ^ 0) / 2)) head ∙ ap (λ n. false ∷ bits width n) tail
bits-off (suc width) word (suc k) less on =
    let twice = pow-succ' 2 k in
    let e : 1 + k ≡ suc k = omega arith in
    let still = ap (λ n. n % 2) (shr-shr word 1 k ∙ ap (λ n. word / 2 ^ n) e) in
    let least = bit-part word (suc k) on in
    let head : (word - 2 ^ suc k) % 2 ≡ word % 2 = omega (arith, twice, least) in
    let tail : (word - 2 ^ suc k) / 2 ≡ word / 2 - 2 ^ k = omega (arith, twice, least) in
    ap (λ n. (n == 1) ∷ bits width ((word - 2 ^ suc k) / 2)) head ∙ ap (λ n. (word % 2 == 1) ∷ bits width n) tail
    ∙ ap (λ on. (word % 2 == 1) ∷ on) (bits-off width (word / 2) k (omega (arith, less)) (still ∙ on))

-- a word whose place is so already
pub bits-same : (width word k : ℕ) (b : Bool) → k < width → (word / 2 ^ k % 2 == 1) ≡ b → bits width word ≡ set (bits width word) k b
bits-same width word k b less is = sym (ap (set (bits width word) k) (sym (bits-at width word k less ∙ is)) ∙ set-get_or (bits width word) k false)

pub even-from : (n : ℕ) → (n % 2 == 1) ≡ false → n % 2 ≡ 0
even-from n off = grind (arith, nat_tests, off)

pub odd-from : (n : ℕ) → (n % 2 == 1) ≡ true → n % 2 ≡ 1
odd-from n on = grind (arith, nat_tests, on)

-- a word has room for a place that is off
pub bit-room : (width word k : ℕ) → k < width → word < 2 ^ width → word / 2 ^ k % 2 ≡ 0 → word + 2 ^ k < 2 ^ width
bit-room zero word k less small off = absurd (omega (arith, less))
bit-room (suc width) word zero less small off = let twice = pow-succ' 2 width in omega (arith, small, off, twice)
bit-room (suc width) word (suc k) less small off =
    let twice = pow-succ' 2 width in
    let above = pow-succ' 2 k in
    let e : 1 + k ≡ suc k = omega arith in
    let still = ap (λ n. n % 2) (shr-shr word 1 k ∙ ap (λ n. word / 2 ^ n) e) in
    let rest = bit-room width (word / 2) k (omega (arith, less)) (omega (arith, small, twice)) (still ∙ off) in
    omega (arith, rest, twice, above)

pub places-length : (width : ℕ) (words : List ℕ) → length (places_in width words) ≡ width * length words
places-length width [] = omega arith
places-length width (word ∷ words) = omega (arith, length-append (bits width word) (places_in width words), bits-length width word, places-length width words)

-- the places of one word
pub places-word : (width : ℕ) (words : List ℕ) (i : ℕ) → i < length words
    → take width (drop (width * i) (places_in width words)) ≡ bits width (get_or words i 0)
places-word width [] i within = absurd (omega (arith, within))
places-word width (word ∷ words) zero within =
    let e : width * 0 ≡ 0 = omega arith in
    let long = bits-length width word in
    ap (λ n. take width (drop n (bits width word ++ places_in width words))) e
    ∙ take-append-le width (bits width word) (places_in width words) (omega (arith, long)) ∙ take_all width (bits width word) (omega (arith, long))
places-word width (word ∷ words) (suc i) within =
    let e : width * suc i ≡ width + width * i = omega arith in
    let long = bits-length width word in
    ap (λ n. take width (drop n (bits width word ++ places_in width words))) e
    ∙ ap (take width) (sym (drop-drop (width * i) width (bits width word ++ places_in width words)))
    ∙ ap (λ on. take width (drop (width * i) on))
    (drop-append-le width (bits width word) (places_in width words) (omega (arith, long))
    ∙ ap (λ on. on ++ places_in width words) (drop_all width (bits width word) (omega (arith, long))))
    ∙ places-word width words i (omega (arith, within))

pub places-set : (width : ℕ) (words : List ℕ) (i k word : ℕ) (b : Bool) → i < length words → k < width
    → bits width word ≡ set (bits width (get_or words i 0)) k b
    → places_in width (set words i word) ≡ set (places_in width words) (width * i + k) b
places-set width [] i k word b within less is = absurd (omega (arith, within))
places-set width (old ∷ words) zero k word b within less is =
    let e : k ≡ width * 0 + k = omega arith in
    ap (λ on. on ++ places_in width words) is
    ∙ sym (set-append_left (bits width old) (places_in width words) k b (omega (arith, bits-length width old, less)))
    ∙ ap (λ n. set (bits width old ++ places_in width words) n b) e
places-set width (old ∷ words) (suc i) k word b within less is =
    let e : width * i + k ≡ width * suc i + k - width = omega arith in
    ap (λ on. bits width old ++ on) (places-set width words i k word b (omega (arith, within)) less is)
    ∙ ap (λ n. bits width old ++ set (places_in width words) n b) e
    ∙ sym (set-append_right (bits width old) (places_in width words) width (width * suc i + k) b (bits-length width old) (omega arith))

bits-none : (width : ℕ) → bits width 0 ≡ replicate width false
bits-none zero = refl
bits-none (suc width) = ap (λ on. false ∷ on) (bits-none width)

pub places-none : (width count : ℕ) → places_in width (replicate count 0) ≡ replicate (width * count) false
places-none width zero = let e : 0 ≡ width * 0 = omega arith in ap (λ n. replicate n false) e
places-none width (suc count) =
    let e : width + width * count ≡ width * suc count = omega arith in
    ap (λ on. on ++ places_in width (replicate count 0)) (bits-none width) ∙ ap (λ on. replicate width false ++ on) (places-none width count)
    ∙ replicate-append-replicate width (width * count) false ∙ ap (λ n. replicate n false) e

-- the places of a word from one on
pub places-from : (words : List ℕ) (index word : ℕ) → index / 64 < length words → get_or words (index / 64) 0 ≡ word → word < 2 ^ 64
    → number_of_bits (take (64 - index % 64) (drop index (places_in 64 words))) ≡ word / 2 ^ (index % 64)
places-from words index word within is less =
    let e : 64 * (index / 64) + index % 64 ≡ index = omega arith in
    let n : index % 64 + (64 - index % 64) ≡ 64 = omega arith in
    let on = places_in 64 words in
    ap (λ k. number_of_bits (take (64 - index % 64) (drop k on))) (sym e)
    ∙ ap (λ xs. number_of_bits (take (64 - index % 64) xs)) (sym (drop-drop (index % 64) (64 * (index / 64)) on))
    ∙ ap number_of_bits
    (sym (drop-take (index % 64) (64 - index % 64) (drop (64 * (index / 64)) on)) ∙ ap (λ k. drop (index % 64) (take k (drop (64 * (index / 64)) on))) n)
    ∙ number-drop (index % 64) (take 64 (drop (64 * (index / 64)) on))
    ∙ ap (λ xs. number_of_bits xs / 2 ^ (index % 64)) (places-word 64 words (index / 64) within)
    ∙ ap (λ k. k / 2 ^ (index % 64)) (bits-number 64 (get_or words (index / 64) 0) (subst (λ k. k < 2 ^ 64) (sym is) less) ∙ is)

pub places-put : (words : List ℕ) (index word after : ℕ) (b : Bool) → index / 64 < length words
    → get_or words (index / 64) 0 ≡ word → bits 64 after ≡ set (bits 64 word) (index % 64) b
    → places_in 64 (set words (index / 64) after) ≡ set (places_in 64 words) index b
places-put words index word after b within is put =
    let e : 64 * (index / 64) + index % 64 ≡ index = omega arith in
    places-set 64 words (index / 64) (index % 64) after b within (omega arith) (put ∙ ap (λ n. set (bits 64 n) (index % 64) b) (sym is))
    ∙ ap (λ n. set (places_in 64 words) n b) e

pub place-on : (words : List ℕ) (index word : ℕ) → index / 64 < length words → get_or words (index / 64) 0 ≡ word
    → get_or (places_in 64 words) index false ≡ (word / 2 ^ (index % 64) % 2 == 1)
place-on words index word within is =
    let e : 64 * (index / 64) + index % 64 ≡ index = omega arith in
    let on = places_in 64 words in
    ap (λ n. get_or on n false) (sym e) ∙ sym (get_or-drop (64 * (index / 64)) on (index % 64) false)
    ∙ sym (get_or-take 64 (drop (64 * (index / 64)) on) (index % 64) false (omega arith))
    ∙ ap (λ xs. get_or xs (index % 64) false) (places-word 64 words (index / 64) within ∙ ap (bits 64) is)
    ∙ bits-at 64 word (index % 64) (omega arith)

pub odd-bit : (b : Bool) (n : ℕ) → n ≡ cond b 1 0 → (n == 1) ≡ b
odd-bit true n is = ap (λ m. m == 1) is
odd-bit false n is = ap (λ m. m == 1) is

-- the lowest bit is the first place
pub head-on : (on : List Bool) → (number_of_bits on % 2 == 1) ≡ get_or on 0 false
head-on on = odd-bit (get_or on 0 false) (number_of_bits on % 2) (number-head on 0)
