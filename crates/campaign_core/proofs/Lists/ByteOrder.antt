-- Texts in byte order, each once.
use Rattle.std.proofs.Common.{◌≡◌, ◌||◌, ◌⊎◌, inl, inr, Bool, true, false, List, [], ◌∷◌, refl, sym, ap, ◌∙◌, subst, Ordering, Less, Equal, Greater}
use Rattle.std.specs.BTreeSet.{insert_key}
use Rattle.std.specs.Cmp.Lexicographic.{slice_cmp}
use Rattle.std.specs.List.{list_all, list_any, fold}
use Rattle.std.specs.Ordering.{nat_cmp, is_lt, is_eq, match_ordering, ordering_reverse}
use Rattle.std.specs.Str.{bytes_eq}
use Rattle.std.proofs.lemmas.Bool.{false≢true}
use Rattle.std.proofs.lemmas.Cmp.{nat_list_cmp_total}
use Rattle.std.proofs.lemmas.Map.Text.{is_eq-slice_cmp}
use Rattle.std.proofs.lemmas.Slice.Eq.{bytes_eq-Decides}
use Rattle.decimal_rank.proofs.TruthValues.{or_twice, less_is, or_in_turn}
use Rattle.decimal_rank.proofs.Lists.{all_head, all_tail}
use Rattle.rulebook.specs.Words.{Text, contains_text, in_order}
use Rattle.campaign_core.proofs.Lists.Elements.{all_cons}

abbrev pub text_cmp : Text → Text → Ordering
text_cmp = slice_cmp nat_cmp

abbrev pub below : Text → Text → Bool
below a b = is_lt (text_cmp a b)

-- each text is below the later ones
abbrev pub Rises : List Text → Type 0
Rises [] = Unit {0}
Rises (x ∷ xs) = (list_all (below x) xs ≡ true) × Rises xs

pub same_text : (a b : Text) → text_cmp a b ≡ Equal → a ≡ b
same_text a b is = sym ((bytes_eq-Decides b a).0 (sym (is_eq-slice_cmp b a) ∙ flip (text_cmp a b) is (nat_list_cmp_total.antisymm b a)))
  where
    flip : (o : Ordering) → o ≡ Equal → text_cmp b a ≡ ordering_reverse o → is_eq (text_cmp b a) ≡ true
    flip o e r = ap is_eq (r ∙ ap ordering_reverse e)

pub less_from : (a b : Text) → below a b ≡ true → text_cmp a b ≡ Less
less_from a b is = less_is (text_cmp a b) is

pub greater_flips : (a b : Text) → text_cmp a b ≡ Greater → below b a ≡ true
greater_flips a b is = ap is_lt (nat_list_cmp_total.antisymm b a ∙ ap ordering_reverse is)

below_later : (a b : Text) (xs : List Text) → text_cmp a b ≡ Less → list_all (below b) xs ≡ true → list_all (below a) xs ≡ true
below_later a b [] less all = refl
below_later a b (x ∷ xs) less all =
    all_cons (below a) x xs (ap is_lt (nat_list_cmp_total.trans a b x less (less_from b x (all_head (below b) x xs all))))
    (below_later a b xs less (all_tail (below b) x xs all))

-- A test of all, or of some, with one more text.

pub all_insert : (p : Text → Bool) (xs : List Text) (x : Text) → list_all p xs ≡ true → p x ≡ true → list_all p (insert_key text_cmp xs x) ≡ true
all_insert p [] x all here = all_cons p x [] here refl
all_insert p (y ∷ ys) x all here = step (text_cmp x y) (all_insert p ys x (all_tail p y ys all) here)
  where
    step : (o : Ordering) → list_all p (insert_key text_cmp ys x) ≡ true
        → list_all p (match_ordering o (x ∷ y ∷ ys) (y ∷ ys) (y ∷ insert_key text_cmp ys x)) ≡ true
    step Less rest = all_cons p x (y ∷ ys) here all
    step Equal rest = all
    step Greater rest = all_cons p y (insert_key text_cmp ys x) (all_head p y ys all) rest

pub rises_insert : (xs : List Text) (x : Text) → Rises xs → Rises (insert_key text_cmp xs x)
rises_insert [] x up = (refl, tt)
rises_insert (y ∷ ys) x up = step (text_cmp x y) refl (rises_insert ys x up.1)
  where
    step : (o : Ordering) → text_cmp x y ≡ o → Rises (insert_key text_cmp ys x) → Rises (match_ordering o (x ∷ y ∷ ys) (y ∷ ys) (y ∷ insert_key text_cmp ys x))
    step Less is rest = (all_cons (below x) y ys (ap is_lt is) (below_later x y ys is up.0), up)
    step Equal is rest = up
    step Greater is rest = (all_insert (below y) ys x up.0 (greater_flips x y is), rest)

pub any_insert : (p : Text → Bool) (xs : List Text) (x : Text) → list_any p (insert_key text_cmp xs x) ≡ (p x || list_any p xs)
any_insert p [] x = refl
any_insert p (y ∷ ys) x = step (text_cmp x y) refl (any_insert p ys x)
  where
    step : (o : Ordering) → text_cmp x y ≡ o → list_any p (insert_key text_cmp ys x) ≡ (p x || list_any p ys)
        → list_any p (match_ordering o (x ∷ y ∷ ys) (y ∷ ys) (y ∷ insert_key text_cmp ys x)) ≡ (p x || (p y || list_any p ys))
    step Less is rest = refl
    step Equal is rest = or_twice (p y) (list_any p ys) ∙ ap (λ t. p t || (p y || list_any p ys)) (sym (same_text x y is))
    step Greater is rest = ap (λ t. p y || t) rest ∙ or_in_turn (p y) (p x) (list_any p ys)

abbrev ordered_from : List Text → List Text → List Text
ordered_from = fold (insert_key text_cmp)

rises_from : (xs texts : List Text) → Rises xs → Rises (ordered_from xs texts)
rises_from xs [] up = up
rises_from xs (text ∷ texts) up = rises_from (insert_key text_cmp xs text) texts (rises_insert xs text up)

any_from : (p : Text → Bool) (xs texts : List Text) → list_any p (ordered_from xs texts) ≡ (list_any p xs || list_any p texts)
any_from p xs [] = or_false (list_any p xs)
  where
    or_false : (t : Bool) → t ≡ (t || false)
    or_false true = refl
    or_false false = refl
any_from p xs (text ∷ texts) =
    any_from p (insert_key text_cmp xs text) texts ∙ ap (λ t. t || list_any p texts) (any_insert p xs text) ∙ swap (p text) (list_any p xs) (list_any p texts)
  where
    swap : (r s t : Bool) → ((r || s) || t) ≡ (s || (r || t))
    swap true true t = refl
    swap true false t = refl
    swap false s t = refl

all_from : (p : Text → Bool) (xs texts : List Text) → list_all p xs ≡ true → list_all p texts ≡ true → list_all p (ordered_from xs texts) ≡ true
all_from p xs [] front all = front
all_from p xs (text ∷ texts) front all =
    all_from p (insert_key text_cmp xs text) texts (all_insert p xs text front (all_head p text texts all)) (all_tail p text texts all)

pub in_order-rises : (texts : List Text) → Rises (in_order texts)
in_order-rises texts = rises_from [] texts tt

pub in_order-any : (p : Text → Bool) (texts : List Text) → list_any p (in_order texts) ≡ list_any p texts
in_order-any p texts = any_from p [] texts

pub in_order-all : (p : Text → Bool) (texts : List Text) → list_all p texts ≡ true → list_all p (in_order texts) ≡ true
in_order-all p texts all = all_from p [] texts refl all

-- Texts that rise are known by their members.

one_way : (a b : Text) → below a b ≡ true → below b a ≡ true → ⊥
one_way a b there back = step (text_cmp a b) there (ap is_lt (sym (nat_list_cmp_total.antisymm b a)) ∙ back)
  where
    step : (o : Ordering) → is_lt o ≡ true → is_lt (ordering_reverse o) ≡ true → ⊥
    step Less e f = false≢true f
    step Equal e f = false≢true e
    step Greater e f = false≢true e

-- a text that is among others is the first of them or a later one
first_or_later : (t x : Text) (xs : List Text) → contains_text (x ∷ xs) t ≡ true → (t ≡ x) ⊎ (contains_text xs t ≡ true)
first_or_later t x xs has = step (bytes_eq t x) refl has
  where
    step : (b : Bool) → bytes_eq t x ≡ b → (b || contains_text xs t) ≡ true → (t ≡ x) ⊎ (contains_text xs t ≡ true)
    step true is any = inl ((bytes_eq-Decides t x).0 is)
    step false is any = inr any

pub of_all : (p : Text → Bool) (xs : List Text) (t : Text) → list_all p xs ≡ true → contains_text xs t ≡ true → p t ≡ true
of_all p [] t all has = cc has
of_all p (x ∷ xs) t all has = step (first_or_later t x xs has) (of_all p xs t (all_tail p x xs all))
  where
    step : (t ≡ x) ⊎ (contains_text xs t ≡ true) → (contains_text xs t ≡ true → p t ≡ true) → p t ≡ true
    step (inl same) rest = ap p same ∙ all_head p x xs all
    step (inr later) rest = rest later

has_first : (x : Text) (xs : List Text) → contains_text (x ∷ xs) x ≡ true
has_first x xs = ap (λ b. b || contains_text xs x) ((bytes_eq-Decides x x).1 refl)

same_first : (x y : Text) (xs ys : List Text) → Rises (x ∷ xs) → Rises (y ∷ ys) → contains_text (y ∷ ys) x ≡ true → contains_text (x ∷ xs) y ≡ true → x ≡ y
same_first x y xs ys up also there back = step (first_or_later x y ys there) (first_or_later y x xs back)
  where
    step : (x ≡ y) ⊎ (contains_text ys x ≡ true) → (y ≡ x) ⊎ (contains_text xs y ≡ true) → x ≡ y
    step (inl same) other = same
    step (inr later) (inl same) = sym same
    step (inr later) (inr earlier) = absurd (one_way x y (of_all (below x) xs y up.0 earlier) (of_all (below y) ys x also.0 later))

pub not_later : (x : Text) (xs : List Text) → Rises (x ∷ xs) → contains_text xs x ≡ false
not_later x xs up = step (contains_text xs x) refl
  where
    step : (b : Bool) → contains_text xs x ≡ b → b ≡ false
    step true has = let self = of_all (below x) xs x up.0 has in absurd (one_way x x self self)
    step false has = refl

same_later : (x : Text) (xs ys : List Text) → Rises (x ∷ xs) → Rises (x ∷ ys) → ((t : Text) → contains_text (x ∷ xs) t ≡ contains_text (x ∷ ys) t)
    → (t : Text) → contains_text xs t ≡ contains_text ys t
same_later x xs ys up also same t = step (bytes_eq t x) refl (same t)
  where
    step : (b : Bool) → bytes_eq t x ≡ b → (b || contains_text xs t) ≡ (b || contains_text ys t) → contains_text xs t ≡ contains_text ys t
    step true is h =
        let at = (bytes_eq-Decides t x).0 is in
        ap (contains_text xs) at ∙ not_later x xs up ∙ sym (not_later x ys also) ∙ sym (ap (contains_text ys) at)
    step false is h = h

pub one_list : (xs ys : List Text) → Rises xs → Rises ys → ((t : Text) → contains_text xs t ≡ contains_text ys t) → xs ≡ ys
one_list [] [] up also same = refl
one_list [] (y ∷ ys) up also same = absurd (false≢true (same y ∙ has_first y ys))
one_list (x ∷ xs) [] up also same = absurd (false≢true (sym (same x) ∙ has_first x xs))
one_list (x ∷ xs) (y ∷ ys) up also same =
    let first = same_first x y xs ys up also (sym (same x) ∙ has_first x xs) (same y ∙ has_first y ys) in
    let also_first : Rises (x ∷ ys) = subst (λ a. Rises (a ∷ ys)) (sym first) also in
    let later = same_later x xs ys up also_first (λ t. same t ∙ ap (λ a. contains_text (a ∷ ys) t) (sym first)) in
    ap (λ a. a ∷ xs) first ∙ ap (λ rest. y ∷ rest) (one_list xs ys up.1 also.1 later)

-- the texts that rise and are among others stand in order
pub in_order-is : (texts ys : List Text) → Rises ys → ((t : Text) → contains_text ys t ≡ contains_text texts t) → ys ≡ in_order texts
in_order-is texts ys up same = one_list ys (in_order texts) up (in_order-rises texts) (λ t. same t ∙ sym (in_order-any (bytes_eq t) texts))
