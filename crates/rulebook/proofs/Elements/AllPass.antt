-- What holds of each element of a list holds of each of the lists that are made of it.
use Rattle.std.proofs.Common.{Ordering, Less, Equal, Greater, ◌≡◌, ℕ, zero, suc, ◌+◌, Bool, true, false, List, [], ◌∷◌, ◌++◌, Option, None, Some, map, refl, sym, ap, ◌∙◌, filter}
use Rattle.std.specs.Prelude.{cond, slice_get}
use Rattle.std.specs.List.{cons_option, enumerate_from, filter_map, find, flat_map, fold, list_all}
use Rattle.std.specs.Ordering.{match_ordering, nat_cmp}
use Rattle.std.specs.BTreeSet.{insert_key}
use Rattle.std.specs.Cmp.Lexicographic.{slice_cmp}
use Rattle.std.proofs.lemmas.List.Folds.{list_all-append}
use Rattle.std.proofs.lemmas.Bool.{and_from}
use Rattle.decimal_rank.proofs.Lists.{all_head, all_tail}
use Rattle.rulebook.specs.Words.{Text, in_order}

module _ {X : Type 0} (p : X → Bool) where
  pub all_joined : (xs ys : List X) → list_all p xs ≡ true → list_all p ys ≡ true → list_all p (xs ++ ys) ≡ true
  all_joined xs ys front back = list_all-append p xs ys ∙ and_from (list_all p xs) (list_all p ys) front back

  pub all_pushed : (xs : List X) (x : X) → list_all p xs ≡ true → p x ≡ true → list_all p (xs ++ x ∷ []) ≡ true
  all_pushed xs x all here = all_joined xs (x ∷ []) all (and_from (p x) true here refl)

  pub all_got : (xs : List X) (i : ℕ) (x : X) → list_all p xs ≡ true → slice_get xs i ≡ Some x → p x ≡ true
  all_got [] i x all is = cc is
  all_got (y ∷ ys) zero x all is = let same : y ≡ x = cc is in ap p (sym same) ∙ all_head p y ys all
  all_got (y ∷ ys) (suc i) x all is = all_got ys i x (all_tail p y ys all) is

  pub all_found : (q : X → Bool) (xs : List X) (x : X) → list_all p xs ≡ true → find q xs ≡ Some x → p x ≡ true
  all_found q [] x all is = cc is
  all_found q (y ∷ ys) x all is = step (q y) is (all_found q ys x (all_tail p y ys all))
    where
      step : (t : Bool) → cond t (Some y) (find q ys) ≡ Some x → (find q ys ≡ Some x → p x ≡ true) → p x ≡ true
      step true here rest = let same : y ≡ x = cc here in ap p (sym same) ∙ all_head p y ys all
      step false later rest = rest later

  pub all_filtered : (q : X → Bool) (xs : List X) → list_all p xs ≡ true → list_all p (filter q xs) ≡ true
  all_filtered q [] all = refl
  all_filtered q (x ∷ xs) all = step (q x) (all_filtered q xs (all_tail p x xs all))
    where
      step : (t : Bool) → list_all p (filter q xs) ≡ true → list_all p (cond t (x ∷ filter q xs) (filter q xs)) ≡ true
      step true rest = and_from (p x) (list_all p (filter q xs)) (all_head p x xs all) rest
      step false rest = rest

  pub all_passed : (xs : List X) → list_all p (filter p xs) ≡ true
  all_passed [] = refl
  all_passed (x ∷ xs) = step (p x) refl (all_passed xs)
    where
      step : (t : Bool) → p x ≡ t → list_all p (filter p xs) ≡ true → list_all p (filter p (x ∷ xs)) ≡ true
      step true is rest = rw is (and_from (p x) (list_all p (filter p xs)) is rest)
      step false is rest = rw is rest

  pub all_numbered : (n : ℕ) (xs : List X) → list_all p xs ≡ true → list_all (λ x. p x.1) (enumerate_from n xs) ≡ true
  all_numbered n [] all = refl
  all_numbered n (x ∷ xs) all =
      and_from (p x) (list_all (λ x. p x.1) (enumerate_from (n + 1) xs)) (all_head p x xs all) (all_numbered (n + 1) xs (all_tail p x xs all))

pub all_images : {X Y : Type 0} (p : Y → Bool) (f : X → Y) (xs : List X) → list_all (λ x. p (f x)) xs ≡ true → list_all p (map f xs) ≡ true
all_images p f [] all = refl
all_images p f (x ∷ xs) all =
    and_from (p (f x)) (list_all p (map f xs)) (all_head (λ x. p (f x)) x xs all) (all_images p f xs (all_tail (λ x. p (f x)) x xs all))

module _ {X Y : Type 0} (p : X → Bool) (q : Y → Bool) where
  pub all_mapped_flat : (f : X → List Y) → ((x : X) → p x ≡ true → list_all q (f x) ≡ true) → (xs : List X)
      → list_all p xs ≡ true → list_all q (flat_map f xs) ≡ true
  all_mapped_flat f each [] all = refl
  all_mapped_flat f each (x ∷ xs) all =
      all_joined q (f x) (flat_map f xs) (each x (all_head p x xs all)) (all_mapped_flat f each xs (all_tail p x xs all))

  pub all_given : (f : X → Option Y) → ((x : X) (y : Y) → p x ≡ true → f x ≡ Some y → q y ≡ true) → (xs : List X)
      → list_all p xs ≡ true → list_all q (filter_map f xs) ≡ true
  all_given f each [] all = refl
  all_given f each (x ∷ xs) all = step (f x) refl (all_given f each xs (all_tail p x xs all))
    where
      step : (o : Option Y) → f x ≡ o → list_all q (filter_map f xs) ≡ true → list_all q (cons_option o (filter_map f xs)) ≡ true
      step None is rest = rest
      step (Some y) is rest = and_from (q y) (list_all q (filter_map f xs)) (each x y (all_head p x xs all) is) rest

module _ (p : Text → Bool) where
  abbrev by_bytes : Text → Text → Ordering
  by_bytes = slice_cmp nat_cmp

  all_inserted : (texts : List Text) (text : Text) → list_all p texts ≡ true → p text ≡ true → list_all p (insert_key by_bytes texts text) ≡ true
  all_inserted [] text all here = and_from (p text) true here refl
  all_inserted (t ∷ ts) text all here = step (by_bytes text t) (all_inserted ts text (all_tail p t ts all) here)
    where
      step : (o : Ordering) → list_all p (insert_key by_bytes ts text) ≡ true
          → list_all p (match_ordering o (text ∷ t ∷ ts) (t ∷ ts) (t ∷ insert_key by_bytes ts text)) ≡ true
      step Less rest = and_from (p text) (list_all p (t ∷ ts)) here all
      step Equal rest = all
      step Greater rest = and_from (p t) (list_all p (insert_key by_bytes ts text)) (all_head p t ts all) rest

  all_along : (texts more : List Text) → list_all p texts ≡ true → list_all p more ≡ true → list_all p (fold (insert_key by_bytes) texts more) ≡ true
  all_along texts [] all later = all
  all_along texts (t ∷ ts) all later =
      all_along (insert_key by_bytes texts t) ts (all_inserted texts t all (all_head p t ts later)) (all_tail p t ts later)

  pub all_in_order : (texts : List Text) → list_all p texts ≡ true → list_all p (in_order texts) ≡ true
  all_in_order texts all = all_along [] texts refl all
