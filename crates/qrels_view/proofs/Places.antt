-- The places of a trail's documents, and the documents in the order that a sort gives.
use Rattle.std.proofs.Common.{◌≡◌, ℕ, zero, suc, Bool, ◌+◌, ◌<◌, ◌≤◌, List, [], ◌∷◌, ◌++◌, length, map, take, get_or, refl, sym, ap, ◌∙◌, subst, arith}
use Rattle.std.specs.Cmp.{IsStrictWeakOrder}
use Rattle.std.specs.List.Sorted.{IsPermutation, IsSortedBy}
use Rattle.std.proofs.lemmas.Cmp.{nat_list_cmp_total}
use Rattle.std.proofs.lemmas.List.{get_or-map, length-append, length-map, map-append, take_all, take_more}
use Rattle.std.proofs.lemmas.List.Sorted.{IsPermutation-append_left, IsPermutation-map, IsPermutation-trans, length_permutation, ranks_by}
use Rattle.decimal_rank.specs.Names.{docno_of}
use Rattle.decimal_rank.proofs.Lists.{map-map}
use Rattle.qrels_view.specs.declared.grades.Graded.{Graded}
use Rattle.qrels_view.specs.declared.grades.Placed.{Placed}
use Rattle.qrels_view.specs.Places.{HasFirstPlaces, first_places, placed_at, ungraded}
use Rattle.qrels_view.proofs.SortedDocs.{is_before}

-- the places from the last one on
pub one_more_place : (places : List ℕ) (place : ℕ) → place ≡ length places → HasFirstPlaces places → HasFirstPlaces (places ++ place ∷ [])
one_more_place places place is each =
    let longer : length (places ++ place ∷ []) ≡ suc (length places) = let whole = length-append places (place ∷ []) in omega arith in
    let more : IsPermutation (first_places (length places) ++ length places ∷ []) (places ++ length places ∷ []) =
    IsPermutation-append_left (length places ∷ []) (first_places (length places)) places each in
    let here : IsPermutation (first_places (length places) ++ length places ∷ []) (places ++ place ∷ []) =
    subst (λ last. IsPermutation (first_places (length places) ++ length places ∷ []) (places ++ last ∷ [])) (sym is) more in
    subst (λ n. IsPermutation (first_places n) (places ++ place ∷ [])) (sym longer) here

-- the documents at the first places are the first documents
at_first_places : (graded : List Graded) (n : ℕ) → n ≤ length graded → map (λ place. get_or graded place ungraded) (first_places n) ≡ take n graded
at_first_places graded zero h = refl
at_first_places graded (suc n) h =
    map-append (λ place. get_or graded place ungraded) (first_places n) (n ∷ [])
    ∙ ap (λ first. first ++ get_or graded n ungraded ∷ []) (at_first_places graded n (omega arith))
    ∙ sym (take_more graded n ungraded (omega arith)) ∙ ap (λ k. take k graded) (let e : n + 1 ≡ suc n = omega arith in e)

-- all documents, each at its place
pub all_placed : (graded : List Graded) (places : List ℕ) → length places ≡ length graded → HasFirstPlaces places
    → IsPermutation graded (map (λ place. get_or graded place ungraded) places)
all_placed graded places len each =
    let first : map (λ place. get_or graded place ungraded) (first_places (length places)) ≡ graded =
    at_first_places graded (length places) (omega (arith, len)) ∙ ap (λ k. take k graded) len ∙ take_all (length graded) graded (omega arith) in
    subst (λ documents. IsPermutation documents (map (λ place. get_or graded place ungraded) places)) first
    (IsPermutation-map (λ place. get_or graded place ungraded) (first_places (length places)) places each)

map-id : (places : List ℕ) → map (λ place. place) places ≡ places
map-id [] = refl
map-id (place ∷ places) = ap (λ rest. place ∷ rest) (map-id places)

-- what stands at places, from the list of the documents at their places
pub documents_at : (graded : List Graded) (places : List ℕ)
    → map (λ one. one.graded) (map (placed_at graded) places) ≡ map (λ place. get_or graded place ungraded) places
documents_at graded places = map-map (λ (one : Placed). one.graded) (placed_at graded) places

pub places_at : (graded : List Graded) (places : List ℕ) → map (λ one. one.place) (map (placed_at graded) places) ≡ places
places_at graded places = map-map (λ (one : Placed). one.place) (placed_at graded) places ∙ map-id places

-- the places in another order are the first ones still
pub still_first : (graded : List Graded) (places : List ℕ) (sorted : List Placed) → HasFirstPlaces places
    → IsPermutation (map (placed_at graded) places) sorted → HasFirstPlaces (map (λ one. one.place) sorted)
still_first graded places sorted each moved =
    let after = map (λ (one : Placed). one.place) sorted in
    let moves : IsPermutation places after =
    subst (λ before. IsPermutation before after) (places_at graded places)
    (IsPermutation-map (λ (one : Placed). one.place) (map (placed_at graded) places) sorted moved) in
    subst (λ n. IsPermutation (first_places n) after) (sym (length_permutation places after moves))
    (IsPermutation-trans (first_places (length places)) places after each moves)

pub as_many_sorted : (graded : List Graded) (places : List ℕ) (sorted : List Placed) → IsPermutation (map (placed_at graded) places) sorted
    → length (map (λ one. one.place) sorted) ≡ length places
as_many_sorted graded places sorted moved =
    length-map sorted (λ (one : Placed). one.place) ∙ length_permutation (map (placed_at graded) places) sorted moved ∙ length-map places (placed_at graded)

-- all documents, in the order that was given to those at their places
pub documents_moved : (graded : List Graded) (places : List ℕ) (sorted : List Placed) → length places ≡ length graded
    → HasFirstPlaces places → IsPermutation (map (placed_at graded) places) sorted
    → IsPermutation graded (map (λ one. one.graded) sorted)
documents_moved graded places sorted len each moved =
    let before = map (λ place. get_or graded place ungraded) places in
    let after = map (λ (one : Placed). one.graded) sorted in
    IsPermutation-trans graded before after (all_placed graded places len each)
    (subst (λ documents. IsPermutation documents after) (documents_at graded places)
    (IsPermutation-map (λ (one : Placed). one.graded) (map (placed_at graded) places) sorted moved))

-- documents at their places by docno, as the test of the definition has them
abbrev pub placed_before : List (List ℕ) → Placed → Placed → Bool
placed_before names a b = is_before names a.graded b.graded

pub documents_sorted : (names : List (List ℕ)) (sorted : List Placed) → IsSortedBy (placed_before names) sorted
    → IsSortedBy (is_before names) (map (λ one. one.graded) sorted)
documents_sorted names sorted up k d low high =
    let within : k + 1 < length sorted = omega (arith, length-map sorted (λ (one : Placed). one.graded)) in
    let none : Placed = record { place = 0; graded = d } in
    let part = λ (one : Placed). one.graded in
    ap (λ one. is_before names one (get_or (map part sorted) k d)) (get_or-map part sorted (k + 1) none d within)
    ∙ ap (is_before names (get_or sorted (k + 1) none).graded) (get_or-map part sorted k none d (omega arith))
    ∙ up k none low within

pub placed_order : (names : List (List ℕ)) → IsStrictWeakOrder (placed_before names)
placed_order names = ranks_by nat_list_cmp_total (λ (one : Placed). docno_of names one.graded.doc.0)
