-- The documents that runs of one group alone hold, by their holders.
use Rattle.std.proofs.Common.{◌≡◌, ◌&&◌, ◌||◌, ◌<◌, ◌∙◌, ℕ, Bool, true, false, cond, List, [], ◌∷◌, ap, arith, filter, length, map, refl, sym}
use Rattle.std.specs.List.{flat_map, list_all, list_any}
use Rattle.std.specs.Str.{bytes_eq}
use Rattle.std.proofs.lemmas.List.Folds.{list_any-append}
use Rattle.std.proofs.lemmas.Slice.Eq.{bytes_eq-Decides}
use Rattle.std.proofs.Math.Bool.{and-false}
use Rattle.depth_pool.specs.declared.runs.RunId.{RunId}
use Rattle.rulebook.specs.Campaign.{History, Run, held_documents, live, numbered_runs, pool, run_holds}
use Rattle.rulebook.specs.Judgements.Holders.{holders}
use Rattle.rulebook.specs.Words.{Text, contains_text}
use Rattle.campaign_core.specs.Views.Groups.{group_of}
use Rattle.campaign_core.specs.Views.LendingLaws.{run_id_of}
use Rattle.campaign_core.proofs.Lists.ByteOrder.{in_order-any}
use Rattle.leave_out.specs.Reuse.{own}

-- whether there is one
abbrev pub some : {X : Type 0} → List X → Bool
some [] = false
some (x ∷ xs) = true

-- the pool has the documents that have holders
module _ (H : History) (topic doc : Text) where
  abbrev run_of : ℕ × Run → Run
  run_of p = p.1

  abbrev holds_it : ℕ × Run → Bool
  holds_it p = run_holds H topic p.1 doc

  any-held : (ps : List (ℕ × Run)) → list_any (bytes_eq doc) (flat_map (held_documents H topic) (map run_of ps)) ≡ some (filter holds_it ps)
  any-held [] = refl
  any-held (p ∷ ps) =
      list_any-append (bytes_eq doc) (held_documents H topic p.1) (flat_map (held_documents H topic) (map run_of ps)) ∙ step (holds_it p) (any-held ps)
    where
      step : (t : Bool) → list_any (bytes_eq doc) (flat_map (held_documents H topic) (map run_of ps)) ≡ some (filter holds_it ps)
          → (t || list_any (bytes_eq doc) (flat_map (held_documents H topic) (map run_of ps))) ≡ some (cond t (p ∷ filter holds_it ps) (filter holds_it ps))
      step true rest = refl
      step false rest = rest

  in-pool : contains_text (pool H topic) doc ≡ some (holders H topic doc)
  in-pool = in_order-any (bytes_eq doc) (flat_map (held_documents H topic) (live H)) ∙ any-held (numbered_runs H)

pub any-filter : (q : Text → Bool) (doc : Text) (xs : List Text) → contains_text (filter q xs) doc ≡ (contains_text xs doc && q doc)
any-filter q doc [] = refl
any-filter q doc (x ∷ xs) = step (bytes_eq doc x) refl (q x) refl (any-filter q doc xs)
  where
    both : (t u : Bool) → t ≡ (u && t) → (false || t) ≡ (u && t)
    both t u e = e

    step : (t : Bool) → bytes_eq doc x ≡ t → (u : Bool) → q x ≡ u → contains_text (filter q xs) doc ≡ (contains_text xs doc && q doc)
        → contains_text (cond u (x ∷ filter q xs) (filter q xs)) doc ≡ ((t || contains_text xs doc) && q doc)
    step true is true passes rest =
        ap (λ t. t || contains_text (filter q xs) doc) is ∙ sym (ap q ((bytes_eq-Decides doc x).0 is) ∙ passes)
    step true is false passes rest =
        let none : q doc ≡ false = ap q ((bytes_eq-Decides doc x).0 is) ∙ passes in
        rest ∙ ap (λ t. contains_text xs doc && t) none ∙ and-false (contains_text xs doc) ∙ sym none
    step false is true passes rest = ap (λ t. t || contains_text (filter q xs) doc) is ∙ rest
    step false is false passes rest = rest

all-map : {X Y : Type 0} (p : Y → Bool) (f : X → Y) (xs : List X) → list_all p (map f xs) ≡ list_all (λ x. p (f x)) xs
all-map p f [] = refl
all-map p f (x ∷ xs) = ap (λ t. p (f x) && t) (all-map p f xs)

some-map : {X Y : Type 0} (f : X → Y) (xs : List X) → some (map f xs) ≡ some xs
some-map f [] = refl
some-map f (x ∷ xs) = refl

-- a document is a group's own where it has holders, which are all of the group
pub own-is : (H : History) (group topic doc : Text) (found : List RunId) → found ≡ map run_id_of (holders H topic doc)
    → contains_text (own H group topic) doc ≡ (some found && list_all (λ run. bytes_eq (group_of H run.0) group) found)
own-is H group topic doc found is =
    let of_group : ℕ × Run → Bool = λ run. bytes_eq (group_of H run.0) group in
    let all_of : List RunId → Bool = list_all (λ run. bytes_eq (group_of H run.0) group) in
    any-filter (λ doc. list_all of_group (holders H topic doc)) doc (pool H topic)
    ∙ ap (λ t. t && list_all of_group (holders H topic doc)) (in-pool H topic doc ∙ sym (some-map run_id_of (holders H topic doc)))
    ∙ ap (λ t. some (map run_id_of (holders H topic doc)) && t)
    (sym (all-map (λ (run : RunId). bytes_eq (group_of H run.0) group) run_id_of (holders H topic doc)))
    ∙ ap (λ (runs : List RunId). some runs && all_of runs) (sym is)

pub own-none : (H : History) (group topic doc : Text) (found : List RunId) → found ≡ map run_id_of (holders H topic doc)
    → length found ≡ 0 → false ≡ contains_text (own H group topic) doc
own-none H group topic doc [] is none = sym (own-is H group topic doc [] is)
own-none H group topic doc (run ∷ found) is none = absurd (omega (arith, none))

pub some-there : {X : Type 0} (xs : List X) → 0 < length xs → some xs ≡ true
some-there [] there = absurd (omega (arith, there))
some-there (x ∷ xs) there = refl
