-- A table of buckets stays linked as an item is pushed.
use Rattle.std.proofs.Common.{◌≡◌, ◌≢◌, ℕ, ◌+◌, ◌<◌, ◌≤◌, ◌^◌, List, [], ◌∷◌, ◌++◌, length, get_or, Some, None, Option, slice_set, refl, sym, ap, arith, length-append, subst, ◌⊎◌, inl, inr, zero, suc}
use Rattle.std.proofs.lemmas.List.{get_or-set_same, get_or-set_other, length-set, length-map, map-append}
use Rattle.decimal_rank.specs.Tables.Buckets.{IsNewest}
use Rattle.decimal_rank.specs.Tables.BucketChains.{AreLinked, buckets}
use Rattle.decimal_rank.specs.declared.tables.chains.Link.{Link}
use Rattle.decimal_rank.proofs.BucketTables.AddedItems.{get-cases, newest-stays, newest-new, newest-other}

same-or-other : (i j : ℕ) → (i ≡ j) ⊎ (i ≢ j)
same-or-other zero zero = inl refl
same-or-other zero (suc j) = inr (omega arith)
same-or-other (suc i) zero = inr (omega arith)
same-or-other (suc i) (suc j) =
    elim (same-or-other i j) as (λ _. (suc i ≡ suc j) ⊎ (suc i ≢ suc j)) [ inl e ↦ inl (ap suc e) | inr n ↦ inr (omega (arith, n)) ]

pub linked-push : (newest : List (Option ℕ)) (links : List Link) (link : Link) → AreLinked newest links
    → link.bucket < length newest → length links + 1 < 2 ^ 32 → link.earlier ≡ get_or newest link.bucket None
    → AreLinked (slice_set newest link.bucket (Some (length links))) (links ++ link ∷ [])
linked-push newest links link h within few earlier = record {
  some = rw kept h.some;
  room = rw kept h.room;
  few = rw long few;
  from_bucket = λ b below. rw (told, long)
      (elim (same-or-other b link.bucket) as (λ _. IsNewest (buckets links ++ link.bucket ∷ []) (length links + 1) b (get_or new b None)) [
        | inl e ↦ rw (e, get_or-set_same newest link.bucket (Some (length links)) None within)
            (subst (λ n. IsNewest (buckets links ++ link.bucket ∷ []) (n + 1) link.bucket (Some n)) wide (newest-new (buckets links) link.bucket))
        | inr n ↦ rw (get_or-set_other newest link.bucket b (Some (length links)) None n)
            (subst (λ n. IsNewest (buckets links ++ link.bucket ∷ []) (n + 1) b (get_or newest b None)) wide
            (newest-other (buckets links) link.bucket b (get_or newest b None) n
            (subst (λ n. IsNewest (buckets links) n b (get_or newest b None)) (sym wide) (h.from_bucket b (subst (λ n. b < n) kept below)))))
      ]);
  from_item = λ item l is. rw told (elim (get-cases links link l item is) as (λ _. IsNewest (buckets links ++ link.bucket ∷ []) item l.bucket l.earlier) [
    | inl p ↦ newest-stays (buckets links) link.bucket item l.bucket l.earlier (subst (λ n. item ≤ n) (sym wide) (omega (arith, p.0))) (h.from_item item l p.1)
    | inr p ↦ subst (λ k. IsNewest (buckets links ++ link.bucket ∷ []) item k.bucket k.earlier) p.1 (rw (p.0, earlier)
        (newest-stays (buckets links) link.bucket (length links) link.bucket (get_or newest link.bucket None)
        (subst (λ n. length links ≤ n) (sym wide) (omega arith)) (h.from_bucket link.bucket within)))
  ]);
}
  where
    new : List (Option ℕ)
    new = slice_set newest link.bucket (Some (length links))

    kept : length new ≡ length newest
    kept = length-set newest link.bucket (Some (length links))

    long : length (links ++ link ∷ []) ≡ length links + 1
    long = length-append links (link ∷ [])

    told : buckets (links ++ link ∷ []) ≡ buckets links ++ link.bucket ∷ []
    told = map-append (λ l. l.bucket) links (link ∷ [])

    wide : length (buckets links) ≡ length links
    wide = length-map links (λ l. l.bucket)
