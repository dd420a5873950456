-- What one more lease does to a series.
use Rattle.std.proofs.Common.{◌≡◌, ℕ, ◌+◌, ◌<◌, ◌≤◌, ◌⊎◌, Bool, true, false, cond, List, [], ◌∷◌, ◌++◌, Option, Some, None, length, max, map, refl, sym, ap, subst, ◌∙◌, arith, get_or, inl, inr, is_none, suc, zero}
use Rattle.std.proofs.Math.Nat.{le-max_left, le-max_right}
use Rattle.std.proofs.lemmas.Bool.{false≢true}
use Rattle.std.proofs.lemmas.List.{get_or_append_left, get_or_default, get_or_push, length_push}
use Rattle.std.proofs.lemmas.Option.{slice_get-get_or}
use Rattle.lease_desk.specs.Series.{AreInSeries, HasLink, IsSeriesOf, LeadsBack, last_of, last_place, latest_at, up_to}
use Rattle.lease_desk.specs.declared.series.Link.{Link}
use Rattle.lease_desk.specs.declared.leases.Lease.{Lease}
use Rattle.lease_desk.proofs.LastPlaces.{last_passes, last_place-push, last_place-within}

-- ---- the last place

-- no element that passes stands behind it
pub last_is_last : {X : Type 0} (passes : X → Bool) (xs : List X) (i : ℕ) (d : X) → i < length xs
    → passes (get_or xs i d) ≡ true → i < up_to (last_place passes xs)
last_is_last passes [] i d h e = absurd (omega arith)
last_is_last passes (x ∷ xs) zero d h e = step (last_place passes xs) (passes x) e
  where
    step : (last : Option ℕ) (t : Bool) → t ≡ true → 0 < up_to (last_of last t)
    step None true here = omega arith
    step None false here = absurd (false≢true here)
    step (Some i) t here = omega arith
last_is_last passes (x ∷ xs) (suc i) d h e = step (last_place passes xs) (passes x) (last_is_last passes xs i d (omega arith) e)
  where
    step : (last : Option ℕ) (t : Bool) → i < up_to last → suc i < up_to (last_of last t)
    step None true lt = absurd (omega arith)
    step None false lt = absurd (omega arith)
    step (Some place) t lt = omega arith

-- the last place of a list whose elements changed, and pass as before
pub last_place-map : {X : Type 0} (passes : X → Bool) (g : X → X) (same : (x : X) → passes (g x) ≡ passes x) (xs : List X)
    → last_place passes (map g xs) ≡ last_place passes xs
last_place-map passes g same [] = refl
last_place-map passes g same (x ∷ xs) =
    ap (λ last. last_of last (passes (g x))) (last_place-map passes g same xs) ∙ ap (last_of (last_place passes xs)) (same x)

-- ---- one more lease

latest_is_at : (links : List Link) (place : ℕ) (link : Link) → place < length links → latest_at links (Some place) ≡ (get_or links place link).latest_until
latest_is_at links place link h = rw (slice_get-get_or links place link h) refl

pub below_or_last : (i n : ℕ) → i < n + 1 → (i < n) ⊎ (i ≡ n)
below_or_last i n h = grind arith

-- the moment of the series covers each of its leases
covered : (passes : Lease → Bool) (leases : List Lease) (links : List Link) (newest : Option ℕ)
    → length links ≡ length leases → IsSeriesOf passes leases links newest
    → (i : ℕ) (lease : Lease) (link : Link) → i < length leases → passes (get_or leases i lease) ≡ true → (get_or leases i lease).until ≤ latest_at links newest
covered passes leases links newest long series i lease link h e = step newest series.newest_is
  where
    step : (last : Option ℕ) → last ≡ last_place passes leases → (get_or leases i lease).until ≤ latest_at links last
    step None is = let lt = last_is_last passes leases i lease h e in let none : up_to None ≡ up_to (last_place passes leases) = ap up_to is in
        absurd (omega (arith, lt, none))
    step (Some place) is =
        let lt = last_is_last passes leases i lease h e in
        let upper : place + 1 ≡ up_to (last_place passes leases) = ap up_to is in
        let most = last_place-within passes leases in
        let within : place < length leases = omega (arith, upper, most) in
        let within_links : place < length links = omega arith in
        let earlier : i ≤ place = omega (arith, lt, upper) in
        let here : passes (get_or leases place lease) ≡ true = last_passes passes leases place lease (sym is) in
        let at_most = series.latest_is place i lease link within earlier here e in
        let at = latest_is_at links place link within_links in
        omega (arith, at_most, at)

-- ---- from the newest lease back

module _ (passes : Lease → Bool) (leases : List Lease) (links : List Link) where
  -- behind the newest lease none passes
  behind : (newest : Option ℕ) → newest ≡ last_place passes leases → (i : ℕ) (lease : Lease) → up_to newest ≤ i
      → i < length leases → passes (get_or leases i lease) ≡ true → ⊥
  behind newest is i lease at_least h e =
      let lt = last_is_last passes leases i lease h e in
      let upper : up_to newest ≡ up_to (last_place passes leases) = ap up_to is in
      omega (arith, lt, upper)

  pub none_leads : IsSeriesOf passes leases links None → length links ≡ length leases → LeadsBack passes leases (length links) None
  none_leads series long = record {
    earlier = omega arith;
    passes_there = λ there lease e. cc;
    ended_between = λ i lease at_least lt e. absurd (behind None series.newest_is i lease at_least (omega (arith, long)) e);
  }

  pub newest_leads : (place : ℕ) → IsSeriesOf passes leases links (Some place) → length links ≡ length leases
      → LeadsBack passes leases (length links) (Some place)
  newest_leads place series long = record {
    earlier = let upper : place + 1 ≡ up_to (last_place passes leases) = ap up_to series.newest_is in
        omega (arith, long, upper, last_place-within passes leases);
    passes_there = λ there lease e. last_passes passes leases there lease (sym series.newest_is ∙ e);
    ended_between = λ i lease at_least lt e. absurd (behind (Some place) series.newest_is i lease at_least (omega (arith, long)) e);
  }

  pub ended_leads : (place : ℕ) (lease : Lease) (link : Link) → IsSeriesOf passes leases links (Some place)
      → length links ≡ length leases → is_none (get_or leases place lease).end ≡ false
      → LeadsBack passes leases (length links) (get_or links place link).previous
  ended_leads place lease link series long has_ended =
      let upper : place + 1 ≡ up_to (last_place passes leases) = ap up_to series.newest_is in
      let within : place < length leases = omega (arith, upper, last_place-within passes leases) in
      let here : passes (get_or leases place lease) ≡ true = last_passes passes leases place lease (sym series.newest_is) in
      let back = series.leads_back place lease link within here in
      let earlier = back.earlier in
      record {
        earlier = omega (arith, long, within, earlier);
        passes_there = back.passes_there;
        ended_between = λ i d at_least lt e. step back i d at_least (omega (arith, long)) e (where_is i place);
      }
    where
      where_is : (i place : ℕ) → (i < place) ⊎ ((i ≡ place) ⊎ (place + 1 ≤ i))
      where_is i place = grind arith

      step : LeadsBack passes leases place (get_or links place link).previous → (i : ℕ) (d : Lease)
          → up_to (get_or links place link).previous ≤ i → i < length leases
          → passes (get_or leases i d) ≡ true → (i < place) ⊎ ((i ≡ place) ⊎ (place + 1 ≤ i)) → is_none (get_or leases i d).end ≡ false
      step back i d at_least h e (inl lt) = back.ended_between i d at_least lt e
      step back i d at_least h e (inr (inl is)) =
          let within : place < length leases = omega arith in
          subst (λ k. is_none (get_or leases k d).end ≡ false) (sym is)
          (ap (λ (l : Lease). is_none l.end) (get_or_default leases place d lease within) ∙ has_ended)
      step back i d at_least h e (inr (inr later)) = absurd (behind (Some place) series.newest_is i d later h e)

-- ---- one more lease

-- a link that leads back does so where leases join
leads_further : (passes : Lease → Bool) (leases : List Lease) (new : Lease) (place : ℕ) (previous : Option ℕ) → place ≤ length leases
    → LeadsBack passes leases place previous → LeadsBack passes (leases ++ new ∷ []) place previous
leads_further passes leases new place previous h back =
    let earlier = back.earlier in
    record {
      earlier = earlier;
      passes_there = λ there lease e.
          let upper : up_to previous ≡ there + 1 = ap up_to e in
          let within : there < length leases = omega (arith, upper, earlier) in
          ap passes (get_or_append_left leases (new ∷ []) lease there within) ∙ back.passes_there there lease e;
      ended_between = λ i lease at_least lt e.
          let within : i < length leases = omega arith in
          let same = get_or_append_left leases (new ∷ []) lease i within in
          ap (λ (l : Lease). is_none l.end) same ∙ back.ended_between i lease at_least lt (ap passes (sym same) ∙ e);
    }

module _ (passes : Lease → Bool) (leases : List Lease) (links after : List Link) (newest of_key : Option ℕ) (long : length links ≡ length leases) (new : Lease)
    (series : IsSeriesOf passes leases links newest) (more : HasLink leases links after of_key (max new.until (latest_at links of_key))) where
  old_lease : (i : ℕ) (d : Lease) → i < length leases → get_or (leases ++ new ∷ []) i d ≡ get_or leases i d
  old_lease i d h = get_or_append_left leases (new ∷ []) d i h

  -- the links before lead where they led
  old_leads : (place : ℕ) (lease : Lease) (link : Link) → place < length leases → passes (get_or (leases ++ new ∷ []) place lease) ≡ true
      → LeadsBack passes (leases ++ new ∷ []) place (get_or after place link).previous
  old_leads place lease link h e =
      let within : place < length links = omega arith in
      let upto : place ≤ length leases = omega arith in
      subst (LeadsBack passes (leases ++ new ∷ []) place) (sym (more.previous_stays place link within))
      (leads_further passes leases new place (get_or links place link).previous upto
      (series.leads_back place lease link h (ap passes (sym (old_lease place lease h)) ∙ e)))

  old_latest : (place earlier : ℕ) (lease : Lease) (link : Link) → place < length leases → earlier ≤ place
      → passes (get_or (leases ++ new ∷ []) place lease) ≡ true
      → passes (get_or (leases ++ new ∷ []) earlier lease) ≡ true → (get_or (leases ++ new ∷ []) earlier lease).until ≤ (get_or after place link).latest_until
  old_latest place earlier lease link h le e f =
      let within : place < length links = omega arith in
      let before : earlier < length leases = omega arith in
      let same = ap (λ (l : Lease). l.until) (old_lease earlier lease before) in
      let linked = more.latest_stays place link within in
      let at_most =
      series.latest_is place earlier lease link h le (ap passes (sym (old_lease place lease h)) ∙ e) (ap passes (sym (old_lease earlier lease before)) ∙ f) in
      omega (arith, same, linked, at_most)

  -- a lease of the series
  pub grows_at : passes new ≡ true → of_key ≡ newest → IsSeriesOf passes (leases ++ new ∷ []) after (Some (length leases))
  grows_at here key_is = record {
    newest_is = sym (last_place-push passes leases new ∙ ap (λ t. cond t (Some (length leases)) (last_place passes leases)) here);
    leads_back = λ place lease link h e. leads place lease link (below_or_last place (length leases) (omega (arith, length_push leases new))) e;
    latest_is = λ place earlier lease link h le e f. latest place earlier lease link
        (below_or_last place (length leases) (omega (arith, length_push leases new))) le e f;
  }
    where
      leads : (place : ℕ) (lease : Lease) (link : Link) → (place < length leases) ⊎ (place ≡ length leases)
          → passes (get_or (leases ++ new ∷ []) place lease) ≡ true
          → LeadsBack passes (leases ++ new ∷ []) place (get_or after place link).previous
      leads place lease link (inl h) e = old_leads place lease link h e
      leads place lease link (inr h) e =
          let at : length links ≡ place = long ∙ sym h in
          let upto : length links ≤ length leases = omega arith in
          let back = more.leads_back passes (subst (IsSeriesOf passes leases links) (sym key_is) series) link in
          subst (λ k. LeadsBack passes (leases ++ new ∷ []) k (get_or after k link).previous) at
          (leads_further passes leases new (length links) (get_or after (length links) link).previous upto back)

      until_of : (i : ℕ) (lease : Lease) (link : Link) → (i < length leases) ⊎ (i ≡ length leases) → passes (get_or (leases ++ new ∷ []) i lease) ≡ true
          → (get_or (leases ++ new ∷ []) i lease).until ≤ max new.until (latest_at links newest)
      until_of i lease link (inl h) e =
          let same = ap (λ (l : Lease). l.until) (old_lease i lease h) in
          let at_most = covered passes leases links newest long series i lease link h (ap passes (sym (old_lease i lease h)) ∙ e) in
          omega (arith, same, at_most, le-max_right new.until (latest_at links newest))
      until_of i lease link (inr h) e =
          let same = ap (λ (l : Lease). l.until) (get_or_push leases new lease i (sym h)) in
          omega (arith, same, le-max_left new.until (latest_at links newest))

      latest : (place earlier : ℕ) (lease : Lease) (link : Link) → (place < length leases) ⊎ (place ≡ length leases)
          → earlier ≤ place → passes (get_or (leases ++ new ∷ []) place lease) ≡ true
          → passes (get_or (leases ++ new ∷ []) earlier lease) ≡ true
          → (get_or (leases ++ new ∷ []) earlier lease).until ≤ (get_or after place link).latest_until
      latest place earlier lease link (inl h) le e f = old_latest place earlier lease link h le e f
      latest place earlier lease link (inr h) le e f =
          let at : length links ≡ place = long ∙ sym h in
          let linked : (get_or after place link).latest_until ≡ max new.until (latest_at links newest)
          = ap (λ k. (get_or after k link).latest_until) (sym at) ∙ more.latest_is link ∙ ap (λ of. max new.until (latest_at links of)) key_is in
          let until = until_of earlier lease link (below_or_last earlier (length leases) (omega arith)) f in
          omega (arith, linked, until)

  -- a lease of another series
  pub grows_beside : passes new ≡ false → IsSeriesOf passes (leases ++ new ∷ []) after newest
  grows_beside apart = record {
    newest_is = series.newest_is ∙ sym (last_place-push passes leases new ∙ ap (λ t. cond t (Some (length leases)) (last_place passes leases)) apart);
    leads_back = λ place lease link h e. leads place lease link (below_or_last place (length leases) (omega (arith, length_push leases new))) e;
    latest_is = λ place earlier lease link h le e f. latest place earlier lease link
        (below_or_last place (length leases) (omega (arith, length_push leases new))) le e f;
  }
    where
      fails : (i : ℕ) (lease : Lease) → i ≡ length leases → passes (get_or (leases ++ new ∷ []) i lease) ≡ true → ⊥
      fails i lease h e = false≢true (sym apart ∙ ap passes (sym (get_or_push leases new lease i (sym h))) ∙ e)

      leads : (place : ℕ) (lease : Lease) (link : Link) → (place < length leases) ⊎ (place ≡ length leases)
          → passes (get_or (leases ++ new ∷ []) place lease) ≡ true
          → LeadsBack passes (leases ++ new ∷ []) place (get_or after place link).previous
      leads place lease link (inl h) e = old_leads place lease link h e
      leads place lease link (inr h) e = absurd (fails place lease h e)

      latest : (place earlier : ℕ) (lease : Lease) (link : Link) → (place < length leases) ⊎ (place ≡ length leases)
          → earlier ≤ place → passes (get_or (leases ++ new ∷ []) place lease) ≡ true
          → passes (get_or (leases ++ new ∷ []) earlier lease) ≡ true
          → (get_or (leases ++ new ∷ []) earlier lease).until ≤ (get_or after place link).latest_until
      latest place earlier lease link (inl h) le e f = old_latest place earlier lease link h le e f
      latest place earlier lease link (inr h) le e f = absurd (fails place lease h e)

-- ---- a series for each key

-- whether two keys are the same
pub record IsSame {K : Type 0} (same : K → K → Bool) : Type 0 where
  pub sound : (a b : K) → same a b ≡ true → a ≡ b
  pub complete : (a : K) → same a a ≡ true

module _ {K : Type 0} (same : K → K → Bool) (key_of : Lease → K) (laws : IsSame same) where
  pub grows : (leases : List Lease) (links after : List Link) (newest told : K → Option ℕ) (new : Lease)
      → AreInSeries same key_of leases links newest
      → HasLink leases links after (newest (key_of new)) (max new.until (latest_at links (newest (key_of new))))
      → ((key : K) → told key ≡ cond (same (key_of new) key) (Some (length leases)) (newest key))
      → AreInSeries same key_of (leases ++ new ∷ []) after told
  grows leases links after newest told new by_key more is_told =
      let many = more.as_many in
      let long = by_key.as_many in
      record {
        as_many = omega (arith, many, long, length_push leases new);
        each = λ key. step key (same (key_of new) key) refl;
      }
    where
      step : (key : K) (t : Bool) → same (key_of new) key ≡ t → IsSeriesOf (λ lease. same key (key_of lease)) (leases ++ new ∷ []) after (told key)
      step key true e =
          let passes : Lease → Bool = λ lease. same key (key_of lease) in
          let key_is : key_of new ≡ key = laws.sound (key_of new) key e in
          let here : same key (key_of new) ≡ true = ap (same key) key_is ∙ laws.complete key in
          let told_is : told key ≡ Some (length leases) = is_told key ∙ ap (λ t. cond t (Some (length leases)) (newest key)) e in
          subst (IsSeriesOf passes (leases ++ new ∷ []) after) (sym told_is)
          (grows_at passes leases links after (newest key) (newest (key_of new)) by_key.as_many new (by_key.each key) more here (ap newest key_is))
      step key false e =
          let passes : Lease → Bool = λ lease. same key (key_of lease) in
          let told_is : told key ≡ newest key = is_told key ∙ ap (λ t. cond t (Some (length leases)) (newest key)) e in
          subst (IsSeriesOf passes (leases ++ new ∷ []) after) (sym told_is)
          (grows_beside passes leases links after (newest key) (newest (key_of new)) by_key.as_many new
          (by_key.each key) more (apart (same key (key_of new)) refl))
        where
          apart : (t : Bool) → same key (key_of new) ≡ t → same key (key_of new) ≡ false
          apart true f = absurd (false≢true (sym e ∙ ap (same (key_of new)) (laws.sound key (key_of new) f) ∙ laws.complete (key_of new)))
          apart false f = f
