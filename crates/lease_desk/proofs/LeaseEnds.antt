-- What a lease's end does to a series.
use Rattle.std.proofs.Common.{◌≡◌, ℕ, ◌+◌, ◌<◌, ◌≤◌, ◌⊎◌, Bool, true, false, List, Option, Some, length, map, refl, sym, ap, subst, ◌∙◌, arith, get_or, inl, inr, is_none}
use Rattle.std.proofs.lemmas.List.{get_or-map, length-map}
use Rattle.lease_desk.specs.Series.{AreInSeries, IsPast, IsSeriesOf, LeadPast, LeadsBack, up_to}
use Rattle.lease_desk.specs.declared.series.Link.{Link}
use Rattle.lease_desk.specs.declared.leases.Lease.{Lease}
use Rattle.lease_desk.proofs.NextLeases.{IsSame, last_place-map}

-- leases of which one ends, and keep their key, their moment and their ends
pub record HasEnd {K : Type 0} (key_of : Lease → K) (leases : List Lease) (place : ℕ) (g : Lease → Lease) : Type 0 where
  pub keeps_key : (lease : Lease) → key_of (g lease) ≡ key_of lease
  pub keeps_until : (lease : Lease) → (g lease).until ≡ lease.until
  pub keeps_end : (lease : Lease) → is_none lease.end ≡ false → is_none (g lease).end ≡ false
  pub ends : (lease : Lease) → is_none (g (get_or leases place lease)).end ≡ false

module _ (passes : Lease → Bool) (leases : List Lease) (g : Lease → Lease) (kept : (lease : Lease) → passes (g lease) ≡ passes lease)
    (keeps_end : (lease : Lease) → is_none lease.end ≡ false → is_none (g lease).end ≡ false) where
  pub as_before : (i : ℕ) (lease : Lease) → i < length leases → passes (get_or (map g leases) i lease) ≡ passes (get_or leases i lease)
  as_before i lease h = ap passes (get_or-map g leases i lease lease h) ∙ kept (get_or leases i lease)

  -- a link that leads back does so where leases end
  pub still_leads : (place : ℕ) (previous : Option ℕ) → place ≤ length leases → LeadsBack passes leases place previous
      → LeadsBack passes (map g leases) place previous
  still_leads place previous h back =
      let earlier = back.earlier in
      record {
        earlier = earlier;
        passes_there = λ there lease e.
            let upper : up_to previous ≡ there + 1 = ap up_to e in
            as_before there lease (omega (arith, upper, earlier)) ∙ back.passes_there there lease e;
        ended_between = λ i lease at_least lt e.
            let within : i < length leases = omega arith in
            ap (λ (l : Lease). is_none l.end) (get_or-map g leases i lease lease within)
            ∙ keeps_end (get_or leases i lease) (back.ended_between i lease at_least lt (sym (as_before i lease within) ∙ e));
      }

  -- past a lease that ended
  pub leads_past : (place gone : ℕ) (behind : Option ℕ) → place ≤ length leases → ((lease : Lease) → is_none (g (get_or leases gone lease)).end ≡ false)
      → LeadsBack passes leases place (Some gone) → LeadsBack passes leases gone behind → LeadsBack passes (map g leases) place behind
  leads_past place gone behind h ends back further =
      let earlier = back.earlier in
      let earliest = further.earlier in
      record {
        earlier = omega (arith, earlier, earliest);
        passes_there = λ there lease e.
            let upper : up_to behind ≡ there + 1 = ap up_to e in
            as_before there lease (omega (arith, upper, earlier, earliest)) ∙ further.passes_there there lease e;
        ended_between = λ i lease at_least lt e. between i lease at_least lt (omega arith) e (where_is i);
      }
    where
      where_is : (i : ℕ) → (i < gone) ⊎ ((i ≡ gone) ⊎ (gone + 1 ≤ i))
      where_is i = grind arith

      ended_there : (i : ℕ) (lease : Lease) → i < length leases → is_none (g (get_or leases i lease)).end ≡ false
          → is_none (get_or (map g leases) i lease).end ≡ false
      ended_there i lease within e = ap (λ (l : Lease). is_none l.end) (get_or-map g leases i lease lease within) ∙ e

      between : (i : ℕ) (lease : Lease) → up_to behind ≤ i → i < place → i < length leases
          → passes (get_or (map g leases) i lease) ≡ true → (i < gone) ⊎ ((i ≡ gone) ⊎ (gone + 1 ≤ i))
          → is_none (get_or (map g leases) i lease).end ≡ false
      between i lease at_least lt within e (inl lower) =
          ended_there i lease within (keeps_end (get_or leases i lease) (further.ended_between i lease at_least lower (sym (as_before i lease within) ∙ e)))
      between i lease at_least lt within e (inr (inl is)) =
          ended_there i lease within (subst (λ k. is_none (g (get_or leases k lease)).end ≡ false) (sym is) (ends lease))
      between i lease at_least lt within e (inr (inr later)) =
          ended_there i lease within (keeps_end (get_or leases i lease) (back.ended_between i lease later lt (sym (as_before i lease within) ∙ e)))

module _ {K : Type 0} (same : K → K → Bool) (key_of : Lease → K) (laws : IsSame same) where
  pub outlasts : (leases : List Lease) (links after : List Link) (newest : K → Option ℕ) (place : ℕ) (g : Lease → Lease)
      → HasEnd key_of leases place g → LeadPast place links after
      → AreInSeries same key_of leases links newest → AreInSeries same key_of (map g leases) after newest
  outlasts leases links after newest gone g ends past by_key = record {
    as_many = past.as_many ∙ by_key.as_many ∙ sym (length-map leases g);
    each = λ key. each key (by_key.each key);
  }
    where
      each : (key : K) → IsSeriesOf (λ lease. same key (key_of lease)) leases links (newest key)
          → IsSeriesOf (λ lease. same key (key_of lease)) (map g leases) after (newest key)
      each key series =
          let kept : (lease : Lease) → same key (key_of (g lease)) ≡ same key (key_of lease) = λ lease. ap (same key) (ends.keeps_key lease) in
          let before : (i : ℕ) (lease : Lease) → i < length leases → same key (key_of (get_or (map g leases) i lease)) ≡ true
          → same key (key_of (get_or leases i lease)) ≡ true
          = λ i lease h e. sym (as_before (λ lease. same key (key_of lease)) leases g kept ends.keeps_end i lease h) ∙ e in
          record {
            newest_is = series.newest_is ∙ sym (last_place-map (λ lease. same key (key_of lease)) g kept leases);
            leads_back = λ place lease link h e.
                let long : length (map g leases) ≡ length leases = length-map leases g in
                let within : place < length leases = omega (arith, long) in
                leads kept place lease link within (series.leads_back place lease link within (before place lease within e)) (past.previous_is place link);
            latest_is = λ place earlier lease link h le e f.
                let long : length (map g leases) ≡ length leases = length-map leases g in
                let within : place < length leases = omega (arith, long) in
                let lower : earlier < length leases = omega arith in
                let until = ap (λ (l : Lease). l.until) (get_or-map g leases earlier lease lease lower) ∙ ends.keeps_until (get_or leases earlier lease) in
                let linked = past.latest_stays place link in
                let at_most = series.latest_is place earlier lease link within le (before place lease within e) (before earlier lease lower f) in
                omega (arith, until, linked, at_most);
          }
        where
          leads : ((lease : Lease) → same key (key_of (g lease)) ≡ same key (key_of lease)) → (place : ℕ) (lease : Lease) (link : Link) → place < length leases
              → LeadsBack (λ lease. same key (key_of lease)) leases place (get_or links place link).previous
              → IsPast gone (get_or links gone link).previous (get_or links place link).previous (get_or after place link).previous
              → LeadsBack (λ lease. same key (key_of lease)) (map g leases) place (get_or after place link).previous
          leads kept place lease link h back (inl stays) =
              let upto : place ≤ length leases = omega arith in
              subst (LeadsBack (λ lease. same key (key_of lease)) (map g leases) place) (sym stays)
              (still_leads (λ lease. same key (key_of lease)) leases g kept ends.keeps_end place (get_or links place link).previous upto back)
          leads kept place lease link h back (inr moved) =
              let upto : place ≤ length leases = omega arith in
              let to_gone : LeadsBack (λ lease. same key (key_of lease)) leases place (Some gone) =
              subst (LeadsBack (λ lease. same key (key_of lease)) leases place) moved.0 back in
              let there = to_gone.passes_there gone lease refl in
              let earlier = to_gone.earlier in
              let within : gone < length leases = omega arith in
              subst (LeadsBack (λ lease. same key (key_of lease)) (map g leases) place) (sym moved.1)
              (leads_past (λ lease. same key (key_of lease)) leases g kept ends.keeps_end place gone (get_or links gone link).previous upto ends.ends to_gone
              (series.leads_back gone lease link within there))
