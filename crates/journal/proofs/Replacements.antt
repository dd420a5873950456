-- A mend and a replacement of records, one behind the other.
use Rattle.std.proofs.Common.{◌≡◌, ◌≤◌, ◌∙◌, ℕ, List, [], ◌∷◌, ◌++◌, ap, inr, arith, length, length-append, subst, sym}
use Rattle.disk_model.specs.Disks.{DiskState, EachMoment}
use Rattle.journal.specs.declared.dues.Due.{Due}
use Rattle.journal.specs.declared.dues.Due.TheVariants.{Nothing}
use Rattle.journal.specs.declared.replacing.ReplaceEnd.{ReplaceEnd}
use Rattle.journal.specs.declared.replacing.ReplaceEnd.TheVariants.{Done, Larger, Failed}
use Rattle.journal.specs.KeptRecords.{HoldsRecords, Keeps, Settled}
use Rattle.journal.specs.Replacements.{Comes, HasAlone, Puts, Replaces}
use Rattle.journal.proofs.Steps.{shut_reads}

-- records that settled are alone
pub settled_alone : (images : List ℕ → Type 0) (place : ℕ) (all : List (List ℕ)) → Settled images place all → HasAlone images all
settled_alone images place all settled image here =
    let found = settled.each image here in
    let is = found.1 ∙ ap (λ (behind : List ℕ). settled.front ++ settled.gate ∷ behind) found.2 in (
      shut_reads images place all _ settled image here,
      omega (arith, ap (λ (bytes : List ℕ). length bytes) is, length-append settled.front (settled.gate ∷ []), settled.is_front.size, settled.is_front.total),
    )

module _ {D : Type 0} (seen : D → DiskState) (old mid new : D) (place : ℕ) (due : Due) (area : List (List ℕ)) where
  comes_on : (ended : ReplaceEnd) → ((all pending : List (List ℕ)) → Keeps (seen old).images place due all pending → Settled (seen mid).images place all)
      → (seen old).faults ≤ (seen mid).faults
      → Comes seen mid new place ((all : List (List ℕ)) → Settled (seen mid).images place all → HasAlone (seen new).images all) area ended
      → Comes seen old new place ((all pending : List (List ℕ)) → Keeps (seen old).images place due all pending → HasAlone (seen new).images all) area ended
  comes_on Done mended later comes = comes
  comes_on Larger mended later comes = (comes.0, λ all pending keeps. comes.1 all (mended all pending keeps))
  comes_on Failed mended later comes = omega (arith, later, comes)

  pub puts_replaces : (ended : ReplaceEnd)
      → ((all pending : List (List ℕ)) → Keeps (seen old).images place due all pending → Settled (seen mid).images place all)
      → ((all pending : List (List ℕ)) → Keeps (seen old).images place due all pending → EachMoment seen old mid (HoldsRecords all pending))
      → (seen old).faults ≤ (seen mid).faults
      → (due ≡ Nothing → mid ≡ old) → Puts seen mid new place area ended → Replaces seen old new place due area ended
  puts_replaces ended mended moments later idle puts = record {
    comes = comes_on ended mended later puts.comes;
    moments = λ all pending keeps. inr (record { mended = mid; first = moments all pending keeps; then = puts.moments all (mended all pending keeps) });
    larger = λ more.
        let left = puts.larger more in
        record {
          untouched = λ nothing. (left.0, left.1 ∙ idle nothing);
          moments = λ all pending keeps. subst (λ (d : D). EachMoment seen old d (HoldsRecords all pending)) (sym left.1) (moments all pending keeps);
        };
    later = omega (arith, later, puts.later);
  }
