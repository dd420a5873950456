-- What a journal keeps, by what is due.
use Rattle.std.proofs.Common.{◌≡◌, ◌⊎◌, inl, inr, ⊎_elim, ℕ, List, [], subst}
use Rattle.journal.specs.declared.dues.Due.{Due}
use Rattle.journal.specs.declared.dues.Due.TheVariants.{Nothing, Cut, Gate}
use Rattle.journal.specs.Format.{place_behind}
use Rattle.journal.specs.KeptRecords.{CutDue, GateDue, HoldsRecords, Keeps, KeepsAny, KeepsSome}
use Rattle.journal.proofs.Steps.{gate_reads, shut_is_cut, shut_reads}

-- where no gate has to be closed
pub cut_where_shut : (images : List ℕ → Type 0) (place : ℕ) (due : Due) → (due ≡ Nothing) ⊎ (due ≡ Cut)
    → (all pending : List (List ℕ)) → Keeps images place due all pending → CutDue images place all
cut_where_shut images place Nothing is all pending keeps = shut_is_cut images place all _ keeps.0
cut_where_shut images place Cut is all pending keeps = keeps.0
cut_where_shut images place Gate (inl is) all pending keeps = absurd (cc is)
cut_where_shut images place Gate (inr is) all pending keeps = absurd (cc is)

pub gate_where_gate : (images : List ℕ → Type 0) (place : ℕ) (due : Due) → due ≡ Gate → (all pending : List (List ℕ))
    → Keeps images place due all pending → GateDue images place all pending
gate_where_gate images place due is all pending keeps = subst (λ (d : Due). Keeps images place d all pending) is keeps

pub not_gate : (due : Due) → (due ≡ Nothing) ⊎ (due ≡ Cut) → due ≡ Gate → ⊥
not_gate due (inl is) gate = cc
not_gate due (inr is) gate = cc

pub is_due : (due : Due) → (due ≡ Cut) ⊎ (due ≡ Gate) → due ≡ Nothing → ⊥
is_due due (inl is) nothing = cc
is_due due (inr is) nothing = cc

pub kept_of_some : (images : List ℕ → Type 0) (place : ℕ) (due : Due) (all pending : List (List ℕ))
    → KeepsSome images place due all pending → KeepsAny images place due
kept_of_some images place due all pending keeps =
    ⊎_elim (λ (none : Keeps images place due all []). (all, [], none)) (λ (some : Keeps images place due all pending). (all, pending, some)) keeps

-- what is kept is what each image gives, and its size tells the place
pub keeps_stands : (images : List ℕ → Type 0) (place : ℕ) (due : Due) (all pending : List (List ℕ)) → Keeps images place due all pending
    → (image : List ℕ) → images image → HoldsRecords all pending image
keeps_stands images place Nothing all pending keeps image here = inl (shut_reads images place all _ keeps.0 image here)
keeps_stands images place Cut all pending keeps image here = inl (shut_reads images place all _ keeps.0 image here)
keeps_stands images place Gate all pending keeps image here = gate_reads images place all pending keeps image here

pub keeps_total : (images : List ℕ → Type 0) (place : ℕ) (due : Due) (all pending : List (List ℕ))
    → Keeps images place due all pending → place ≡ place_behind all
keeps_total images place Nothing all pending keeps = keeps.0.is_front.total
keeps_total images place Cut all pending keeps = keeps.0.is_front.total
keeps_total images place Gate all pending keeps = keeps.is_front.total
