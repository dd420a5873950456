-- What is wrong with a text, and what it means that a text is read.
use Rattle.std.specs.Prelude.{◌≡◌, ◌≢◌, ◌⊎◌, ℕ, Bool, List, [], ◌∷◌, ◌++◌, map, find, Some, Ok, Err, Result, IfErr}
use Rattle.trec_formats.specs.declared.faults.Kind.{Kind}
use Rattle.trec_formats.specs.declared.faults.Kind.TheVariants.{Empty, Twice}
use Rattle.trec_formats.specs.declared.faults.FormatFault.{FormatFault}
use Rattle.trec_formats.specs.declared.faults.FormatEnd.{FormatEnd}
use Rattle.trec_formats.specs.declared.faults.FormatEnd.TheVariants as ends

-- there is one x of P, and no other
abbrev pub ExactlyOne : {X : Type 0} → (X → Type 0) → Type 0
ExactlyOne {X} P = (x : X) × P x × ((y : X) → P y → y ≡ x)

-- the rows stand for these lines, one for one
abbrev pub Stand : {R L : Type 0} → (R → Result L Kind) → List R → List L → Type 0
Stand read rows lines = map read rows ≡ map (λ line. Ok line) lines

-- The row is the first with a fault, of this kind. The rows before it stand for good lines.
-- `next lines row` is what the row is read as behind these lines.
pub record IsFirstFault {X L : Type 0} (Good : List (ℕ × X) → List L → Type 0) (next : List L → ℕ × X → Result L Kind)
    (rows : List (ℕ × X)) (fault : FormatFault) : Type 0 where
  pub before : List (ℕ × X)
  pub row : ℕ × X
  pub after : List (ℕ × X)
  pub lines : List L
  pub cut : rows ≡ before ++ row ∷ after
  pub good : Good before lines
  pub line : fault.line ≡ row.0
  pub kind : next lines row ≡ Err fault.kind

pub record IsEmpty {X : Type 0} (rows : List X) (fault : FormatFault) : Type 0 where
  pub none : rows ≡ []
  pub line : fault.line ≡ 0
  pub kind : fault.kind ≡ Empty

-- what rows are read as: good lines, or the first fault
abbrev pub IsReadAs : {X L : Type 0} → (List (ℕ × X) → List L → Type 0) → (List L → ℕ × X → Result L Kind) → List (ℕ × X) → Result (List L) FormatFault → Type 0
IsReadAs Good next rows (Ok lines) = (rows ≢ []) × Good rows lines
IsReadAs Good next rows (Err fault) = IsEmpty rows fault ⊎ IsFirstFault Good next rows fault

-- the line again is the same as an earlier one, and first is the earliest such
pub record Repeats {L : Type 0} (same : L → L → Bool) (lines : List L) (first again : L) : Type 0 where
  pub before : List L
  pub after : List L
  pub cut : lines ≡ before ++ again ∷ after
  pub earlier : find (same again) before ≡ Some first

abbrev pub IsDistinct : {L : Type 0} → (L → L → Bool) → List L → Type 0
IsDistinct {L} same lines = (first again : L) → Repeats same lines first again → ⊥

-- the least line that repeats an earlier one
pub record IsTwice {L : Type 0} (same : L → L → Bool) (number : L → ℕ) (lines : List L) (fault : FormatFault) : Type 0 where
  pub before : List L
  pub again : L
  pub after : List L
  pub first : L
  pub cut : lines ≡ before ++ again ∷ after
  pub earlier : find (same again) before ≡ Some first
  pub distinct : IsDistinct same before
  pub line : fault.line ≡ number again
  pub kind : fault.kind ≡ Twice (number first)

-- What is read where no line may repeat an earlier one. A repeat is told only where there is no other fault.
abbrev pub IsReadOnce : {L : Type 0} → (Result (List L) FormatFault → Type 0) → (L → L → Bool) → (L → ℕ) → Result (List L) FormatFault → Type 0
IsReadOnce Reads same number (Ok lines) = Reads (Ok lines) × IsDistinct same lines
IsReadOnce {L} Reads same number (Err fault) = Reads (Err fault) ⊎ ((lines : List L) × Reads (Ok lines) × IsTwice same number lines fault)

-- P holds of the fault. Nothing is said of want of memory.
abbrev pub OfFault : FormatEnd → (FormatFault → Type 0) → Type 0
OfFault ends.Memory P = Unit {0}
OfFault (ends.Fault fault) P = P fault

abbrev pub IfFault : {X : Type 0} → Result X FormatEnd → (FormatFault → Type 0) → Type 0
IfFault r P = IfErr r (λ end. OfFault end P)
