-- The first fault of a request, or what is read of it.
use Rattle.std.specs.Prelude.{◌≡◌, Bool, Option, Some, None, Result, Ok, Err, if◌then◌else◌}
use Rattle.trec_formats.specs.declared.faults.FormatEnd.{FormatEnd}
use Rattle.trec_formats.specs.declared.faults.FormatEnd.TheVariants as ends
use Rattle.routes.specs.declared.faults.RouteFault.{RouteFault}
use Rattle.routes.specs.declared.faults.RouteFault.TheVariants as faults

infixl 10 ◌>>=◌
-- what follows from a value, or the fault that came before
abbrev pub ◌>>=◌ : {A B : Type 0} → Result A RouteFault → (A → Result B RouteFault) → Result B RouteFault
(Ok x) >>= f = f x
(Err cause) >>= f = Err cause

-- the value, or this fault where there is none
abbrev pub or_fault : {A : Type 0} → RouteFault → Option A → Result A RouteFault
or_fault cause None = Err cause
or_fault cause (Some x) = Ok x

-- the value where the test holds, and else this fault
abbrev pub demand : {A : Type 0} → RouteFault → Bool → A → Result A RouteFault
demand cause test x = if test then Ok x else Err cause

-- P holds of the fault. Nothing is said of want of memory.
abbrev pub OfRouteFault : RouteFault → (RouteFault → Type 0) → Type 0
OfRouteFault faults.Memory P = Unit {0}
OfRouteFault faults.Route P = P faults.Route
OfRouteFault faults.Method P = P faults.Method
OfRouteFault faults.Key P = P faults.Key
OfRouteFault faults.Role P = P faults.Role
OfRouteFault faults.Number P = P faults.Number
OfRouteFault faults.Body P = P faults.Body
OfRouteFault (faults.Format at) P = P (faults.Format at)

-- what a call gave is so, unless there was no memory
abbrev pub IsRead : {A : Type 0} → (Result A RouteFault → Type 0) → Result A RouteFault → Type 0
IsRead P (Ok x) = P (Ok x)
IsRead P (Err cause) = OfRouteFault cause (λ told. P (Err told))

-- what a call gave, seen by the view, is what was read, unless there was no memory
abbrev pub GivesOrFaults : {X A : Type 0} → (X → A) → Result X RouteFault → Result A RouteFault → Type 0
GivesOrFaults view (Ok x) read = read ≡ Ok (view x)
GivesOrFaults view (Err cause) read = OfRouteFault cause (λ told. read ≡ Err told)

-- the fault of a text that isn't of its format
abbrev pub fault_of : FormatEnd → RouteFault
fault_of (ends.Fault at) = faults.Format at
fault_of ends.Memory = faults.Memory
