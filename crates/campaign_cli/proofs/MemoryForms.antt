-- What a call of a memory form does to what the form tells.
use Rattle.std.proofs.Common.{◌≡◌, ℕ, ◌≤◌, List, Some, Result, Ok, Err, IfOk, refl, sym, arith, length, ap, ◌++◌, ◌<◌}
use Rattle.std.proofs.lemmas.List.{take_all}
use Rattle.std.specs.Io.KnownBytes.{WriteAppends}
use Rattle.std.specs.declared.alloc.Global.{Global}
use Rattle.std.specs.declared.vec.Vec.{Vec}
use Rattle.decimal_rank.specs.Causes.{Rose, HasCause}
use Rattle.decimal_rank.specs.declared.failures.Failed.{Failed}
use Rattle.campaign_cli.specs.declared.surroundings.faults.ShelfFault.{ShelfFault}
use Rattle.campaign_cli.specs.declared.surroundings.faults.ShelfFault.TheVariants as fault
use Rattle.decimal_rank.specs.Outputs.FailurePlans.{count_more}
use Rattle.campaign_cli.specs.Surroundings.Shelves.{KeepsFiles, MemoryShelfState, after_file_read, told_by as shelf_told}
use Rattle.campaign_server.specs.MemoryForms.MemoryWritten.{Written, after_write}

pub count_more_rose : (n : ℕ) → Rose n (count_more n)
count_more_rose n = grind arith

pub count_more_later : (n : ℕ) → n ≤ count_more n
count_more_later n = grind arith

pub follows_read : (old : MemoryShelfState) (result : Result (Vec ℕ Global) ShelfFault) → KeepsFiles (shelf_told old) (shelf_told (after_file_read old result))
follows_read old (Ok bytes) = record { files = refl; faults = omega arith; misses = omega arith }
follows_read old (Err fault.Absent) = record { files = refl; faults = omega arith; misses = count_more_later old.misses }
follows_read old (Err fault.Failed) = record { files = refl; faults = count_more_later old.faults; misses = omega arith }
follows_read old (Err fault.Memory) = record { files = refl; faults = omega arith; misses = omega arith }

pub cause_of_write : (old : Written) (piece : List ℕ) (result : Result ℕ Failed) → HasCause old.faults (after_write old piece result).faults result
cause_of_write old piece (Ok count) = record { later = omega arith; failed = tt }
cause_of_write old piece (Err failed) = record { later = count_more_later old.faults; failed = count_more_rose old.faults }

pub appends_write : (old : Written) (piece : List ℕ) (result : Result ℕ Failed) → IfOk result (λ count. count ≡ length piece)
    → WriteAppends (Some old.written) (Some (after_write old piece result).written) result piece
appends_write old piece (Ok count) whole =
    let enough : length piece ≤ count = omega arith in ap (λ bytes. old.written ++ bytes) (sym (take_all count piece enough))
appends_write old piece (Err failed) whole = refl

pub whole_within : (piece : List ℕ) (result : Result ℕ Failed) → IfOk result (λ count. count ≡ length piece) → IfOk result (λ count. count ≤ length piece)
whole_within piece (Ok count) whole = omega arith
whole_within piece (Err failed) whole = tt

pub whole_some : (piece : List ℕ) (result : Result ℕ Failed) → IfOk result (λ count. count ≡ length piece) → IfOk result (λ count. 0 < length piece → 0 < count)
whole_some piece (Ok count) whole = λ some. omega arith
whole_some piece (Err failed) whole = tt
