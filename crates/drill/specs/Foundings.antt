-- Why a book isn't opened on an empty disk.
use Rattle.book.specs.declared.faults.BookFault.{BookFault}
use Rattle.book.specs.declared.faults.BookFault.TheVariants as fault

-- A call on the disk failed, or there was no memory. There is nothing on it that could be another journal's, damaged, or another campaign's.
abbrev pub RefusesEmpty : BookFault → Type 0
RefusesEmpty fault.Disk = Unit {0}
RefusesEmpty fault.Memory = Unit {0}
RefusesEmpty fault.Header = ⊥
RefusesEmpty (fault.Damaged entry) = ⊥
RefusesEmpty fault.RulesDiffer = ⊥
