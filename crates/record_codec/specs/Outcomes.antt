-- What a reader of the code returns, against what the bytes give: the same, unless memory ran out.
use Rattle.std.specs.Prelude.{◌≡◌, Option, None, Some, Result, MatchResult}
use Rattle.rulebook.specs.Words.{Text}
use Rattle.record_codec.specs.declared.faults.CodecFault.{CodecFault}
use Rattle.record_codec.specs.declared.faults.CodecFault.TheVariants.{NoEntry, Memory}
use Rattle.record_codec.specs.Readings.{Read}

-- said of bytes that are no spelling; nothing is said where memory ran out
abbrev pub OnNoEntry : CodecFault → Type 0 → Type 0
OnNoEntry NoEntry P = P
OnNoEntry Memory P = Unit {0}

-- what a call returned, seen by view, with the bytes that it left, is what was to be read
abbrev pub GivesReadBy : {X Y : Type 0} → (X → Y) → Result X CodecFault → Text → Read Y → Type 0
GivesReadBy view r left read = MatchResult r (λ x. read ≡ Some (view x, left)) (λ fault. OnNoEntry fault (read ≡ None))

abbrev pub GivesRead : {X : Type 0} → Result X CodecFault → Text → Read X → Type 0
GivesRead r left read = GivesReadBy (λ x. x) r left read

-- what a call returned, seen by view, is what was to be found
abbrev pub FindsWholeBy : {X Y : Type 0} → (X → Y) → Result X CodecFault → Option Y → Type 0
FindsWholeBy view r found = MatchResult r (λ x. found ≡ Some (view x)) (λ fault. OnNoEntry fault (found ≡ None))

abbrev pub FindsWhole : {X : Type 0} → Result X CodecFault → Option X → Type 0
FindsWhole r found = FindsWholeBy (λ x. x) r found
