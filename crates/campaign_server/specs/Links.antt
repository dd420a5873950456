-- What links tell, and what a call may do to it.
use Rattle.std.specs.Prelude.{◌≡◌, ℕ, ◌-◌, ◌≤◌, List, None, Option, Result, IfSome, MatchResult, is_some, length, min, slice_index}
use Rattle.std.specs.Io.KnownBytes.{WriteAppends}
use Rattle.rulebook.specs.declared.limits.TheConstants.{MAX_MOMENT}
use Rattle.decimal_rank.specs.Outputs.FailurePlans.{count_more}
use Rattle.decimal_rank.specs.Outputs.Writings.{Writing}

-- the bytes taken, the bytes left and how many the last read gave, where the link tells them, and how many reads failed
pub record LinkReading : Type 0 where
  pub taken : Option (List ℕ)
  pub left : Option (List ℕ)
  pub last : Option ℕ
  pub faults : ℕ

-- the moments that are given, where the link tells them, and how many were asked for
pub record Clock : Type 0 where
  pub moments : Option (List ℕ)
  pub asked : ℕ

pub record LinkState : Type 0 where
  pub reading : LinkReading
  pub writing : Writing
  pub clock : Clock

-- what a link tells that tells its counts alone: how many reads and writes failed, and how many moments were asked for
abbrev pub counts_of : ℕ → ℕ → ℕ → LinkState
counts_of reads writes asked = record {
  reading = record { taken = None; left = None; last = None; faults = reads };
  writing = record { written = None; faults = writes };
  clock = record { moments = None; asked = asked };
}

-- Each part is told of both or of neither.
pub record Alike (a b : LinkState) : Type 0 where
  pub taken : is_some a.reading.taken ≡ is_some b.reading.taken
  pub left : is_some a.reading.left ≡ is_some b.reading.left
  pub last : is_some a.reading.last ≡ is_some b.reading.last
  pub written : is_some a.writing.written ≡ is_some b.writing.written
  pub moments : is_some a.clock.moments ≡ is_some b.clock.moments

-- a read takes the bytes that it gives
abbrev pub ReadTakes : {E : Type 0} → Option (List ℕ) → Option (List ℕ) → Result ℕ E → List ℕ → Type 0
ReadTakes old new result out = WriteAppends old new result out

-- what is told of the last read: as many bytes as it gave, and none where it failed
abbrev pub ReadGives : {E : Type 0} → Option ℕ → Result ℕ E → Type 0
ReadGives last result = IfSome last (λ given. MatchResult result (λ count. given ≡ count) (λ failed. given ≡ 0))

-- the moment at a place of the list; the last one stays, and without any it is 0
abbrev pub moment_at : List ℕ → ℕ → ℕ
moment_at moments place = slice_index moments (min place (length moments - 1))

-- the clock gives this moment, and one more was asked for
pub record Ticks (old new : Clock) (moment : ℕ) : Type 0 where
  pub bounded : moment ≤ MAX_MOMENT
  pub told : IfSome old.moments (λ moments. moment ≡ moment_at moments old.asked)
  pub same : new.moments ≡ old.moments
  pub next : new.asked ≡ count_more old.asked
