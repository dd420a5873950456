-- The significand is that of the digits so far, first of the whole and then of the fraction.
use Rattle.std.proofs.Common.{◌++◌, take}
use Rattle.decimal_rank.specs.Decimals.Significands.{IsSignificand}
use Rattle.decimal_rank.proofs.decimals.significands.significand_of.Given as goal

abbrev pub invariant-loop-byte : goal.invariant-loop-byte
invariant-loop-byte l = IsSignificand (take l.byte-index l.whole) l.significand

abbrev pub invariant-loop-byte-2 : goal.invariant-loop-byte-2
invariant-loop-byte-2 l = IsSignificand (l.whole ++ take l.byte-index l.fraction) l.significand
