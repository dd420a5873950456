-- What stands there and the texts that are left make what stood before and all texts.
use Rattle.std.proofs.Common.{◌≡◌, ◌≤◌, ◌++◌, length, map}
use Rattle.std.specs.Prelude.{vec_capacity}
use Rattle.std.specs.List.{concat}
use Rattle.decimal_rank.proofs.texts.appends.append_all.Given as goal

abbrev pub invariant-loop-rest : goal.invariant-loop-rest
invariant-loop-rest l = record {
  bytes : l.initial.out.items ++ concat (map (λ part. part.now) l.texts) ≡ l.out.items ++ concat (map (λ part. part.now) l.rest);
  before : l.before ≡ length l.initial.out.items;
  grown : length l.initial.out.items ≤ length l.out.items;
  capacity : vec_capacity l.initial.out ≤ vec_capacity l.out;
}

abbrev pub decreases-loop-rest : goal.decreases-loop-rest
decreases-loop-rest l = length l.rest
