-- The members left, each behind a comma, give what all append; neither length nor capacity falls.
use Rattle.std.proofs.Common.{◌≡◌, ◌≤◌, ◌++◌, ◌∷◌, length}
use Rattle.std.specs.Prelude.{vec_capacity}
use Rattle.std.specs.List.{flat_map}
use Rattle.routes.specs.Bytes.{comma}
use Rattle.routes.specs.Json.MemberValues.{shown}
use Rattle.routes.specs.Json.Objects.{member_text}
use Rattle.routes.proofs.answers.objects.append_others.Given as goal

abbrev pub invariant-loop-rest : goal.invariant-loop-rest
invariant-loop-rest l = record {
  bytes : l.initial.out.items ++ flat_map (λ member. comma ∷ member_text (shown member)) l.members
      ≡ l.out.items ++ flat_map (λ member. comma ∷ member_text (shown member)) l.rest;
  before : l.before ≡ length l.initial.out.items;
  grown : length l.initial.out.items ≤ length l.out.items;
  capacity : vec_capacity l.initial.out ≤ vec_capacity l.out;
}

abbrev pub decreases-loop-rest : goal.decreases-loop-rest
decreases-loop-rest l = length l.rest
