-- The loops that change each member.
use Rattle.std.proofs.Common.{◌≡◌, ℕ, ◌+◌, ◌-◌, ◌*◌, ◌^◌, ◌<◌, ◌≤◌, Bool, true, false, not, Some, List, ◌++◌, length, get_or, set, map, take, drop, refl, ap, ◌∙◌, arith}
use Rattle.std.proofs.lemmas.List.{append-nil, drop_all, get_or-append_right, get_or-drop, get_or_default, length-append, length-drop, length-map, length-take-le, take_all}
use Rattle.std.proofs.lemmas.List.Edits.{map_over_more}
use mathlib.Core.Bool.{beq}
use mir.Val.{bool_byte}
use Rattle.depth_pool.specs.declared.runs.RunId.{RunId}
use Rattle.depth_pool.specs.Holdings.{has_id}
use Rattle.mtf_queue.specs.declared.groups.Member.{Member}
use Rattle.mtf_queue.specs.Groups.{AreFewGroups, half_of}
use Rattle.mtf_queue.specs.Rule.{side}

module _ (f : Member → Member) (old members : List Member) (at : ℕ) (is : members ≡ map f (take at old) ++ drop at old) where
  pub item_left : (d : Member) → at < length old → get_or members at d ≡ get_or old at d
  item_left d within =
      ap (λ list. get_or list at d) is
      ∙ get_or-append_right (map f (take at old)) (drop at old) at at d (length-map (take at old) f ∙ length-take-le at old (omega arith)) (omega arith)
      ∙ get_or-drop at old (at - at) d
      ∙ ap (λ k. get_or old k d) (omega arith)

  -- one more
  pub one_more : (d changed : Member) → at < length old → changed ≡ f (get_or members at d)
      → set members at changed ≡ map f (take (at + 1) old) ++ drop (at + 1) old
  one_more d changed within changed_is =
      ap (set members at) changed_is ∙ map_over_more f old members at (get_or members at d) within is (same_at (get_or members at d) refl)
    where
      long : length members ≡ length old
      long = ap length is ∙ length-append (map f (take at old)) (drop at old)
          ∙ omega (arith, length-map (take at old) f, length-take-le at old (omega arith), length-drop at old)

      same_at : (member : Member) → member ≡ get_or members at d → member ≡ get_or members at member
      same_at member e = e ∙ get_or_default members at d member (omega (arith, long))

  -- all
  pub all_changed : (whole : List Member) (len : ℕ) → length old ≤ at → old ≡ whole → len ≡ length whole
      → take len (members ++ drop (length members) whole) ≡ map f whole
  all_changed whole len end same count =
      let done : members ≡ map f whole = is ∙ ap (λ list. map f (take at old) ++ list) (drop_all at old end)
      ∙ append-nil (map f (take at old)) ∙ ap (map f) (take_all at old end ∙ same) in
      let long : length members ≡ length whole = ap length done ∙ length-map whole f in
      ap (λ list. take len (members ++ list)) (drop_all (length members) whole (omega (arith, long)))
      ∙ ap (take len) (append-nil members) ∙ take_all len members (omega (arith, long, count)) ∙ done

-- ---- the loop that halves groups

pub byte_few : (b : Bool) → bool_byte b ≤ 1
byte_few true = omega arith
byte_few false = omega arith

second_side : (held relevant : Bool) → bool_byte (not (beq held relevant)) ≡ side (Some relevant) held
second_side true true = refl
second_side true false = refl
second_side false true = refl
second_side false false = refl

-- the number of a group is small
pub group_fits : (f : Member → Member) (old members : List Member) (at : ℕ) (d : Member) → members ≡ map f (take at old) ++ drop at old
    → at < length old → AreFewGroups old → length old * 16 < 2 ^ 63 → (get_or members at d).group < 2 ^ 59
group_fits f old members at d is within few small = omega (arith, few at d within, ap (λ (m : Member). m.group) (item_left f old members at is d within))

-- a member's half
pub half_is : (holders : List RunId) (relevant : Bool) (member : Member) (half : ℕ) (among : Bool)
    → among ≡ has_id member.run holders → half ≡ bool_byte (not (beq among relevant))
    → record { group = 2 * member.group + half; run = member.run } ≡ half_of holders relevant member
half_is holders relevant member half among among_is is =
    let side_is : half ≡ side (Some relevant) (has_id member.run holders) =
    is ∙ ap (λ b. bool_byte (not (beq b relevant))) among_is ∙ second_side (has_id member.run holders) relevant in
    let numbered : ℕ → Member = λ n. record { group = 2 * member.group + n; run = member.run } in
    ap numbered side_is
