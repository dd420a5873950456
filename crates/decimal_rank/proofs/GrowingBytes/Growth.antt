-- Known bytes that grow by one part of a text after another.
use Rattle.std.proofs.Common.{◌≡◌, ℕ, ◌+◌, ◌-◌, ◌≤◌, List, ◌++◌, length, take, drop, subst, sym, ◌∙◌, ap}
use Rattle.std.specs.Prelude.{Option}
use Rattle.std.specs.Io.KnownBytes.{Appends}
use Rattle.std.proofs.KnownBytes.{Appends-trans}
use Rattle.std.proofs.Math.Seq.{take-add}
use Rattle.std.proofs.lemmas.List.{take-take}

-- a loop has written the first `done` bytes of the text, and then the first `count` of what was left
pub appends_next : (a b c : Option (List ℕ)) (text : List ℕ) (done count : ℕ) → Appends a b (take done text)
    → Appends b c (take count (take (length text - done) (drop done text))) → count ≤ length text - done
    → Appends a c (take (done + count) text)
appends_next a b c text done count front more few =
    let rest = drop done text in
    let whole : take (done + count) text ≡ take done text ++ take count (take (length text - done) rest) =
    take-add done count text ∙ ap (λ part. take done text ++ part) (sym (take-take count (length text - done) rest few)) in
    subst (Appends a c) (sym whole) (Appends-trans a b c _ _ front more)
