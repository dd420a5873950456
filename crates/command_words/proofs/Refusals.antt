-- Kinds of errors, one list behind another.
use Rattle.std.proofs.Common.{◌≡◌, true, false, [], ◌∷◌, refl, ap, true≢false}
use Rattle.clap.specs.Words.{Kinds}
use Rattle.clap.specs.Kinds.{or_else}
use Rattle.command_words.specs.CommandLines.{is_clear}

pub first_bad : (a b : Kinds) → is_clear a ≡ false → is_clear (or_else a b) ≡ false
unfolding is_clear
first_bad [] b bad = absurd (true≢false bad)
first_bad (x ∷ a) b bad = refl

pub second_bad : (a b : Kinds) → is_clear b ≡ false → is_clear (or_else a b) ≡ false
unfolding is_clear
second_bad [] b bad = bad
second_bad (x ∷ a) b bad = refl

pub middle_bad : (t a b : Kinds) → is_clear (or_else a b) ≡ false → is_clear (or_else (or_else t a) b) ≡ false
unfolding is_clear
middle_bad [] a b bad = bad
middle_bad (x ∷ t) a b bad = refl

pub clear_none : (a : Kinds) → a ≡ [] → is_clear a ≡ true
unfolding is_clear
clear_none a none = ap is_clear none
