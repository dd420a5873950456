-- One text and one step more.
use Rattle.std.proofs.Common.{◌≡◌, ◌+◌, ℕ, suc, List, ◌++◌, ap, sym, subst, arith, append_assoc, ◌∙◌}
use Rattle.drill.specs.Plays.{After}
use Rattle.drill.specs.Texts.{texts_to}

next : (n : ℕ) → suc n ≡ n + 1
next n = omega arith

pub texts-more : (n : ℕ) (text : ℕ → List ℕ) → texts_to (n + 1) text ≡ texts_to n text ++ text (n + 1)
texts-more n text =
    ap (λ m. texts_to m text) (sym (next n))
    ∙ ap (λ m. texts_to n text ++ text m) (next n)

pub after-more : {A : Type 0} (step : ℕ → A → A → Type 0) (n : ℕ) (old mid new : A) → After step n old mid → step (n + 1) mid new → After step (n + 1) old new
after-more step n old mid new before one =
    subst (λ m. After step m old new) (next n) (mid, before, subst (λ m. step m mid new) (sym (next n)) one)

-- what is written with one text more
pub written-more : (out now new : List ℕ) (n : ℕ) (text : ℕ → List ℕ) → now ≡ out ++ texts_to n text
    → new ≡ now ++ text (n + 1) → new ≡ out ++ texts_to (n + 1) text
written-more out now new n text now_is new_is =
    new_is
    ∙ ap (λ front. front ++ text (n + 1)) now_is
    ∙ append_assoc out (texts_to n text) (text (n + 1))
    ∙ ap (λ more. out ++ more) (sym (texts-more n text))

-- what is written once all are
pub written-all : (out now : List ℕ) (n count : ℕ) (text : ℕ → List ℕ) → now ≡ out ++ texts_to n text → n ≡ count → now ≡ out ++ texts_to count text
written-all out now n count text now_is all = now_is ∙ ap (λ m. out ++ texts_to m text) all
