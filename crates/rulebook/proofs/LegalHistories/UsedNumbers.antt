-- A caller's number is used once, and what is kept for it is the reply that its entry was first given.
use Rattle.std.proofs.Common.{◌≡◌, ℕ, ◌+◌, ◌-◌, ◌<◌, ◌≤◌, Bool, true, false, [], ◌∷◌, ◌++◌, Option, None, Some, length, take, refl, sym, ap, ◌∙◌, subst, arith}
use Rattle.std.specs.Prelude.{◌==◌}
use Rattle.std.specs.List.{enumerate_from, find, list_any}
use Rattle.std.specs.Option.{option_map_or, option_or}
use Rattle.std.specs.Str.{bytes_eq}
use Rattle.std.proofs.Math.Seq.{take-append_seam}
use Rattle.std.proofs.lemmas.Bool.{eqb-true}
use Rattle.std.proofs.lemmas.List.{take-append-le}
use Rattle.std.proofs.lemmas.List.Folds.{find-append}
use Rattle.std.proofs.lemmas.Slice.Eq.{bytes_eq-Decides}
use Rattle.std.proofs.Math.Bool.{and-false}
use Rattle.decimal_rank.proofs.TruthValues.{first_of_both, second_of_both}
use Rattle.decimal_rank.proofs.Lists.{enumerate-push}
use Rattle.rulebook.specs.declared.ask.Ask.TheVariants.{Act}
use Rattle.rulebook.specs.declared.entry.Entry.{Entry}
use Rattle.rulebook.specs.Answers.{answer}
use Rattle.rulebook.specs.Campaign.{History}
use Rattle.rulebook.specs.Histories.Legal.{IsAccepted, IsFounding, IsLegal, founding}
use Rattle.rulebook.specs.Requests.Numbers.{entry_of_number, is_numbered}
use Rattle.rulebook.specs.Words.{Text}
use Rattle.rulebook.proofs.LegalHistories.AddedEntries.{accepted_reply}
use Rattle.rulebook.proofs.LegalHistories.LegalWalk.{accepted_of, legal_induction}
use Rattle.rulebook.proofs.Elements.PassingCounts.{count, count_none, count_pushed, count_single}

abbrev placed_from : Text → ℕ → ℕ → History → Option (ℕ × Entry)
placed_from name number n H = find (λ (p : ℕ × Entry). is_numbered name number p.1) (enumerate_from n H)

-- none is found where none has the number
none_numbered : (name : Text) (number n : ℕ) (H : History) → placed_from name number n H ≡ None → list_any (is_numbered name number) H ≡ false
none_numbered name number n [] none = refl
none_numbered name number n (e ∷ H) none = step (is_numbered name number e) refl none (λ rest. none_numbered name number (n + 1) H rest)
  where
    step : (t : Bool) → is_numbered name number e ≡ t → placed_from name number n (e ∷ H) ≡ None
        → (placed_from name number (n + 1) H ≡ None → list_any (is_numbered name number) H ≡ false) → list_any (is_numbered name number) (e ∷ H) ≡ false
    step true is none rest = let wrong : Some (n, e) ≡ None = rw is at none in cc wrong
    step false is none rest = rw is (rest (rw is at none))

-- an entry under a number has the caller's name and that number
number_is : (number : ℕ) (o : Option ℕ) → option_map_or (λ given. given == number) o false ≡ true → o ≡ Some number
number_is number None is = cc is
number_is number (Some given) is = ap (λ (n : ℕ). Some n) (eqb-true given number is)

record IsUnder (name : Text) (number : ℕ) (e : Entry) : Type 0 where
  name_is : e.core.caller.name ≡ name
  number_is : e.core.number ≡ Some number

under_of : (name : Text) (number : ℕ) (e : Entry) → is_numbered name number e ≡ true → IsUnder name number e
under_of name number e is =
    let same = bytes_eq e.core.caller.name name in
    let given = option_map_or (λ given. given == number) e.core.number false in
    record {
      name_is = (bytes_eq-Decides e.core.caller.name name).0 (first_of_both same given is);
      number_is = number_is number e.core.number (second_of_both same given is);
    }

abbrev AreUsedOnce : History → Type 0
AreUsedOnce H = (name : Text) (number : ℕ) → count (is_numbered name number) H ≤ 1

once_pushed : (before : History) (e : Entry) → IsLegal before → AreUsedOnce before → IsAccepted before e → AreUsedOnce (before ++ e ∷ [])
once_pushed before e legal once accepted name number = by (is_numbered name number e) refl
  where
    by : (t : Bool) → is_numbered name number e ≡ t → count (is_numbered name number) (before ++ e ∷ []) ≤ 1
    by false is = omega (arith, count_pushed (is_numbered name number) before e false is, once name number)
    by true is =
        let under = under_of name number e is in
        let unused : placed_from name number 1 before ≡ None = rw (under.name_is, under.number_is) at (accepted_of before e accepted).unused in
        let none = count_none (is_numbered name number) before (none_numbered name number 1 before unused) in
        omega (arith, count_pushed (is_numbered name number) before e true is, none)

pub used_once : (H : History) → IsLegal H → AreUsedOnce H
used_once = legal_induction AreUsedOnce once_pushed (λ first is name number. count_single (is_numbered name number) first)

-- Kept replies

within : (name : Text) (number n : ℕ) (H : History) (placed : ℕ × Entry) → placed_from name number n H ≡ Some placed
    → (n ≤ placed.0) × (placed.0 < n + length H)
within name number n [] placed is = cc is
within name number n (e ∷ H) placed is = step (is_numbered name number e) refl is (λ rest. within name number (n + 1) H placed rest)
  where
    step : (t : Bool) → is_numbered name number e ≡ t → placed_from name number n (e ∷ H) ≡ Some placed
        → (placed_from name number (n + 1) H ≡ Some placed → (n + 1 ≤ placed.0) × (placed.0 < n + 1 + length H))
        → (n ≤ placed.0) × (placed.0 < n + length (e ∷ H))
    step true here is rest =
        let same : Some (n, e) ≡ Some placed = rw here at is in
        let at : n ≡ placed.0 = ap (λ (o : Option (ℕ × Entry)). option_map_or (λ (p : ℕ × Entry). p.0) o 0) same in
        (omega (arith, at), omega (arith, at))
    step false here is rest = let w = rest (rw here at is) in (omega (arith, w.0), omega (arith, w.1))

-- its reply is that of the answer to it after the entries before it
abbrev IsFirstAnswer : History → ℕ × Entry → Type 0
IsFirstAnswer H placed =
    placed.1.reply ≡ (answer (take (placed.0 - 1) H) placed.1.core.caller placed.1.core.number (Act placed.1.core.command) placed.1.core.moment).reply

abbrev AreFirst : History → Type 0
AreFirst H = (name : Text) (number : ℕ) (placed : ℕ × Entry) → entry_of_number H name (Some number) ≡ Some placed → IsFirstAnswer H placed

founding_first : (first : Entry) → IsFounding first → AreFirst (first ∷ [])
founding_first first is name number placed found =
    let none : is_numbered name number first ≡ false = ap (is_numbered name number) is.2 ∙ and-false (bytes_eq (founding is.0).core.caller.name name) in
    let wrong : None ≡ Some placed = rw none at found in
    cc wrong

first_pushed : (before : History) (e : Entry) → IsLegal before → AreFirst before → IsAccepted before e → AreFirst (before ++ e ∷ [])
first_pushed before e legal first accepted name number placed found = step (placed_from name number 1 before) refl split
  where
    last : Option (ℕ × Entry)
    last = find (λ (p : ℕ × Entry). is_numbered name number p.1) ((1 + length before, e) ∷ [])

    split : option_or (placed_from name number 1 before) last ≡ Some placed
    split =
        sym (ap (find (λ (p : ℕ × Entry). is_numbered name number p.1)) (enumerate-push 1 before e)
        ∙ find-append (λ (p : ℕ × Entry). is_numbered name number p.1) (enumerate_from 1 before) ((1 + length before, e) ∷ [])) ∙ found

    newest : (t : Bool) → is_numbered name number e ≡ t → last ≡ Some placed → IsFirstAnswer (before ++ e ∷ []) placed
    newest true here is =
        let same : Some (1 + length before, e) ≡ Some placed = rw here at is in
        let place : (1 + length before) - 1 ≡ length before = omega arith in
        let part : take ((1 + length before) - 1) (before ++ e ∷ []) ≡ before = ap (λ n. take n (before ++ e ∷ [])) place ∙ take-append_seam before (e ∷ []) in
        let own : IsFirstAnswer (before ++ e ∷ []) (1 + length before, e) =
        sym (ap (λ (H : History). (answer H e.core.caller e.core.number (Act e.core.command) e.core.moment).reply) part ∙ accepted_reply before e accepted) in
        subst (λ (o : Option (ℕ × Entry)). IsFirstAnswer (before ++ e ∷ []) (option_map_or (λ p. p) o (1 + length before, e))) same own
    newest false here is = let wrong : None ≡ Some placed = rw here at is in cc wrong

    step : (o : Option (ℕ × Entry)) → placed_from name number 1 before ≡ o → option_or o last ≡ Some placed → IsFirstAnswer (before ++ e ∷ []) placed
    step None is rest = newest (is_numbered name number e) refl rest
    step (Some earlier) is rest =
        let here : placed_from name number 1 before ≡ Some placed = is ∙ rest in
        let at = within name number 1 before placed here in
        let part : take (placed.0 - 1) (before ++ e ∷ []) ≡ take (placed.0 - 1) before =
        take-append-le (placed.0 - 1) before (e ∷ []) (omega (arith, at.0, at.1)) in
        first name number placed here
        ∙ ap (λ (H : History). (answer H placed.1.core.caller placed.1.core.number (Act placed.1.core.command) placed.1.core.moment).reply) (sym part)

pub kept_first : (H : History) → IsLegal H → AreFirst H
kept_first = legal_induction AreFirst first_pushed founding_first
