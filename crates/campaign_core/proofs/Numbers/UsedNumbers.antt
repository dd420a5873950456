-- The numbers of a history, and the entries for which callers used them.
use Rattle.std.proofs.Common.{◌≡◌, ◌≤◌, ◌+◌, ◌-◌, ◌&&◌, ◌==◌, ℕ, suc, Bool, true, false, cond, List, [], ◌∷◌, ◌++◌, Option, None, Some, find, length, get_or, arith, refl, sym, subst, ap, ◌∙◌}
use Rattle.std.specs.Prelude.{◌<◌, if◌then◌else◌, slice_get}
use Rattle.std.specs.List.{enumerate_from, flat_map}
use Rattle.std.specs.Option.{option_map, option_map_or}
use Rattle.std.specs.Str.{bytes_eq}
use Rattle.std.proofs.lemmas.Grind.{flat_map-append}
use Rattle.std.proofs.lemmas.List.{append-nil}
use Rattle.std.proofs.Math.Bool.{and-false}
use Rattle.decimal_rank.proofs.Lists.{slice-there, enumerate-push}
use Rattle.rulebook.specs.declared.ask.Command.{Command}
use Rattle.rulebook.specs.declared.entry.Entry.{Entry}
use Rattle.rulebook.specs.declared.reply.Refusal.TheVariants as refusal
use Rattle.rulebook.specs.declared.reply.Reply.{Reply}
use Rattle.rulebook.specs.declared.reply.Reply.TheVariants as reply
use Rattle.rulebook.specs.Answers.{repeat_answer}
use Rattle.rulebook.specs.Campaign.{History}
use Rattle.rulebook.specs.Requests.Numbers.{entry_of_number, is_numbered}
use Rattle.rulebook.specs.Requests.SameCommands.{same_command}
use Rattle.rulebook.specs.Words.{Text}
use Rattle.campaign_core.specs.Numbering.NumberedRequests.{NumberedRequest, is_number_of, number_in, numbered_at, numbers_of, place_of_number, repeated_reply}

abbrev numbers_at : ℕ × Entry → List NumberedRequest
numbers_at placed = number_in placed.0 placed.1.core

-- what one more entry adds
pub numbers-push : (H : History) (e : Entry)
    → numbers_of (H ++ e ∷ []) ≡ numbers_of H ++ number_in (length H + 1) e.core
numbers-push H e =
    let place : 1 + length H ≡ length H + 1 = omega arith in
    ap (flat_map numbers_at) (enumerate-push 1 H e)
    ∙ flat_map-append numbers_at (enumerate_from 1 H) ((1 + length H, e) ∷ [])
    ∙ ap (λ ns. numbers_of H ++ ns) (append-nil (number_in (1 + length H) e.core))
    ∙ ap (λ n. numbers_of H ++ number_in n e.core) place

module _ (name : Text) (number : ℕ) where
  abbrev by_number : ℕ × Entry → Bool
  by_number placed = is_numbered name number placed.1

  -- the entry that has the number, by the place that is kept
  abbrev Placed : ℕ → History → Option ℕ → Type 0
  Placed k H None = find by_number (enumerate_from k H) ≡ None
  Placed k H (Some place) = (e : Entry) × (find by_number (enumerate_from k H) ≡ Some (place, e))
      × (slice_get H (place - k) ≡ Some e) × (k ≤ place)

  later : (k : ℕ) (x : Entry) (H : History) (o : Option ℕ) → is_numbered name number x ≡ false → Placed (k + 1) H o
      → Placed k (x ∷ H) o
  later k x H None other none = ap (λ t. cond t (Some (k, x)) (find by_number (enumerate_from (k + 1) H))) other ∙ none
  later k x H (Some place) other (e, found, there, less) =
      let back : place - k ≡ suc (place - (k + 1)) = omega (arith, less) in (
        e,
        ap (λ t. cond t (Some (k, x)) (find by_number (enumerate_from (k + 1) H))) other
            ∙ found,
        ap (slice_get (x ∷ H)) back ∙ there,
        omega (arith, less),
      )

  placed : (k : ℕ) (H : History) → Placed k H (place_of_number name number (flat_map numbers_at (enumerate_from k H)))
  placed k [] = refl
  placed k (x ∷ H) = step x.core.number refl (placed (k + 1) H)
    where
      rest : List NumberedRequest
      rest = flat_map numbers_at (enumerate_from (k + 1) H)

      here : (n : ℕ) (t : Bool) → x.core.number ≡ Some n
          → is_number_of name number (numbered_at k x.core.caller.name n) ≡ t
          → Placed (k + 1) H (place_of_number name number rest)
          → Placed k (x ∷ H)
          (option_map (λ (one : NumberedRequest). one.place) (cond t (Some (numbered_at k x.core.caller.name n)) (find (is_number_of name number) rest)))
      here n true is test tail =
          let numbered : is_numbered name number x ≡ true =
          ap (λ (o : Option ℕ). bytes_eq x.core.caller.name name && option_map_or (λ given. given == number) o false) is ∙ test in
          let start : k - k ≡ 0 = omega arith in
          (x, ap (λ t. cond t (Some (k, x)) (find by_number (enumerate_from (k + 1) H))) numbered, ap (slice_get (x ∷ H)) start, omega arith)
      here n false is test tail =
          later k x H (place_of_number name number rest)
          (ap (λ (o : Option ℕ). bytes_eq x.core.caller.name name && option_map_or (λ given. given == number) o false) is ∙ test) tail

      step : (o : Option ℕ) → x.core.number ≡ o → Placed (k + 1) H (place_of_number name number rest)
          → Placed k (x ∷ H) (place_of_number name number (option_map_or (λ n. numbered_at k x.core.caller.name n ∷ []) o [] ++ rest))
      step None is tail =
          later k x H (place_of_number name number rest)
          (ap (λ (o : Option ℕ). bytes_eq x.core.caller.name name && option_map_or (λ given. given == number) o false) is
          ∙ and-false (bytes_eq x.core.caller.name name)) tail
      step (Some n) is tail = here n (is_number_of name number (numbered_at k x.core.caller.name n)) is refl tail

-- the entry for which a number was used
pub record UsedAt (H : History) (name : Text) (number : ℕ) (place : ℕ) : Type 0 where
  pub entry : Entry
  pub found : entry_of_number H name (Some number) ≡ Some (place, entry)
  pub there : slice_get H (place - 1) ≡ Some entry
  pub from_one : 1 ≤ place

pub used-at : (H : History) (name : Text) (number place : ℕ) → place_of_number name number (numbers_of H) ≡ Some place
    → UsedAt H name number place
used-at H name number place is =
    let w = subst (Placed name number 1 H) is (placed name number 1 H) in
    record { entry = w.0; found = w.1; there = w.2; from_one = w.3 }

pub unused-there : (H : History) (name : Text) (number : ℕ) → place_of_number name number (numbers_of H) ≡ None
    → entry_of_number H name (Some number) ≡ None
unused-there H name number is = subst (Placed name number 1 H) is (placed name number 1 H)

pub unused-kept : (H : History) (name : Text) (number : ℕ) → entry_of_number H name (Some number) ≡ None
    → place_of_number name number (numbers_of H) ≡ None
unused-kept H name number none = step (place_of_number name number (numbers_of H)) refl
  where
    step : (o : Option ℕ) → place_of_number name number (numbers_of H) ≡ o → place_of_number name number (numbers_of H) ≡ None
    step None is = is
    step (Some place) is = let w = used-at H name number place is in
        let both : (let o : Option (ℕ × Entry) = None in o) ≡ Some (place, w.entry) = sym none ∙ w.found in cc both

-- the entry at the place of a number
pub within-at : (H : History) (name : Text) (number place : ℕ) → place_of_number name number (numbers_of H) ≡ Some place
    → place - 1 < length H
within-at H name number place is = let w = used-at H name number place is in (slice-there H (place - 1) w.entry w.entry w.there).0

abbrev pub reply_by : Bool → Entry → ℕ → Reply
reply_by same e place = if same then e.reply else reply.Refused (refusal.Reused place)

-- the reply under a number that was used
pub reply-again : (H : History) (name : Text) (number place : ℕ) (o : Option ℕ) (c : Command) (e : Entry)
    → o ≡ Some number → place_of_number name number (numbers_of H) ≡ Some place → e ≡ get_or H (place - 1) e
    → Some (reply_by (same_command c e.core.command) e place) ≡ repeated_reply H name o c
reply-again H name number place o c e some is at =
    let w = used-at H name number place is in
    let same : e ≡ w.entry = at ∙ (slice-there H (place - 1) e w.entry w.there).1 in
    ap (λ (e : Entry). let o : Option Reply = Some (reply_by (same_command c e.core.command) e place) in o) same
    ∙ ap (option_map (λ (placed : ℕ × Entry). (repeat_answer c placed).reply)) (sym w.found)
    ∙ ap (λ (o : Option ℕ). repeated_reply H name o c) (sym some)

pub no-reply : (H : History) (name : Text) (number : ℕ) (o : Option ℕ) (c : Command) → o ≡ Some number
    → place_of_number name number (numbers_of H) ≡ None → None ≡ repeated_reply H name o c
no-reply H name number o c some none =
    ap (option_map (λ (placed : ℕ × Entry). (repeat_answer c placed).reply)) (sym (unused-there H name number none))
    ∙ ap (λ (o : Option ℕ). repeated_reply H name o c) (sym some)
