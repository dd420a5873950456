-- What payloads unfold to, by the laws of payloads.
use Rattle.std.proofs.Common.{◌≡◌, inl, inr, ℕ, suc, ◌+◌, List, [], ◌∷◌, ◌++◌, length, take, refl, sym, ap, subst, ◌∙◌, arith}
use Rattle.std.proofs.lemmas.List.{append-nil, append_assoc, length-map}
use Rattle.record_codec.specs.Laws.{OnePayload}
use Rattle.record_codec.specs.Payloads.{IsPayload}
use Rattle.rulebook.specs.declared.entry.Entry.{Entry}
use Rattle.rulebook.specs.declared.entry.EntryCore.{EntryCore}
use Rattle.rulebook.specs.Campaign.{History}
use Rattle.rulebook.specs.Histories.Legal.{IsAccepted, IsLegal}
use Rattle.rulebook.specs.Spelling.{entry_bytes}
use Rattle.rulebook.specs.Words.{Text}
use Rattle.book.specs.Opening.Replays.{Breaks, BreaksOff}
use Rattle.book.specs.Stories.{AreCores, BeginsWithCores, BreaksAt, HasHistory, IsOnlyStory, IsStory, Unfolds, cores_of}
use Rattle.book.proofs.Payloads.AcceptedEntries.{accepted_payload}
use Rattle.book.proofs.Histories.{are_own, cores_are, cores_push, legal_push, one_history}

pub unfolds_more : (payloads : List Text) (cores : List EntryCore) (last : Text) (these : List EntryCore) → Unfolds payloads cores
    → IsPayload last these → Unfolds (payloads ++ last ∷ []) (cores ++ these)
unfolds_more [] cores last these none is = (these, [], is, refl, ap (λ (c : List EntryCore). c ++ these) none ∙ sym (append-nil these))
unfolds_more (payload ∷ payloads) cores last these (first, others, spells, rest, all) is = (
  first,
  others ++ these,
  spells,
  unfolds_more payloads others last these rest is,
  ap (λ (c : List EntryCore). c ++ these) all
      ∙ append_assoc first others these,
)

-- one payload with one entry more
pub story_push : (payloads : List Text) (H : History) (e : Entry) → IsLegal H → IsAccepted H e → IsStory payloads H
    → IsStory (payloads ++ entry_bytes e.core ∷ []) (H ++ e ∷ [])
story_push payloads H e legal accepted (cores, unfolds, are) = (
  cores ++ e.core ∷ [],
  unfolds_more payloads cores (entry_bytes e.core) (e.core ∷ []) unfolds (accepted_payload H e accepted),
  are_own (H ++ e ∷ []) (cores ++ e.core ∷ []) (legal_push H e legal accepted)
      (cores_push H e ∙ ap (λ (c : List EntryCore). c ++ e.core ∷ []) (cores_are cores H legal are)),
)

-- the last payload's entries behind those of the others
record LastUnfolds (before : List Text) (payload : Text) (cores : List EntryCore) : Type 0 where
  given : List EntryCore
  these : List EntryCore
  unfolds : Unfolds before given
  spells : IsPayload payload these
  is : cores ≡ given ++ these

last_unfolds : (before : List Text) (payload : Text) (cores : List EntryCore) → Unfolds (before ++ payload ∷ []) cores → LastUnfolds before payload cores
last_unfolds [] payload cores (these, rest, spells, none, is) =
    record { given = []; these = these; unfolds = refl; spells = spells; is = is ∙ ap (λ (r : List EntryCore). these ++ r) none ∙ append-nil these }
last_unfolds (first ∷ before) payload cores (a, b, spelled, rest, all) =
    let w = last_unfolds before payload b rest in
    record {
      given = a ++ w.given;
      these = w.these;
      unfolds = (a, w.given, spelled, w.unfolds, refl);
      spells = w.spells;
      is = all ∙ ap (λ (x : List EntryCore). a ++ x) w.is ∙ sym (append_assoc a w.given w.these);
    }

take_one : (core : EntryCore) (rest : List EntryCore) → take (0 + 1) (core ∷ rest) ≡ core ∷ []
take_one core rest = refl

take_with : (xs : List EntryCore) (core : EntryCore) (rest : List EntryCore) → take (length xs + 1) (xs ++ core ∷ rest) ≡ xs ++ core ∷ []
take_with [] core rest = refl
take_with (x ∷ xs) core rest =
    let more : suc (length xs) + 1 ≡ suc (length xs + 1) = omega arith in
    ap (λ (n : ℕ). take n (x ∷ (xs ++ core ∷ rest))) more ∙ ap (λ (c : List EntryCore). x ∷ c) (take_with xs core rest)

module _ (one_payload : OnePayload) where
  pub one_unfolding : (payloads : List Text) (cores more : List EntryCore) → Unfolds payloads cores → Unfolds payloads more → cores ≡ more
  one_unfolding [] cores more none nothing = none ∙ sym nothing
  one_unfolding (payload ∷ payloads) cores more (a, b, is, rest, all) (c, d, has, others, whole) =
      all ∙ ap (λ (x : List EntryCore). x ++ b) (one_payload payload a c is has)
      ∙ ap (λ (x : List EntryCore). c ++ x) (one_unfolding payloads b d rest others) ∙ sym whole

  -- the story of payloads that are there is their only one
  pub only_story : (first : Text) (others : List Text) (H : History) → IsLegal H → Unfolds (first ∷ others) (cores_of H) → IsOnlyStory (first ∷ others) H
  only_story first others H legal unfolds = (
    (cores_of H, unfolds, are_own H (cores_of H) legal refl),
    λ other (cores, their, are).
        let same : cores_of H ≡ cores = one_unfolding (first ∷ others) (cores_of H) cores unfolds their in
        let here : AreCores (cores_of H) other = subst (λ (c : List EntryCore). AreCores c other) (sym same) are in
        only H other legal here,
  )
    where
      only : (H other : History) → IsLegal H → AreCores (cores_of H) other → other ≡ H
      only [] other legal are = absurd legal
      only (e ∷ later) other legal are = one_history other (e ∷ later) are.0 legal are.1

  -- records that don't go on
  pub broken : (first : Text) (others : List Text) (begun after : History) → IsPayload first (cores_of begun) → IsLegal after
      → BreaksOff begun others after → BreaksAt (first ∷ others) (length after + 1)
  broken first others begun after is legal w =
      let whole : cores_of after ≡ (cores_of begun ++ w.given) ++ w.front = w.added ∙ sym (append_assoc (cores_of begun) w.given w.front) in
      let unfolds : Unfolds (first ∷ w.before) (cores_of begun ++ w.given) = (cores_of begun, w.given, is, w.unfolds, refl) in
      record {
        before = first ∷ w.before;
        payload = w.payload;
        later = w.later;
        split = ap (λ (p : List Text). first ∷ p) w.split;
        given = cores_of begun ++ w.given;
        unfolds = unfolds;
        front = w.front;
        begins = begins w.breaks;
        stands = (after, are_own after ((cores_of begun ++ w.given) ++ w.front) legal whole);
        entry_is = ap (λ (n : ℕ). n + 1) (sym (length-map after (λ (e : Entry). e.core)) ∙ ap length whole);
        none = none_of w.breaks unfolds whole;
      }
    where
      begins : Breaks after w.payload w.front → BeginsWithCores w.payload w.front
      begins (inl none) = inl none
      begins (inr (core, rest, spells, none)) = inr (core, rest, spells)

      none_of : Breaks after w.payload w.front → Unfolds (first ∷ w.before) (cores_of begun ++ w.given)
          → cores_of after ≡ (cores_of begun ++ w.given) ++ w.front
          → (cores : List EntryCore) → Unfolds (first ∷ w.before ++ w.payload ∷ []) cores → HasHistory (take (length after + 1) cores) → ⊥
      none_of (inl none) unfolds whole cores all has = let l = last_unfolds (first ∷ w.before) w.payload cores all in none.0 l.these l.spells
      none_of (inr (core, rest, spells, none)) unfolds whole cores all has =
          let l = last_unfolds (first ∷ w.before) w.payload cores all in
          let given_is : l.given ≡ cores_of begun ++ w.given = one_unfolding (first ∷ w.before) l.given (cores_of begun ++ w.given) l.unfolds unfolds in
          let these_are : l.these ≡ w.front ++ core ∷ rest = one_payload w.payload l.these (w.front ++ core ∷ rest) l.spells spells in
          let cores_is : cores ≡ cores_of after ++ core ∷ rest =
          l.is ∙ ap (λ (g : List EntryCore). g ++ l.these) given_is ∙ ap (λ (t : List EntryCore). (cores_of begun ++ w.given) ++ t) these_are
          ∙ sym (append_assoc (cores_of begun ++ w.given) w.front (core ∷ rest)) ∙ ap (λ (c : List EntryCore). c ++ core ∷ rest) (sym whole) in
          let part : take (length after + 1) cores ≡ cores_of after ++ core ∷ [] =
          ap (take (length after + 1)) cores_is ∙ ap (λ (n : ℕ). take (n + 1) (cores_of after ++ core ∷ rest)) (sym (length-map after (λ (e : Entry). e.core)))
          ∙ take_with (cores_of after) core rest in
          none (subst HasHistory part has)

  -- a first record that founds nothing
  pub breaks_first : (first : Text) (others : List Text) → BeginsWithCores first []
      → ((core : EntryCore) (rest : List EntryCore) → IsPayload first (core ∷ rest) → HasHistory (core ∷ []) → ⊥)
      → BreaksAt (first ∷ others) 1
  breaks_first first others begins none = record {
    before = [];
    payload = first;
    later = others;
    split = refl;
    given = [];
    unfolds = refl;
    front = [];
    begins = begins;
    stands = ([], refl);
    entry_is = refl;
    none = none_of begins;
  }
    where
      none_of : BeginsWithCores first [] → (cores : List EntryCore) → Unfolds (first ∷ []) cores → HasHistory (take 1 cores) → ⊥
      none_of (inl unread) cores (these, rest, spells, others, is) has = unread.0 these spells
      none_of (inr (core, more, spelled)) cores (these, rest, spells, others, is) has =
          let these_are : these ≡ core ∷ more = one_payload first these (core ∷ more) spells spelled in
          let cores_are : cores ≡ core ∷ (more ++ rest) = is ∙ ap (λ (t : List EntryCore). t ++ rest) these_are in
          none core more spelled (subst (λ (c : List EntryCore). HasHistory (take 1 c)) cores_are has)
