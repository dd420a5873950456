-- The texts that were looked at, kept in a table: none of them stands twice.
use Rattle.std.proofs.Common.{◌≡◌, ℕ, ◌+◌, ◌<◌, ◌≤◌, ◌||◌, Bool, true, false, not, cond, List, [], ◌∷◌, ◌++◌, length, take, drop, get_or, map, Option, Some, None, bytes_eq, refl, sym, ap, ◌∙◌}
use Rattle.std.specs.Prelude.{is_some}
use Rattle.std.specs.HashMap.{HashMap, get_by}
use Rattle.std.proofs.lemmas.Bool.{and_from, and_parts, and_right, and_left, or_parts, or_right}
use Rattle.std.proofs.lemmas.Cmp.{nat_list_eq_equiv}
use Rattle.std.proofs.lemmas.List.{map-append, take-append-drop, drop_more, take_all, map_more}
use denote.Ref.{Bor}
use Rattle.decimal_rank.specs.declared.tables.secrets.Secret.{Secret}
use Rattle.record_codec.specs.declared.entries.text_orders.TextKey.{TextKey}
use Rattle.rulebook.specs.Spelling.{differ}
use Rattle.rulebook.specs.Words.{Text, contains_text}

abbrev pub Seen : Type 0
Seen = HashMap TextKey (Unit {0}) Secret

-- the key of a text
abbrev pub key_of : Text → TextKey
key_of text = record { 0 = record { ref_ptr = (0, 0); now = text } }

abbrev pub is_seen : Seen → Text → Bool
is_seen seen text = is_some (get_by (λ key. bytes_eq text key.0.now) seen)

-- texts that are lent
abbrev pub shown : List (Bor (List ℕ)) → List Text
shown texts = map (λ text. text.now) texts

-- the table has these texts, which differ
pub record AreSeen (seen : Seen) (texts : List Text) : Type 0 where
  pub seen_are : (text : Text) → is_seen seen text ≡ contains_text texts text
  pub differing : differ texts ≡ true

contains_push : (texts : List Text) (t other : Text)
    → contains_text (texts ++ t ∷ []) other ≡ (bytes_eq other t || contains_text texts other)
contains_push [] t other = refl
contains_push (first ∷ texts) t other = step (bytes_eq other first) (bytes_eq other t) (contains_push texts t other)
  where
    step : (a b : Bool) → contains_text (texts ++ t ∷ []) other ≡ (b || contains_text texts other)
        → (a || contains_text (texts ++ t ∷ []) other) ≡ (b || (a || contains_text texts other))
    step true true is = refl
    step true false is = refl
    step false b is = is

-- one more text that isn't there
differ_push : (texts : List Text) (t : Text) → differ texts ≡ true → contains_text texts t ≡ false
    → differ (texts ++ t ∷ []) ≡ true
differ_push [] t apart absent = refl
differ_push (first ∷ texts) t apart absent =
    let a = and_parts (not (contains_text texts first)) (differ texts) apart in
    let b = or_parts (bytes_eq t first) (contains_text texts t) absent in
    let other : bytes_eq first t ≡ false = nat_list_eq_equiv.symm first t ∙ b.0 in
    and_from (not (contains_text (texts ++ t ∷ []) first)) (differ (texts ++ t ∷ []))
    (ap not (contains_push texts t first ∙ ap (λ (s : Bool). s || contains_text texts first) other) ∙ a.0)
    (differ_push texts t a.1 b.1)

-- one that is there already
differ_again : (texts more : List Text) (t : Text) → contains_text texts t ≡ true → differ (texts ++ t ∷ more) ≡ false
differ_again [] more t there = absurd cc
differ_again (first ∷ texts) more t there = step (bytes_eq t first) refl there (differ_again texts more t)
  where
    found : (others : List Text) → bytes_eq t first ≡ true → contains_text (others ++ t ∷ more) first ≡ true
    found [] same = ap (λ (s : Bool). s || contains_text more first) (nat_list_eq_equiv.symm first t ∙ same)
    found (other ∷ others) same =
        or_right (bytes_eq first other) (contains_text (others ++ t ∷ more) first) (found others same)

    step : (s : Bool) → bytes_eq t first ≡ s → (s || contains_text texts t) ≡ true
        → (contains_text texts t ≡ true → differ (texts ++ t ∷ more) ≡ false)
        → differ (first ∷ (texts ++ t ∷ more)) ≡ false
    step true same is later =
        and_left (not (contains_text (texts ++ t ∷ more) first)) (differ (texts ++ t ∷ more))
        (ap not (found texts same))
    step false same is later =
        and_right (not (contains_text (texts ++ t ∷ more) first)) (differ (texts ++ t ∷ more)) (later is)

-- the text at a place, as a loop over lent texts has it
abbrev pub text_at : List (Bor (List ℕ)) → ℕ → Bor (List ℕ)
text_at texts i = get_or texts i (record { ref_ptr = (0, 0); now = [] })

module _ (seen : Seen) (texts : List (Bor (List ℕ))) (i : ℕ) where
  abbrev text : Bor (List ℕ)
  text = text_at texts i

  pub seen_next : (more : Seen) → i < length texts → AreSeen seen (shown (take i texts))
      → ((other : Text) → get_by (λ key. bytes_eq other key.0.now) more ≡ cond (bytes_eq text.now other) (Some tt)
      (get_by (λ key. bytes_eq other key.0.now) seen))
      → is_seen seen text.now ≡ false → AreSeen more (shown (take (i + 1) texts))
  seen_next more within w changes absent =
      let before : List Text = shown (take i texts) in
      let now : shown (take (i + 1) texts) ≡ before ++ text.now ∷ [] =
      map_more (λ (t : Bor (List ℕ)). t.now) texts i (record { ref_ptr = (0, 0); now = [] }) within in
      rw now record {
        seen_are = λ other.
            ap is_some (changes other) ∙ step other (bytes_eq text.now other)
            (get_by (λ key. bytes_eq other key.0.now) seen) (w.seen_are other)
            ∙ ap (λ (s : Bool). s || contains_text before other) (nat_list_eq_equiv.symm text.now other)
            ∙ sym (contains_push before text.now other);
        differing = differ_push before text.now w.differing (sym (w.seen_are text.now) ∙ absent);
      }
    where
      step : (other : Text) (same : Bool) (o : Option (Unit {0}))
          → is_some o ≡ contains_text (shown (take i texts)) other
          → is_some (cond same (Some tt) o) ≡ (same || contains_text (shown (take i texts)) other)
      step other true o is = refl
      step other false o is = is

  pub seen_twice : i < length texts → AreSeen seen (shown (take i texts)) → is_seen seen text.now ≡ true
      → differ (shown texts) ≡ false
  seen_twice within w there =
      let behind : drop i texts ≡ text ∷ drop (i + 1) texts =
      drop_more texts i (record { ref_ptr = (0, 0); now = [] }) within in
      let parts : shown texts ≡ shown (take i texts) ++ text.now ∷ shown (drop (i + 1) texts) =
      ap shown (sym (take-append-drop i texts)) ∙ map-append (λ (t : Bor (List ℕ)). t.now) (take i texts) (drop i texts)
      ∙ ap (λ (rest : List (Bor (List ℕ))). shown (take i texts) ++ shown rest) behind in
      ap differ parts ∙ differ_again (shown (take i texts)) (shown (drop (i + 1) texts)) text.now
      (sym (w.seen_are text.now) ∙ there)

pub seen_none : (seen : Seen) → ((text : Text) → get_by (λ key. bytes_eq text key.0.now) seen ≡ None) → AreSeen seen []
seen_none seen empty = record { seen_are = λ text. ap is_some (empty text); differing = refl }

pub seen_all : (seen : Seen) (texts : List (Bor (List ℕ))) (i : ℕ) → length texts ≤ i
    → AreSeen seen (shown (take i texts)) → differ (shown texts) ≡ true
seen_all seen texts i all w = rw (← take_all i texts all) w.differing
