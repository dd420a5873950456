-- Lines by topic.
use Rattle.std.proofs.Common.{◌≡◌, ◌≢◌, ◌<◌, ◌+◌, ℕ, suc, Bool, true, false, not, cond, List, [], ◌∷◌, length, map, take, drop, get_or, refl, sym, ◌∙◌, ap, subst, arith, Some, None, position, unwrap_or, ltb, ltb-true, ltb-false, bytes_eq}
use Rattle.std.specs.Prelude.{All}
use Rattle.std.specs.List.{position_or_len}
use Rattle.std.proofs.lemmas.Bool.{not-true, not-false}
use Rattle.std.proofs.lemmas.Cmp.{nat_list_eq_equiv}
use Rattle.std.proofs.lemmas.List.{drop_more, drop_all, get_or-take, length-take, map-append, take-append-drop}
use Rattle.std.proofs.lemmas.List.Elements.{All-map}
use Rattle.std.proofs.lemmas.List.Sums.{prefix_len-le-length, fails_before_first, passes_at_first}
use Rattle.std.proofs.lemmas.Slice.Eq.{bytes_eq-Decides}
use Rattle.trec_formats.specs.declared.runs.RunLine.{RunLine}
use Rattle.trec_formats.specs.RunFormat.Groups.{IsFirstGroup}

position_at : {X : Type 0} (p : X → Bool) (xs : List X) (t : Bool) → ltb (position_or_len p xs) (length xs) ≡ t
    → unwrap_or (cond t (Some (position_or_len p xs)) None) (length xs) ≡ position_or_len p xs
position_at p xs true is = refl
position_at p xs false is = omega (arith, ltb-false _ _ is, prefix_len-le-length (λ x. not (p x)) xs)

-- the first place of what passes, or the length
pub end_is : {X : Type 0} (p : X → Bool) (xs : List X) → unwrap_or (position p xs) (length xs) ≡ position_or_len p xs
end_is p xs = position_at p xs (ltb (position_or_len p xs) (length xs)) refl

not_cons : {X : Type 0} (x : X) (xs : List X) → [] ≡ x ∷ xs → ⊥
not_cons x xs e = cc e

module _ {X : Type 0} (f : X → RunLine) where
  -- whether a line has another topic
  abbrev pub is_other : List ℕ → X → Bool
  is_other topic line = not (bytes_eq (f line).topic topic)

  apart_at : (line : X) (more : List X) (n : ℕ) (t : Bool) → ltb n (length (line ∷ more)) ≡ t → n ≡ position_or_len (is_other (f line).topic) (line ∷ more)
      → (next : RunLine) (rest : List RunLine) → map f (drop n (line ∷ more)) ≡ next ∷ rest → next.topic ≢ (f line).topic
  apart_at line more n true within end next rest cut same =
      let less : n < length (line ∷ more) = ltb-true _ _ within in
      let at = drop_more (line ∷ more) n line less in
      let here : f (get_or (line ∷ more) n line) ∷ map f (drop (n + 1) (line ∷ more)) ≡ next ∷ rest = sym (ap (map f) at) ∙ cut in
      let is : f (get_or (line ∷ more) n line) ≡ next = cc here in
      let other : is_other (f line).topic (get_or (line ∷ more) n line) ≡ true =
      rw end (passes_at_first (is_other (f line).topic) (line ∷ more) line (omega (arith, less, end))) in
      let topics : bytes_eq (f (get_or (line ∷ more) n line)).topic (f line).topic ≡ true =
      (bytes_eq-Decides _ _).1 (ap (λ (l : RunLine). l.topic) is ∙ same) in
      let no = not-true _ other in
      cc (topics, no)
  apart_at line more n false within end next rest cut same =
      let none : drop n (line ∷ more) ≡ [] = drop_all n (line ∷ more) (ltb-false _ _ within) in
      not_cons next rest (sym (ap (map f) none) ∙ cut)

  same_at : (line : X) (more : List X) (n : ℕ) → n ≡ position_or_len (is_other (f line).topic) (line ∷ more)
      → All (λ (l : X). (f l).topic ≡ (f line).topic) (take n (line ∷ more))
  same_at line more n end k d within =
      let less : k < n = omega (arith, within, length-take n (line ∷ more)) in
      let first : is_other (f line).topic (get_or (line ∷ more) k d) ≡ false =
      fails_before_first (is_other (f line).topic) (line ∷ more) k d (omega (arith, less, end)) in
      rw (get_or-take n (line ∷ more) k d less) ((bytes_eq-Decides _ _).0 (not-false _ first))

  group_at : (line : X) (more : List X) (n : ℕ) → n ≡ position_or_len (is_other (f line).topic) (line ∷ more)
      → IsFirstGroup (map f (line ∷ more)) (map f (take n (line ∷ more)))
  group_at line more n end =
      let own : bytes_eq (f line).topic (f line).topic ≡ true = nat_list_eq_equiv.refl (f line).topic in
      let some : n ≡ suc (position_or_len (is_other (f line).topic) more) = end ∙ rw own (omega arith) in
      record {
        first = f line;
        others = map f (take (position_or_len (is_other (f line).topic) more) more);
        after = map f (drop n (line ∷ more));
        group_is = rw some refl;
        cut = sym (ap (map f) (take-append-drop n (line ∷ more))) ∙ map-append _ (take n (line ∷ more)) (drop n (line ∷ more));
        same = All-map (λ l. l.topic ≡ (f line).topic) f (take n (line ∷ more)) (same_at line more n end);
        apart = apart_at line more n (ltb n (length (line ∷ more))) refl end;
      }

  -- the lines in front with the topic of the first
  pub first_group_is : (lines : List X) (d : X) (topic : List ℕ) (n : ℕ) → 0 < length lines → topic ≡ (f (get_or lines 0 d)).topic
      → n ≡ unwrap_or (position (is_other topic) lines) (length lines) → IsFirstGroup (map f lines) (map f (take n lines))
  first_group_is [] d topic n some is end = absurd (omega arith)
  first_group_is (line ∷ more) d topic n some is end =
      let at : n ≡ position_or_len (is_other topic) (line ∷ more) = end ∙ end_is (is_other topic) (line ∷ more) in
      group_at line more n (subst (λ t. n ≡ position_or_len (is_other t) (line ∷ more)) is at)
