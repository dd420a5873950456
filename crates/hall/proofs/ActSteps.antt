-- What the steps of an act, one after the other, come to.
use Rattle.std.proofs.Common.{◌≡◌, ℕ, List, [], ◌∷◌, ◌++◌, length, refl, sym, ap, ◌∙◌, subst}
use Rattle.std.specs.Prelude.{Option as Maybe, None, Some}
use mathlib.Core.Option.{some, some-injective}
use Rattle.atomic_table.specs.Table.{rest}
use Rattle.hall.specs.declared.stories.Stage.TheVariants.{Counted, Idle, Took}
use Rattle.hall.specs.declared.stories.Story.{Story}
use Rattle.hall.specs.declared.stories.StoryView.{StoryView}
use Rattle.hall.specs.Acts.{ActsOn}
use Rattle.hall.specs.Places.{Rises, added_place}
use Rattle.hall.specs.Rule.{Mine, idle, viewed}
use Rattle.hall.specs.Stories.{AtMost, Grows}
use Rattle.hall.proofs.AscendingPlaces.{rises_added, rises_later}
use Rattle.hall.proofs.GrowingStories.{starts_length}

abbrev front : {B : Type 0} → List (ℕ × Maybe B) → Maybe B
front [] = None
front (x ∷ xs) = x.1

-- what a closed slot has is the value that was at home
pub is_home : {B : Type 0} (value got : B) (found : Maybe B) → some (Some value) ≡ some found → found ≡ Some got → value ≡ got
is_home value got found is some_ = let same : Some value ≡ found = some-injective (Some value) found is in
    let told : Some value ≡ Some got = same ∙ some_ in cc told

pub not_home : {B : Type 0} (value : B) (found : Maybe B) → some (Some value) ≡ some found → found ≡ None → ⊥
not_home value found is none_ = let same : Some value ≡ found = some-injective (Some value) found is in let told : Some value ≡ None = same ∙ none_ in cc told

module _ {B E : Type 0} (story : B → Story E) where
  -- the slot's value is that of the turn, and nothing is in its place
  pub taken_out : (v : StoryView E) (value got : B) (found : Maybe B) (m m' : Mine story)
      → m ≡ (viewed (Took (story value)) v.seen v.mine, (0, Some value) ∷ [])
      → m.1 ≡ (0, found) ∷ rest m.1 → m' ≡ (m.0, (0, None) ∷ rest m.1) → found ≡ Some got
      → (value ≡ got) × (m' ≡ (viewed (Took (story got)) v.seen v.mine, (0, None) ∷ []))
  taken_out v value got found m m' is holds after some_ =
      let out : (0, found) ∷ rest m.1 ≡ (0, Some value) ∷ [] = sym holds ∙ ap (λ (m : Mine story). m.1) is in
      let head : found ≡ Some value = ap front out in
      let told : Some value ≡ Some got = sym head ∙ some_ in
      let same : value ≡ got = cc told in
      (same, after ∙ ap (λ (m : Mine story). (m.0, (0, None) ∷ rest m.1)) is ∙ ap (λ (b : B). (viewed (Took (story b)) v.seen v.mine, (0, None) ∷ [])) same)

  -- the view of the seat once the entries are counted
  abbrev pub counted_view : StoryView E → B → B → StoryView E
  counted_view v got next = viewed Counted (story next) (v.mine ++ added_place (story got).list (story next).list)

  -- The seat's steps under the turn, by what each told: the value was taken out, the entries counted, and the next value put back.
  pub brought_back : (v : StoryView E) (value got next : B) (found : Maybe B) (m0 m1 m2 m3 : Mine story)
      → m0 ≡ (viewed (Took (story value)) v.seen v.mine, (0, Some value) ∷ [])
      → m0.1 ≡ (0, found) ∷ rest m0.1 → m1 ≡ (m0.0, (0, None) ∷ rest m0.1) → found ≡ Some got
      → ((base : Story E) → m1.0.stage ≡ Took base → m2 ≡ (viewed Counted (story next) (m1.0.mine ++ added_place base.list (story next).list), m1.1))
      → m3 ≡ (m2.0, (0, Some next) ∷ rest m2.1) → (value ≡ got) × (m3 ≡ (counted_view v got next, (0, Some next) ∷ []))
  brought_back v value got next found m0 m1 m2 m3 is holds out some_ noted after =
      let taken = taken_out v value got found m0 m1 is holds out some_ in
      let counted : m2 ≡ (counted_view v got next, (0, None) ∷ []) =
      noted (story got) (ap (λ (m : Mine story). m.0.stage) taken.1)
      ∙ ap (λ (m : Mine story). (viewed Counted (story next) (m.0.mine ++ added_place (story got).list (story next).list), m.1)) taken.1 in
      (taken.0, after ∙ ap (λ (m : Mine story). (m.0, (0, Some next) ∷ rest m.1)) counted)

  -- the view of the seat behind the act
  abbrev pub acted_view : StoryView E → B → B → StoryView E
  acted_view v got next = idle (story next) (v.mine ++ added_place (story got).list (story next).list)

  -- the turn was left
  pub turn_left : (v : StoryView E) (got next : B) (m m' : Mine story) → m ≡ (counted_view v got next, (0, Some next) ∷ [])
      → m' ≡ (idle m.0.seen m.0.mine, []) → m' ≡ (acted_view v got next, [])
  turn_left v got next m m' is after = after ∙ ap (λ (m : Mine story). (idle m.0.seen m.0.mine, [])) is

  pub pass_behind : (v : StoryView E) (got next : B) (m : Mine story) → m ≡ (acted_view v got next, [])
      → AtMost v.seen (story got) → Grows (story got) (story next)
      → Rises 0 v.mine (length v.seen.list) → (m.1 ≡ []) × (m.0.stage ≡ Idle) × Rises 0 m.0.mine (length m.0.seen.list)
  pass_behind v got next m is most grows rises =
      let up : Rises 0 v.mine (length (story got).list) =
      rises_later 0 (length v.seen.list) (length (story got).list) v.mine (starts_length v.seen.list (story got).list most.0) rises in
      subst (λ (m : Mine story). (m.1 ≡ []) × (m.0.stage ≡ Idle) × Rises 0 m.0.mine (length m.0.seen.list)) (sym is)
      (refl, refl, rises_added v.mine (story got).list (story next).list (starts_length (story got).list (story next).list grows.0.0) grows.1 up)

  pub acts_behind : {Ask Answer : Type 0} (tells : Story E → Ask → Answer → Story E → Type 0) (ask : Ask) (answer : Answer)
      (v : StoryView E) (seen : Story E) (mine : List ℕ) (got next : B) (m : Mine story)
      → m ≡ (acted_view v got next, []) → v.seen ≡ seen → v.mine ≡ mine → AtMost v.seen (story got)
      → Grows (story got) (story next) → tells (story got) ask answer (story next)
      → ActsOn tells seen mine ask answer m.0.seen m.0.mine
  acts_behind tells ask answer v seen mine got next m is seen_is mine_is most grows told =
      subst (λ (m : Mine story). ActsOn tells seen mine ask answer m.0.seen m.0.mine) (sym is) (
        story got,
        subst (λ (s : Story E). AtMost s (story got)) seen_is most,
        grows,
        told,
        ap (λ (ps : List ℕ). ps ++ added_place (story got).list (story next).list) mine_is,
      )
