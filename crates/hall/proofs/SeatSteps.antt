-- The steps of seats that are split, joined and met keep the rule.
use Rattle.std.proofs.Common.{◌≡◌, ◌≢◌, ◌⊎◌, inl, inr, ⊎_elim, ℕ, ◌<◌, ◌≤◌, Bool, true, false, List, [], ◌∷◌, ◌++◌, length, get_or, set, refl, sym, ap, ◌∙◌, subst, arith}
use Rattle.std.specs.Prelude.{cond, nat_le, Option as Maybe}
use borrow.Author.Tests.{leb-false, leb-true}
use Rattle.std.specs.List.{Contains}
use mathlib.Core.Option.{some}
use lib.ListN.{get_elem?}
use lib.Seq.{set-get_or, set_comm}
use Rattle.decimal_rank.proofs.Lists.{none_there}
use Rattle.atomic_table.specs.Table.{Allows, Joins, Splits, keeps, stepped}
use Rattle.atomic_table.proofs.Lists.{at_set, at_snoc, at_longer, set_again, set_else}
use Rattle.hall.specs.declared.stories.Stage.{Stage}
use Rattle.hall.specs.declared.stories.Stage.TheVariants.{Idle, Met}
use Rattle.hall.specs.declared.stories.Story.{Story}
use Rattle.hall.specs.declared.stories.StoryView.{StoryView}
use Rattle.hall.specs.Places.{Apart, Rises, places_merged}
use Rattle.hall.specs.Rule.{IsTurn, KeepsRule, Knows, Mine, both, cut_view, idle, seats_met, spent}
use Rattle.hall.specs.Stories.{AtMost, joined_story, longer}
use Rattle.hall.proofs.AscendingPlaces.{in_merged, rises_later, rises_merged}
use Rattle.hall.proofs.GrowingStories.{both_comparable, joined_at_most}
use Rattle.hall.proofs.SeatViews.{St, blank, idle_known, moved, still_held}

module _ {E : Type 0} where
  longest : (xs ys : List E) → (length xs ≤ length (longer xs ys)) × (length ys ≤ length (longer xs ys))
  longest xs ys = step (nat_le (length xs) (length ys)) refl
    where
      step : (t : Bool) → nat_le (length xs) (length ys) ≡ t → (length xs ≤ length (cond t ys xs)) × (length ys ≤ length (cond t ys xs))
      step true is = (leb-true (length xs) (length ys) is, omega arith)
      step false is = (omega arith, (let h : length ys < length xs = leb-false (length xs) (length ys) is in omega arith))

module _ {B E : Type 0} (story : B → Story E) where
  -- the look behind a join tells that both had seen beginnings of one history
  pub meets : (slots id : ℕ) (m : Mine story) (a b : Story E) (xs ys : List ℕ) → m.0.stage ≡ Met a b xs ys
      → Allows (KeepsRule story) slots id m 0 (λ n. n) (seats_met story (blank story) m)
  meets slots id m a b xs ys is s r few here fits = (w, keeps, tt, kept, then)
    where
      v : StoryView E
      v = m.0

      w : StoryView E
      w = idle v.seen v.mine

      knows : Knows (get_or s.words 0 0) r.holder r.top id (Met a b xs ys) v.seen
      knows = subst (λ (g : Stage E). Knows (get_or s.words 0 0) r.holder r.top id g v.seen) is (r.each_seat id v here)

      words : set s.words 0 (get_or s.words 0 0) ≡ s.words
      words = set-get_or s.words 0 0

      same : KeepsRule story record { words = s.words; homes = s.homes; views = set s.views id w }
      same = moved story s r id v w s.words s.homes r.top r.holder here r.two r.counted r.at_home
          (still_held story s r id v w here (λ turn. subst (λ (g : Stage E). IsTurn g) is turn)) knows.3
          (λ j u ne at. r.each_seat j u at) (λ p there. r.within id v p here there) (λ p there. inl there)

      kept : KeepsRule story (stepped s 0 (get_or s.words 0 0) id m.1 w keeps)
      kept = subst (λ (ws : List ℕ). KeepsRule story record { words = ws; homes = s.homes; views = set s.views id w }) (sym words) same

      then : seats_met story (blank story) m (get_or s.words 0 0) (w, m.1)
      then c d ps qs other =
          let first : a ≡ c = cc (is, other) in let second : b ≡ d = cc (is, other) in
          let third : xs ≡ ps = cc (is, other) in let fourth : ys ≡ qs = cc (is, other) in
          let k = subst (λ (g : Stage E). Knows (get_or s.words 0 0) r.holder r.top id g v.seen) other (r.each_seat id v here) in
          ((both_comparable c d r.top k.0 k.1, k.0.2 ∙ sym k.1.2, k.2), refl)

  -- a new seat that has seen as much and has no places
  pub splits : (id : ℕ) (v : StoryView E) → v.stage ≡ Idle → Splits (KeepsRule story) id v v (cut_view v)
  splits id v idles s r here =
      subst (λ (vs : List (StoryView E)). KeepsRule story record { words = s.words; homes = s.homes; views = vs ++ cut_view v ∷ [] })
      (sym (set_again s.views id v here)) longer_
    where
      w : StoryView E
      w = cut_view v

      apart : (i j : ℕ) (t u : StoryView E) (p : ℕ) → (get_elem? s.views i ≡ some t) ⊎ (w ≡ t)
          → (get_elem? s.views j ≡ some u) ⊎ (w ≡ u) → i ≢ j → Contains t.mine p → Contains u.mine p → ⊥
      apart i j t u p (inl first) (inl second) ne a b = r.apart i j t u p first second ne a b
      apart i j t u p (inr first) second ne a b = none_there p (subst (λ (x : StoryView E). Contains x.mine p) (sym first) a)
      apart i j t u p (inl first) (inr second) ne a b = none_there p (subst (λ (x : StoryView E). Contains x.mine p) (sym second) b)

      longer_ : KeepsRule story record { words = s.words; homes = s.homes; views = s.views ++ w ∷ [] }
      longer_ = record {
        top = r.top;
        holder = r.holder;
        two = r.two;
        counted = r.counted;
        at_home = r.at_home;
        held = λ one. ((r.held one).0, at_longer s.views (w ∷ []) r.holder (r.held one).0 (r.held one).1, (r.held one).2);
        each_seat = λ j u at. ⊎_elim (λ (old : get_elem? s.views j ≡ some u). r.each_seat j u old)
            (λ (new : w ≡ u). subst (λ (x : StoryView E). Knows (get_or s.words 0 0) r.holder r.top j x.stage x.seen) new
            (idle_known story s r id v here idles))
            (at_snoc s.views w u j at);
        within = λ j u p at there. ⊎_elim (λ (old : get_elem? s.views j ≡ some u). r.within j u p old there)
            (λ (new : w ≡ u). absurd (none_there p (subst (λ (x : StoryView E). Contains x.mine p) (sym new) there))) (at_snoc s.views w u j at);
        apart = λ i j t u p first second ne a b. apart i j t u p (at_snoc s.views w t i first) (at_snoc s.views w u j second) ne a b;
      }

  -- one seat takes in what another knows
  pub joins : (id : ℕ) (v : StoryView E) (other : ℕ) (w : StoryView E) → v.stage ≡ Idle → w.stage ≡ Idle → Joins (KeepsRule story) id v other w (both v w) spent
  joins id v other w v_idle w_idle s r here ne at =
      subst (λ (vs : List (StoryView E)). KeepsRule story record { words = s.words; homes = s.homes; views = vs })
      (set_comm s.views other id spent (both v w) ne) joined_
    where
      there : get_elem? s.views other ≡ some w
      there = sym (set_else s.views id other (both v w) ne) ∙ at

      away : id ≢ other
      away e = ne (sym e)

      s1 : St story
      s1 = record { words = s.words; homes = s.homes; views = set s.views other spent }

      not_turn : (u : StoryView E) → u.stage ≡ Idle → IsTurn u.stage → ⊥
      not_turn u is turn = subst (λ (g : Stage E). IsTurn g) is turn

      r1 : KeepsRule story s1
      r1 = moved story s r other w spent s.words s.homes r.top r.holder there r.two r.counted r.at_home
          (still_held story s r other w spent there (not_turn w w_idle)) refl
          (λ j u differ is. r.each_seat j u is) (λ p mine. absurd (none_there p mine)) (λ p mine. absurd (none_there p mine))

      here1 : get_elem? s1.views id ≡ some v
      here1 = set_else s.views other id spent away ∙ here

      v_known : AtMost v.seen r.top
      v_known = idle_known story s r id v here v_idle

      w_known : AtMost w.seen r.top
      w_known = idle_known story s r other w there w_idle

      u : StoryView E
      u = both v w

      apart : Apart v.mine w.mine
      apart p a b = r.apart id other v w p here there away a b

      within : (p : ℕ) → Contains u.mine p → p ≤ length u.seen.list
      within p mine = let l = longest v.seen.list w.seen.list in ⊎_elim
          (λ (a : Contains v.mine p). let x : p ≤ length v.seen.list = r.within id v p here a in
          let y : length v.seen.list ≤ length (longer v.seen.list w.seen.list) = l.0 in omega arith)
          (λ (b : Contains w.mine p). let x : p ≤ length w.seen.list = r.within other w p there b in
          let y : length w.seen.list ≤ length (longer v.seen.list w.seen.list) = l.1 in omega arith)
          (in_merged p v.mine w.mine mine)

      fresh : (p : ℕ) → Contains u.mine p → Contains v.mine p ⊎ ((j : ℕ) (t : StoryView E) → get_elem? s1.views j ≡ some t → Contains t.mine p → ⊥)
      fresh p mine = ⊎_elim (λ (a : Contains v.mine p). inl a)
          (λ (b : Contains w.mine p). inr (λ j t is theirs. ⊎_elim
          (λ (x : (j ≡ other) × (spent ≡ t)). none_there p (subst (λ (z : StoryView E). Contains z.mine p) (sym x.1) theirs))
          (λ (x : (j ≢ other) × (get_elem? s.views j ≡ some t)). r.apart other j w t p there x.1 (λ e. x.0 (sym e)) b theirs)
          (at_set s.views other j spent t is)))
          (in_merged p v.mine w.mine mine)

      joined_ : KeepsRule story record { words = s.words; homes = s.homes; views = set s1.views id u }
      joined_ = moved story s1 r1 id v u s.words s.homes r.top r.holder here1 r.two r.counted r.at_home
          (still_held story s1 r1 id v u here1 (not_turn v v_idle)) (v_known, w_known, apart, joined_at_most v.seen w.seen r.top v_known w_known)
          (λ j t differ is. r1.each_seat j t is) within fresh

  -- what a pass is behind a join
  pub after_join : (v w : StoryView E) (held : List (ℕ × Maybe B)) (m m' : Mine story) (found : ℕ) → m ≡ (both v w, held) → held ≡ []
      → Rises 0 v.mine (length v.seen.list) → Rises 0 w.mine (length w.seen.list) → seats_met story (blank story) m found m'
      → ((m'.1 ≡ []) × (m'.0.stage ≡ Idle) × Rises 0 m'.0.mine (length m'.0.seen.list)) × (Apart v.mine w.mine × (m'.0.mine ≡ places_merged v.mine w.mine))
  after_join v w held m m' found is none_held first second play =
      let told = play v.seen w.seen v.mine w.mine (ap (λ (m : Mine story). m.0.stage) is) in
      let after : m' ≡ (idle (joined_story v.seen w.seen) (places_merged v.mine w.mine), []) =
      told.1 ∙ ap (λ (m : Mine story). (idle m.0.seen m.0.mine, m.1)) is
      ∙ ap (λ (l : List (ℕ × Maybe B)). (idle (joined_story v.seen w.seen) (places_merged v.mine w.mine), l)) none_held in
      let l = longest v.seen.list w.seen.list in
      let to : ℕ = length (longer v.seen.list w.seen.list) in
      let rises : Rises 0 (places_merged v.mine w.mine) to = rises_merged 0 to v.mine w.mine told.0.2
      (rises_later 0 (length v.seen.list) to v.mine l.0 first) (rises_later 0 (length w.seen.list) to w.mine l.1 second) in (
        subst (λ (m : Mine story). (m.1 ≡ []) × (m.0.stage ≡ Idle) × Rises 0 m.0.mine (length m.0.seen.list)) (sym after) (refl, refl, rises),
        (told.0.2, ap (λ (m : Mine story). m.0.mine) after),
      )
