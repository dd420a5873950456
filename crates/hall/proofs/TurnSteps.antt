-- The steps of the seat that takes the turn, counts, and gives the turn back or ends the hall, keep the rule.
use Rattle.std.proofs.Common.{◌≡◌, ◌≢◌, ◌⊎◌, inl, inr, ⊎_elim, ℕ, suc, ◌≤◌, Bool, List, [], ◌∷◌, ◌++◌, length, get_or, set, refl, sym, ap, ◌∙◌, subst, arith, eq-eqb, ne_eqb, get_or-set_same, get_or-set_other}
use Rattle.std.specs.Prelude.{◌==◌, Option as Maybe, Some}
use Rattle.std.specs.List.{Contains}
use Rattle.std.proofs.lemmas.List.Elements.{Contains-append_cases}
use mathlib.Core.Option.{some, none}
use mathlib.Core.Logic.{dite}
use native.Mathlib.Decide.{ℕ_discrete}
use prog.Atomic.{either}
use lib.ListN.{get_elem?}
use lib.Seq.{set-get_or}
use Rattle.atomic_table.specs.Table.{Act, Allows, Final, Seen, keeps, takes, gives, stepped}
use Rattle.atomic_table.proofs.Lists.{set_again, set_here}
use Rattle.hall.specs.declared.stories.Stage.{Stage}
use Rattle.hall.specs.declared.stories.Stage.TheVariants.{Idle, Took, Counted, Ended}
use Rattle.hall.specs.declared.stories.Story.{Story}
use Rattle.hall.specs.declared.stories.StoryView.{StoryView}
use Rattle.hall.specs.Places.{added_place}
use Rattle.hall.specs.Rule.{KeepsRule, Knows, Mine, idle, state_noted, took, turn_ended, turn_left, viewed}
use Rattle.hall.specs.Stories.{AtMost, Grows}
use Rattle.hall.proofs.AscendingPlaces.{place_added}
use Rattle.hall.proofs.GrowingStories.{at_most_self, starts_length}
use Rattle.hall.proofs.SeatViews.{St, blank, bound, count_stays, first_word, idle_known, moved, others, second_word, seen_bound, two_stay}

module _ {B E : Type 0} (story : B → Story E) where
  -- a seat takes the turn where it is free
  takes_turn : (slots id : ℕ) (v : StoryView E) → v.stage ≡ Idle
      → Allows (KeepsRule story) slots id (v, []) 0 (λ n. either (n == 0) 1 n) (took story (blank story) (v, []))
  takes_turn slots id v idles s r few here fits = dite (ℕ_discrete (get_or s.words 0 0) 0) hit miss
    where
      Result : Type 0
      Result = (w : StoryView E) × (a : Act (Maybe B)) × Rattle.atomic_table.specs.Table.Valid s.homes [] a
          × KeepsRule story (stepped s 0 (either (get_or s.words 0 0 == 0) 1 (get_or s.words 0 0)) id [] w a)
          × took story (blank story) (v, []) (get_or s.words 0 0) (w, Rattle.atomic_table.specs.Table.carried_after [] a)

      known : AtMost v.seen r.top
      known = idle_known story s r id v here idles

      hit : get_or s.words 0 0 ≡ 0 → Result
      hit zero_ =
          let home = r.at_home (let z : get_or s.words 0 0 ≡ 0 = zero_ in λ one. omega arith) in
          let value : B = home.0 in
          let w : StoryView E = viewed (Took (story value)) v.seen v.mine in
          let one : get_or (set s.words 0 1) 0 0 ≡ 1 = get_or-set_same s.words 0 1 0 (first_word story s r) in
          let kept : KeepsRule story (stepped s 0 1 id [] w (takes 0 (Some value))) =
          moved story s r id v w (set s.words 0 1) (set s.homes 0 none) r.top id here
          (two_stay story s r 0 1) (count_stays story s r 1) (λ ne. absurd (ne one)) (λ e. (w, set_here s.views id w (bound s.views id v here), tt))
          (one, refl, home.2, known)
          (λ j u ne is. others (get_or s.words 0 0) (get_or (set s.words 0 1) 0 0) r.holder id r.top r.top j u.stage u.seen (at_most_self r.top)
          (λ e. absurd (let z : get_or s.words 0 0 ≡ 0 = zero_ in omega arith))
          (λ e. let z : get_or s.words 0 0 ≡ 0 = zero_ in omega arith) (r.each_seat j u is))
          (λ p there. r.within id v p here there) (λ p there. inl there) in
          let is : either (get_or s.words 0 0 == 0) 1 (get_or s.words 0 0) ≡ 1 =
          ap (λ (t : Bool). either t 1 (get_or s.words 0 0)) (eq-eqb (get_or s.words 0 0) 0 zero_) in (
            w,
            takes 0 (Some value),
            home.1,
            subst (λ (n : ℕ). KeepsRule story (stepped s 0 n id [] w (takes 0 (Some value)))) (sym is) kept,
            ((λ z. (value, refl, subst (λ (t : Story E). AtMost v.seen t) (sym home.2) known)), λ ne. absurd (ne zero_)),
          )

      miss : get_or s.words 0 0 ≢ 0 → Result
      miss ne =
          let is : either (get_or s.words 0 0 == 0) 1 (get_or s.words 0 0) ≡ get_or s.words 0 0 =
          ap (λ (t : Bool). either t 1 (get_or s.words 0 0)) (ne_eqb (get_or s.words 0 0) 0 ne) in
          let words : set s.words 0 (either (get_or s.words 0 0 == 0) 1 (get_or s.words 0 0)) ≡ s.words =
          ap (λ (n : ℕ). set s.words 0 n) is ∙ set-get_or s.words 0 0 in
          let views : set s.views id v ≡ s.views = set_again s.views id v here in
          let kept : KeepsRule story (stepped s 0 (either (get_or s.words 0 0 == 0) 1 (get_or s.words 0 0)) id [] v keeps) =
          subst (λ (vs : List (StoryView E)). KeepsRule
          story record { words = set s.words 0 (either (get_or s.words 0 0 == 0) 1 (get_or s.words 0 0)); homes = s.homes; views = vs }) (sym views)
          (subst (λ (ws : List ℕ). KeepsRule story record { words = ws; homes = s.homes; views = s.views }) (sym words) r) in
          (v, keeps, tt, kept, ((λ z. absurd (ne z)), λ z. refl))

  pub takes_from : (slots id : ℕ) (m : Mine story) → m.1 ≡ [] → m.0.stage ≡ Idle
      → Allows (KeepsRule story) slots id m 0 (λ n. either (n == 0) 1 n) (took story (blank story) m)
  takes_from slots id m none_held idles =
      subst (λ (held : List (ℕ × Maybe B)). Allows (KeepsRule story) slots id (m.0, held) 0 (λ n. either (n == 0) 1 n) (took story (blank story) (m.0, held)))
      (sym none_held) (takes_turn slots id m.0 idles)

  -- the seat that has the turn counts the entries
  pub notes : (slots id : ℕ) (m : Mine story) (base next : Story E) (count : ℕ) → m.0.stage ≡ Took base → Grows base next → count ≡ length next.list
      → Allows (KeepsRule story) slots id m 1 (λ _. count) (λ _. state_noted story next (blank story) m count)
  notes slots id m base next count is grows counted s r few here fits = (w, keeps, tt, kept, then)
    where
      v : StoryView E
      v = m.0

      w : StoryView E
      w = viewed Counted next (v.mine ++ added_place base.list next.list)

      knows : Knows (get_or s.words 0 0) r.holder r.top id (Took base) v.seen
      knows = subst (λ (g : Stage E). Knows (get_or s.words 0 0) r.holder r.top id g v.seen) is (r.each_seat id v here)

      lock : get_or (set s.words 1 count) 0 0 ≡ 1
      lock = let ne : 0 ≢ 1 = omega arith in get_or-set_other s.words 1 0 count 0 ne ∙ knows.0

      grown : AtMost r.top next
      grown = subst (λ (t : Story E). AtMost t next) knows.2 grows.0

      more : length base.list ≤ length next.list
      more = starts_length base.list next.list grows.0.0

      top_length : length base.list ≡ length r.top.list
      top_length = ap (λ (t : Story E). length t.list) knows.2

      within : (p : ℕ) → Contains w.mine p → p ≤ length next.list
      within p there = ⊎_elim
          (λ (old : Contains v.mine p). let a : p ≤ length v.seen.list = r.within id v p here old in
          let b : length v.seen.list ≤ length r.top.list = starts_length v.seen.list r.top.list knows.3.0 in let c = more in let d = top_length in omega arith)
          (λ (new : Contains (added_place base.list next.list) p). (place_added base.list next.list p more new).1)
          (Contains-append_cases v.mine (added_place base.list next.list) p there)

      fresh : (p : ℕ) → Contains w.mine p → Contains v.mine p ⊎ ((j : ℕ) (u : StoryView E) → get_elem? s.views j ≡ some u → Contains u.mine p → ⊥)
      fresh p there = ⊎_elim
          (λ (old : Contains v.mine p). inl old)
          (λ (new : Contains (added_place base.list next.list) p). inr (λ j u at mine.
          let a : p ≤ length u.seen.list = r.within j u p at mine in
          let b : length u.seen.list ≤ length r.top.list = seen_bound (get_or s.words 0 0) r.holder r.top j u.stage u.seen (r.each_seat j u at) in
          let c : p ≡ suc (length base.list) = (place_added base.list next.list p more new).0 in let d = top_length in omega arith))
          (Contains-append_cases v.mine (added_place base.list next.list) p there)

      kept : KeepsRule story (stepped s 1 count id m.1 w keeps)
      kept = moved story s r id v w (set s.words 1 count) s.homes next id here (two_stay story s r 1 count)
          (get_or-set_same s.words 1 count 0 (second_word story s r) ∙ counted)
          (λ ne. absurd (ne lock)) (λ e. (w, set_here s.views id w (bound s.views id v here), tt)) (lock, refl, refl)
          (λ j u ne at. others (get_or s.words 0 0) (get_or (set s.words 1 count) 0 0) r.holder id r.top next j u.stage u.seen grown
          (λ e h. ne (h ∙ sym knows.1)) (λ e. let k = knows.0 in omega arith) (r.each_seat j u at))
          within fresh

      then : state_noted story next (blank story) m count (w, m.1)
      then other same = let e : base ≡ other = cc (is, same) in ap (λ (b : Story E). (viewed Counted next (m.0.mine ++ added_place b.list next.list), m.1)) e

  -- the seat that has the turn brings the value home
  home_again : (slots id : ℕ) (v w : StoryView E) (value : B) (lock : ℕ) (s : St story) (r : KeepsRule story s)
      → slots ≡ 1 → length s.homes ≡ slots → get_elem? s.views id ≡ some v → lock ≢ 1
      → get_or s.words 0 0 ≡ 1 → id ≡ r.holder → story value ≡ r.top → w.mine ≡ v.mine → w.seen ≡ v.seen → Knows lock r.holder r.top id w.stage w.seen
      → KeepsRule story (stepped s 0 lock id ((0, Some value) ∷ []) w gives)
  home_again slots id v w value lock s r one few here ne held holds is mine seen own =
      moved story s r id v w (set s.words 0 lock) (set s.homes 0 (some (Some value))) r.top r.holder here
      (two_stay story s r 0 lock) (count_stays story s r lock)
      (λ other. (value, set_here s.homes 0 (some (Some value)) (let a : length s.homes ≡ slots = few in let b : slots ≡ 1 = one in omega arith), is))
      (λ e. absurd (ne (sym word ∙ e)))
      (subst (λ (n : ℕ). Knows n r.holder r.top id w.stage w.seen) (sym word) own)
      (λ j u other at. others (get_or s.words 0 0) (get_or (set s.words 0 lock) 0 0) r.holder r.holder r.top r.top j u.stage u.seen (at_most_self r.top)
      (λ e h. other (h ∙ sym holds)) (λ e. let k : get_or s.words 0 0 ≡ 1 = held in omega arith) (r.each_seat j u at))
      (λ p there. subst (λ (x : Story E). p ≤ length x.list) (sym seen) (r.within id v p here (subst (λ (ps : List ℕ). Contains ps p) mine there)))
      (λ p there. inl (subst (λ (ps : List ℕ). Contains ps p) mine there))
    where
      word : get_or (set s.words 0 lock) 0 0 ≡ lock
      word = get_or-set_same s.words 0 lock 0 (first_word story s r)

  pub leaves : (slots id : ℕ) (m : Mine story) (value : B) (mine : List ℕ) → slots ≡ 1 → m ≡ (viewed Counted (story value) mine, (0, Some value) ∷ [])
      → Allows (KeepsRule story) slots id m 0 (λ _. 0) (λ _. turn_left story (blank story) m 0)
  leaves slots id m value mine one is =
      subst (λ (m : Mine story). Allows (KeepsRule story) slots id m 0 (λ _. 0) (λ _. turn_left story (blank story) m 0)) (sym is) body
    where
      v : StoryView E
      v = viewed Counted (story value) mine

      body : Allows (KeepsRule story) slots id (v, (0, Some value) ∷ []) 0 (λ _. 0) (λ _. turn_left story (blank story) (v, (0, Some value) ∷ []) 0)
      body s r few here fits =
          let knows = r.each_seat id v here in
          let w : StoryView E = idle v.seen v.mine in
          let own : AtMost v.seen r.top = subst (λ (t : Story E). AtMost (story value) t) knows.2 (at_most_self (story value)) in
          (w, gives, tt, home_again slots id v w value 0 s r one few here (λ e. omega arith) knows.0 knows.1 knows.2 refl refl own, refl)

  pub ends : (slots id : ℕ) (m : Mine story) (value : B) (seen : Story E) (mine : List ℕ) → slots ≡ 1
      → m ≡ (viewed (Took (story value)) seen mine, (0, Some value) ∷ [])
      → Allows (KeepsRule story) slots id m 0 (λ _. 2) (λ _. turn_ended story (blank story) m 2)
  ends slots id m value seen mine one is =
      subst (λ (m : Mine story). Allows (KeepsRule story) slots id m 0 (λ _. 2) (λ _. turn_ended story (blank story) m 2)) (sym is) body
    where
      v : StoryView E
      v = viewed (Took (story value)) seen mine

      body : Allows (KeepsRule story) slots id (v, (0, Some value) ∷ []) 0 (λ _. 2) (λ _. turn_ended story (blank story) (v, (0, Some value) ∷ []) 2)
      body s r few here fits =
          let knows = r.each_seat id v here in
          let w : StoryView E = viewed Ended seen mine in
          (w, gives, tt, home_again slots id v w value 2 s r one few here (λ e. omega arith) knows.0 knows.1 knows.2 refl refl (refl, knows.3), refl)

  -- once a seat has the turn for good, the value is home, with all that the seat had seen
  pub ended_home : (id : ℕ) (v : StoryView E) (words : List ℕ) (slots : List (Maybe B)) → v.stage ≡ Ended → Final (Seen (KeepsRule story) id v) words slots
      → (value : B) × (get_elem? slots 0 ≡ some (Some value)) × AtMost v.seen (story value)
  ended_home id v words slots is final =
      let s : St story = final.0 in
      let r : KeepsRule story s = final.1.0 in
      let knows = subst (λ (g : Stage E). Knows (get_or s.words 0 0) r.holder r.top id g v.seen) is (r.each_seat id v final.1.1) in
      let home = r.at_home (λ one. let k : get_or s.words 0 0 ≡ 2 = knows.0 in omega arith) in
      (home.0, final.4 0 (Some home.0) home.1, subst (λ (t : Story E). AtMost v.seen t) (sym home.2) knows.1)
