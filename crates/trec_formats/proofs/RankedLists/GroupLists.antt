-- The lists of lines that stand by topic, group by group.
use Rattle.std.proofs.Common.{◌≡◌, ◌≢◌, ◌≤◌, ◌<◌, ◌+◌, ◌⊎◌, inl, inr, ℕ, suc, true, false, List, [], ◌∷◌, ◌++◌, length, map, drop, get_or, refl, sym, ◌∙◌, ap, subst, arith, Some, bytes_eq}
use Rattle.std.specs.Prelude.{All, AllPairs, Any, slice_get}
use Rattle.std.specs.Cmp.Lexicographic.{slice_cmp}
use Rattle.std.specs.Option.{option_map}
use Rattle.std.specs.Ordering.{nat_cmp, is_lt}
use Rattle.std.proofs.lemmas.Bool.{false_from_ne_true}
use Rattle.std.proofs.lemmas.Cmp.{nat_list_eq_equiv}
use Rattle.std.proofs.lemmas.List.{append-nil, append_assoc, drop_at, drop-drop, drop-map, length-append, length-drop, length-map, length_push, get_or_append_left, get_or_push}
use Rattle.std.proofs.lemmas.List.Elements.{All-append, All-push, All-cons, All-filter, All-same, filter-append}
use Rattle.std.proofs.lemmas.Option.{same_Some}
use Rattle.std.proofs.lemmas.Slice.Eq.{bytes_eq-Decides}
use Rattle.std.proofs.lemmas.List.Kept.{AllPairs-cons}
use Rattle.decimal_rank.proofs.Lists.{pairs_head, pairs_tail}
use Rattle.decimal_rank.proofs.TruthValues.{never_below_itself}
use Rattle.trec_formats.specs.Faults.{IsDistinct}
use Rattle.trec_formats.specs.declared.runs.lists.TopicList.{TopicList}
use Rattle.trec_formats.specs.declared.runs.RunLine.{RunLine}
use Rattle.trec_formats.specs.RunFormat.Groups.{topic_lt, AreByTopic, IsAscending, IsFirstGroup, IsGroupList, DocsDiffer}
use Rattle.trec_formats.specs.RunFormat.Lists.{lines_on, AreLists, AreRanked, IsListOf, same_run_document}
use Rattle.trec_formats.proofs.RankedLists.TopicOrder.{is_above}
use Rattle.trec_formats.proofs.RepeatedDocuments.DifferentDocuments.{distinct_by_topic, distinct_from_differ, differ_from_distinct, unkept}

abbrev pub below : List ℕ → List ℕ → Type 0
below s t = is_lt (slice_cmp nat_cmp s t) ≡ true

-- the lists of the lines in front, whose topics are below those of the rest
pub record IsListedTo (order rest : List RunLine) (lists : List TopicList) : Type 0 where
  pub done : List RunLine
  pub cut : order ≡ done ++ rest
  pub each : All (IsListOf order) lists
  pub differ : All (λ list. DocsDiffer (lines_on list.topic order)) lists
  pub ascending : AllPairs (λ a b. below a.topic b.topic) lists
  pub under : All (λ list. All (λ line. below list.topic line.topic) rest) lists
  pub whole : All (λ line. Any (λ list. list.topic ≡ line.topic) lists) done

pub nothing_listed : (order : List RunLine) → IsListedTo order order []
nothing_listed order = record {
  done = [];
  cut = refl;
  each = λ k d within. absurd (omega arith);
  differ = λ k d within. absurd (omega arith);
  ascending = λ i j d less within. absurd (omega arith);
  under = λ k d within. absurd (omega arith);
  whole = λ k d within. absurd (omega arith);
}

all_on : (topic : List ℕ) (lines : List RunLine) → All (λ line. line.topic ≡ topic) lines → lines_on topic lines ≡ lines
all_on topic [] all = refl
all_on topic (line ∷ lines) all =
    let here : bytes_eq line.topic topic ≡ true = (bytes_eq-Decides _ _).1 (all 0 line (omega arith)) in
    rw (here, all_on topic lines (λ k d within. all (suc k) d (omega arith))) refl

none_on : (topic : List ℕ) (lines : List RunLine) → All (λ line. line.topic ≢ topic) lines → lines_on topic lines ≡ []
none_on topic [] all = refl
none_on topic (line ∷ lines) all =
    let here : bytes_eq line.topic topic ≡ false = false_from_ne_true _ (λ same. all 0 line (omega arith) ((bytes_eq-Decides _ _).0 same)) in
    rw (here, none_on topic lines (λ k d within. all (suc k) d (omega arith))) refl

-- the second part of ascending lines
pairs_behind : {X : Type 0} (R : X → X → Type 0) (xs ys : List X) → AllPairs R (xs ++ ys) → AllPairs R ys
pairs_behind R [] ys pairs = pairs
pairs_behind R (x ∷ xs) ys pairs = pairs_behind R xs ys (pairs_tail R x (xs ++ ys) pairs)

all_behind : {X : Type 0} (P : X → Type 0) (xs ys : List X) → All P (xs ++ ys) → All P ys
all_behind P [] ys all = all
all_behind P (x ∷ xs) ys all = all_behind P xs ys (λ k d within. all (suc k) d (omega arith))

-- the group in front of the rest, and what lies behind it
pub record Cuts (order rest group : List RunLine) : Type 0 where
  pub first : RunLine
  pub others : List RunLine
  pub after : List RunLine
  pub group_is : group ≡ first ∷ others
  pub rest_is : rest ≡ group ++ after
  -- the lines behind it have topics above
  pub above : All (λ line. below first.topic line.topic) after
  -- it is all the lines of its topic
  pub whole : lines_on first.topic order ≡ group
  pub same : All (λ line. line.topic ≡ first.topic) group

-- a line behind a line of another topic, both not below the first
above_one : (first next line : RunLine) → topic_lt next first ≡ false → (next.topic ≢ first.topic) → topic_lt line first ≡ false
    → (line ≡ next) ⊎ (topic_lt line next ≡ false) → below first.topic line.topic
above_one first next line low apart other (inl is) = rw is (is_above first.topic next.topic low (λ same. apart (sym same)))
above_one first next line low apart other (inr behind) =
    is_above first.topic line.topic other (λ same.
    let up : below first.topic next.topic = is_above first.topic next.topic low (λ equal. apart (sym equal)) in
    let up_line : below line.topic next.topic = subst (λ t. below t next.topic) same up in
    let no : false ≡ true = sym behind ∙ up_line in
    cc no)

above_all : (first : RunLine) (others after : List RunLine) → IsAscending (first ∷ (others ++ after))
    → ((next : RunLine) (rest : List RunLine) → after ≡ next ∷ rest → next.topic ≢ first.topic) → All (λ line. below first.topic line.topic) after
above_all first others [] ascending apart = λ k d within. absurd (omega (arith, within))
above_all first others (next ∷ rest) ascending apart =
    let low = all_behind (λ line. topic_lt line first ≡ false) others (next ∷ rest)
    (pairs_head (λ a b. topic_lt b a ≡ false) first (others ++ next ∷ rest) ascending) in
    let behind =
    pairs_head (λ a b. topic_lt b a ≡ false) next rest
    (pairs_behind (λ a b. topic_lt b a ≡ false) others (next ∷ rest) (pairs_tail (λ a b. topic_lt b a ≡ false) first (others ++ next ∷ rest) ascending)) in
    let some : 0 < length (next ∷ rest) = omega arith in
    let here : topic_lt next first ≡ false = low 0 next some in
    let differs : next.topic ≢ first.topic = apart next rest refl in
    All-cons (λ line. below first.topic line.topic) next rest
    (above_one first next next here differs here (inl refl))
    (λ k d within. above_one first next (get_or rest k d) here differs (low (suc k) d (omega arith)) (inr (behind k d within)))

done_apart : (done rest : List RunLine) (lists : List TopicList) (first : RunLine) → All (λ list. below list.topic first.topic) lists
    → All (λ line. Any (λ (list : TopicList). list.topic ≡ line.topic) lists) done → All (λ line. line.topic ≢ first.topic) done
done_apart done rest lists first under whole k d within same =
    let at = whole k d within in
    let list : TopicList = at.1 in
    let low : below (get_or lists at.0 list).topic first.topic = under at.0 list at.2 in
    let up : below list.topic first.topic = rw at.3 at low in
    let own : below first.topic first.topic = subst (λ t. below t first.topic) (at.4 ∙ same) up in
    never_below_itself first.topic own

first_topic : (group others : List RunLine) (first : RunLine) (list : TopicList) → group ≡ first ∷ others
    → option_map (λ line. line.topic) (slice_get group 0) ≡ Some list.topic → list.topic ≡ first.topic
first_topic group others first list is topic =
    let shown : Some first.topic ≡ Some list.topic = rw is at topic in
    sym (same_Some _ _ shown)

first_of_rest : (rest group others after : List RunLine) (first : RunLine) (topic : List ℕ) → group ≡ first ∷ others
    → rest ≡ group ++ after → All (λ line. below topic line.topic) rest → below topic first.topic
first_of_rest rest group others after first topic group_is rest_is under =
    let front : All (λ line. below topic line.topic) (first ∷ (others ++ after)) =
    subst (All (λ line. below topic line.topic)) (rest_is ∙ ap (λ xs. xs ++ after) group_is) under in
    front 0 first (omega arith)

whole_on : (done group after : List RunLine) (topic : List ℕ) → All (λ line. line.topic ≢ topic) done → All (λ line. line.topic ≡ topic) group
    → All (λ line. below topic line.topic) after → lines_on topic (done ++ (group ++ after)) ≡ group
whole_on done group after topic before same above =
    let p = λ (line : RunLine). bytes_eq line.topic topic in
    let behind : All (λ line. line.topic ≢ topic) after = λ k d within equal. never_below_itself topic (subst (below topic) equal (above k d within)) in
    filter-append p done (group ++ after)
    ∙ rw (none_on topic done before) (filter-append p group after ∙ rw (all_on topic group same, none_on topic after behind) (append-nil group))

pub cuts : (order rest : List RunLine) (lists : List TopicList) (group : List RunLine) → IsListedTo order rest lists
    → IsAscending order → IsFirstGroup rest group → Cuts order rest group
cuts order rest lists group w ascending g =
    let rest_is : rest ≡ g.first ∷ (g.others ++ g.after) = g.cut ∙ ap (λ xs. xs ++ g.after) g.group_is in
    let up : IsAscending rest = pairs_behind (λ a b. topic_lt b a ≡ false) w.done rest (subst IsAscending w.cut ascending) in
    let above = above_all g.first g.others g.after (subst IsAscending rest_is up) g.apart in
    let under_first : All (λ list. below list.topic g.first.topic) lists =
    λ k d within. first_of_rest rest group g.others g.after g.first (get_or lists k d).topic g.group_is g.cut (w.under k d within) in
    record {
      first = g.first;
      others = g.others;
      after = g.after;
      group_is = g.group_is;
      rest_is = g.cut;
      above = above;
      whole = ap (lines_on g.first.topic) (w.cut ∙ ap (λ xs. w.done ++ xs) g.cut)
          ∙ whole_on w.done group g.after g.first.topic (done_apart w.done rest lists g.first under_first w.whole) g.same above;
      same = g.same;
    }

pairs_push : {X : Type 0} (R : X → X → Type 0) (xs : List X) (y : X) → AllPairs R xs → All (λ x. R x y) xs → AllPairs R (xs ++ y ∷ [])
pairs_push R [] y pairs last = λ i j d less within. absurd (omega (arith, less, within))
pairs_push R (x ∷ xs) y pairs last =
    AllPairs-cons R x (xs ++ y ∷ []) (All-push (R x) xs y (pairs_head R x xs pairs) (last 0 x (omega arith)))
    (pairs_push R xs y (pairs_tail R x xs pairs) (λ k d within. last (suc k) d (omega arith)))

any_left : {X : Type 0} (P : X → Type 0) (xs : List X) (y : X) → Any P xs → Any P (xs ++ y ∷ [])
any_left P xs y at =
    (at.0, at.1, omega (arith, at.2, length_push xs y), get_or_append_left xs (y ∷ []) at.1 at.0 at.2 ∙ at.3, at.4)

any_last : {X : Type 0} (P : X → Type 0) (xs : List X) (y : X) → P y → Any P (xs ++ y ∷ [])
any_last P xs y holds = (length xs, y, omega (arith, length_push xs y), get_or_push xs y y (length xs) refl, holds)

pub listed_next : (order rest : List RunLine) (lists : List TopicList) (group : List RunLine) (list : TopicList) → IsListedTo order rest lists
    → (c : Cuts order rest group) → IsGroupList group list → IsListedTo order c.after (lists ++ list ∷ [])
listed_next order rest lists group list w c l =
    let topic : list.topic ≡ c.first.topic = first_topic group c.others c.first list c.group_is l.topic in
    let on : lines_on list.topic order ≡ group = ap (λ t. lines_on t order) topic ∙ c.whole in
    record {
      done = w.done ++ group;
      cut = w.cut ∙ ap (λ xs. w.done ++ xs) c.rest_is ∙ sym (append_assoc w.done group c.after);
      each = All-push (IsListOf order) lists list w.each (record { first = rw on l.line; docs = rw on l.docs });
      differ = All-push (λ list. DocsDiffer (lines_on list.topic order)) lists list w.differ (rw on l.distinct);
      ascending = pairs_push (λ a b. below a.topic b.topic) lists list w.ascending
          (λ k d within. subst (below (get_or lists k d).topic) (sym topic)
          (first_of_rest rest group c.others c.after c.first (get_or lists k d).topic c.group_is c.rest_is (w.under k d within)));
      under = All-push (λ list. All (λ line. below list.topic line.topic) c.after) lists list
          (λ k d within. all_behind (λ line. below (get_or lists k d).topic line.topic) group c.after
          (subst (All (λ line. below (get_or lists k d).topic line.topic)) c.rest_is (w.under k d within)))
          (subst (λ t. All (λ line. below t line.topic) c.after) (sym topic) c.above);
      whole = All-append (λ line. Any (λ list. list.topic ≡ line.topic) (lists ++ list ∷ [])) w.done group
          (λ k d within. any_left (λ list. list.topic ≡ (get_or w.done k d).topic) lists list (w.whole k d within))
          (λ k d within. any_last (λ list. list.topic ≡ (get_or group k d).topic) lists list (topic ∙ sym (c.same k d within)));
    }

pub listed_all : (order : List RunLine) (lists : List TopicList) → IsListedTo order [] lists → AreLists order lists
listed_all order lists w =
    let done : order ≡ w.done = w.cut ∙ append-nil w.done in
    let whole : All (λ line. Any (λ list. list.topic ≡ line.topic) lists) order =
    subst (All (λ line. Any (λ list. list.topic ≡ line.topic) lists)) (sym done) w.whole in
    record {
      distinct = distinct_by_topic order (λ k d within. let at = whole k d within in
          subst (λ t. DocsDiffer (lines_on t order)) (ap (λ (list : TopicList). list.topic) at.3 ∙ at.4) (w.differ at.0 at.1 at.2));
      ascending = w.ascending;
      each = w.each;
      whole = whole;
    }

-- a group of lines of which none repeats a document
pub group_differs : (order rest group : List RunLine) → Cuts order rest group → IsDistinct same_run_document order → DocsDiffer group
group_differs order rest group c distinct = subst DocsDiffer c.whole (differ_from_distinct c.first.topic order distinct)

-- what lies behind a group
pub after_is : (order rest group : List RunLine) (c : Cuts order rest group) → c.after ≡ drop (length group) rest
after_is order rest group c = sym (ap (drop (length group)) c.rest_is ∙ drop_at group c.after (length group) refl)

module _ {X : Type 0} (f : X → RunLine) (order : List RunLine) (lines : List X) (start : ℕ) (group : List X)
    (c : Cuts order (map f (drop start lines)) (map f group)) where
  -- a group has a line
  pub group_some : 0 < length group
  group_some = omega (arith, ap length c.group_is, length-map group f)

  pub group_within : start ≤ length lines → start + length group ≤ length lines
  group_within within =
      let long : length (map f (drop start lines)) ≡ length (map f group) + length c.after = ap length c.rest_is ∙ length-append (map f group) c.after in
      omega (arith, within, long, length-map (drop start lines) f, length-map group f, length-drop start lines)

  -- what lies behind the group, where the lines in front were let go of
  pub after_group : (left : List X) (next : ℕ) → drop next left ≡ drop (start + length group) lines → c.after ≡ map f (drop next left)
  after_group left next same =
      after_is order (map f (drop start lines)) (map f group) c
      ∙ ap (λ n. drop n (map f (drop start lines))) (length-map group f)
      ∙ drop-map f (length group) (drop start lines)
      ∙ ap (map f) (drop-drop (length group) start lines ∙ sym same)

-- the lists of lines by topic are those of the lines
pub lists_carry : (lines order : List RunLine) (lists : List TopicList) → AreByTopic lines order → AreLists order lists → AreLists lines lists
lists_carry lines order lists w l = record {
  distinct = distinct_from_differ lines (λ topic. subst DocsDiffer (w.same topic) (differ_from_distinct topic order l.distinct));
  ascending = l.ascending;
  each = λ k d within.
      let list = get_or lists k d in
      let one = l.each k d within in
      record {
        first = subst (λ on. option_map (λ line. line.line) (slice_get on 0) ≡ Some list.line) (w.same list.topic) one.first;
        docs = subst (λ on. AreRanked on list.docs) (w.same list.topic) one.docs;
      };
  whole = λ k d within.
      let topic = (get_or lines k d).topic in
      let P : RunLine → Type 0 = λ line. Any (λ list. list.topic ≡ line.topic) lists in
      let on = All-same P (lines_on topic lines) (lines_on topic order) (sym (w.same topic)) (All-filter (λ line. bytes_eq line.topic topic) P order l.whole) in
      unkept (λ line. bytes_eq line.topic topic) P lines on k d within (nat_list_eq_equiv.refl topic);
}

pub distinct_carry : (lines order : List RunLine) → AreByTopic lines order → IsDistinct same_run_document lines → IsDistinct same_run_document order
distinct_carry lines order w distinct = distinct_from_differ order (λ topic. subst DocsDiffer (sym (w.same topic)) (differ_from_distinct topic lines distinct))
