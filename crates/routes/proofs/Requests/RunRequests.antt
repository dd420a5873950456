-- A run's request may be answered: its lists are plain, and its entry isn't too long.
use Rattle.std.proofs.Common.{◌≡◌, ◌≢◌, ℕ, zero, suc, ◌+◌, ◌-◌, ◌<◌, ◌≤◌, ◌^◌, List, [], ◌∷◌, Some, None, Option, Bool, true, false, length, map, get_or, refl, sym, ap, ◌∙◌, arith, subst, length-append, le-leb}
use Rattle.std.specs.Prelude.{All, AllPairs, Any, Contains, IsPermutation, nat_lt, nat_le, not, bytes_eq, slice_get, cond}
use Rattle.std.specs.List.{list_all, list_any, filter, sum_by, flat_map}
use Rattle.std.specs.Option.{option_map}
use Rattle.std.specs.Int.{to_le_bytes, w32}
use Rattle.std.specs.Cmp.Lexicographic.{slice_cmp}
use Rattle.std.specs.Ordering.{nat_cmp, is_lt}
use Rattle.std.proofs.lemmas.Bool.{and_parts, and_from, leb-true, lt-ltb, not_from_false, or_from, false_from_ne_true}
use Rattle.std.proofs.lemmas.List.{length-map}
use Rattle.std.proofs.lemmas.List.Concat.{length-flat_map}
use Rattle.std.proofs.lemmas.List.Filters.{sum_by-filter_both}
use Rattle.std.proofs.lemmas.List.Sorted.{All-permutation, sum_by-IsPermutation}
use Rattle.std.proofs.lemmas.List.Sums.{sum_by-cons, length-filter, AllPass-from_list_all, list_all-from_AllPass}
use Rattle.std.proofs.lemmas.Option.{slice_get_within, get_or_from_slice_get}
use Rattle.std.proofs.lemmas.Slice.Eq.{bytes_eq-Decides}
use Rattle.std.proofs.lemmas.List.Elements.{All-tail}
use Rattle.decimal_rank.specs.Rankings.Ranks.{rank_in}
use Rattle.decimal_rank.proofs.Lists.{pairs_map, four_bytes, pairs_head, pairs_tail}
use Rattle.decimal_rank.proofs.TruthValues.{never_below_itself}
use Rattle.trec_formats.specs.RunFormat.Lists.{lines_on, standing, AreRanked, IsListOf, IsRankedRun}
use Rattle.trec_formats.specs.Names.{is_name, is_docno, is_between}
use Rattle.trec_formats.specs.RunFormat.Runs.{line_count_on}
use Rattle.trec_formats.specs.declared.runs.lists.TopicList.{TopicList}
use Rattle.trec_formats.specs.declared.runs.RunLine.{RunLine}
use Rattle.trec_formats.proofs.RepeatedDocuments.DifferentDocuments.{differ_from_distinct}
use Rattle.rulebook.specs.Spelling.{is_plain_list, is_ascending, differ, short, spelled_list, list_bytes}
use Rattle.rulebook.specs.Words.{contains_text}
use Rattle.routes.specs.Limits.{most_body}
use Rattle.routes.proofs.PathTable.SameElements.{permuted}
use Rattle.routes.proofs.Requests.RunLines.{good_lines, is_good, is_up_to, line_size, all_kept, all_pass}

-- what is so of the lists of a run's text
pub record ArePlain (text : List ℕ) (lists : List TopicList) : Type 0 where
  pub some : is_between 1 (2 ^ 32 - 1) (length lists) ≡ true
  pub each : list_all is_plain_list lists ≡ true
  pub ascending : is_ascending (map (λ list. list.topic) lists) ≡ true
  pub short : length (spelled_list list_bytes lists) ≤ length text + 10

-- The documents of a list

pub all_map : {X Y : Type 0} (f : X → Y) (P : Y → Type 0) (xs : List X) → All (λ x. P (f x)) xs → All P (map f xs)
all_map f P [] all k d within = absurd (omega arith)
all_map f P (x ∷ xs) all zero d within = all zero x (omega arith)
all_map f P (x ∷ xs) all (suc k) d within = all_map f P xs (All-tail (λ x. P (f x)) x xs all) k d (omega arith)

-- a list has the documents of its lines
pub docs_permuted : (lines : List RunLine) (docs : List (List ℕ)) → AllPairs (λ a b. a.doc ≢ b.doc) lines
    → AreRanked lines docs → IsPermutation (map (λ line. line.doc) lines) docs
docs_permuted lines docs apart ranked =
    permuted (map (λ line. line.doc) lines) docs (pairs_map (λ line. line.doc) (λ a b. a ≢ b) lines apart)
    (all_map (λ line. line.doc) (Contains docs) lines (λ k line within.
    let place = rank_in (map standing lines) (standing (get_or lines k line)) - 1 in
    let found = ranked.places k line within in (
      place,
      slice_get_within docs place (get_or lines k line).doc found,
      get_or_from_slice_get docs place (get_or lines k line).doc (get_or lines k line).doc found,
    )))
    (length-map lines (λ line. line.doc) ∙ sym ranked.size)

docs_good : (lines : List RunLine) → list_all is_good lines ≡ true → list_all is_docno (map (λ line. line.doc) lines) ≡ true
docs_good [] good = refl
docs_good (line ∷ lines) good =
    let parts = and_parts (is_good line) (list_all is_good lines) good in
    and_from (is_docno line.doc) (list_all is_docno (map (λ line. line.doc) lines))
    (and_parts (is_name line.topic) (is_docno line.doc) parts.0).1 (docs_good lines parts.1)

docnos_kept : (docs others : List (List ℕ)) → IsPermutation docs others → list_all is_docno docs ≡ true → list_all is_docno others ≡ true
docnos_kept docs others same all =
    list_all-from_AllPass is_docno others (All-permutation (λ doc. is_docno doc ≡ true) docs others same (AllPass-from_list_all is_docno docs all))

-- no text is among those that differ from it
not_among : (doc : List ℕ) (docs : List (List ℕ)) → All (λ other. doc ≢ other) docs → contains_text docs doc ≡ false
not_among doc [] apart = refl
not_among doc (other ∷ docs) apart =
    or_from (bytes_eq doc other) (list_any (bytes_eq doc) docs)
    (false_from_ne_true (bytes_eq doc other) (λ same. apart zero doc (omega arith) ((bytes_eq-Decides doc other).0 same)))
    (not_among doc docs (All-tail (λ other. doc ≢ other) other docs apart))

pub differ_once : (docs : List (List ℕ)) → AllPairs (λ a b. a ≢ b) docs → differ docs ≡ true
differ_once [] once = refl
differ_once (doc ∷ docs) once =
    and_from (not (contains_text docs doc)) (differ docs)
    (not_from_false (contains_text docs doc) (not_among doc docs (pairs_head (λ a b. a ≢ b) doc docs once)))
    (differ_once docs (pairs_tail (λ a b. a ≢ b) doc docs once))

-- One list

record IsPlainListOf (lines : List RunLine) (list : TopicList) : Type 0 where
  plain : is_plain_list list ≡ true
  size : length (list_bytes list) ≤ sum_by line_size (lines_on list.topic lines)

abbrev docs_size : List RunLine → ℕ
docs_size lines = sum_by (λ doc. length (short doc)) (map (λ line. line.doc) lines)

docs_fit : (lines : List RunLine) → docs_size lines ≤ sum_by line_size lines
docs_fit [] = omega arith
docs_fit (line ∷ lines) =
    omega (arith, docs_fit lines, sum_by-cons line_size line lines, sum_by-cons (λ doc. length (short doc)) line.doc (map (λ line. line.doc) lines))

-- what the lines of a topic say of it
record IsTopicOf (most : ℕ) (lines : List RunLine) (topic : List ℕ) (number : ℕ) : Type 0 where
  first : number ≤ most
  named : is_name topic ≡ true
  some : 1 ≤ length lines
  size : length topic + 9 + docs_size lines ≤ sum_by line_size lines

none_not_some : {n : ℕ} → ◌≡◌ {A = Option ℕ} None (Some n) → ⊥
none_not_some is = cc

topic_of : (most : ℕ) (lines : List RunLine) (topic : List ℕ) (number : ℕ) → option_map (λ (line : RunLine). line.line) (slice_get lines 0) ≡ Some number
    → list_all is_good lines ≡ true → list_all (is_up_to most) lines ≡ true
    → list_all (λ line. bytes_eq line.topic topic) lines ≡ true → IsTopicOf most lines topic number
topic_of most [] topic number first good numbered same = absurd (none_not_some first)
topic_of most (line ∷ lines) topic number first good numbered same =
    let is : line.line ≡ number = cc in
    let here = (bytes_eq-Decides line.topic topic).0 (and_parts (bytes_eq line.topic topic) (list_all (λ line. bytes_eq line.topic topic) lines) same).0 in
    let parts = and_parts (is_name line.topic) (is_docno line.doc) (and_parts (is_good line) (list_all is_good lines) good).0 in
    record {
      first = subst (λ n. n ≤ most) is (leb-true line.line most (and_parts (is_up_to most line) (list_all (is_up_to most) lines) numbered).0);
      named = subst (λ t. is_name t ≡ true) here parts.0;
      some = omega arith;
      size = omega (
        arith,
        ap length here,
        docs_fit lines,
        sum_by-cons line_size line lines,
        sum_by-cons (λ doc. length (short doc)) line.doc (map (λ line. line.doc) lines),
      );
    }

list_size : (list : TopicList) → length (list_bytes list) ≡ length list.topic + 9 + sum_by (λ doc. length (short doc)) list.docs
list_size list = simp (length-append, four_bytes, length-flat_map) (omega arith)

plain_list : (most : ℕ) (lines : List RunLine) (list : TopicList) → most < 2 ^ 32 → list_all is_good lines ≡ true → list_all (is_up_to most) lines ≡ true
    → ((topic : List ℕ) → line_count_on topic lines ≤ 1000) → AllPairs (λ a b. a.doc ≢ b.doc) (lines_on list.topic lines) → IsListOf lines list
    → IsPlainListOf lines list
plain_list most lines list least good numbered few apart is =
    let own = lines_on list.topic lines in
    let good_own = all_kept is_good (λ line. bytes_eq line.topic list.topic) lines good in
    let numbered_own = all_kept (is_up_to most) (λ line. bytes_eq line.topic list.topic) lines numbered in
    let topic = topic_of most own list.topic list.line is.first good_own numbered_own (all_pass (λ line. bytes_eq line.topic list.topic) lines) in
    let same = docs_permuted own list.docs apart is.docs in
    let short_own : length own ≤ 1000 = omega (arith, few list.topic, length-filter (λ line. bytes_eq line.topic list.topic) lines) in
    let counted : is_between 1 1000 (length list.docs) ≡ true =
    and_from (nat_le 1 (length list.docs)) (nat_le (length list.docs) 1000) (le-leb 1 (length list.docs) (omega (arith, is.docs.size, topic.some)))
    (le-leb (length list.docs) 1000 (omega (arith, is.docs.size, short_own))) in
    let line : nat_lt list.line (2 ^ 32) ≡ true = lt-ltb list.line (2 ^ 32) (omega (arith, topic.first, least)) in
    let docnos = docnos_kept (map (λ line. line.doc) own) list.docs same (docs_good own good_own) in
    let once = differ_once list.docs is.docs.once in
    record {
      plain = rw (topic.named, line, counted, docnos, once) refl;
      size = omega (arith, list_size list, topic.size, sum_by-IsPermutation (λ doc. length (short doc)) (map (λ line. line.doc) own) list.docs same);
    }

-- All lists

record ArePlainListsOf (lines : List RunLine) (lists : List TopicList) : Type 0 where
  plain : list_all is_plain_list lists ≡ true
  size : length (flat_map list_bytes lists) ≤ sum_by (λ list. sum_by line_size (lines_on list.topic lines)) lists

plain_lists : (most : ℕ) (lines : List RunLine) (lists : List TopicList) → most < 2 ^ 32 → list_all is_good lines ≡ true → list_all (is_up_to most) lines ≡ true
    → ((topic : List ℕ) → line_count_on topic lines ≤ 1000) → ((topic : List ℕ) → AllPairs (λ a b. a.doc ≢ b.doc) (lines_on topic lines))
    → All (IsListOf lines) lists → ArePlainListsOf lines lists
plain_lists most lines [] least good numbered few apart are = record { plain = refl; size = omega arith }
plain_lists most lines (list ∷ lists) least good numbered few apart are =
    let one = plain_list most lines list least good numbered few (apart list.topic) (are zero list (omega arith)) in
    let rest = plain_lists most lines lists least good numbered few apart (All-tail (IsListOf lines) list lists are) in
    record {
      plain = and_from (is_plain_list list) (list_all is_plain_list lists) one.plain rest.plain;
      size = omega (
        arith,
        one.size,
        rest.size,
        length-append (list_bytes list) (flat_map list_bytes lists),
        sum_by-cons (λ list. sum_by line_size (lines_on list.topic lines)) list lists,
      );
    }

-- the lines of one topic are not among those of another
others_on : (lines : List RunLine) (topic other : List ℕ) → topic ≢ other
    → lines_on other (filter (λ line. not (bytes_eq line.topic topic)) lines) ≡ lines_on other lines
others_on [] topic other apart = refl
others_on (line ∷ lines) topic other apart = by_test (bytes_eq line.topic topic) refl (others_on lines topic other apart)
  where
    by_test : (test : Bool) → bytes_eq line.topic topic ≡ test → lines_on other (filter (λ line. not (bytes_eq line.topic topic)) lines) ≡ lines_on other lines
        → lines_on other
        (cond (not test) (line ∷ filter (λ line. not (bytes_eq line.topic topic)) lines) (filter (λ line. not (bytes_eq line.topic topic)) lines))
        ≡ lines_on other (line ∷ lines)
    by_test true same rest =
        let here = (bytes_eq-Decides line.topic topic).0 same in
        let no : bytes_eq line.topic other ≡ false =
        false_from_ne_true (bytes_eq line.topic other) (λ wrong. apart (sym here ∙ (bytes_eq-Decides line.topic other).0 wrong)) in
        rw no rest
    by_test false other_topic rest = rw rest refl

sums_same : (lines : List RunLine) (topic : List ℕ) (lists : List TopicList) → All (λ list. topic ≢ list.topic) lists
    → sum_by (λ list. sum_by line_size (lines_on list.topic (filter (λ line. not (bytes_eq line.topic topic)) lines))) lists
    ≡ sum_by (λ list. sum_by line_size (lines_on list.topic lines)) lists
sums_same lines topic [] apart = refl
sums_same lines topic (list ∷ lists) apart =
    let here = ap (sum_by line_size) (others_on lines topic list.topic (apart zero list (omega arith))) in
    let rest = sums_same lines topic lists (All-tail (λ list. topic ≢ list.topic) list lists apart) in
    omega (
      arith,
      here,
      rest,
      sum_by-cons (λ list. sum_by line_size (lines_on list.topic (filter (λ line. not (bytes_eq line.topic topic)) lines))) list lists,
      sum_by-cons (λ list. sum_by line_size (lines_on list.topic lines)) list lists,
    )

groups_fit : (lists : List TopicList) (lines : List RunLine) → AllPairs (λ a b. a.topic ≢ b.topic) lists
    → sum_by (λ list. sum_by line_size (lines_on list.topic lines)) lists ≤ sum_by line_size lines
groups_fit [] lines apart = omega arith
groups_fit (list ∷ lists) lines apart =
    let others = filter (λ line. not (bytes_eq line.topic list.topic)) lines in
    let both = sum_by-filter_both (λ line. bytes_eq line.topic list.topic) (λ line. not (bytes_eq line.topic list.topic)) (λ line. refl) line_size lines in
    let rest = groups_fit lists others (pairs_tail (λ a b. a.topic ≢ b.topic) list lists apart) in
    omega (
      arith,
      both,
      rest,
      sums_same lines list.topic lists (pairs_head (λ a b. a.topic ≢ b.topic) list lists apart),
      sum_by-cons (λ list. sum_by line_size (lines_on list.topic lines)) list lists,
    )

ascends : (lists : List TopicList) → AllPairs (λ a b. is_lt (slice_cmp nat_cmp a.topic b.topic) ≡ true) lists
    → is_ascending (map (λ list. list.topic) lists) ≡ true
ascends [] pairs = refl
ascends (list ∷ []) pairs = refl
ascends (list ∷ next ∷ lists) pairs =
    and_from (is_lt (slice_cmp nat_cmp list.topic next.topic)) (is_ascending (map (λ list. list.topic) (next ∷ lists)))
    (pairs zero (suc zero) list (omega arith) (omega arith))
    (ascends (next ∷ lists) (pairs_tail (λ a b. is_lt (slice_cmp nat_cmp a.topic b.topic) ≡ true) list (next ∷ lists) pairs))

-- no more items than bytes, where each item has some
pub few_items : {X : Type 0} (spell : X → List ℕ) (xs : List X) → ((x : X) → 1 ≤ length (spell x)) → length xs ≤ length (flat_map spell xs)
few_items spell [] some = omega arith
few_items spell (x ∷ xs) some = omega (arith, some x, few_items spell xs some, length-append (spell x) (flat_map spell xs))

pub lists_are_plain : (text : List ℕ) (lists : List TopicList) → length text ≤ most_body → IsRankedRun text lists → ArePlain text lists
lists_are_plain text lists fits (lines, (run, distinct), are) =
    let good = good_lines text lines run in
    let plain = plain_lists (length text + 1) lines lists (omega (arith, fits)) good.each good.numbered run.1.short
    (λ topic. differ_from_distinct topic lines are.distinct) are.each in
    let apart : AllPairs (λ a b. a.topic ≢ b.topic) lists = λ i j d below within same.
    never_below_itself (get_or lists j d).topic
    (subst (λ t. is_lt (slice_cmp nat_cmp t (get_or lists j d).topic) ≡ true) same (are.ascending i j d below within)) in
    let some : 0 < length lists = some_list lines lists good.some are.whole in
    let bytes : length (flat_map list_bytes lists) ≤ length text + 1 = omega (arith, good.short, plain.size, groups_fit lists lines apart) in
    let few : length lists ≤ 2 ^ 32 - 1 = omega (arith, fits, bytes, few_items list_bytes lists (λ list. omega (arith, list_size list))) in
    record {
      some = and_from (nat_le 1 (length lists)) (nat_le (length lists) (2 ^ 32 - 1)) (le-leb 1 (length lists) some) (le-leb (length lists) (2 ^ 32 - 1) few);
      each = plain.plain;
      ascending = ascends lists are.ascending;
      short = omega (arith, bytes, length-append (to_le_bytes w32 (length lists)) (flat_map list_bytes lists), four_bytes (length lists));
    }
  where
    some_list : (lines : List RunLine) (lists : List TopicList) → 0 < length lines
        → All (λ line. Any (λ list. list.topic ≡ line.topic) lists) lines → 0 < length lists
    some_list [] lists some whole = absurd (omega arith)
    some_list (line ∷ lines) lists some whole = let found = whole zero line (omega arith) in omega (arith, found.2)
