-- A request is read in one way at most.
use Rattle.std.proofs.Common.{◌≡◌, ◌≢◌, ◌⊎◌, inl, inr, ℕ, zero, suc, ◌-◌, ◌<◌, List, [], ◌∷◌, Some, Ok, Err, Result, length, map, get_or, refl, sym, ◌∙◌, ap, subst, arith, Ordering, Less, Equal, Greater, true}
use Rattle.std.specs.Prelude.{All, AllPairs, Any, slice_get, bytes_eq}
use Rattle.std.specs.Option.{option_map}
use Rattle.std.specs.Cmp.Lexicographic.{slice_cmp}
use Rattle.std.specs.Ordering.{nat_cmp, is_lt, ordering_reverse}
use Rattle.std.proofs.lemmas.Cmp.{nat_list_cmp_total}
use Rattle.std.proofs.lemmas.List.{ext_get_or}
use Rattle.std.proofs.lemmas.List.Elements.{All-filter, filter_passes, All-tail}
use Rattle.std.proofs.lemmas.List.Sorted.{All-permutation}
use Rattle.std.proofs.lemmas.Option.{slice_get_within, get_or_from_slice_get}
use Rattle.std.proofs.lemmas.Slice.Eq.{bytes_eq-Decides}
use Rattle.decimal_rank.specs.Rankings.Ranks.{rank_in}
use Rattle.decimal_rank.proofs.Lists.{pairs_head, pairs_tail, pairs_map}
use Rattle.decimal_rank.proofs.TruthValues.{never_below_itself}
use Rattle.http_wire.specs.declared.messages.HttpRequest.{HttpRequest}
use Rattle.trec_formats.specs.declared.faults.FormatFault.{FormatFault}
use Rattle.trec_formats.specs.declared.runs.lists.TopicList.{TopicList}
use Rattle.trec_formats.specs.declared.runs.RunLine.{RunLine}
use Rattle.trec_formats.specs.Faults.{ExactlyOne}
use Rattle.trec_formats.specs.RunFormat.Lists.{AreLists, AreRanked, IsListOf, IsRankableReading, lines_on, standing}
use Rattle.trec_formats.specs.TopicsFormat.Topics.{IsTopicsReading, NumberedTopic}
use Rattle.trec_formats.proofs.RepeatedDocuments.DifferentDocuments.{differ_from_distinct}
use Rattle.rulebook.specs.declared.ask.Ask.{Ask}
use Rattle.rulebook.specs.declared.ask.Ask.TheVariants.{Act}
use Rattle.rulebook.specs.declared.ask.Command.TheVariants as command
use Rattle.routes.specs.declared.faults.RouteFault.{RouteFault}
use Rattle.routes.specs.declared.faults.RouteFault.TheVariants as faults
use Rattle.routes.specs.declared.keys.KeyRow.{KeyRow}
use Rattle.routes.specs.declared.route_table.Question.{Question}
use Rattle.routes.specs.declared.route_table.Question.TheVariants as question
use Rattle.routes.specs.Asks.{Asked, Reads, ReadsBehind, asked_at}
use Rattle.routes.specs.Openings.{Opening, opening_of}
use Rattle.routes.specs.PathTable.RouteTable.{Asks, AsksSubmit, AsksTopics, parameter}
use Rattle.routes.proofs.Requests.RunRequests.{all_map, docs_permuted}

-- The documents of a ranked list

docs_same : (lines : List RunLine) (a b : List (List ℕ)) → AllPairs (λ x y. x.doc ≢ y.doc) lines → AreRanked lines a → AreRanked lines b → a ≡ b
docs_same lines a b apart x y = ext_get_or [] a b (x.size ∙ sym y.size) at_each
  where
    both : All (λ (doc : List ℕ). (r : ℕ) × (slice_get a r ≡ Some doc) × (slice_get b r ≡ Some doc)) a
    both =
        let P : List ℕ → Type 0 = λ doc. (r : ℕ) × (slice_get a r ≡ Some doc) × (slice_get b r ≡ Some doc) in
        All-permutation P (map (λ (line : RunLine). line.doc) lines) a (docs_permuted lines a apart x)
        (all_map (λ (line : RunLine). line.doc) P lines
        (λ k line within. (rank_in (map standing lines) (standing (get_or lines k line)) - 1, x.places k line within, y.places k line within)))

    at_each : (k : ℕ) → k < length a → get_or a k [] ≡ get_or b k []
    at_each k within =
        let (r, in_a, in_b) = both k [] within in
        let inside = slice_get_within a r (get_or a k []) in_a in
        let same = get_or_from_slice_get a r (get_or a k []) [] in_a in
        let no_less : r < k → ⊥ = λ less. x.once r k [] less within same in
        let no_more : k < r → ⊥ = λ more. x.once k r [] more inside (sym same) in
        let place : r ≡ k = omega (arith, no_less, no_more) in
        sym (ap (λ n. get_or b n []) (sym place) ∙ get_or_from_slice_get b r (get_or a k []) [] in_b)

-- Ascending texts

abbrev Has : List ℕ → List (List ℕ) → Type 0
Has x [] = ⊥
Has x (y ∷ ys) = (x ≡ y) ⊎ Has x ys

abbrev Below : List ℕ → List ℕ → Type 0
Below s t = is_lt (slice_cmp nat_cmp s t) ≡ true

has_all : (P : List ℕ → Type 0) (xs : List (List ℕ)) (x : List ℕ) → All P xs → Has x xs → P x
has_all P [] x all has = absurd has
has_all P (y ∷ ys) x all (inl is) = subst P (sym is) (all zero y (omega arith))
has_all P (y ∷ ys) x all (inr has) = has_all P ys x (All-tail P y ys all) has

not_both_ways : (o : Ordering) → is_lt (ordering_reverse o) ≡ true → is_lt o ≡ true → ⊥
not_both_ways Less first second = cc first
not_both_ways Equal first second = cc second
not_both_ways Greater first second = cc second

below_one_way : (s t : List ℕ) → Below s t → Below t s → ⊥
below_one_way s t first second = not_both_ways (slice_cmp nat_cmp t s) (rw (nat_list_cmp_total.antisymm s t) at first) second

same_heads : (x : List ℕ) (xs : List (List ℕ)) (y : List ℕ) (ys : List (List ℕ)) → All (Below x) xs → All (Below y) ys → Has x (y ∷ ys) → Has y (x ∷ xs) → x ≡ y
same_heads x xs y ys above_x above_y (inl is) other = is
same_heads x xs y ys above_x above_y (inr has) (inl is) = sym is
same_heads x xs y ys above_x above_y (inr has) (inr other) =
    absurd (below_one_way y x (has_all (Below y) ys x above_y has) (has_all (Below x) xs y above_x other))

later : (x : List ℕ) (xs : List (List ℕ)) (y : List ℕ) (ys : List (List ℕ)) (z : List ℕ) → All (Below x) xs → x ≡ y → Has z xs → Has z (y ∷ ys) → Has z ys
later x xs y ys z above heads has (inl is) = absurd (never_below_itself x (subst (Below x) (is ∙ sym heads) (has_all (Below x) xs z above has)))
later x xs y ys z above heads has (inr rest) = rest

same_texts : (xs ys : List (List ℕ)) → AllPairs Below xs → AllPairs Below ys → ((z : List ℕ) → Has z xs → Has z ys)
    → ((z : List ℕ) → Has z ys → Has z xs) → xs ≡ ys
same_texts [] [] p q to from = refl
same_texts [] (y ∷ ys) p q to from = absurd (from y (inl refl))
same_texts (x ∷ xs) [] p q to from = absurd (to x (inl refl))
same_texts (x ∷ xs) (y ∷ ys) p q to from =
    let above_x = pairs_head Below x xs p in
    let above_y = pairs_head Below y ys q in
    let heads = same_heads x xs y ys above_x above_y (to x (inl refl)) (from y (inl refl)) in
    let rest = same_texts xs ys (pairs_tail Below x xs p) (pairs_tail Below y ys q) (λ z has. later x xs y ys z above_x heads has (to z (inr has)))
    (λ z has. later y ys x xs z above_y (sym heads) has (from z (inr has))) in
    ap (λ t. t ∷ xs) heads ∙ ap (λ ts. y ∷ ts) rest

-- The lists of a run

abbrev topic_of : TopicList → List ℕ
topic_of list = list.topic

any_has : (lists : List TopicList) (topic : List ℕ) → Any (λ (list : TopicList). list.topic ≡ topic) lists → Has topic (map topic_of lists)
any_has [] topic (k, list, within, at, is) = absurd (omega (arith, within))
any_has (first ∷ lists) topic (zero, list, within, at, is) = inl (sym is ∙ ap topic_of (sym at))
any_has (first ∷ lists) topic (suc k, list, within, at, is) = inr (any_has lists topic (k, list, omega (arith, within), at, is))

first_line : (on : List RunLine) (number : ℕ) (P Q : RunLine → Type 0) → option_map (λ (line : RunLine). line.line) (slice_get on 0) ≡ Some number
    → All P on → All Q on → (line : RunLine) × P line × Q line
first_line [] number P Q is all also = cc
first_line (line ∷ on) number P Q is all also = (line, all zero line (omega arith), also zero line (omega arith))

listed_topic : (lines : List RunLine) (list : TopicList) (others : List TopicList) → IsListOf lines list
    → AreLists lines others → Has list.topic (map topic_of others)
listed_topic lines list others is are =
    let P : RunLine → Type 0 = λ line. Any (λ (other : TopicList). other.topic ≡ line.topic) others in
    let found = first_line (lines_on list.topic lines) list.line P (λ line. bytes_eq line.topic list.topic ≡ true) is.first
    (All-filter (λ line. bytes_eq line.topic list.topic) P lines are.whole) (filter_passes (λ line. bytes_eq line.topic list.topic) lines) in
    subst (λ t. Has t (map topic_of others)) ((bytes_eq-Decides found.0.topic list.topic).0 found.2) (any_has others found.0.topic found.1)

covered : (lines : List RunLine) (lists others : List TopicList) → All (IsListOf lines) lists → AreLists lines others
    → (topic : List ℕ) → Has topic (map topic_of lists) → Has topic (map topic_of others)
covered lines [] others each are topic has = absurd has
covered lines (list ∷ lists) others each are topic (inl is) =
    subst (λ t. Has t (map topic_of others)) (sym is) (listed_topic lines list others (each zero list (omega arith)) are)
covered lines (list ∷ lists) others each are topic (inr has) = covered lines lists others (All-tail (IsListOf lines) list lists each) are topic has

list_same : (lines : List RunLine) (a b : TopicList) → ((topic : List ℕ) → AllPairs (λ x y. x.doc ≢ y.doc) (lines_on topic lines))
    → a.topic ≡ b.topic → IsListOf lines a → IsListOf lines b → a ≡ b
list_same lines a b apart topics x y =
    let number : Some a.line ≡ Some b.line =
    sym x.first ∙ ap (λ t. option_map (λ (line : RunLine). line.line) (slice_get (lines_on t lines) 0)) topics ∙ y.first in
    let line : a.line ≡ b.line = cc in
    let docs = docs_same (lines_on b.topic lines) a.docs b.docs (apart b.topic) (subst (λ t. AreRanked (lines_on t lines) a.docs) topics x.docs) y.docs in
    let make : List ℕ → ℕ → List (List ℕ) → TopicList = λ t n ds. record { topic = t; line = n; docs = ds } in
    ap (λ t. make t a.line a.docs) topics ∙ ap (λ n. make b.topic n a.docs) line ∙ ap (λ ds. make b.topic b.line ds) docs

each_same : (lines : List RunLine) (a b : List TopicList) → ((topic : List ℕ) → AllPairs (λ x y. x.doc ≢ y.doc) (lines_on topic lines))
    → map topic_of a ≡ map topic_of b → All (IsListOf lines) a → All (IsListOf lines) b → a ≡ b
each_same lines [] [] apart topics x y = refl
each_same lines [] (b ∷ bs) apart topics x y = cc
each_same lines (a ∷ as_) [] apart topics x y = cc
each_same lines (a ∷ as_) (b ∷ bs) apart topics x y =
    let head : a.topic ≡ b.topic = cc in
    let tail : map topic_of as_ ≡ map topic_of bs = cc in
    ap (λ list. list ∷ as_) (list_same lines a b apart head (x zero a (omega arith)) (y zero b (omega arith)))
    ∙ ap (λ lists. b ∷ lists) (each_same lines as_ bs apart tail (All-tail (IsListOf lines) a as_ x) (All-tail (IsListOf lines) b bs y))

ascending_topics : (lists : List TopicList) → AllPairs (λ a b. is_lt (slice_cmp nat_cmp a.topic b.topic) ≡ true) lists → AllPairs Below (map topic_of lists)
ascending_topics lists ascending = pairs_map topic_of Below lists ascending

lists_same : (lines : List RunLine) (a b : List TopicList) → AreLists lines a → AreLists lines b → a ≡ b
lists_same lines a b x y =
    let topics =
    same_texts (map topic_of a) (map topic_of b) (ascending_topics a x.ascending) (ascending_topics b y.ascending)
    (covered lines a b x.each y) (covered lines b a y.each x) in
    each_same lines a b (λ topic. differ_from_distinct topic lines x.distinct) topics x.each y.each

-- What is asked

module _ (runs : (text : List ℕ) → ExactlyOne (IsRankableReading text)) (topics_read : (text : List ℕ) → ExactlyOne (IsTopicsReading text)) where
  run_same : (text : List ℕ) (a b : Result (List RunLine) FormatFault) → IsRankableReading text a → IsRankableReading text b → a ≡ b
  run_same text a b x y = let one = runs text in one.2 a x ∙ sym (one.2 b y)

  submit_same : (run body : List ℕ) (a b : Result Ask RouteFault) → AsksSubmit run body a → AsksSubmit run body b → a ≡ b
  submit_same run body (Ok a) (Ok b) (lists, (lines, read, are), is) (others, (also, again, they), so) =
      let same : ◌≡◌ {A = Result (List RunLine) FormatFault} (Ok lines) (Ok also) = run_same body (Ok lines) (Ok also) read again in
      let equal : lines ≡ also = cc in
      let all : lists ≡ others = lists_same also lists others (subst (λ ls. AreLists ls lists) equal are) they in
      ap (λ ask. Ok ask) (is ∙ ap (λ ls. Act (command.Submit run ls)) all ∙ sym so)
  submit_same run body (Ok a) (Err b) (lists, (lines, read, are), is) (at, so, fault) =
      let same : ◌≡◌ {A = Result (List RunLine) FormatFault} (Ok lines) (Err at) = run_same body (Ok lines) (Err at) read fault in cc same
  submit_same run body (Err a) (Ok b) (at, so, fault) (lists, (lines, read, are), is) =
      let same : ◌≡◌ {A = Result (List RunLine) FormatFault} (Ok lines) (Err at) = run_same body (Ok lines) (Err at) read fault in cc same
  submit_same run body (Err a) (Err b) (at, is, fault) (other, so, also) =
      let same : ◌≡◌ {A = Result (List RunLine) FormatFault} (Err at) (Err other) = run_same body (Err at) (Err other) fault also in
      let equal : at ≡ other = cc in
      ap (λ cause. Err cause) (is ∙ ap faults.Format equal ∙ sym so)

  topics_one : (text : List ℕ) (a b : Result (List NumberedTopic) FormatFault) → IsTopicsReading text a → IsTopicsReading text b → a ≡ b
  topics_one text a b x y = (topics_read text).2 a x ∙ sym ((topics_read text).2 b y)

  topics_same : (body : List ℕ) (a b : Result Ask RouteFault) → AsksTopics body a → AsksTopics body b → a ≡ b
  topics_same body (Ok a) (Ok b) (topics, (found, read, are), is) (others, (also, again, they), so) =
      let same : ◌≡◌ {A = Result (List NumberedTopic) FormatFault} (Ok found) (Ok also) = topics_one body (Ok found) (Ok also) read again in
      let equal : found ≡ also = cc in
      let all : topics ≡ others = are ∙ ap (map (λ (t : NumberedTopic). t.1)) equal ∙ sym they in
      ap (λ ask. Ok ask) (is ∙ ap (λ ts. Act (command.Topics ts)) all ∙ sym so)
  topics_same body (Ok a) (Err b) (topics, (found, read, are), is) (at, so, fault) =
      let same : ◌≡◌ {A = Result (List NumberedTopic) FormatFault} (Ok found) (Err at) = topics_one body (Ok found) (Err at) read fault in cc same
  topics_same body (Err a) (Ok b) (at, so, fault) (topics, (found, read, are), is) =
      let same : ◌≡◌ {A = Result (List NumberedTopic) FormatFault} (Ok found) (Err at) = topics_one body (Ok found) (Err at) read fault in cc same
  topics_same body (Err a) (Err b) (at, is, fault) (other, so, also) =
      let same : ◌≡◌ {A = Result (List NumberedTopic) FormatFault} (Err at) (Err other) = topics_one body (Err at) (Err other) fault also in
      let equal : at ≡ other = cc in
      ap (λ cause. Err cause) (is ∙ ap faults.Format equal ∙ sym so)

  asks_same : (q : Question) (text body : List ℕ) (a b : Result Ask RouteFault) → Asks q text body a → Asks q text body b → a ≡ b
  asks_same question.Topics text body a b x y = topics_same body a b x y
  asks_same question.Submit text body a b x y = submit_same text body a b x y
  asks_same _ text body a b x y = x ∙ sym y

  behind_same : (opened : Result Opening RouteFault) (request : HttpRequest) (a b : Result Asked RouteFault)
      → ReadsBehind opened request a → ReadsBehind opened request b → a ≡ b
  behind_same (Err cause) request a b x y = x ∙ sym y
  behind_same (Ok opening) request (Ok a) (Ok b) (ask, asks, is) (other, also, so) =
      let same : ◌≡◌ {A = Result Ask RouteFault} (Ok ask) (Ok other) =
      asks_same opening.place.question (parameter request.path) request.body (Ok ask) (Ok other) asks also in
      let equal : ask ≡ other = cc in
      ap (λ asked. Ok asked) (is ∙ ap (asked_at opening) equal ∙ sym so)
  behind_same (Ok opening) request (Ok a) (Err b) (ask, asks, is) y =
      let same : ◌≡◌ {A = Result Ask RouteFault} (Ok ask) (Err b) =
      asks_same opening.place.question (parameter request.path) request.body (Ok ask) (Err b) asks y in cc same
  behind_same (Ok opening) request (Err a) (Ok b) x (ask, asks, is) =
      let same : ◌≡◌ {A = Result Ask RouteFault} (Ok ask) (Err a) =
      asks_same opening.place.question (parameter request.path) request.body (Ok ask) (Err a) asks x in cc same
  behind_same (Ok opening) request (Err a) (Err b) x y =
      let same : ◌≡◌ {A = Result Ask RouteFault} (Err a) (Err b) = asks_same opening.place.question (parameter request.path) request.body (Err a) (Err b) x y in
      let equal : a ≡ b = cc in
      ap (λ cause. Err cause) equal

  pub request_same : (request : HttpRequest) (keys : List KeyRow) (a b : Result Asked RouteFault) → Reads request keys a → Reads request keys b → a ≡ b
  request_same request keys a b x y = behind_same (opening_of request.method request.path request.fields keys) request a b x y
