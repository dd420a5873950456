-- The cells of a run by the board are those of the rules.
use Rattle.std.proofs.Common.{◌≡◌, ◌+◌, ◌<◌, ℕ, suc, Bool, true, false, cond, List, [], ◌∷◌, Option, None, Some, filter, length, map, get_or, refl, sym, ap, ◌∙◌, arith}
use Rattle.std.specs.Prelude.{count_by, nat_lt, unwrap_or, zip}
use Rattle.std.specs.List.{position}
use Rattle.std.specs.Option.{option_map_or}
use Rattle.std.specs.Str.{bytes_eq}
use Rattle.std.proofs.lemmas.List.{length-map, get_or-map, get_or_default}
use Rattle.std.proofs.lemmas.Slice.Zip.{AllZip-long}
use Rattle.decimal_rank.specs.declared.naming.DocId.{DocId}
use Rattle.depth_pool.specs.declared.runs.RunId.{RunId}
use Rattle.measures.specs.declared.cells.Cell.{Cell}
use Rattle.qrels_view.specs.Grades.{is_non_relevant as lower_there}
use Rattle.qrels_view.specs.declared.grades.Graded.{Graded}
use Rattle.rulebook.specs.Words.{Text, contains_text}
use Rattle.rulebook.specs.Campaign.{History, Run, docs_on, level, runs, submitted_docnos}
use Rattle.rulebook.specs.Histories.Entries.{GradedAreOnTrail, GradedAreThere}
use Rattle.rulebook.specs.Judgements.Grades.{relevant_count}
use Rattle.rulebook.specs.Reports.Scores.{cell_on, counted_topics, is_counted}
use Rattle.score_index.specs.Scores.{Scores, TopicScores, no_topic, topic_scores_at}
use Rattle.score_index.specs.BoardGrades.{StandsAt, cell_from, cells_of, grades_at, is_counted_by as is_counted_there, listed_in}
use Rattle.campaign_core.specs.Numbering.Numbers.{are_named, names_of}
use Rattle.campaign_core.specs.CampaignStates.{KnowsRun}
use Rattle.campaign_core.specs.Assessments.RunScores.{fact_grades, list_on, ranked_on}
use Rattle.assessment.specs.RunLists.{unless_empty}
use Rattle.campaign_core.specs.Assessments.Topics.{KeptTopic, topic_ids}
use Rattle.assessment.specs.TopicFacts.{TopicFacts}
use Rattle.campaign_core.proofs.PageTexts.TopicCells.{cell-same, judged-count, run-named}
use Rattle.campaign_core.proofs.Rulings.KeptTopics.{known-topic, states-long, topic-back}
use Rattle.campaign_core.proofs.Entries.Runs.LiveRuns.{live-at}
use Rattle.campaign_core.proofs.Numbers.DocNumbers.{each_named, number-within}
use Rattle.campaign_core.proofs.Numbers.NumberedDocs.{docno-there, first-place}
use Rattle.campaign_core.proofs.PageTexts.PageTopics.{page-topic}
use Rattle.campaign_core.proofs.Numbers.TopicNumbers.{topic-found}
use Rattle.campaign_core.proofs.PageTexts.Progress.{non_relevant-count, relevant-count}
use Rattle.campaign_core.proofs.PageTexts.PoolTexts.{lists-named}
use Rattle.campaign_core.proofs.Numbers.TopicIds.{state-ids}

abbrev graded : TopicFacts → List Graded
graded = fact_grades

or-empty : {X : Type 0} (xs : List X) → unwrap_or (unless_empty xs) [] ≡ xs
or-empty [] = refl
or-empty (x ∷ xs) = refl

-- cells of topics that count, place by place
zip-cells : {X : Type 0} (cell_there : X → List Graded → Cell) (counts_there : X → List Graded → Bool) (cell : Text → Cell)
    (counts : Text → Bool) (xs : List X) (topics : List TopicFacts) (ids : List Text)
    → length xs ≡ length ids → length topics ≡ length ids
    → ((k : ℕ) (x : X) (t : TopicFacts) (i : Text) → k < length ids → (counts_there (get_or xs k x) (graded (get_or topics k t)) ≡ counts (get_or ids k i))
    × (cell_there (get_or xs k x) (graded (get_or topics k t)) ≡ cell (get_or ids k i)))
    → map (λ p. cell_there p.0 p.1) (filter (λ p. counts_there p.0 p.1) (zip xs (map graded topics))) ≡ map cell (filter counts ids)
zip-cells cell_there counts_there cell counts [] [] [] same also each = refl
zip-cells cell_there counts_there cell counts [] [] (i ∷ ids) same also each = cc same
zip-cells cell_there counts_there cell counts [] (t ∷ topics) [] same also each = cc also
zip-cells cell_there counts_there cell counts [] (t ∷ topics) (i ∷ ids) same also each = cc same
zip-cells cell_there counts_there cell counts (x ∷ xs) topics [] same also each = cc same
zip-cells cell_there counts_there cell counts (x ∷ xs) [] (i ∷ ids) same also each = cc also
zip-cells {X} cell_there counts_there cell counts (x ∷ xs) (t ∷ topics) (i ∷ ids) same also each =
    let here = each 0 x t i (omega arith) in
    let rest = zip-cells cell_there counts_there cell counts xs topics ids (omega (arith, same)) (omega (arith, also))
    (λ k y u j within. each (suc k) y u j (omega (arith, within))) in
    let one : X × List Graded = (x, graded t) in
    ap (λ b. map (λ (p : X × List Graded). cell_there p.0 p.1)
    (cond b (one ∷ filter (λ (p : X × List Graded). counts_there p.0 p.1) (zip xs (map graded topics)))
    (filter (λ (p : X × List Graded). counts_there p.0 p.1) (zip xs (map graded topics))))) here.0
    ∙ step (counts i) here.1 rest
  where
    step : (b : Bool) → cell_there x (graded t) ≡ cell i
        → map (λ (p : X × List Graded). cell_there p.0 p.1) (filter (λ (p : X × List Graded). counts_there p.0 p.1) (zip xs (map graded topics)))
        ≡ map cell (filter counts ids)
        → map (λ (p : X × List Graded). cell_there p.0 p.1)
        (cond b ((let one : X × List Graded = (x, graded t) in one) ∷ filter (λ (p : X × List Graded). counts_there p.0 p.1) (zip xs (map graded topics)))
        (filter (λ (p : X × List Graded). counts_there p.0 p.1) (zip xs (map graded topics))))
        ≡ map cell (cond b (i ∷ filter counts ids) (filter counts ids))
    step true first rest =
        ap (λ c. c ∷ map (λ (p : X × List Graded). cell_there p.0 p.1) (filter (λ (p : X × List Graded). counts_there p.0 p.1) (zip xs (map graded topics))))
        first ∙ ap (λ cs. cell i ∷ cs) rest
    step false first rest = rest

module _ (H : History) (topics : List TopicFacts) (board : Scores) (number : RunId) (run : Run) (knows : KnowsRun H topics board number run) where
  pub as-many : length board.topics ≡ length topics
  as-many = sym (AllZip-long StandsAt board.topics (map graded topics) knows.scored.stands) ∙ length-map topics graded

  named : (topic : Text) → are_named (names_of H) (docs_on run.lists topic) ≡ true
  named topic = lists-named (names_of H) run.lists
      (run-named (names_of H) (runs H) number.0 run (each_named (submitted_docnos H)) (live-at H number run knows.run_is).there) topic

  listed : (at : ℕ) → at < length (topic_ids H) → listed_in number (topic_scores_at board at) ≡ list_on (names_of H) (get_or (topic_ids H) at []) run
  listed at within =
      ap (λ (o : Option (List DocId)). unwrap_or o [])
      (knows.scored.lists_are number at [] within
      ∙ ap (λ (o : Option Run). option_map_or (ranked_on (names_of H) (get_or (topic_ids H) at [])) o None) knows.run_is)
      ∙ or-empty (list_on (names_of H) (get_or (topic_ids H) at []) run)

  -- each topic of the board has its level
  level-at : (at : ℕ) → at < length (topic_ids H) → (topic_scores_at board at).level ≡ level H (get_or (topic_ids H) at [])
  level-at at within =
      let inside : at < length board.topics = omega (arith, within, as-many, states-long H topics (topic_ids H) knows.knows.topics_are) in
      sym (get_or-map (λ (topic : TopicScores). topic.level) board.topics at no_topic 0 inside)
      ∙ ap (λ (levels : List ℕ). get_or levels at 0) knows.scored.levels_are
      ∙ get_or-map (level H) (topic_ids H) at [] 0 within

  module _ (on_trail : GradedAreOnTrail) (there : GradedAreThere) where
    pub cell-at : (id : Text) (at : ℕ) (s : TopicFacts) → Some at ≡ position (λ (s : TopicFacts). bytes_eq s.id id) topics → s ≡ get_or topics at s
        → cell_from (topic_scores_at board at).level (grades_at (map graded topics) at) (listed_in number (topic_scores_at board at)) ≡ cell_on H run id
    cell-at id at s found is =
        let names = names_of H in
        let page = page-topic H topics knows.desk names id at s knows.knows refl found is in
        let placed = known-topic H topics id at knows.knows.topics_are found in
        let inside : at < length (topic_ids H) = omega (arith, placed.number_is, number-within (topic_ids H) id placed.listed) in
        let back : get_or (topic_ids H) at [] ≡ id = ap (λ n. get_or (topic_ids H) n []) placed.number_is ∙ topic-back (topic_ids H) id [] placed.listed in
        let docs : listed_in number (topic_scores_at board at) ≡ list_on names s.id run =
        listed at inside ∙ ap (λ (topic : Text). list_on names topic run) (back ∙ sym page.id_is) in
        let grades : grades_at (map graded topics) at ≡ s.graded = get_or-map graded topics at s [] placed.within ∙ ap graded (sym is) in
        let level_is : (topic_scores_at board at).level ≡ s.level =
        level-at at inside ∙ ap (level H) (back ∙ sym page.id_is) ∙ sym (ap (λ (k : KeptTopic). k.level) page.is_topic.kept_is) in
        ap (λ l. cell_from l (grades_at (map graded topics) at) (listed_in number (topic_scores_at board at))) level_is
        ∙ ap (λ gs. cell_from s.level gs (listed_in number (topic_scores_at board at))) grades
        ∙ ap (cell_from s.level s.graded) docs
        ∙ cell-same H names s page.is_topic knows.legal on_trail there run (named s.id)
        ∙ ap (cell_on H run) page.id_is

    -- the cells of the topics that count, in the order of their entry
    pub cells-same : cells_of number board.topics (map graded topics) ≡ map (cell_on H run) (counted_topics H)
    cells-same =
        let ids = topic_ids H in
        let names = names_of H in
        let ids_are : map (λ (t : TopicFacts). t.id) topics ≡ ids = state-ids H topics ids knows.knows.topics_are in
        let many : length topics ≡ length ids = states-long H topics ids knows.knows.topics_are in
        zip-cells (λ (x : TopicScores) (g : List Graded). cell_from x.level g (listed_in number x)) (λ (x : TopicScores). is_counted_there x.level)
        (cell_on H run) (is_counted H) board.topics topics ids (as-many ∙ many) many
        (λ k x t i within.
        let s = get_or topics k t in
        let id = get_or ids k [] in
        let inside : k < length topics = omega (arith, within, many) in
        let listed : contains_text ids id ≡ true = docno-there ids k within in
        let found : Some k ≡ position (λ (s : TopicFacts). bytes_eq s.id id) topics =
        sym (topic-found topics ids id ids_are listed ∙ ap (λ (n : ℕ). let o : Option ℕ = Some n in o) (first-place ids k knows.knows.topics_differ within)) in
        let is : s ≡ get_or topics k s = get_or_default topics k t s inside in
        let page = page-topic H topics knows.desk names id k s knows.knows refl found is in
        let here : get_or board.topics k x ≡ topic_scores_at board k = get_or_default board.topics k x no_topic (omega (arith, inside, as-many)) in
        let level_is : (get_or board.topics k x).level ≡ s.level = ap (λ (x : TopicScores). x.level) here ∙ level-at k within
        ∙ ap (level H) (sym page.id_is) ∙ sym (ap (λ (k : KeptTopic). k.level) page.is_topic.kept_is) in
        let same_id : id ≡ get_or ids k i = get_or_default ids k [] i within in
        let counts : is_counted_there (get_or board.topics k x).level s.graded ≡ is_counted H id =
        ap (λ l. is_counted_there l s.graded) level_is
        ∙ ap (λ n. nat_lt 0 (n + count_by (λ g. lower_there s.level g.grade) s.graded)) (relevant-count H names s page.is_topic on_trail)
        ∙ ap (λ n. nat_lt 0 (relevant_count H s.id + n)) (non_relevant-count H names s page.is_topic on_trail)
        ∙ ap (nat_lt 0) (judged-count H s.id) ∙ ap (is_counted H) page.id_is in
        let cell : cell_from (get_or board.topics k x).level s.graded (listed_in number (get_or board.topics k x)) ≡ cell_on H run id =
        ap (λ g. cell_from (get_or board.topics k x).level g (listed_in number (get_or board.topics k x))) (sym (get_or-map graded topics k t [] inside))
        ∙ ap (λ (x : TopicScores). cell_from x.level (grades_at (map graded topics) k) (listed_in number x)) here
        ∙ cell-at id k s found is in
        (counts ∙ ap (is_counted H) same_id, cell ∙ ap (cell_on H run) same_id))
