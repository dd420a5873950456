-- The steps of a commit, by the history.
use Rattle.std.proofs.Common.{◌≡◌, ◌≤◌, ◌+◌, ◌||◌, ℕ, suc, zero, Bool, true, false, cond, not, List, [], ◌∷◌, Option, None, Some, filter, length, map, sum_by, refl, sym, ap, ◌∙◌, arith, eqb-true}
use Rattle.std.specs.Prelude.{◌==◌, Contains, slice_get}
use Rattle.std.specs.List.{enumerate_from, list_any}
use Rattle.std.specs.Option.{option_map, option_map_or}
use Rattle.std.specs.Str.{bytes_eq}
use Rattle.std.proofs.lemmas.List.{length-map}
use Rattle.std.proofs.lemmas.List.Sums.{sum_by-cons}
use Rattle.std.proofs.lemmas.Slice.Eq.{bytes_eq-Decides}
use Rattle.std.proofs.lemmas.Bool.{not-true}
use Rattle.decimal_rank.proofs.TruthValues.{second_of_both}
use Rattle.assessment.specs.Changes.{Facts}
use Rattle.assessment.specs.Costs.{HaveLists, change_steps, grade_steps as known_steps, pool_size}
use Rattle.assessment.specs.RunLists.{unless_empty}
use Rattle.assessment.specs.TopicFacts.{TopicFacts}
use Rattle.assessment.specs.declared.change.Change.{Change}
use Rattle.assessment.specs.declared.change.Change.TheVariants as change
use Rattle.depth_pool.specs.declared.runs.RunId.{RunId}
use Rattle.rulebook.specs.declared.entry.Entry.{Entry}
use Rattle.rulebook.specs.Campaign.{History, Run, docs_on, is_withdrawn, live, numbered_runs, runs}
use Rattle.rulebook.specs.Judgements.Leases.{Lease}
use Rattle.rulebook.specs.Words.{Text, contains_text}
use Rattle.score_index.specs.Scores.{follow_steps, list_steps}
use Rattle.campaign_core.specs.Commands.Changes.{CarriesOut}
use Rattle.campaign_core.specs.Commands.Costs.{commit_steps, live_grade_steps, ranked_steps}
use Rattle.campaign_core.specs.CampaignStates.{IsAssessmentOf}
use Rattle.campaign_core.specs.Assessments.DeskLeases.{is_known, topic_in}
use Rattle.campaign_core.specs.Numbering.Numbers.{doc_in, docs_in, names_of}
use Rattle.campaign_core.specs.Assessments.RunScores.{list_in, ranked_on, run_at}
use Rattle.campaign_core.specs.Numbering.Submissions.{live_numbers, run_id_of}
use Rattle.campaign_core.specs.Assessments.Topics.{KeptTopic, kept_topic, kept_topic_of, pool_of, held_of, topic_ids}
use Rattle.campaign_core.proofs.Rulings.AcceptedCommands.{numbered-all}
use Rattle.campaign_core.proofs.Lists.Elements.{Each}
use Rattle.campaign_core.proofs.Entries.Runs.LiveRuns.{at-live, live-at, live-there}

-- ---- the runs of the lists

among : (n : ℕ) (ps : List (ℕ × Run)) → list_any (λ p. p.0 == n) ps ≡ true → Contains (map run_id_of ps) (record { 0 = n })
among n [] there = cc there
among n (p ∷ ps) there = step (p.0 == n) refl there (among n ps)
  where
    step : (t : Bool) → (p.0 == n) ≡ t → (t || list_any (λ p. p.0 == n) ps) ≡ true
        → (list_any (λ p. p.0 == n) ps ≡ true → Contains (map run_id_of ps) (record { 0 = n })) → Contains (map run_id_of (p ∷ ps)) (record { 0 = n })
    step true is there rest = (0, omega arith, ap (λ m. let r : RunId = record { 0 = m } in r) (eqb-true p.0 n is))
    step false is there rest = let later = rest there in (suc later.0, omega (arith, later.1), later.2)

-- each live run stands by its number
passing : (p : ℕ × Run → Bool) (P : ℕ × Run → Type 0) (ps : List (ℕ × Run)) → Each P ps → Each (λ q. P q × (p q ≡ true)) (filter p ps)
passing p P [] all = tt
passing p P (q ∷ ps) all = step (p q) refl (passing p P ps all.1)
  where
    step : (t : Bool) → p q ≡ t → Each (λ q. P q × (p q ≡ true)) (filter p ps) → Each (λ q. P q × (p q ≡ true)) (cond t (q ∷ filter p ps) (filter p ps))
    step true is rest = ((all.0, is), rest)
    step false is rest = rest

numbered-there : (all rs : List Run) (k : ℕ) → ((i : ℕ) → slice_get all (k + i) ≡ slice_get rs i)
    → Each (λ p. slice_get all p.0 ≡ Some p.1) (enumerate_from k rs)
numbered-there all [] k there = tt
numbered-there all (r ∷ rs) k there =
    let here : k ≡ k + 0 = omega arith in (
      ap (slice_get all) here
          ∙ there 0,
      numbered-there all rs (k + 1) (λ i. let on : k + 1 + i ≡ k + suc i = omega arith in ap (slice_get all) on ∙ there (suc i)),
    )

runs-at : (H : History) (ps : List (ℕ × Run)) → Each (λ p. (slice_get (runs H) p.0 ≡ Some p.1) × (not (is_withdrawn H p.1.name) ≡ true)) ps
    → Each (λ p. run_at H (run_id_of p) ≡ Some p.1) ps
runs-at H [] all = tt
runs-at H (p ∷ ps) all = (at-live H (run_id_of p) p.1 all.0.0 (not-true (is_withdrawn H p.1.name) all.0.1), runs-at H ps all.1)

live-runs-at : (H : History) → Each (λ p. run_at H (run_id_of p) ≡ Some p.1) (numbered_runs H)
live-runs-at H =
    runs-at H (numbered_runs H)
    (passing (λ p. not (is_withdrawn H p.1.name)) (λ p. slice_get (runs H) p.0 ≡ Some p.1) (enumerate_from 0 (runs H))
    (numbered-there (runs H) (runs H) 0 (λ i. let on : 0 + i ≡ i = omega arith in ap (slice_get (runs H)) on)))

-- ---- one list

listed-steps : (names docs : List Text) → list_steps (unless_empty (docs_in names docs)) ≡ ranked_steps docs
listed-steps names [] = refl
listed-steps names (doc ∷ docs) = ap follow_steps (length-map (doc ∷ docs) (doc_in names))

text-there : (ids : List Text) (topic : Text) → contains_text ids topic ≡ true → slice_get ids (topic_in ids topic) ≡ Some topic
text-there [] topic listed = cc listed
text-there (id ∷ ids) topic listed = step (bytes_eq topic id) refl listed (text-there ids topic)
  where
    step : (t : Bool) → bytes_eq topic id ≡ t → (t || contains_text ids topic) ≡ true
        → (contains_text ids topic ≡ true → slice_get ids (topic_in ids topic) ≡ Some topic)
        → slice_get (id ∷ ids) (cond (not t) (1 + topic_in ids topic) 0) ≡ Some topic
    step true is listed rest = ap (λ text. let o : Option Text = Some text in o) (sym ((bytes_eq-Decides topic id).0 is))
    step false is listed rest = let on : 1 + topic_in ids topic ≡ suc (topic_in ids topic) = omega arith in ap (slice_get (id ∷ ids)) on ∙ rest listed

-- ---- all lists of a topic

module _ (H : History) (known : Facts) (assessed : IsAssessmentOf H known) where
  pub have-lists : HaveLists (live_numbers H) known.topics
  have-lists run on docs is = step (run_at H run) refl (sym (assessed.lists_are run on) ∙ is)
    where
      none : (o : Option Text) → option_map_or (λ id. option_map_or (ranked_on (names_of H) id) None None) o None ≡ Some docs → Contains (live_numbers H) run
      none None is = cc is
      none (Some id) is = cc is

      step : (o : Option Run) → run_at H run ≡ o → list_in (names_of H) (topic_ids H) o on ≡ Some docs → Contains (live_numbers H) run
      step None at is = none (slice_get (topic_ids H) on) is
      step (Some r) at is = let there = live-at H run r at in among run.0 (numbered_runs H) (live-there H run.0 r there.there there.live)

  -- of a topic of the campaign
  module _ (topic : Text) (listed : contains_text (topic_ids H) topic ≡ true) where
    one-list : (p : ℕ × Run) → run_at H (run_id_of p) ≡ Some p.1
        → list_steps (known.topics.lists (run_id_of p) (topic_in (topic_ids H) topic)) ≡ ranked_steps (docs_on p.1.lists topic)
    one-list p at =
        ap list_steps (assessed.lists_are (run_id_of p) (topic_in (topic_ids H) topic)
        ∙ ap (λ (o : Option Run). list_in (names_of H) (topic_ids H) o (topic_in (topic_ids H) topic)) at
        ∙ ap (λ (o : Option Text). option_map_or (λ id. option_map_or (ranked_on (names_of H) id) (Some p.1) None) o None)
        (text-there (topic_ids H) topic listed))
        ∙ listed-steps (names_of H) (docs_on p.1.lists topic)

    each-list : (ps : List (ℕ × Run)) → Each (λ p. run_at H (run_id_of p) ≡ Some p.1) ps
        → sum_by (λ run. list_steps (known.topics.lists run (topic_in (topic_ids H) topic))) (map run_id_of ps)
        ≡ sum_by (λ run. ranked_steps (docs_on run.lists topic)) (map (λ p. p.1) ps)
    each-list [] all = refl
    each-list (p ∷ ps) all =
        sum_by-cons (λ run. list_steps (known.topics.lists run (topic_in (topic_ids H) topic))) (run_id_of p) (map run_id_of ps)
        ∙ ap (λ n. n + sum_by (λ run. list_steps (known.topics.lists run (topic_in (topic_ids H) topic))) (map run_id_of ps)) (one-list p all.0)
        ∙ ap (λ n. ranked_steps (docs_on p.1.lists topic) + n) (each-list ps all.1)
        ∙ sym (sum_by-cons (λ (run : Run). ranked_steps (docs_on run.lists topic)) p.1 (map (λ (p : ℕ × Run). p.1) ps))

    pool-is : pool_size (topic_in (topic_ids H) topic) known.topics ≡ length (live H)
    pool-is =
        size-of known.topics.topics (topic_in (topic_ids H) topic)
        ∙ ap (λ (ks : List KeptTopic). option_map_or (λ k. length k.runs) (slice_get ks (topic_in (topic_ids H) topic)) 0) assessed.knows.topics_are
        ∙ size-at (topic_ids H) (topic_in (topic_ids H) topic)
        ∙ ap (λ (o : Option Text). option_map_or (λ id. length (pool_of H id)) o 0) (text-there (topic_ids H) topic listed)
        ∙ length-map (numbered_runs H) (held_of H topic)
        ∙ sym (length-map (numbered_runs H) (λ (p : ℕ × Run). p.1))
      where
        size-of : (ts : List TopicFacts) (i : ℕ)
            → option_map_or (λ t. length t.pool) (slice_get ts i) 0 ≡ option_map_or (λ k. length k.runs) (slice_get (map kept_topic ts) i) 0
        size-of [] i = refl
        size-of (t ∷ ts) zero = refl
        size-of (t ∷ ts) (suc i) = size-of ts i

        size-at : (names : List Text) (i : ℕ) → option_map_or (λ k. length k.runs) (slice_get (map (kept_topic_of H) names) i) 0
            ≡ option_map_or (λ id. length (pool_of H id)) (slice_get names i) 0
        size-at [] i = refl
        size-at (name ∷ names) zero = refl
        size-at (name ∷ names) (suc i) = size-at names i

    grade-takes : known_steps (live_numbers H) (topic_in (topic_ids H) topic) known.topics ≡ live_grade_steps H topic
    grade-takes = let lists = each-list (numbered_runs H) (live-runs-at H) in omega (arith, lists, pool-is)

  -- a change takes what its entry may
  pub change-within : (names : List Text) (e : Entry) (made : Change) → CarriesOut H names known.topics.topics known.leases e made
      → change_steps (live_numbers H) made known.topics ≤ commit_steps H e.core.command
  change-within names e change.Nothing carries = omega arith
  change-within names e (change.Topics given) carries = omega arith
  change-within names e (change.Run run lists) carries = omega arith
  change-within names e (change.Withdraw run) carries = omega arith
  change-within names e (change.Lease grant) carries = omega arith
  change-within names e (change.Grade number label) carries =
      let ours = numbered-all (is_known H (names_of H)) H number carries.lease assessed.knows.leased.are_known carries.found in
      let listed : contains_text (topic_ids H) carries.lease.topic ≡ true =
      second_of_both (contains_text (names_of H) carries.lease.doc) (contains_text (topic_ids H) carries.lease.topic) ours in
      let allowed : commit_steps H e.core.command ≡ live_grade_steps H carries.lease.topic = ap (commit_steps H) carries.command_is
      ∙ ap (λ (o : Option Lease). option_map_or (live_grade_steps H) (option_map (λ lease. lease.topic) o) 0) carries.found in
      let taken = ap (λ n. known_steps (live_numbers H) n known.topics) carries.topic_is ∙ grade-takes carries.lease.topic listed in
      omega (arith, allowed, taken)
  change-within names e (change.Release number) carries = omega arith
  change-within names e (change.Amend label) carries =
      let allowed : commit_steps H e.core.command ≡ live_grade_steps H carries.0 = ap (commit_steps H) carries.2 in
      let taken = ap (λ n. known_steps (live_numbers H) n known.topics) carries.4.number_is ∙ grade-takes carries.0 carries.4.listed in
      omega (arith, allowed, taken)
  change-within names e (change.Rule ruling) carries =
      let allowed : commit_steps H e.core.command ≡ live_grade_steps H carries.0 = ap (commit_steps H) carries.2 in
      let taken = ap (λ n. known_steps (live_numbers H) n known.topics) carries.3.number_is ∙ grade-takes carries.0 carries.3.listed in
      omega (arith, allowed, taken)
