-- The queue that a state lends is in the order of the rules.
use Rattle.std.proofs.Common.{◌≡◌, ◌<◌, ℕ, zero, suc, List, [], ◌∷◌, Some, get_or, map, sym, ap, ◌∙◌, subst, arith}
use Rattle.std.specs.Prelude.{IsTrue, slice_get}
use Rattle.std.specs.List.{All}
use Rattle.std.specs.List.Sorted.{IsPermutation}
use Rattle.decimal_rank.proofs.Lists.{map-map, slice-there}
use Rattle.depth_pool.specs.Holdings.{Held, pool_holds as holds_there}
use Rattle.depth_pool.specs.declared.runs.RunId.{RunId}
use Rattle.mtf_queue.specs.QueueView.{QueueView}
use Rattle.mtf_queue.specs.Rule.{is_before_by_trail as comes_before_by}
use Rattle.mtf_queue.specs.declared.rule.Judged.{Judged}
use Rattle.rulebook.specs.Campaign.{History, Run, level, numbered_runs}
use Rattle.rulebook.specs.Judgements.Grades.{trail}
use Rattle.rulebook.specs.Judgements.JudgingOrder.{comes_before}
use Rattle.rulebook.specs.Words.{Text}
use Rattle.assessment.specs.TopicFacts.{TopicFacts, judged_of}
use Rattle.campaign_core.specs.Assessments.TopicLabelling.{IsLabelled, graded_in}
use Rattle.campaign_core.specs.Views.LendingLaws.{IsInRulesOrder}
use Rattle.campaign_core.specs.Views.Lendings.{IsQueueOf}
use Rattle.campaign_core.specs.Numbering.Numbers.{are_named, names_of}
use Rattle.campaign_core.specs.Assessments.Topics.{KeptTopic, kept_topic, kept_topic_of, labelled_of, pool_of, topic_ids}
use Rattle.campaign_core.specs.Numbering.Submissions.{run_id_of}
use Rattle.campaign_core.proofs.NamedDocuments.RunOrder.{IsRunOf, before-same, run-numbers, runs-of-pool}
use Rattle.campaign_core.proofs.Lists.Elements.{Each}

kept-at : (H : History) (topics : List TopicFacts) (ids : List Text) (i : ℕ) (facts : TopicFacts) (id : Text)
    → map kept_topic topics ≡ map (kept_topic_of H) ids → slice_get topics i ≡ Some facts → slice_get ids i ≡ Some id
    → kept_topic facts ≡ kept_topic_of H id
kept-at H [] ids i facts id same at there = cc at
kept-at H (t ∷ topics) [] i facts id same at there = cc same
kept-at H (t ∷ topics) (first ∷ ids) zero facts id same at there =
    let head : kept_topic t ≡ kept_topic_of H first = cc same in
    let here : t ≡ facts = cc at in
    let named : first ≡ id = cc there in
    ap kept_topic (sym here) ∙ head ∙ ap (kept_topic_of H) named
kept-at H (t ∷ topics) (first ∷ ids) (suc i) facts id same at there =
    let tail : map kept_topic topics ≡ map (kept_topic_of H) ids = cc same in
    kept-at H topics ids i facts id tail at there

all-at : {X Y : Type 0} (f : X → Y) (P : Y → Type 0) (xs : List X) (i : ℕ) (x : X) → All P (map f xs) → slice_get xs i ≡ Some x → P (f x)
all-at f P [] i x all at = cc at
all-at f P (y ∷ xs) zero x all at = let here : y ≡ x = cc at in subst (λ z. P (f z)) here (all 0 (f y) (omega arith))
all-at f P (y ∷ xs) (suc i) x all at = all-at f P xs i x (λ k d h. all (suc k) d (omega arith)) at

each-at : {X : Type 0} (P : X → Type 0) (xs : List X) (i : ℕ) (x : X) → Each P xs → slice_get xs i ≡ Some x → P x
each-at P [] i x all at = cc at
each-at P (y ∷ xs) zero x all at = let here : y ≡ x = cc at in subst P here all.0
each-at P (y ∷ xs) (suc i) x all at = each-at P xs i x all.1 at

module _ (H : History) (number : ℕ) (topic : Text) (queue : QueueView) (lent : IsQueueOf H number queue)
    (named : slice_get (topic_ids H) number ≡ Some topic) where
  same : kept_topic lent.facts ≡ kept_topic_of H topic
  same = kept-at H lent.topics (topic_ids H) number lent.facts topic lent.knows.topics_are lent.topic_is named

  labelled : IsLabelled H (names_of H) (labelled_of lent.facts)
  labelled = all-at labelled_of (IsLabelled H (names_of H)) lent.topics number lent.facts lent.knows.labels_are lent.topic_is

  id-is : lent.facts.id ≡ topic
  id-is = ap (λ (k : KeptTopic). k.id) same

  level-is : lent.facts.level ≡ level H topic
  level-is = ap (λ (k : KeptTopic). k.level) same

  pool-is : lent.facts.pool ≡ pool_of H topic
  pool-is = ap (λ (k : KeptTopic). k.runs) same

  judged-are : queue.trail ≡ map (judged_of (level H topic)) (map (graded_in H (names_of H) topic) (trail H topic))
  judged-are =
      lent.queued.trail_is ∙ ap (λ l. map (judged_of l) lent.facts.graded) level-is ∙ ap (map (judged_of (level H topic))) labelled.graded_are
      ∙ ap (λ id. map (judged_of (level H topic)) (map (graded_in H (names_of H) id) (trail H id))) id-is

  abbrev before : List Held → List Judged → RunId → RunId → Type 0
  before pool judged r s =
      IsTrue (comes_before_by (λ (run : RunId). run.0) (λ (one : Judged). one.relevant)
      (λ (run : RunId) (one : Judged). holds_there pool run one.doc) judged r s)

  in-order : (i j m n : ℕ) (p q : ℕ × Run) → i < j → slice_get queue.order i ≡ Some (run_id_of p) → slice_get queue.order j ≡ Some (run_id_of q)
      → slice_get (numbered_runs H) m ≡ Some p → slice_get (numbered_runs H) n ≡ Some q
      → IsTrue (comes_before H topic p q)
  in-order i j m n p q less first second one two =
      let at = slice-there queue.order i (run_id_of p) (run_id_of p) first in
      let behind = slice-there queue.order j (run_id_of p) (run_id_of q) second in
      let apart : before lent.facts.pool queue.trail (get_or queue.order i (run_id_of p)) (get_or queue.order j (run_id_of p)) =
      lent.queued.in_order.pairwise i j (run_id_of p) less behind.0 in
      let runs : before lent.facts.pool queue.trail (run_id_of p) (run_id_of q) =
      subst (λ r. before lent.facts.pool queue.trail r (run_id_of q)) at.1
      (subst (before lent.facts.pool queue.trail (get_or queue.order i (run_id_of p))) behind.1 apart) in
      let pooled : before (pool_of H topic) queue.trail (run_id_of p) (run_id_of q) =
      subst (λ pool. before pool queue.trail (run_id_of p) (run_id_of q)) pool-is runs in
      let ruled = subst (λ judged. before (pool_of H topic) judged (run_id_of p) (run_id_of q)) judged-are pooled in
      let each = runs-of-pool H topic in
      sym (before-same H topic p q (each-at (IsRunOf H topic (pool_of H topic)) (numbered_runs H) m p each one)
      (each-at (IsRunOf H topic (pool_of H topic)) (numbered_runs H) n q each two)
      (subst (λ id. IsTrue (are_named (names_of H) (trail H id))) id-is labelled.trail_named)) ∙ ruled

  pub queue-ruled : IsInRulesOrder H topic queue
  queue-ruled = record {
    runs_are = subst (λ runs. IsPermutation runs queue.order) (ap (map (λ (h : Held). h.run)) pool-is ∙ run-numbers H topic (numbered_runs H)) lent.queued.runs;
    in_order = in-order;
    trail_is = judged-are ∙ map-map (judged_of (level H topic)) (graded_in H (names_of H) topic) (trail H topic);
  }
