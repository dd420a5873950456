-- The order of a topic's runs by numbers is the order by texts.
use Rattle.std.proofs.Common.{◌≡◌, ◌||◌, ◌&&◌, ◌<◌, ◌==◌, ℕ, Bool, true, false, cond, List, [], ◌∷◌, ◌++◌, Option, Some, map, find, reverse, refl, sym, ap, ◌∙◌, arith, eq-eqb, is_some}
use Rattle.std.specs.List.{list_all, list_any}
use Rattle.std.specs.Option.{option_map}
use Rattle.std.specs.Str.{bytes_eq}
use Rattle.std.proofs.lemmas.Bool.Decides.{nat_tests}
use Rattle.std.proofs.lemmas.List.{reverse-append}
use Rattle.std.proofs.lemmas.List.Folds.{list_all-append}
use Rattle.std.proofs.Math.Bool.{or-false}
use Rattle.std.proofs.lemmas.Bool.{and_from}
use Rattle.decimal_rank.specs.declared.naming.DocId.{DocId}
use Rattle.decimal_rank.proofs.TruthValues.{bytes_eq-swap}
use Rattle.decimal_rank.proofs.Lists.{all_head, all_tail, map-map}
use Rattle.depth_pool.specs.Holdings.{Held, has_doc, pool_docs, pool_holds as holds_there}
use Rattle.depth_pool.specs.declared.runs.RunId.{RunId}
use Rattle.mtf_queue.specs.Rule.{is_before_by_trail as comes_before_by, is_first_side, is_one_of, puts_first, tells_apart, first_by_trail as first_there}
use Rattle.mtf_queue.specs.declared.rule.Judged.{Judged}
use Rattle.rulebook.specs.Words.{Text, contains_text}
use Rattle.rulebook.specs.Campaign.{History, Run, docnos, held_documents, level, numbered_runs, run_holds}
use Rattle.rulebook.specs.Judgements.Grades.{trail}
use Rattle.rulebook.specs.Judgements.JudgingOrder.{comes_before, first_of, relevance}
use Rattle.campaign_core.specs.Assessments.TopicLabelling.{graded_in}
use Rattle.campaign_core.specs.Numbering.Numbers.{are_named, doc_in, docs_in, names_of}
use Rattle.campaign_core.specs.Assessments.Topics.{held_of, pool_of}
use Rattle.assessment.specs.TopicFacts.{judged_of}
use Rattle.campaign_core.proofs.NamedDocuments.LiveLeases.{same-number}
use Rattle.campaign_core.proofs.Lists.Elements.{Each, each-both, each-more}
use Rattle.campaign_core.proofs.Entries.Runs.LiveRuns.{Ascends, numbered-ascends, numbered-named}
use Rattle.campaign_core.proofs.PageTexts.PoolTexts.{held-named}

abbrev pub number_of_run : ℕ × Run → RunId
number_of_run p = record { 0 = p.0 }

-- a document among documents, by numbers
pub has-same : (names docs : List Text) (doc : Text) → contains_text names doc ≡ true → are_named names docs ≡ true
    → has_doc (doc_in names doc) (docs_in names docs) ≡ contains_text docs doc
has-same names [] doc named all = refl
has-same names (x ∷ docs) doc named all =
    ap (λ t. t || has_doc (doc_in names doc) (docs_in names docs))
    (same-number names x doc (all_head (contains_text names) x docs all) named ∙ bytes_eq-swap x doc)
    ∙ ap (λ t. bytes_eq doc x || t) (has-same names docs doc named (all_tail (contains_text names) x docs all))

-- a run of the pool by its number: what it holds, and that this is named
pub record IsRunOf (H : History) (topic : Text) (pool : List Held) (p : ℕ × Run) : Type 0 where
  pub docs_are : pool_docs pool (number_of_run p) ≡ docs_in (names_of H) (held_documents H topic p.1)
  pub holds_are : (doc : Text) → contains_text (names_of H) doc ≡ true
      → holds_there pool (number_of_run p) (doc_in (names_of H) doc) ≡ run_holds H topic p.1 doc
  pub docs_named : are_named (names_of H) (held_documents H topic p.1) ≡ true

module _ (H : History) (topic : Text) where
  unequal : (a b : ℕ) → a < b → (a == b) ≡ false
  unequal a b less = grind (arith, nat_tests)

  unequal_back : (a b : ℕ) → a < b → (b == a) ≡ false
  unequal_back a b less = grind (arith, nat_tests)

  none-later : (n : ℕ) (doc : DocId) (ps : List (ℕ × Run)) → Each (λ p. n < p.0) ps
      → list_any (λ (held : Held). (held.run.0 == n) && has_doc doc held.docs) (map (held_of H topic) ps) ≡ false
  none-later n doc [] all = refl
  none-later n doc (p ∷ ps) all =
      ap (λ t. (t && has_doc doc (held_of H topic p).docs) || list_any (λ (held : Held). (held.run.0 == n) && has_doc doc held.docs) (map (held_of H topic) ps))
      (unequal_back n p.0 all.0)
      ∙ none-later n doc ps all.1

  module _ (n : ℕ) (r : Run) (ps : List (ℕ × Run)) where
    first-run : Each (λ p. n < p.0) ps → are_named (names_of H) (held_documents H topic r) ≡ true → IsRunOf H topic (map (held_of H topic) ((n, r) ∷ ps)) (n, r)
    first-run later named = record {
      docs_are = ap (λ t. cond t (docs_in (names_of H) (held_documents H topic r)) (pool_docs (map (held_of H topic) ps) (number_of_run (n, r))))
          (eq-eqb n n refl);
      holds_are = λ doc here.
          ap (λ t. (t && has_doc (doc_in (names_of H) doc) (docs_in (names_of H) (held_documents H topic r)))
          || holds_there (map (held_of H topic) ps) (number_of_run (n, r)) (doc_in (names_of H) doc)) (eq-eqb n n refl)
          ∙ ap (λ t. has_doc (doc_in (names_of H) doc) (docs_in (names_of H) (held_documents H topic r)) || t) (none-later n (doc_in (names_of H) doc) ps later)
          ∙ or-false (has_doc (doc_in (names_of H) doc) (docs_in (names_of H) (held_documents H topic r)))
          ∙ has-same (names_of H) (held_documents H topic r) doc here named;
      docs_named = named;
    }

    later-run : (p : ℕ × Run) → (n < p.0) × IsRunOf H topic (map (held_of H topic) ps) p → IsRunOf H topic (map (held_of H topic) ((n, r) ∷ ps)) p
    later-run p is = record {
      docs_are = ap (λ t. cond t (docs_in (names_of H) (held_documents H topic r)) (pool_docs (map (held_of H topic) ps) (number_of_run p)))
          (unequal n p.0 is.0) ∙ is.1.docs_are;
      holds_are = λ doc here.
          ap (λ t. (t && has_doc (doc_in (names_of H) doc) (docs_in (names_of H) (held_documents H topic r)))
          || holds_there (map (held_of H topic) ps) (number_of_run p) (doc_in (names_of H) doc)) (unequal n p.0 is.0)
          ∙ is.1.holds_are doc here;
      docs_named = is.1.docs_named;
    }

  each-run : (ps : List (ℕ × Run)) → Ascends ps → Each (λ p. are_named (names_of H) (docnos p.1.lists) ≡ true) ps
      → Each (IsRunOf H topic (map (held_of H topic) ps)) ps
  each-run [] up named = tt
  each-run (p ∷ ps) up named =
      let rest = each-run ps up.1 named.1 in (
        first-run p.0 p.1 ps up.0 (held-named H (names_of H) topic p.1 named.0),
        each-more (λ (q : ℕ × Run). (p.0 < q.0) × IsRunOf H topic (map (held_of H topic) ps) q)
            (IsRunOf H topic (map (held_of H topic) (p ∷ ps))) ps (later-run p.0 p.1 ps)
            (each-both (λ (q : ℕ × Run). p.0 < q.0) (IsRunOf H topic (map (held_of H topic) ps)) ps up.0 rest),
      )

  pub runs-of-pool : Each (IsRunOf H topic (pool_of H topic)) (numbered_runs H)
  runs-of-pool = each-run (numbered_runs H) (numbered-ascends H) (numbered-named H)

-- the numbers of a topic's runs
pub run-numbers : (H : History) (topic : Text) (ps : List (ℕ × Run)) → map (λ (h : Held). h.run) (map (held_of H topic) ps) ≡ map number_of_run ps
run-numbers H topic [] = refl
run-numbers H topic (p ∷ ps) = ap (λ rs. number_of_run p ∷ rs) (run-numbers H topic ps)

-- Of two runs the one that comes first.

named-reverse : (names docs : List Text) → are_named names docs ≡ true → are_named names (reverse docs) ≡ true
named-reverse names [] named = refl
named-reverse names (doc ∷ docs) named =
    let first : are_named names (doc ∷ []) ≡ true = ap (λ t. t && true) (all_head (contains_text names) doc docs named) in
    ap (are_named names) (reverse-append (doc ∷ []) docs) ∙ list_all-append (contains_text names) (reverse docs) (doc ∷ [])
    ∙ and_from _ _ (named-reverse names docs (all_tail (contains_text names) doc docs named)) first

map-onto : {X Y : Type 0} (f : X → Y) (xs : List X) (x : X) → map f (xs ++ x ∷ []) ≡ map f xs ++ f x ∷ []
map-onto f [] x = refl
map-onto f (y ∷ ys) x = ap (λ zs. f y ∷ zs) (map-onto f ys x)

map-reverse : {X Y : Type 0} (f : X → Y) (xs : List X) → reverse (map f xs) ≡ map f (reverse xs)
map-reverse f [] = refl
map-reverse f (x ∷ xs) =
    reverse-append (f x ∷ []) (map f xs) ∙ ap (λ ys. ys ++ f x ∷ []) (map-reverse f xs)
    ∙ sym (ap (map f) (reverse-append (x ∷ []) xs) ∙ map-onto f (reverse xs) x)

module _ (H : History) (topic : Text) where
  abbrev judged_by : Text → Judged
  judged_by doc = judged_of (level H topic) (graded_in H (names_of H) topic doc)

  module _ (p q : ℕ × Run) (one : IsRunOf H topic (pool_of H topic) p) (two : IsRunOf H topic (pool_of H topic) q) where
    abbrev tells_there : Judged → Bool
    tells_there = tells_apart (λ (judged : Judged). judged.relevant) (λ (run : RunId) (judged : Judged). holds_there (pool_of H topic) run judged.doc)
        (number_of_run p) (number_of_run q)

    abbrev tells : Text → Bool
    tells = tells_apart (relevance H topic) (λ (run : ℕ × Run) (doc : Text). run_holds H topic run.1 doc) p q

    tells-same : (doc : Text) → contains_text (names_of H) doc ≡ true → tells_there (judged_by doc) ≡ tells doc
    tells-same doc named =
        ap (λ t. is_some (relevance H topic doc) && is_one_of t (holds_there (pool_of H topic) (number_of_run q) (doc_in (names_of H) doc)))
        (one.holds_are doc named)
        ∙ ap (λ t. is_some (relevance H topic doc) && is_one_of (run_holds H topic p.1 doc) t) (two.holds_are doc named)

    abbrev puts_there : Option Judged → Bool
    puts_there = puts_first (λ (run : RunId). run.0) (λ (judged : Judged). judged.relevant)
        (λ (run : RunId) (judged : Judged). holds_there (pool_of H topic) run judged.doc) (number_of_run p) (number_of_run q)

    abbrev puts : Option Text → Bool
    puts = puts_first (λ (run : ℕ × Run). run.0) (relevance H topic) (λ (run : ℕ × Run) (doc : Text). run_holds H topic run.1 doc) p q

    puts-same : (docs : List Text) → are_named (names_of H) docs ≡ true → puts_there (find tells_there (map judged_by docs)) ≡ puts (find tells docs)
    puts-same [] named = refl
    puts-same (doc ∷ docs) named =
        ap (λ t. puts_there (cond t (Some (judged_by doc)) (find tells_there (map judged_by docs))))
        (tells-same doc (all_head (contains_text (names_of H)) doc docs named))
        ∙ step (tells doc) (puts-same docs (all_tail (contains_text (names_of H)) doc docs named))
      where
        step : (t : Bool) → puts_there (find tells_there (map judged_by docs)) ≡ puts (find tells docs)
            → puts_there (cond t (Some (judged_by doc)) (find tells_there (map judged_by docs))) ≡ puts (cond t (Some doc) (find tells docs))
        step true rest = ap (is_first_side (relevance H topic doc)) (one.holds_are doc (all_head (contains_text (names_of H)) doc docs named))
        step false rest = rest

    pub before-same : are_named (names_of H) (trail H topic) ≡ true
        → comes_before_by (λ (run : RunId). run.0) (λ (judged : Judged). judged.relevant)
        (λ (run : RunId) (judged : Judged). holds_there (pool_of H topic) run judged.doc)
        (map (judged_of (level H topic)) (map (graded_in H (names_of H) topic) (trail H topic))) (number_of_run p) (number_of_run q)
        ≡ comes_before H topic p q
    before-same named =
        ap (λ ds. puts_there (find tells_there (reverse ds))) (map-map (judged_of (level H topic)) (graded_in H (names_of H) topic) (trail H topic))
        ∙ ap (λ ds. puts_there (find tells_there ds)) (map-reverse judged_by (trail H topic))
        ∙ puts-same (reverse (trail H topic)) (named-reverse (names_of H) (trail H topic) named)

  module _ (judged : List Judged) (named : are_named (names_of H) (trail H topic) ≡ true)
      (judged_are : judged ≡ map (judged_of (level H topic)) (map (graded_in H (names_of H) topic) (trail H topic))) where
    abbrev before_there : RunId → RunId → Bool
    before_there = comes_before_by (λ (run : RunId). run.0) (λ (judged : Judged). judged.relevant)
        (λ (run : RunId) (judged : Judged). holds_there (pool_of H topic) run judged.doc) judged

    abbrev leads_there : List RunId → RunId → Bool
    leads_there runs r = list_all (λ s. (r.0 == s.0) || before_there r s) runs

    abbrev leads : List (ℕ × Run) → ℕ × Run → Bool
    leads runs r = list_all (λ s. (r.0 == s.0) || comes_before H topic r s) runs

    before-here : (p q : ℕ × Run) → IsRunOf H topic (pool_of H topic) p → IsRunOf H topic (pool_of H topic) q
        → before_there (number_of_run p) (number_of_run q) ≡ comes_before H topic p q
    before-here p q one two =
        ap (λ js. comes_before_by (λ (run : RunId). run.0) (λ (judged : Judged). judged.relevant)
        (λ (run : RunId) (judged : Judged). holds_there (pool_of H topic) run judged.doc) js (number_of_run p) (number_of_run q)) judged_are
        ∙ before-same p q one two named

    leads-same : (p : ℕ × Run) (qs : List (ℕ × Run)) → IsRunOf H topic (pool_of H topic) p → Each (IsRunOf H topic (pool_of H topic)) qs
        → leads_there (map number_of_run qs) (number_of_run p) ≡ leads qs p
    leads-same p [] one all = refl
    leads-same p (q ∷ qs) one all =
        ap (λ t. ((p.0 == q.0) || t) && leads_there (map number_of_run qs) (number_of_run p)) (before-here p q one all.0)
        ∙ ap (λ t. ((p.0 == q.0) || comes_before H topic p q) && t) (leads-same p qs one all.1)

    found-same : (cs ps : List (ℕ × Run)) → Each (IsRunOf H topic (pool_of H topic)) cs → Each (IsRunOf H topic (pool_of H topic)) ps
        → find (leads_there (map number_of_run cs)) (map number_of_run ps) ≡ option_map number_of_run (find (leads cs) ps)
    found-same cs [] each all = refl
    found-same cs (p ∷ ps) each all =
        ap (λ t. cond t (Some (number_of_run p)) (find (leads_there (map number_of_run cs)) (map number_of_run ps))) (leads-same p cs all.0 each)
        ∙ step (leads cs p) (found-same cs ps each all.1)
      where
        step : (t : Bool) → find (leads_there (map number_of_run cs)) (map number_of_run ps) ≡ option_map number_of_run (find (leads cs) ps)
            → cond t (Some (number_of_run p)) (find (leads_there (map number_of_run cs)) (map number_of_run ps))
            ≡ option_map number_of_run (cond t (Some p) (find (leads cs) ps))
        step true rest = refl
        step false rest = rest

    -- of runs of the pool the first one by numbers is the first one
    pub first-same : (cs : List (ℕ × Run)) → Each (IsRunOf H topic (pool_of H topic)) cs
        → first_there (pool_of H topic) judged (map number_of_run cs) ≡ option_map number_of_run (first_of H topic cs)
    first-same cs each = found-same cs cs each each
