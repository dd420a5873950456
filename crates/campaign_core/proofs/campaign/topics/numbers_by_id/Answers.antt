use Rattle.std.proofs.Common.{◌≡◌, ◌≤◌, ◌<◌, ◌++◌, ◌∷◌, ◌∙◌, ℕ, [], All, IsPermutation, List, ap, arith, get_or, length, map, rules, subst, sym, take_all}
use Rattle.std.specs.Ordering.{is_lt}
use Rattle.std.proofs.lemmas.Cmp.{nat_list_cmp_total}
use Rattle.std.proofs.lemmas.Fn.{always_returns_same}
use Rattle.std.proofs.lemmas.List.{length-map, map-append, take_more}
use Rattle.std.proofs.lemmas.List.Elements.{All-nil, All-push}
use Rattle.std.proofs.lemmas.List.Sorted.{All-permutation, ranks_by}
use Rattle.assessment.specs.TopicFacts.{TopicFacts, facts_of}
use Rattle.rulebook.specs.Spelling.{differ}
use Rattle.rulebook.specs.Words.{Text, in_order}
use Rattle.campaign_core.specs.Assessments.Topics.{fact_ids}
use Rattle.campaign_core.proofs.Lists.ByteOrder.{text_cmp}
use Rattle.campaign_core.proofs.Lists.SortedTexts.{sorted_texts}
use Rattle.campaign_core.proofs.campaign.topics.numbers_by_id.Goals as goal

pub loop-number-preserved : goal.loop-number-preserved
loop-number-preserved c =
    let topics = c.args.topics.now in
    let ids = fact_ids (map facts_of topics) in
    let before = c.loop-number.numbers.items in
    let number = c.loop-number.number in
    let id_at : ℕ → Text = λ number. get_or ids number [] in
    let pushed : c.push.new.self.items ≡ before ++ number ∷ [] = c.in_ok-push.ensures.items in
    let long : length (map facts_of topics) ≡ length topics = length-map topics facts_of in
    let less : number < length topics = search rules in
    let inside : number < length ids = omega (arith, less, long, length-map (map facts_of topics) (λ (t : TopicFacts). t.id)) in
    record {
      within = subst (All (λ number. number < length (map facts_of topics))) (sym pushed)
          (All-push (λ number. number < length (map facts_of topics)) before number c.loop-number.invariant.within
          (omega (arith, less, long)));
      ids_are = ap (map id_at) pushed ∙ map-append id_at before (number ∷ []) ∙ ap (λ texts. texts ++ id_at number ∷ []) c.loop-number.invariant.ids_are
          ∙ sym (take_more ids number [] inside);
    }

pub returns : goal.returns
returns c =
    let topics = c.args.topics.now in
    let ids = fact_ids (map facts_of topics) in
    let made = c.loop-number.numbers.items in
    let sorted = c.sort_unstable_by.new.self.items in
    let id_at : ℕ → Text = λ number. get_or ids number [] in
    let all : length topics ≤ c.loop-number.number = search rules in
    let past : length ids ≤ c.loop-number.number =
    omega (arith, all, length-map topics facts_of, length-map (map facts_of topics) (λ (t : TopicFacts). t.id)) in
    let whole : map id_at made ≡ ids = c.loop-number.invariant.ids_are ∙ take_all c.loop-number.number ids past in
    let moved : IsPermutation made sorted = c.sort_unstable_by.ensures.permutation in
    let lt = λ (a b : ℕ). is_lt (text_cmp (id_at a) (id_at b)) in
    record {
      within = All-permutation (λ number. number < length (map facts_of topics)) made sorted moved c.loop-number.invariant.within;
      ids_are = sorted_texts id_at made sorted moved
          (c.sort_unstable_by.ensures.sorted lt (ranks_by nat_list_cmp_total id_at)
          (always_returns_same _ (λ a r. is_lt r ≡ lt a.0.now a.1.0.now) _ (λ a r f' q. (ap is_lt (search rules), search rules))))
          (ap differ whole ∙ c.requires) ∙ ap in_order whole;
    }
