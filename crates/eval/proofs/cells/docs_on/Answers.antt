use Rattle.std.proofs.Common.{◌≡◌, ◌∙◌, sym, rules}
use Rattle.std.specs.Cmp.Lexicographic.{slice_cmp}
use Rattle.std.specs.Ordering.{nat_cmp}
use Rattle.std.proofs.lemmas.Fn.{always_returns_same}
use Rattle.std.proofs.lemmas.Map.Lookups.{exact_bytes}
use Rattle.eval.proofs.ListsByTopic.{listed_at, unlisted, lists_rise, between_lists}
use Rattle.eval.proofs.cells.docs_on.Goals as goal

pub returns-in-Ok : goal.returns-in-Ok
returns-in-Ok c =
    let at = c.in-Ok.ensures.position (λ list. slice_cmp nat_cmp list.topic c.args.topic.now)
    (always_returns_same _ (λ a r. r ≡ slice_cmp nat_cmp a.0.now.topic c.args.topic.now) _ (λ a r f' q. (search rules, search rules))) in
    let same = exact_bytes _ _ (at c.index-lists-place.result) in
    sym (listed_at c.args.lists.now c.args.topic.now c.in-Ok.place c.index-lists-place.result c.requires.lists.ascending c.in-Ok.ensures.bound same)

pub returns-in-Err : goal.returns-in-Err
returns-in-Err c =
    let place = c.in-Err.ensures.position (λ list. slice_cmp nat_cmp list.topic c.args.topic.now)
    (always_returns_same _ (λ a r. r ≡ slice_cmp nat_cmp a.0.now.topic c.args.topic.now) _ (λ a r f' q. (search rules, search rules))) in
    c.requires.none
    ∙ sym (unlisted c.args.lists.now c.args.topic.now
    (between_lists c.args.lists.now c.args.topic.now c.in-Err.field-0 c.in-Err.ensures.bound
    (place (lists_rise c.args.lists.now c.args.topic.now c.requires.lists.ascending))))
