use Rattle.std.proofs.Common.{◌≡◌, ◌∙◌, ℕ, List, None, Option, Some, ap, sym}
use Rattle.std.specs.Prelude.{◌==◌, if◌then◌else◌}
use Rattle.std.specs.Option.{option_map}
use Rattle.rulebook.specs.Campaign.{level, need}
use Rattle.rulebook.specs.Words.{Text}
use Rattle.campaign_core.specs.Views.LentTopics.{topic_at}
use Rattle.leave_out.specs.Agreement.{agreed_on, agreement_of, pairs_on}
use Rattle.leave_out.specs.declared.assessors.Agreed.{Agreed}
use Rattle.leave_out.proofs.Elements.{told}
use Rattle.leave_out.proofs.assessors.agreed_on.Goals as goal

pub returns : goal.returns
returns c =
    let H = c.args.state.now.history in
    let id = c.topic_name.result.now in
    let o = topic_at H c.args.topic in
    let at : o ≡ Some id = c.topic_name.ensures in
    let need_is : need H id ≡ c.need.result = told o id (need H) c.need.result at c.need.ensures in
    let two : need H id ≡ 2 = need_is ∙ c.if-need-ne2.false in
    let pairs_are : pairs_on H id ≡ c.in_ok-pairs.pairs.items = told o id (pairs_on H) c.in_ok-pairs.pairs.items at c.in_ok-pairs.ensures.pairs in
    let level_is : level H id ≡ c.level.result = told o id (level H) c.level.result at c.level.ensures in
    let row_is : agreement_of (level H id) id (pairs_on H id) ≡ c.row_of.result =
    ap (λ l. agreement_of l id (pairs_on H id)) level_is
    ∙ ap (λ (ps : List (ℕ × ℕ)). agreement_of c.level.result id ps) (pairs_are ∙ sym c.deref.ensures.value)
    ∙ ap (λ (text : Text). agreement_of c.level.result text c.deref.result.now) (sym c.in_ok-id.ensures.text)
    ∙ sym c.row_of.ensures in
    ap (option_map (agreed_on H)) at
    ∙ ap (λ n. let o : Option (Option Agreed) = Some (if n == 2 then Some (agreement_of (level H id) id (pairs_on H id)) else None) in o) two
    ∙ ap (λ (row : Agreed). let o : Option (Option Agreed) = Some (Some row) in o) row_is
