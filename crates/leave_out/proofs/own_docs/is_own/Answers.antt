use Rattle.std.proofs.Common.{◌≡◌, ◌<◌, ◌&&◌, ◌∙◌, ℕ, Some, List, [], IsSome, ap, get_or, length, map, rules, subst, sym}
use Rattle.std.specs.Prelude.{All}
use Rattle.std.specs.List.{list_all}
use Rattle.std.specs.Str.{bytes_eq}
use Rattle.std.proofs.lemmas.Option.{slice_get-get_or}
use Rattle.decimal_rank.specs.declared.naming.DocId.{DocId}
use Rattle.depth_pool.specs.Holdings.{Held, holders_of}
use Rattle.depth_pool.specs.declared.runs.RunId.{RunId}
use Rattle.rulebook.specs.Campaign.{History}
use Rattle.rulebook.specs.Judgements.Holders.{holders}
use Rattle.rulebook.specs.Words.{Text}
use Rattle.campaign_core.specs.Views.Groups.{group_of}
use Rattle.campaign_core.specs.Views.LendingLaws.{run_id_of}
use Rattle.campaign_core.specs.Views.LentTopics.{topic_at}
use Rattle.campaign_core.specs.Numbering.NumberedHolders.{HoldersByNumbers}
use Rattle.campaign_core.specs.Views.Tallies.{submitted_at}
use Rattle.campaign_core.specs.Assessments.Topics.{pool_of, topic_ids}
use Rattle.leave_out.specs.ReducedJudgements.{IsDocAt}
use Rattle.leave_out.proofs.Elements.{told}
use Rattle.leave_out.proofs.LiveRuns.NumberedRuns.{holders-submitted}
use Rattle.leave_out.proofs.Reductions.OwnDocs.{own-is, own-none, some-there}
use Rattle.leave_out.proofs.own_docs.is_own.Goals as goal

-- the holders by number are those by the rules
found-are : (H : History) (topic : ℕ) (id d : Text) (doc : DocId) (runs : List Held) (found : List RunId) → HoldersByNumbers → IsDocAt H topic id d doc
    → pool_of H id ≡ runs → found ≡ holders_of doc runs → found ≡ map run_id_of (holders H id d)
found-are H topic id d doc runs found law at pool_is is =
    is ∙ ap (holders_of doc) (sym pool_is) ∙ ap (λ (number : DocId). holders_of number (pool_of H id)) at.number_is ∙ law H id d at.named

pub are_of-requires : goal.are_of-requires
are_of-requires c =
    let H = c.args.state.now.history in
    let id : Text = get_or (topic_ids H) c.args.topic [] in
    let at : topic_at H c.args.topic ≡ Some id = slice_get-get_or (topic_ids H) c.args.topic [] c.requires in
    let pool_is : pool_of H id ≡ c.pool.result.now.runs = told (topic_at H c.args.topic) id (pool_of H) c.pool.result.now.runs at c.pool.ensures.runs in
    let found_are : c.holders-runs.result.now ≡ holders_of c.args.doc (pool_of H id) = c.holders-runs.ensures ∙ ap (holders_of c.args.doc) (sym pool_is) in
    subst (λ (found : List RunId). All (λ run. IsSome (submitted_at H run)) found) (sym found_are) (holders-submitted H id c.args.doc)

pub returns-then-is_empty : goal.returns-then-is_empty
returns-then-is_empty c = λ id d doc.
    let H = c.args.state.now.history in
    let pool_is : pool_of H id ≡ c.pool.result.now.runs = told (topic_at H c.args.topic) id (pool_of H) c.pool.result.now.runs doc.at c.pool.ensures.runs in
    let found = c.holders-runs.result.now in
    let is = found-are H c.args.topic id d c.args.doc c.pool.result.now.runs found c.holders_by_numbers.ensures doc pool_is c.holders-runs.ensures in
    let none : length found ≡ 0 = search rules in
    own-none H c.args.group.now id d found is none

pub returns : goal.returns
returns c = λ id d doc.
    let H = c.args.state.now.history in
    let group = c.args.group.now in
    let pool_is : pool_of H id ≡ c.pool.result.now.runs = told (topic_at H c.args.topic) id (pool_of H) c.pool.result.now.runs doc.at c.pool.ensures.runs in
    let found = c.holders-runs.result.now in
    let is = found-are H c.args.topic id d c.args.doc c.pool.result.now.runs found c.holders_by_numbers.ensures doc pool_is c.holders-runs.ensures in
    let there : 0 < length found = search rules in
    c.are_of.ensures
    ∙ ap (λ t. t && list_all (λ (run : RunId). bytes_eq (group_of H run.0) group) found) (sym (some-there found there))
    ∙ sym (own-is H group id d found is)
