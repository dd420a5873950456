use Rattle.std.proofs.Common.{◌≡◌, ◌^◌, ◌&&◌, ◌∙◌, ap, le-leb, subst}
use Rattle.rulebook.specs.declared.systems.System.{System}
use Rattle.rulebook.specs.Reports.Systems.{is_mean}
use Rattle.rulebook.specs.Words.{Text}
use Rattle.campaign_core.specs.Views.Groups.{group_of}
use Rattle.campaign_core.specs.Assessments.Topics.{topic_ids}
use Rattle.leave_out.specs.ReducedJudgements.{sums_in}
use Rattle.leave_out.specs.declared.reusability.Sums.{Sums}
use Rattle.leave_out.proofs.Reductions.ReducedTopics.{mean-is}
use Rattle.leave_out.proofs.reusability.row_of.Goals as goal

pub returns-clause-reused : goal.returns-clause-reused
returns-clause-reused c = λ one live system_is.
    let H = c.args.state.now.history in
    let group : Text = group_of H one.0 in
    let sums = c.in_ok-sums.sums in
    let group_is : c.args.judgements.now.group ≡ group = c.requires.group ∙ ap (λ (s : System). s.group) system_is in
    let sums_are : sums ≡ sums_in H group one.1 (topic_ids H) =
    subst (λ (group : Text). sums ≡ sums_in H group one.1 (topic_ids H)) group_is (c.in_ok-sums.ensures.sums one live) in
    let name_is = c.in_ok-name.ensures.copy ∙ ap (λ (s : System). s.run) system_is in
    let own_is = ap (λ (s : Sums). s.own) sums_are in
    let full_is = ap (λ (s : System). s.summary.map) system_is in
    let mean_is = c.mean_of.ensures.value ∙ mean-is H group one.1 sums sums_are in
    λ k. record { run = name_is k; unique = own_is k; full = full_is k; reduced = mean_is k }

pub sums_of-requires-clause-live : goal.sums_of-requires-clause-live
sums_of-requires-clause-live c = (c.requires.live.0, c.requires.live.1)

pub returns-clause-means : goal.returns-clause-means
returns-clause-means c = ap (λ t. t && is_mean c.mean_of.result) c.requires.mean ∙ le-leb c.mean_of.result (10 ^ 15) c.mean_of.ensures.mean
