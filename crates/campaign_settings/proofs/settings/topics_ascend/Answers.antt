use Rattle.std.proofs.Common.{◌≡◌, rules}
use Rattle.std.proofs.lemmas.Fn.{always_returns_same}
use Rattle.rulebook.specs.declared.rules.TopicLevel.{TopicLevel}
use Rattle.campaign_settings.proofs.AscendingNeighbours.{ascending, is_before}
use Rattle.campaign_settings.proofs.settings.topics_ascend.Goals as goal

pub returns : goal.returns
returns c =
    ascending (λ (own : TopicLevel). own.topic) c.args.levels.now c.is_sorted_by.result
    (c.is_sorted_by.ensures.cases (is_before (λ (own : TopicLevel). own.topic))
    (always_returns_same _ (λ a r. r ≡ is_before (λ (own : TopicLevel). own.topic) a.0.now a.1.0.now) _ (λ a r f' q. (search rules, search rules))))
