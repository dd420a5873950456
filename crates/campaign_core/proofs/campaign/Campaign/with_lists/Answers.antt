use Rattle.std.proofs.Common.{map, subst, sym}
use Rattle.assessment.specs.Changes.{Facts}
use Rattle.campaign_core.specs.CampaignStates.{IsAssessmentOf, IsUnjudged}
use Rattle.campaign_core.specs.Assessments.Topics.{labelled_of}
use Rattle.campaign_core.proofs.campaign.Campaign.with_lists.Goals as goal

pub returns-clause-known : goal.returns-clause-known
returns-clause-known c =
    let H = c.args.self.history.items in
    let known = c.requires.known in
    let assessed = known.assessed in
    record {
      legal = known.legal;
      phase_is = known.phase_is;
      moment_fits = known.moment_fits;
      entries_fit = known.entries_fit;
      lines_fit = known.lines_fit;
      docnos_fit = known.docnos_fit;
      runs_fit = known.runs_fit;
      topics_first = known.topics_first;
      submissions_are = known.submissions_are;
      live_are = known.live_are;
      runs_known = known.runs_known;
      lines_are = known.lines_are;
      assessed = subst (IsAssessmentOf H) (sym c.in_ok-with_lists.ensures.facts)
          (record { knows = assessed.knows; few = assessed.few; levels_are = assessed.levels_are; lists_are = assessed.lists_are });
      unjudged = λ collecting. subst (λ (known : Facts). IsUnjudged H (map labelled_of known.topics.topics))
          (sym c.in_ok-with_lists.ensures.facts) (known.unjudged collecting);
    }
