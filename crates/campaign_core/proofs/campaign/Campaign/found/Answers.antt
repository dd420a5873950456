use Rattle.std.proofs.Common.{rules}
use Rattle.assessment.specs.Changes.{facts}
use Rattle.campaign_core.proofs.Entries.Preparations.ReadyEntries.{founded-assessed, founded-legal, founded-live, founded-runs, founded-submissions, founded-unjudged, is-begun}
use Rattle.campaign_core.proofs.campaign.Campaign.found.Goals as goal

pub returns-clause-known : goal.returns-clause-known
returns-clause-known c = record {
  legal = founded-legal c.push.new.self.items c.args.rules (search rules) c.requires.rules;
  phase_is = search rules;
  moment_fits = search rules;
  entries_fit = search rules;
  lines_fit = search rules;
  docnos_fit = search rules;
  runs_fit = search rules;
  topics_first = search rules;
  submissions_are = founded-submissions c.push.new.self.items c.args.rules _ (search rules) (search rules);
  live_are = founded-live c.push.new.self.items c.args.rules _ (search rules) (search rules);
  runs_known = founded-runs c.push.new.self.items c.args.rules (search rules);
  lines_are = search rules;
  assessed = founded-assessed c.push.new.self.items c.args.rules (facts c.args.assessment) (search rules)
      (is-begun (facts c.args.assessment) c.requires.no_topics c.requires.no_leases);
  unjudged = λ collecting. founded-unjudged c.push.new.self.items c.args.rules (facts c.args.assessment) (search rules)
      (is-begun (facts c.args.assessment) c.requires.no_topics c.requires.no_leases);
}
