use Rattle.std.proofs.Common.{◌≡◌, ◌∙◌, List, None, Option, ap, map, sym}
use Rattle.std.specs.Option.{option_copied}
use Rattle.decimal_rank.specs.declared.naming.DocId.{DocId}
use Rattle.campaign_core.specs.Numbering.Numbers.{names_of}
use Rattle.campaign_core.specs.Assessments.RunScores.{list_in, run_at}
use Rattle.campaign_core.specs.Assessments.Topics.{topic_ids}
use Rattle.leave_out.specs.Reuse.{reduced_grade}
use Rattle.leave_out.proofs.LiveRuns.RankedDocs.{list-none}
use Rattle.leave_out.proofs.precision.reduced_grades.Goals as goal

pub returns-in-None-clause-grades : goal.returns-in-None-clause-grades
returns-in-None-clause-grades c = λ id one at live.
    let H = c.args.state.now.history in
    let none : ◌≡◌ {A = Option (List DocId)} None (list_in (names_of H) (topic_ids H) (run_at H c.args.run) c.args.topic) =
    sym (ap option_copied c.in-None.is) ∙ c.ranking.ensures in
    c.new.ensures.items ∙ ap (map (reduced_grade H c.args.group.now id)) (sym (list-none H c.args.topic id c.args.run one at live none))
