use Rattle.std.proofs.Common.{◌∙◌, ap, map, not, rules}
use Rattle.std.proofs.lemmas.Fn.{filter_same}
use Rattle.assessment.specs.WaitingRuns.{WaitingView, is_run, lists_of, waiting_without}
use Rattle.assessment.specs.declared.waiting.WaitingRun.{WaitingRun}
use Rattle.assessment.proofs.RunChanges.WaitingSteps.{kept-lists}
use Rattle.assessment.proofs.waiting.Waiting.leave.Goals as goal

pub returns : goal.returns
returns c = record {
  runs_are = ap (map lists_of)
      (filter_same _ (λ (one : WaitingRun). not (is_run c.args.run (lists_of one))) _ (λ x b f' called. search rules) _ _ c.retain.ensures.filtered)
      ∙ kept-lists c.args.run c.self.inside.runs.items ∙ ap (λ (v : WaitingView). waiting_without c.args.run v.runs) c.self.view_is;
  same_way = ap (λ (v : WaitingView). v.on_board) c.self.view_is;
}
