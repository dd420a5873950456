use Rattle.std.proofs.lemmas.Result.{IfOk-weaker}
use Rattle.eval.specs.Findings.{FindsScores, IsRefusal}
use Rattle.eval.proofs.LinesOrFaults.{run_refused, qrels_refused}
use Rattle.eval.proofs.evaluation.evaluate.Goals as goal

pub returns-in-Err-Fault : goal.returns-in-Err-Fault
returns-in-Err-Fault c =
    let fault = c.in-Err-Fault.fault in
    IfOk-weaker c.refusal.result (IsRefusal c.args.run.now fault) (FindsScores c.args.run.now c.args.qrels.now c.args.run_bytes.now c.args.qrels_bytes.now)
    (run_refused c.args.run.now c.args.qrels.now c.args.run_bytes.now c.args.qrels_bytes.now fault
    (rw c.in-Err-Fault.field-0-is at c.in-Err-Fault.ensures.fault)) c.refusal.ensures

pub returns-in-Err-Fault-read_qrel_table : goal.returns-in-Err-Fault-read_qrel_table
returns-in-Err-Fault-read_qrel_table c =
    let fault = c.in-Err-Fault-read_qrel_table.fault in
    IfOk-weaker c.refusal-in-Err-Fault-read_qrel_table.result (IsRefusal c.args.qrels.now fault)
    (FindsScores c.args.run.now c.args.qrels.now c.args.run_bytes.now c.args.qrels_bytes.now)
    (qrels_refused c.args.run.now c.args.qrels.now c.args.run_bytes.now c.args.qrels_bytes.now c.in-Ok.lists.items fault c.in-Ok.ensures.lists
    (rw c.in-Err-Fault-read_qrel_table.field-0-is at c.in-Err-Fault-read_qrel_table.ensures.fault))
    c.refusal-in-Err-Fault-read_qrel_table.ensures
