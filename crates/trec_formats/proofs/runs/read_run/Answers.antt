use Rattle.std.proofs.Common.{[]}
use Rattle.trec_formats.proofs.RunTexts.RunFeeds.{if_ok_at}
use Rattle.trec_formats.proofs.RunTexts.RunLines.{if_fault_weaker}
use Rattle.trec_formats.proofs.runs.read_run.Goals as goal

pub returns-clause-lines : goal.returns-clause-lines
returns-clause-lines c =
    if_ok_at c.finish.result (λ lines is. is c.args.bytes.now (c.in_ok-feed.ensures.ok [] c.new-reader.ensures.after)) c.finish.ensures.lines

pub returns-clause-fault : goal.returns-clause-fault
returns-clause-fault c =
    if_fault_weaker c.finish.result (λ fault is. is c.args.bytes.now (c.in_ok-feed.ensures.ok [] c.new-reader.ensures.after)) c.finish.ensures.fault
