use Rattle.std.proofs.Common.{[]}
use Rattle.trec_formats.proofs.RunTexts.RunFeeds.{if_ok_at}
use Rattle.trec_formats.proofs.RunTexts.RunLines.{if_fault_weaker}
use Rattle.trec_formats.proofs.runs.read_lists.Goals as goal

pub returns-clause-lists : goal.returns-clause-lists
returns-clause-lists c =
    if_ok_at c.finish_lists.result (λ lists is. is c.args.bytes.now (c.in_ok-feed.ensures.ok [] c.new-reader.ensures.after)) c.finish_lists.ensures.lists

pub returns-clause-fault : goal.returns-clause-fault
returns-clause-fault c =
    if_fault_weaker c.finish_lists.result (λ fault is. is c.args.bytes.now (c.in_ok-feed.ensures.ok [] c.new-reader.ensures.after)) c.finish_lists.ensures.fault
