use Rattle.std.proofs.Common.{refl}
use Rattle.routes.proofs.Requests.AskFeeds.{run_fault}
use Rattle.routes.proofs.route_table.ask_run.Goals as goal

pub returns-in_ok-from_slice-in-Ok : goal.returns-in_ok-from_slice-in-Ok
returns-in_ok-from_slice-in-Ok c = λ body after.
    (c.in-Ok.lists.items, c.in-Ok.ensures.lists body after, rw (c.in_ok-from_slice-in-Ok.ensures.text, c.new.ensures) refl)

pub returns-in-Err : goal.returns-in-Err
returns-in-Err c = λ body after. rw c.fault_of.ensures (run_fault c.args.reader c.in-Err.end c.args.run.now body c.in-Err.ensures.fault after)
