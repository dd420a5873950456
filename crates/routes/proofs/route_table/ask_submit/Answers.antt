use Rattle.std.proofs.Common.{[]}
use Rattle.routes.proofs.route_table.ask_submit.Goals as goal

pub returns : goal.returns
returns c = c.ask_run.ensures c.args.body.now (c.in_ok-feed.ensures.ok [] c.new-reader.ensures.after)
