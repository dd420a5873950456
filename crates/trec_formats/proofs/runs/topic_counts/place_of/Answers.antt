use Rattle.trec_formats.proofs.RankedLists.CountIn.{count_new}
use Rattle.trec_formats.proofs.runs.topic_counts.place_of.Goals as goal

pub returns-clause-same : goal.returns-clause-same
returns-clause-same c =
    count_new c.args.topics.now c.add.new.self c.args.counts.now.items c.push.new.self.items _
    c.requires.sized c.in_ok-number.ensures.added c.in_ok-push.ensures.items
