use Rattle.std.proofs.Common.{refl}
use Rattle.trec_formats.proofs.RankedLists.CountIn.{counted}
use Rattle.trec_formats.proofs.runs.topic_counts.count_line.Goals as goal

pub returns-clause-counted : goal.returns-clause-counted
returns-clause-counted c =
    (counted c.args.counts.now c.args.topic.now c.place_of.new.topics c.place_of.new.counts.items c.in_ok-place.place
    (record { topics = c.place_of.new.topics; counts = c.count_more.new.counts }) c.count_more.result c.requires.tally
    c.in_ok-place.ensures.place c.in_ok-place.ensures.sized c.in_ok-place.ensures.same refl c.count_more.ensures).change

pub returns-clause-tally : goal.returns-clause-tally
returns-clause-tally c =
    (counted c.args.counts.now c.args.topic.now c.place_of.new.topics c.place_of.new.counts.items c.in_ok-place.place
    (record { topics = c.place_of.new.topics; counts = c.count_more.new.counts }) c.count_more.result c.requires.tally
    c.in_ok-place.ensures.place c.in_ok-place.ensures.sized c.in_ok-place.ensures.same refl c.count_more.ensures).tally
