use Rattle.std.proofs.Common.{◌-◌, ◌∙◌, sym}
use Rattle.std.proofs.lemmas.Slice.Eq.{bytes_eq-Decides}
use Rattle.trec_formats.proofs.RankedLists.NewestPlace.{number_at}
use Rattle.trec_formats.proofs.topic_numbers.topic_number.Goals as goal

pub returns-then-eq : goal.returns-then-eq
returns-then-eq c =
    sym (number_at c.args.topics.now c.name.result.now c.args.topic.now (c.len-count.result - 1) c.len-count.ensures.distinct c.name.ensures
    ((bytes_eq-Decides _ _).0 (sym c.eq.ensures ∙ c.if-eq.true)))
