use Rattle.trec_formats_tests.proofs.runs_and_qrels.lists_of.Goals as goal

pub rank_run-requires-clause-short : goal.rank_run-requires-clause-short
rank_run-requires-clause-short c = rw c.as_slice.ensures.value c.in_ok-lines.ensures.short
