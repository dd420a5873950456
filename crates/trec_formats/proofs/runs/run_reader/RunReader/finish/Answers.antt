use Rattle.trec_formats.proofs.runs.run_reader.RunReader.finish.Goals as goal

pub returns-clause-short : goal.returns-clause-short
returns-clause-short c = rw (c.in_ok-unpacked.ensures, c.as_slice.ensures.value, c.as_slice-2.ensures.value) c.in_ok-run.ensures.short
