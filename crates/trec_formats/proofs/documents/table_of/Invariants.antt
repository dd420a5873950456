-- The table has the documents of the lines so far, none twice, and the key of the newest topic.
use Rattle.std.proofs.Common.{◌≡◌, take}
use Rattle.decimal_rank.specs.Tables.TextKeys.{text_key}
use Rattle.trec_formats.proofs.RepeatedDocuments.Repeats.{HaveSeen}
use Rattle.trec_formats.proofs.documents.table_of.Given as goal

abbrev pub invariant-loop-i : goal.invariant-loop-i
invariant-loop-i g l = record {
  seen : HaveSeen g.L.DocumentLine.topic_of g.L.DocumentLine.doc_of g.L.DocumentLine.number_of l.keys l.chains (take l.i l.lines);
  key : l.newest_key ≡ text_key l.keys.secret l.newest;
}
