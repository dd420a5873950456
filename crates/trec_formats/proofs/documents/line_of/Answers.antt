use Rattle.std.proofs.Common.{◌≡◌, ◌+◌, ◌%◌, ◌^◌, refl}
use Rattle.trec_formats.specs.Documents.{document_key}
use Rattle.trec_formats.proofs.RepeatedDocuments.Repeats.{seen_under}
use Rattle.trec_formats.proofs.documents.line_of.Goals as goal

pub first_found-requires : goal.first_found-requires
first_found-requires g c =
    let line = g.L.DocumentLine in
    let keys = c.args.table.now.keys in
    let keyed : (c.args.topic_key + c.of_docno.result) % 2 ^ 64 ≡ document_key keys c.args.document.topic.now c.args.document.doc.now =
    rw (c.requires.key, c.of_docno.ensures) refl in
    seen_under line.topic_of line.doc_of line.number_of keys c.args.table.now.chains c.args.lines.now
    c.args.document.topic.now c.args.document.doc.now _ c.requires.found keyed
