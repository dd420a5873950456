use Rattle.std.proofs.Common.{◌≡◌, ◌+◌, ◌%◌, ◌^◌, ◌∙◌, refl, sym, ap}
use Rattle.std.specs.Option.{option_map}
use Rattle.trec_formats.specs.Documents.{document_key}
use Rattle.trec_formats.proofs.RepeatedDocuments.Repeats.{Names, seen_under, seen_twice, seen_next, seen_all}
use Rattle.trec_formats.proofs.documents.table_of.Goals as goal

pub first_found-requires : goal.first_found-requires
first_found-requires g c =
    let line = g.L.DocumentLine in
    let keyed : (c.topic_key-newest_key.result + c.of_docno.result) % 2 ^ 64 ≡ document_key c.drawn-keys.result c.topic.result.now c.doc.result.now =
    rw (c.topic_key-newest_key.ensures, c.of_docno.ensures) refl in
    seen_under line.topic_of line.doc_of line.number_of c.drawn-keys.result c.loop-i.chains _ c.topic.result.now
    c.doc.result.now _ c.loop-i.invariant.seen.items_are keyed

pub returns-in-Some-clause-fault : goal.returns-in-Some-clause-fault
returns-in-Some-clause-fault g c =
    let line = g.L.DocumentLine in
    let names : Names line.topic_of line.doc_of line.number_of c.index-lines-i.result c.topic.result.now c.doc.result.now =
    record { topic_is = c.topic.ensures; doc_is = c.doc.ensures } in
    rw (c.at.ensures, c.number.ensures, c.number-in-Some.ensures)
    (seen_twice line.topic_of line.doc_of line.number_of c.drawn-keys.result c.loop-i.chains
    c.args.lines.now c.loop-i.i c.index-lines-i.result c.in-Some.first.now
    c.topic.result.now c.doc.result.now c.loop-i-test.true c.index-lines-i.is c.loop-i.invariant.seen names
    (sym c.first_found.ensures ∙ ap (option_map (λ item. item.now)) c.in-Some.is))

pub loop-i-preserved : goal.loop-i-preserved
loop-i-preserved g c =
    let line = g.L.DocumentLine in
    let keyed : (c.topic_key-newest_key.result + c.of_docno.result) % 2 ^ 64 ≡ document_key c.drawn-keys.result c.topic.result.now c.doc.result.now =
    rw (c.topic_key-newest_key.ensures, c.of_docno.ensures) refl in
    let names : Names line.topic_of line.doc_of line.number_of c.index-lines-i.result c.topic.result.now c.doc.result.now =
    record { topic_is = c.topic.ensures; doc_is = c.doc.ensures } in
    record {
      seen = seen_next line.topic_of line.doc_of line.number_of c.drawn-keys.result c.loop-i.chains
          c.push.new.self c.args.lines.now c.loop-i.i c.index-lines-i.result
          c.topic.result.now c.doc.result.now _ c.loop-i-test.true c.index-lines-i.is c.loop-i.invariant.seen names keyed
          (sym c.first_found.ensures ∙ ap (option_map (λ item. item.now)) c.in_default.is) c.in_ok-push.ensures.ok;
      key = c.topic_key-newest_key.ensures;
    }

pub returns-clause-distinct : goal.returns-clause-distinct
returns-clause-distinct g c =
    let line = g.L.DocumentLine in
    (seen_all line.topic_of line.doc_of line.number_of c.drawn-keys.result c.loop-i.chains c.args.lines.now
    c.loop-i.i c.loop-i-test.false c.loop-i.invariant.seen).distinct

pub returns-clause-found : goal.returns-clause-found
returns-clause-found g c =
    let line = g.L.DocumentLine in
    (seen_all line.topic_of line.doc_of line.number_of c.drawn-keys.result c.loop-i.chains c.args.lines.now
    c.loop-i.i c.loop-i-test.false c.loop-i.invariant.seen).items_are
