use Rattle.std.proofs.Common.{◌≡◌, ◌<◌, ◌≤◌, ◌∙◌, ℕ, Bool, List, [], Option, Some, true, ap, arith, get_or, length, sym, take, take_all}
use Rattle.std.proofs.lemmas.List.{get_or-map, length-map}
use Rattle.std.proofs.lemmas.Option.{slice_get-get_or}
use Rattle.decimal_rank.specs.declared.naming.DocId.{DocId}
use Rattle.decimal_rank.proofs.Lists.{slice-there, all_at}
use Rattle.rulebook.specs.Campaign.{level}
use Rattle.rulebook.specs.Judgements.Grades.{effective, labelled_documents}
use Rattle.rulebook.specs.Requests.Limits.{max_entries}
use Rattle.rulebook.specs.Words.{Text, contains_text}
use Rattle.campaign_core.specs.Views.LentTopics.{topic_at}
use Rattle.campaign_core.specs.Numbering.Numbers.{are_named, doc_in, docs_in, names_of}
use Rattle.campaign_core.specs.Assessments.Topics.{topic_ids}
use Rattle.leave_out.specs.ReducedJudgements.{IsDocAt, reduced_in, with_doc}
use Rattle.leave_out.specs.declared.reduced_judgements.ReducedJudgements.{ReducedJudgements}
use Rattle.leave_out.proofs.Agreements.AgreedTopics.{labelled-few}
use Rattle.leave_out.proofs.Agreements.LabelledNames.{labelled-named}
use Rattle.leave_out.proofs.Elements.{told}
use Rattle.leave_out.proofs.Reductions.ReducedDocs.{reduced-few, reduced-more}
use Rattle.leave_out.proofs.reduced_judgements.reduced_on.Goals as goal

abbrev no_doc : DocId
no_doc = record { 0 = 0 }

pub loop-doc-preserved : goal.loop-doc-preserved
loop-doc-preserved c =
    let H = c.args.state.now.history in
    let group = c.args.group.now in
    let names = names_of H in
    let o = topic_at H c.args.topic in
    let docs = c.labelled-docs.result.now in
    let i = c.loop-doc.doc-index in
    let id : Text = get_or (topic_ids H) c.args.topic [] in
    let at : o ≡ Some id = slice_get-get_or (topic_ids H) c.args.topic [] c.requires in
    let listed : List Text = labelled_documents H id in
    let d : Text = get_or listed i [] in
    let docs_are : docs_in names listed ≡ docs = sym (c.labelled-docs.ensures id at) in
    let within : i < length listed = omega (arith, c.loop-doc-test.true, ap (λ (ds : List DocId). length ds) docs_are, length-map listed (doc_in names)) in
    let all_named : are_named names listed ≡ true =
    labelled-named H c.board-board.result.now c.labelled_are_listed.ensures c.board-board.ensures.board c.args.topic id at in
    let doc_is : get_or docs i no_doc ≡ doc_in names d =
    ap (λ (ds : List DocId). get_or ds i no_doc) (sym docs_are) ∙ get_or-map (doc_in names) listed i [] no_doc within in
    let there : IsDocAt H c.args.topic id d (get_or docs i no_doc) =
    record { at = at; named = all_at (contains_text names) listed i [] within all_named; number_is = doc_is } in
    let level_is : level H id ≡ c.level-level.result = told o id (level H) c.level-level.result at c.level-level.ensures in
    let so_far : ReducedJudgements = reduced_in H group id (take i listed) in
    c.with_doc-judgements.ensures
    ∙ ap (λ (l : ReducedJudgements). with_doc c.level-level.result c.effective_grade-grade.result c.is_own-owned.result l) c.loop-doc.invariant
    ∙ ap (λ l. with_doc l c.effective_grade-grade.result c.is_own-owned.result so_far) (sym level_is)
    ∙ ap (λ (g : Option ℕ). with_doc (level H id) g c.is_own-owned.result so_far) (c.effective_grade-grade.ensures id d there)
    ∙ ap (λ (t : Bool). with_doc (level H id) (effective H id d) t so_far) (c.is_own-owned.ensures id d there)
    ∙ sym (reduced-more H group id listed i within)

pub returns-clause-judgements : goal.returns-clause-judgements
returns-clause-judgements c = λ topic there.
    let H = c.args.state.now.history in
    let group = c.args.group.now in
    let names = names_of H in
    let o = topic_at H c.args.topic in
    let docs = c.labelled-docs.result.now in
    let id : Text = get_or (topic_ids H) c.args.topic [] in
    let at : o ≡ Some id = slice_get-get_or (topic_ids H) c.args.topic [] c.requires in
    let same : id ≡ topic = (slice-there (topic_ids H) c.args.topic [] topic there).1 in
    let listed : List Text = labelled_documents H id in
    let docs_are : docs_in names listed ≡ docs = sym (c.labelled-docs.ensures id at) in
    let past : length listed ≤ c.loop-doc.doc-index =
    omega (arith, c.loop-doc-test.false, ap (λ (ds : List DocId). length ds) docs_are, length-map listed (doc_in names)) in
    c.loop-doc.invariant
    ∙ ap (reduced_in H group id) (take_all c.loop-doc.doc-index listed past)
    ∙ ap (λ (id : Text). reduced_in H group id (labelled_documents H id)) same

pub returns-clause-few : goal.returns-clause-few
returns-clause-few c =
    let H = c.args.state.now.history in
    let group = c.args.group.now in
    let docs = c.labelled-docs.result.now in
    let id : Text = get_or (topic_ids H) c.args.topic [] in
    let at : topic_at H c.args.topic ≡ Some id = slice_get-get_or (topic_ids H) c.args.topic [] c.requires in
    let listed : List Text = labelled_documents H id in
    let docs_are : docs_in (names_of H) listed ≡ docs = sym (c.labelled-docs.ensures id at) in
    let past : length listed ≤ c.loop-doc.doc-index =
    omega (arith, c.loop-doc-test.false, ap (λ (ds : List DocId). length ds) docs_are, length-map listed (doc_in (names_of H))) in
    let entries : length H ≤ max_entries = c.entries_are_few.ensures H c.entries-entries.ensures.legal in
    let few : length listed ≤ max_entries = omega (arith, labelled-few H id, entries) in
    let all : c.loop-doc.judgements ≡ reduced_in H group id listed =
    c.loop-doc.invariant ∙ ap (reduced_in H group id) (take_all c.loop-doc.doc-index listed past) in
    let counts = reduced-few H group id listed max_entries few in
    record {
      relevant = omega (arith, ap (λ (l : ReducedJudgements). l.relevant) all, counts.0);
      lower = omega (arith, ap (λ (l : ReducedJudgements). l.lower) all, counts.1);
      own = omega (arith, ap (λ (l : ReducedJudgements). l.own) all, counts.2);
    }
