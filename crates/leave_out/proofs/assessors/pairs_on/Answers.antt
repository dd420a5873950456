use Rattle.std.proofs.Common.{◌≡◌, ◌<◌, ◌≤◌, ◌++◌, ◌∙◌, ℕ, List, [], Option, Some, true, ap, arith, get_or, length, sym, take, take_all}
use Rattle.std.specs.List.{cons_option, filter_map}
use Rattle.std.specs.Option.{option_map}
use Rattle.std.proofs.lemmas.List.{get_or-map, length-map}
use Rattle.std.proofs.lemmas.Option.{slice_get-get_or}
use Rattle.decimal_rank.specs.declared.naming.DocId.{DocId}
use Rattle.decimal_rank.proofs.Lists.{all_at}
use Rattle.rulebook.specs.Campaign.{History}
use Rattle.rulebook.specs.Judgements.Grades.{labelled_documents, labels_on}
use Rattle.rulebook.specs.Requests.Limits.{max_entries}
use Rattle.rulebook.specs.Words.{Text, contains_text}
use Rattle.campaign_core.specs.Views.LentTopics.{topic_at}
use Rattle.campaign_core.specs.Numbering.Numbers.{are_named, doc_in, docs_in, names_of}
use Rattle.campaign_core.specs.Assessments.Topics.{topic_ids}
use Rattle.campaign_core.proofs.Lists.Elements.{length-filter_map}
use Rattle.leave_out.specs.Agreement.{pairs_on, two_grades}
use Rattle.leave_out.proofs.Agreements.AgreedTopics.{labelled-few}
use Rattle.leave_out.proofs.Agreements.LabelledNames.{labelled-named}
use Rattle.leave_out.proofs.Elements.{filter_map-more}
use Rattle.leave_out.proofs.assessors.pairs_on.Goals as goal

abbrev no_doc : DocId
no_doc = record { 0 = 0 }

abbrev pair : History → Text → Text → Option (ℕ × ℕ)
pair H id doc = two_grades (labels_on H id doc)

pub loop-doc-preserved : goal.loop-doc-preserved
loop-doc-preserved c =
    let H = c.args.state.now.history in
    let names = names_of H in
    let id : Text = get_or (topic_ids H) c.args.topic [] in
    let at : topic_at H c.args.topic ≡ Some id = slice_get-get_or (topic_ids H) c.args.topic [] c.requires.within in
    let i = c.loop-doc.doc-index in
    let docs = c.labelled-docs.result.now in
    let listed : List Text = labelled_documents H id in
    let d : Text = get_or listed i [] in
    let docs_are : docs_in names listed ≡ docs = sym (c.labelled-docs.ensures id at) in
    let within : i < length listed = omega (arith, c.loop-doc-test.true, ap (λ (ds : List DocId). length ds) docs_are, length-map listed (doc_in names)) in
    let all_named : are_named names listed ≡ true =
    labelled-named H c.board-board.result.now c.labelled_are_listed.ensures c.board-board.ensures.board c.args.topic id at in
    let named : contains_text names d ≡ true = all_at (contains_text names) listed i [] within all_named in
    let doc_is : get_or docs i no_doc ≡ doc_in names d =
    ap (λ (ds : List DocId). get_or ds i no_doc) (sym docs_are) ∙ get_or-map (doc_in names) listed i [] no_doc within in
    let pair_is : c.pair_on.result ≡ pair H id d = c.pair_on.ensures id d at named doc_is in
    c.in_ok-push_some.ensures
    ∙ ap (λ (ps : List (ℕ × ℕ)). ps ++ cons_option c.pair_on.result []) c.loop-doc.invariant
    ∙ ap (λ (o : Option (ℕ × ℕ)). filter_map (pair H id) (take i listed) ++ cons_option o []) pair_is
    ∙ sym (filter_map-more (pair H id) listed i [] within)

pub returns-clause-pairs : goal.returns-clause-pairs
returns-clause-pairs c =
    let H = c.args.state.now.history in
    let names = names_of H in
    let id : Text = get_or (topic_ids H) c.args.topic [] in
    let at : topic_at H c.args.topic ≡ Some id = slice_get-get_or (topic_ids H) c.args.topic [] c.requires.within in
    let docs = c.labelled-docs.result.now in
    let listed : List Text = labelled_documents H id in
    let docs_are : docs_in names listed ≡ docs = sym (c.labelled-docs.ensures id at) in
    let past : length listed ≤ c.loop-doc.doc-index =
    omega (arith, c.loop-doc-test.false, ap (λ (ds : List DocId). length ds) docs_are, length-map listed (doc_in names)) in
    ap (option_map (pairs_on H)) at
    ∙ ap (λ (ps : List (ℕ × ℕ)). let o : Option (List (ℕ × ℕ)) = Some ps in o)
    (sym (c.loop-doc.invariant ∙ ap (filter_map (pair H id)) (take_all c.loop-doc.doc-index listed past)))

pub returns-clause-few : goal.returns-clause-few
returns-clause-few c =
    let H = c.args.state.now.history in
    let id : Text = get_or (topic_ids H) c.args.topic [] in
    let docs = c.labelled-docs.result.now in
    let listed : List Text = labelled_documents H id in
    let i = c.loop-doc.doc-index in
    let at : topic_at H c.args.topic ≡ Some id = slice_get-get_or (topic_ids H) c.args.topic [] c.requires.within in
    let docs_are : docs_in (names_of H) listed ≡ docs = sym (c.labelled-docs.ensures id at) in
    let past : length listed ≤ i =
    omega (arith, c.loop-doc-test.false, ap (λ (ds : List DocId). length ds) docs_are, length-map listed (doc_in (names_of H))) in
    let all = ap (λ (ps : List (ℕ × ℕ)). length ps) (c.loop-doc.invariant ∙ ap (filter_map (pair H id)) (take_all i listed past)) in
    let entries : length H ≤ max_entries = c.entries_are_few.ensures H c.entries-entries.ensures.legal in
    omega (arith, all, length-filter_map (pair H id) listed, labelled-few H id, entries)
