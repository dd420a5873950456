use Rattle.std.proofs.Common.{◌≡◌, ◌<◌, ◌≤◌, ◌+◌, ◌++◌, ◌∷◌, ◌∙◌, ℕ, List, [], Option, ap, arith, get_or, length, map, sym, take, take_all}
use Rattle.std.proofs.lemmas.List.{get_or-map, length-map, map_more, length_push}
use Rattle.decimal_rank.specs.declared.naming.DocId.{DocId}
use Rattle.decimal_rank.proofs.Lists.{slice-there, all_at}
use Rattle.rulebook.specs.Words.{Text, contains_text}
use Rattle.campaign_core.specs.Numbering.Numbers.{doc_in, names_of}
use Rattle.leave_out.specs.ReducedJudgements.{IsDocAt}
use Rattle.leave_out.specs.Reuse.{reduced_grade}
use Rattle.leave_out.proofs.precision.listed_grades.Goals as goal

abbrev no_doc : DocId
no_doc = record { 0 = 0 }

pub loop-place-preserved : goal.loop-place-preserved
loop-place-preserved c = record {
  grades = λ id docs at named is.
      let H = c.args.state.now.history in
      let names = names_of H in
      let group = c.args.group.now in
      let i = c.loop-place.place in
      let list = c.args.ranking.now in
      let d : Text = get_or docs i [] in
      let doc = c.doc_at-doc.result in
      let there = slice-there list i no_doc doc c.doc_at-doc.ensures in
      let within : i < length docs = omega (arith, there.0, ap (λ (ds : List DocId). length ds) is, length-map docs (doc_in names)) in
      let doc_is : doc ≡ doc_in names d = sym there.1 ∙ ap (λ (ds : List DocId). get_or ds i no_doc) is ∙ get_or-map (doc_in names) docs i [] no_doc within in
      let here : IsDocAt H c.args.topic id d doc = record { at = at; named = all_at (contains_text names) docs i [] within named; number_is = doc_is } in
      c.in_ok-push.ensures.items
      ∙ ap (λ (gs : List (Option ℕ)). gs ++ c.reduced_grade.result ∷ []) (c.loop-place.invariant.grades id docs at named is)
      ∙ ap (λ (g : Option ℕ). map (reduced_grade H group id) (take i docs) ++ g ∷ []) (c.reduced_grade.ensures id d here)
      ∙ sym (map_more (reduced_grade H group id) docs i [] within);
  few =
      let long = ap (λ (gs : List (Option ℕ)). length gs) c.in_ok-push.ensures.items in
      omega (arith, long, c.loop-place.invariant.few, length_push c.loop-place.grades.items c.reduced_grade.result);
}

pub returns-clause-grades : goal.returns-clause-grades
returns-clause-grades c = λ id docs at named is.
    let H = c.args.state.now.history in
    let i = c.loop-place.place in
    let past : length docs ≤ i =
    omega (arith, c.loop-place-test.false, c.len-len.ensures.len, ap (λ (ds : List DocId). length ds) is, length-map docs (doc_in (names_of H))) in
    c.loop-place.invariant.grades id docs at named is ∙ ap (map (reduced_grade H c.args.group.now id)) (take_all i docs past)
