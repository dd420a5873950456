use Rattle.std.proofs.Common.{◌≡◌, ◌∙◌, length, map, ap, sym, subst, rules}
use Rattle.std.specs.List.Sorted.{IsPermutation}
use Rattle.std.specs.Ordering.{is_lt}
use Rattle.std.proofs.lemmas.Fn.{always_returns_same}
use Rattle.std.proofs.lemmas.List.{length-map}
use Rattle.qrels_view.specs.declared.grades.Placed.{Placed}
use Rattle.qrels_view.specs.Grades.{graded_of}
use Rattle.qrels_view.specs.Places.{HasFirstPlaces, placed_at}
use Rattle.qrels_view.proofs.Places.{documents_moved, documents_sorted, placed_before, placed_order, still_first}
use Rattle.qrels_view.proofs.SortedDocs.{each_once, sorted_is}
use Rattle.qrels_view.proofs.docno_orders.arranged.Goals as goal

pub returns-clause-each_once : goal.returns-clause-each_once
returns-clause-each_once c =
    let graded = graded_of c.args.grades.now.entries in
    let places = c.follow.new.places.items in
    let sorted = c.sort_by.new.self.items in
    let placed : c.in_ok-placed.placed.items ≡ map (placed_at graded) places = search rules in
    let moved : IsPermutation (map (placed_at graded) places) sorted = subst (λ before. IsPermutation before sorted) placed c.sort_by.ensures.permutation in
    let kept : c.in_ok-places.field-0.items ≡ map (λ (one : Placed). one.place) sorted = search rules in
    subst HasFirstPlaces (sym kept) (still_first graded places sorted c.follow.ensures.each_once moved)

pub returns-clause-placed : goal.returns-clause-placed
returns-clause-placed c =
    let names = c.args.names.now in
    let graded = graded_of c.args.grades.now.entries in
    let places = c.follow.new.places.items in
    let sorted = c.sort_by.new.self.items in
    let placed : c.in_ok-placed.placed.items ≡ map (placed_at graded) places = search rules in
    let moved : IsPermutation (map (placed_at graded) places) sorted = subst (λ before. IsPermutation before sorted) placed c.sort_by.ensures.permutation in
    let counted : c.len-len.result ≡ length c.args.grades.now.entries = search rules in
    let len : length places ≡ length graded = c.in_ok-follow.ensures.len ∙ counted ∙ sym (length-map c.args.grades.now.entries _) in
    let up = c.in_ok-sort_by.ensures.sorted (placed_before names) (placed_order names)
    (always_returns_same _ (λ a r. is_lt r ≡ placed_before names a.0.now a.1.0.now) _ (λ a r f' q. (ap is_lt (search rules), search rules))) in
    sorted_is names graded (map (λ (one : Placed). one.graded) sorted) c.len.ensures.distinct
    (each_once c.args.grades.now.entries c.len-len.ensures.unique) c.requires.docs_named
    (documents_moved graded places sorted len c.follow.ensures.each_once moved) (documents_sorted names sorted up)
