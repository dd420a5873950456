use Rattle.std.proofs.Common.{◌≡◌, ◌∙◌, length, ap}
use Rattle.std.proofs.lemmas.List.Sorted.{length_permutation}
use Rattle.decimal_rank.proofs.Standings.ListPlaces.{place_by_entries, length-entries_in}
use Rattle.decimal_rank.proofs.rankings.Ranking.place_of.Goals as goal

pub returns-clause-place : goal.returns-clause-place
returns-clause-place g c =
    rw (← c.self.view_is)
    (place_by_entries c.self.inside.docs c.self.inside.entries c.args.doc c.place_among.result c.self.invariant.1 c.self.invariant.2
    c.place_among.ensures.found c.place_among.ensures.none)

pub returns-clause-cost : goal.returns-clause-cost
returns-clause-cost g c =
    let docs = c.self.inside.docs in
    let long : length c.self.inside.entries ≡ length c.args.self.now =
    length_permutation _ _ c.self.invariant.2.same ∙ length-entries_in docs ∙ ap length c.self.view_is in
    rw (← long) c.place_among.ensures.cost
