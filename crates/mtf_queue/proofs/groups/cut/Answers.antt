use Rattle.std.proofs.Common.{◌<◌, ◌*◌, ap, length, map, subst, sym, ◌∙◌}
use Rattle.std.specs.List.{All}
use Rattle.mtf_queue.specs.Groups.{member_run}
use Rattle.mtf_queue.proofs.GroupOrder.{grouped_cut, runs_halved}
use Rattle.mtf_queue.proofs.GroupNumbers.{halves_few}
use Rattle.mtf_queue.proofs.groups.cut.Goals as goal

pub number-requires-clause-within : goal.number-requires-clause-within
number-requires-clause-within c =
    subst (λ halves. All (λ member. member.group < 2 * length halves) halves) (sym c.halve.ensures.halves)
    (halves_few c.args.holders.now c.args.relevant c.args.members.now.items c.requires.few)

pub returns-clause-runs : goal.returns-clause-runs
returns-clause-runs c =
    c.number.ensures.runs ∙ ap (map member_run) c.halve.ensures.halves ∙ runs_halved c.args.holders.now c.args.relevant c.args.members.now.items

pub returns-clause-grouped : goal.returns-clause-grouped
returns-clause-grouped c = λ held docs doc same was.
    grouped_cut held docs doc c.args.relevant c.args.holders.now same c.args.members.now.items c.halve.new.members.items
    c.number.new.members.items c.halve.ensures.halves c.number.ensures.runs c.number.ensures.alike was
