use Rattle.std.proofs.Common.{List, subst, sym}
use Rattle.decimal_rank.specs.declared.naming.DocId.{DocId}
use Rattle.assessment.specs.Changes.{ChangeHasRoom, HasRunRoom}
use Rattle.assessment.specs.declared.change.Change.{Change}
use Rattle.assessment.proofs.effects.give_back.Goals as goal

pub give_run_room_back-requires : goal.give_run_room_back-requires
give_run_room_back-requires c =
    let all = c.args.topics.now in
    let waiting = c.args.waiting.now in
    let room : HasRunRoom waiting.on_board c.in-Run.lists.items all waiting =
    subst (λ (change : Change). ChangeHasRoom change all c.args.desk.now waiting) c.in-Run.is c.requires in
    subst (λ (lists : List (List DocId)). HasRunRoom waiting.on_board lists all waiting) (sym c.as_slice.ensures.value) room
