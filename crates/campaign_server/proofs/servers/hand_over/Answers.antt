use Rattle.std.proofs.Common.{rules, ◌≡◌, [], ◌∷◌, ◌++◌, ap, append-nil, append_assoc, arith, length, refl, subst, sym, ◌∙◌}
use Rattle.std.specs.Vec.Iter.{into_iter_items}
use Rattle.std.proofs.lemmas.List.{nil_from_length}
use Rattle.campaign_server.specs.Doors.{HandsOver}
use Rattle.campaign_server.specs.Crews.Records.{ended_of}
use Rattle.campaign_server.proofs.ServerEnds.HandedRecords.{hands_more, hands_none, part_of}
use Rattle.campaign_server.proofs.ServerEnds.JoinedWorkers.{ended_more}
use Rattle.campaign_server.proofs.servers.hand_over.Goals as goal

pub loop-record-init : goal.loop-record-init
loop-record-init g c = (refl, search rules, hands_none (g.R.Door.seen c.args.door.now).told, refl)

pub loop-record-preserved : goal.loop-record-preserved
loop-record-preserved g c =
    let at = c.loop-record in
    let told = g.R.Door.seen in
    let kept = g.R.Door.kept in
    let steps : into_iter_items at.record-iterator ≡ (c.in-Some.record, c.in-Some.end) ∷ into_iter_items c.next.new.self = c.in-Some.ensures.steps.0 in (
      append_assoc at.yielded ((c.in-Some.record, c.in-Some.end) ∷ []) _ ∙ rw (← steps) at.invariant.0,
      (let was = at.invariant.1 in let gone = c.in-Some.ensures.steps.1 in let short = ap length steps in omega arith),
      subst (λ records. HandsOver (told c.args.door.now).told records (told c.done.new.self).told)
          (sym (ended_more kept at.yielded c.in-Some.record c.in-Some.end))
          (hands_more (told c.args.door.now).told (told at.door).told (told c.done.new.self).told (ended_of kept at.yielded)
          ((kept c.in-Some.record, c.in-Some.end) ∷ []) at.invariant.2 (search rules)),
      c.in_ok-done.ensures.faults ∙ at.invariant.3,
    )

pub returns-in_err-done-clause-part : goal.returns-in_err-done-clause-part
returns-in_err-done-clause-part g c =
    let at = c.loop-record in
    let told = g.R.Door.seen in
    let same : (told c.done.new.self).told ≡ (told at.door).told = search rules in
    let all : at.yielded ++ into_iter_items at.record-iterator ≡ c.args.records.items =
    at.invariant.0 ∙ c.into_iter-record-iterator.ensures.into_iter_gives.0 in (
      ended_of g.R.Door.kept at.yielded,
      ended_of g.R.Door.kept (into_iter_items at.record-iterator),
      part_of g.R.Door.kept at.yielded (into_iter_items at.record-iterator) c.args.records.items all,
      subst (HandsOver (told c.args.door.now).told (ended_of g.R.Door.kept at.yielded)) (sym same) at.invariant.2,
    )

pub returns-in_err-done-clause-faults : goal.returns-in_err-done-clause-faults
returns-in_err-done-clause-faults g c = let same : (g.R.Door.seen c.done.new.self).faults ≡ (g.R.Door.seen c.loop-record.door).faults = search rules in
    same ∙ c.loop-record.invariant.3

pub returns-clause-all : goal.returns-clause-all
returns-clause-all g c =
    let at = c.loop-record in
    let empty : into_iter_items at.record-iterator ≡ [] = nil_from_length _ (sym at.invariant.1 ∙ c.in-None.ensures.steps.0) in
    let all : at.yielded ≡ c.args.records.items =
    sym (append-nil at.yielded) ∙ rw empty at at.invariant.0 ∙ c.into_iter-record-iterator.ensures.into_iter_gives.0 in
    subst (λ records. HandsOver (g.R.Door.seen c.args.door.now).told (ended_of g.R.Door.kept records) (g.R.Door.seen at.door).told) all at.invariant.2

pub returns-clause-part : goal.returns-clause-part
returns-clause-part g c = (ended_of g.R.Door.kept c.args.records.items, [], sym (append-nil _), returns-clause-all g c)

pub returns-clause-faults : goal.returns-clause-faults
returns-clause-faults g c = c.loop-record.invariant.3
