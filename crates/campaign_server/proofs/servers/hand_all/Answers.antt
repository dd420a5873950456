use Rattle.std.proofs.Common.{rules, ◌≡◌, [], ◌∷◌, ◌++◌, ap, append_assoc, arith, length, subst, sym, ◌∙◌}
use Rattle.std.specs.Vec.Iter.{into_iter_items}
use Rattle.campaign_server.specs.Doors.{HandsOver}
use Rattle.campaign_server.specs.Crews.Records.{ended_all, ended_of}
use Rattle.campaign_server.proofs.ServerEnds.HandedRecords.{all_more, all_part, hands_more}
use Rattle.campaign_server.proofs.servers.hand_all.Goals as goal

pub loop-records-preserved : goal.loop-records-preserved
loop-records-preserved g c =
    let at = c.loop-records in
    let told = g.R.Door.seen in
    let kept = g.R.Door.kept in
    let one = c.in-Some.records in
    let steps : into_iter_items at.records-iterator ≡ one ∷ into_iter_items c.next.new.self = c.in-Some.ensures.steps.0 in
    let handed : HandsOver (told at.door).told (ended_of kept one.items) (told c.hand_over.new.door).told = search rules in
    let same : (told c.hand_over.new.door).faults ≡ (told at.door).faults = search rules in (
      append_assoc at.yielded (one ∷ []) _ ∙ rw (← steps) at.invariant.0,
      (let was = at.invariant.1 in let gone = c.in-Some.ensures.steps.1 in let short = ap length steps in omega arith),
      subst (λ records. HandsOver (told c.args.door.now).told records (told c.hand_over.new.door).told) (sym (all_more (λ v. v.items) kept at.yielded one))
          (hands_more (told c.args.door.now).told (told at.door).told (told c.hand_over.new.door).told
          (ended_all (λ v. v.items) kept at.yielded) (ended_of kept one.items) at.invariant.2 handed),
      same ∙ at.invariant.3,
    )

pub returns-in_err-hand_over-clause-part : goal.returns-in_err-hand_over-clause-part
returns-in_err-hand_over-clause-part g c =
    let at = c.loop-records in
    let told = g.R.Door.seen in
    let kept = g.R.Door.kept in
    let one = c.in-Some.records in
    let steps : into_iter_items at.records-iterator ≡ one ∷ into_iter_items c.next.new.self = c.in-Some.ensures.steps.0 in
    let all : at.yielded ++ one ∷ into_iter_items c.next.new.self ≡ c.args.all.items =
    rw steps at at.invariant.0 ∙ c.into_iter-records-iterator.ensures.into_iter_gives.0 in
    let (part, rest, split, handed) = c.hand_over.ensures.part in (
      ended_all (λ v. v.items) kept at.yielded ++ part,
      rest ++ ended_all (λ v. v.items) kept (into_iter_items c.next.new.self),
      all_part (λ v. v.items) kept at.yielded (into_iter_items c.next.new.self) c.args.all.items one part rest all split,
      hands_more (told c.args.door.now).told (told at.door).told (told c.hand_over.new.door).told
          (ended_all (λ v. v.items) kept at.yielded) part at.invariant.2 handed,
    )
