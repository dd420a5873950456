use Rattle.std.proofs.Common.{◌≡◌, [], List, subst, sym}
use Rattle.lease_desk.specs.declared.leases.Lease.{Lease}
use Rattle.lease_desk.specs.declared.leases.LeaseEnd.TheVariants.{Graded}
use Rattle.lease_desk.specs.Leases.{with_end}
use Rattle.assessment.specs.Changes.{ChangeHasRoom, IsLeftAtRest, after_change, facts_in, with_waiting_lists}
use Rattle.assessment.specs.TopicsFacts.{after_label, topics_facts}
use Rattle.assessment.specs.declared.change.Change.{Change}
use Rattle.assessment.specs.declared.change.Judgement.TheVariants as mark
use Rattle.assessment.proofs.RunChanges.WaitingChanges.{marked-left, withdrawn-left}
use Rattle.assessment.proofs.effects.make.Goals as goal

pub returns-in-Withdraw-clause-effect : goal.returns-in-Withdraw-clause-effect
returns-in-Withdraw-clause-effect g c =
    let old = c.args.topics.now in
    let desk = c.args.desk.now in
    let waiting = c.args.waiting.now in
    let none : old.board.rooms ≡ [] = subst (λ (change : Change). ChangeHasRoom change old desk waiting) c.in-Withdraw.is c.requires.room in
    subst (λ (change : Change). IsLeftAtRest (after_change change (facts_in old desk.leases waiting)) c.leave.new.self desk.leases c.leave-in-Withdraw.new.self)
    (sym c.in-Withdraw.is)
    (withdrawn-left c.in-Withdraw.run' old c.leave.new.self desk.leases waiting c.leave-in-Withdraw.new.self
    c.leave.ensures c.leave-in-Withdraw.ensures none c.requires.may_come)

pub returns-in-Grade-clause-effect : goal.returns-in-Grade-clause-effect
returns-in-Grade-clause-effect g c =
    let old = c.args.topics.now in
    let desk = c.args.desk.now in
    let waiting = c.args.waiting.now in
    let label = c.in-Grade.label in
    let none : old.board.rooms ≡ [] = (subst (λ (change : Change). ChangeHasRoom change old desk waiting) c.in-Grade.is c.requires.room).1 in
    let later : List Lease = with_end desk.leases c.in-Grade.number Graded in
    subst (λ (change : Change). IsLeftAtRest (after_change change (facts_in old desk.leases waiting)) c.mark.new.self c.end.new.self.leases waiting)
    (sym c.in-Grade.is)
    (subst (λ (leases : List Lease). IsLeftAtRest
    (record { topics = after_label label (with_waiting_lists waiting.runs (topics_facts old)); leases = later; on_board = waiting.on_board })
    c.mark.new.self leases waiting) (sym c.end.ensures.leases)
    (marked-left (mark.Label label) old c.mark.new.self later waiting c.mark.ensures.facts none c.requires.may_come))

pub returns-in-Amend-clause-effect : goal.returns-in-Amend-clause-effect
returns-in-Amend-clause-effect g c =
    let old = c.args.topics.now in
    let desk = c.args.desk.now in
    let waiting = c.args.waiting.now in
    let none : old.board.rooms ≡ [] = (subst (λ (change : Change). ChangeHasRoom change old desk waiting) c.in-Amend.is c.requires.room).1 in
    subst (λ (change : Change). IsLeftAtRest (after_change change (facts_in old desk.leases waiting)) c.mark-in-Amend.new.self desk.leases waiting)
    (sym c.in-Amend.is)
    (marked-left (mark.Label c.in-Amend.label) old c.mark-in-Amend.new.self desk.leases waiting c.mark-in-Amend.ensures.facts none c.requires.may_come)

pub returns-in-Rule-clause-effect : goal.returns-in-Rule-clause-effect
returns-in-Rule-clause-effect g c =
    let old = c.args.topics.now in
    let desk = c.args.desk.now in
    let waiting = c.args.waiting.now in
    let none : old.board.rooms ≡ [] = (subst (λ (change : Change). ChangeHasRoom change old desk waiting) c.in-Rule.is c.requires.room).1 in
    subst (λ (change : Change). IsLeftAtRest (after_change change (facts_in old desk.leases waiting)) c.mark-in-Rule.new.self desk.leases waiting)
    (sym c.in-Rule.is)
    (marked-left (mark.Ruling c.in-Rule.ruling) old c.mark-in-Rule.new.self desk.leases waiting c.mark-in-Rule.ensures.facts none c.requires.may_come)
