-- The records behind the header, of which byte 8 tells again, and nothing behind them.
use Rattle.std.proofs.Common.{◌+◌, ◌-◌, ℕ, List, [], length, subst, sym}
use Rattle.disk_model.specs.Disks.{EachMoment}
use Rattle.journal.specs.KeptRecords.{ClosesAt, CutDue, EndsClosed, HoldsRecords, Settled}
use Rattle.journal.specs.Moments.{joined, weaker}
use Rattle.journal.specs.MovedAreas.{GivesRecords, IsArea, IsOneImage, IsTurned}
use Rattle.journal.proofs.Phases.{alone_gives, back_closes, back_due, gate_of_area}
use Rattle.journal.proofs.Steps.{shut_reaches}
use Rattle.journal.proofs.replacing.moves.settle.Given.{Over}
use Rattle.journal.proofs.replacing.moves.settle.Goals.{After-trim, After-turn_back, In_ok-turn_back}
use Rattle.journal.proofs.replacing.moves.settle.Goals as goal

cut_due : (g : Over) (c : In_ok-turn_back g) (place : ℕ) (all : List (List ℕ))
    → IsOneImage (g.D.Disk.seen c.args.disk.now).images (IsTurned place all) → IsArea c.args.area.now all
    → CutDue (g.D.Disk.seen c.turn_back.new.disk).images (16 + length c.args.area.now - 1) all
cut_due g c place all turned is_area =
    subst (λ (gate : ℕ). CutDue (g.D.Disk.seen c.turn_back.new.disk).images gate all) (sym (gate_of_area c.args.area.now all is_area))
    (back_due (g.D.Disk.seen c.turn_back.new.disk).images all
    (c.in_ok-turn_back.ensures.back place all (c.in_ok-put_behind_header.ensures.moved place all turned is_area)))

back_moments : (g : Over) (c : After-turn_back g) (place : ℕ) (all : List (List ℕ))
    → IsOneImage (g.D.Disk.seen c.args.disk.now).images (IsTurned place all) → IsArea c.args.area.now all
    → EachMoment g.D.Disk.seen c.args.disk.now c.turn_back.new.disk (GivesRecords all)
back_moments g c place all turned is_area =
    joined g.D.Disk.seen c.args.disk.now c.put_behind_header.new.disk c.turn_back.new.disk (GivesRecords all)
    (c.put_behind_header.ensures.any_moment place all turned is_area)
    (c.turn_back.ensures.any_moment place all (c.in_ok-put_behind_header.ensures.moved place all turned is_area))

moments : (g : Over) (c : After-trim g) (place : ℕ) (all : List (List ℕ))
    → IsOneImage (g.D.Disk.seen c.args.disk.now).images (IsTurned place all) → IsArea c.args.area.now all
    → CutDue (g.D.Disk.seen c.turn_back.new.disk).images (16 + length c.args.area.now - 1) all
    → EachMoment g.D.Disk.seen c.args.disk.now c.turn_back.new.disk (GivesRecords all)
    → EachMoment g.D.Disk.seen c.args.disk.now c.trim.new.disk (GivesRecords all)
moments g c place all turned is_area due before =
    joined g.D.Disk.seen c.args.disk.now c.turn_back.new.disk c.trim.new.disk (GivesRecords all) before
    (weaker g.D.Disk.seen c.turn_back.new.disk c.trim.new.disk (HoldsRecords all []) (GivesRecords all)
    (alone_gives all) (c.trim.ensures.any_moment all [] due))

pub returns-in_err-turn_back-clause-any_moment : goal.returns-in_err-turn_back-clause-any_moment
returns-in_err-turn_back-clause-any_moment g c place all turned is_area =
    back_moments g (goal.at.returns-in_err-turn_back-clause-any_moment g c).After-turn_back place all turned is_area

pub trim-requires-clause-within : goal.trim-requires-clause-within
trim-requires-clause-within g c =
    let given = c.requires.turned in
    shut_reaches (g.D.Disk.seen c.turn_back.new.disk).images (16 + length c.args.area.now - 1) given.1 _
    (cut_due g (goal.at.trim-requires-clause-within g c).In_ok-turn_back given.0 given.1 given.2 given.3)

pub returns-in_err-trim-clause-any_moment : goal.returns-in_err-trim-clause-any_moment
returns-in_err-trim-clause-any_moment g c place all turned is_area =
    let now = goal.at.returns-in_err-trim-clause-any_moment g c in
    moments g now.After-trim place all turned is_area (cut_due g now.In_ok-turn_back place all turned is_area)
    (back_moments g now.After-turn_back place all turned is_area)

pub returns-clause-settled : goal.returns-clause-settled
returns-clause-settled g c place all turned is_area =
    let now = goal.at.returns-clause-settled g c in
    subst (λ (gate : ℕ). Settled (g.D.Disk.seen c.trim.new.disk).images gate all) (gate_of_area c.args.area.now all is_area)
    (c.in_ok-trim.ensures.done all (cut_due g now.In_ok-turn_back place all turned is_area))

pub returns-clause-closed : goal.returns-clause-closed
returns-clause-closed g c place all turned is_area =
    let back = c.in_ok-turn_back.ensures.back place all (c.in_ok-put_behind_header.ensures.moved place all turned is_area) in
    let gate_is = gate_of_area c.args.area.now all is_area in
    subst (λ (gate : ℕ). EndsClosed (g.D.Disk.seen c.trim.new.disk).images gate) gate_is
    (c.in_ok-trim.ensures.closed (subst (λ (gate : ℕ). ClosesAt (g.D.Disk.seen c.turn_back.new.disk).images gate) (sym gate_is)
    (back_closes (g.D.Disk.seen c.turn_back.new.disk).images all back)))

pub returns-clause-any_moment : goal.returns-clause-any_moment
returns-clause-any_moment g c place all turned is_area =
    let now = goal.at.returns-clause-any_moment g c in
    moments g now.After-trim place all turned is_area (cut_due g now.In_ok-turn_back place all turned is_area)
    (back_moments g now.After-turn_back place all turned is_area)
