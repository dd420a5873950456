-- The new records behind the old ones, then counted, then in their place.
use Rattle.std.proofs.Common.{◌+◌, ℕ, List, arith, inl, inr}
use Rattle.disk_model.specs.Disks.{EachMoment}
use Rattle.journal.specs.KeptRecords.{Settled}
use Rattle.journal.specs.Moments.{joined, weaker}
use Rattle.journal.specs.MovedAreas.{GivesOneOf, GivesRecords, IsArea, IsOneImage, IsTurned}
use Rattle.journal.proofs.replacing.moves.move_in.Given.{Over}
use Rattle.journal.proofs.replacing.moves.move_in.Goals.{After-settle, After-turn, In_ok-turn}
use Rattle.journal.proofs.replacing.moves.move_in.Goals as goal

turned : (g : Over) (c : In_ok-turn g) (old all : List (List ℕ)) → Settled (g.D.Disk.seen c.args.disk.now).images c.args.place old → IsArea c.args.area.now all
    → IsOneImage (g.D.Disk.seen c.turn.new.disk).images (IsTurned (c.args.place + 1) all)
turned g c old all settled is_area = c.in_ok-turn.ensures.turned old all (c.in_ok-place_area.ensures.placed old all settled is_area)

first_moments : (g : Over) (c : After-turn g) (old all : List (List ℕ))
    → Settled (g.D.Disk.seen c.args.disk.now).images c.args.place old → IsArea c.args.area.now all
    → EachMoment g.D.Disk.seen c.args.disk.now c.turn.new.disk (GivesOneOf old all)
first_moments g c old all settled is_area =
    joined g.D.Disk.seen c.args.disk.now c.place_area.new.disk c.turn.new.disk (GivesOneOf old all)
    (weaker g.D.Disk.seen c.args.disk.now c.place_area.new.disk (GivesRecords old) (GivesOneOf old all)
    (λ image is. inl is) (c.place_area.ensures.any_moment old settled))
    (c.turn.ensures.any_moment old all (c.in_ok-place_area.ensures.placed old all settled is_area))

moments : (g : Over) (c : After-settle g) (old all : List (List ℕ)) → IsArea c.args.area.now all
    → IsOneImage (g.D.Disk.seen c.turn.new.disk).images (IsTurned (c.args.place + 1) all)
    → EachMoment g.D.Disk.seen c.args.disk.now c.turn.new.disk (GivesOneOf old all)
    → EachMoment g.D.Disk.seen c.args.disk.now c.settle.new.disk (GivesOneOf old all)
moments g c old all is_area turned before =
    joined g.D.Disk.seen c.args.disk.now c.turn.new.disk c.settle.new.disk (GivesOneOf old all) before
    (weaker g.D.Disk.seen c.turn.new.disk c.settle.new.disk (GivesRecords all) (GivesOneOf old all) (λ image is. inr is)
    (c.settle.ensures.any_moment (c.args.place + 1) all turned is_area))

pub turn-requires : goal.turn-requires
turn-requires g c =
    let old = c.requires.settled in
    let all = c.requires.area in
    record { placed = (old.0, all.0, c.in_ok-place_area.ensures.placed old.0 all.0 old.1 all.1) }

pub settle-requires : goal.settle-requires
settle-requires g c =
    let old = c.requires.settled in
    let all = c.requires.area in
    record {
      turned = (
        c.args.place
            + 1,
        all.0,
        turned g (goal.at.settle-requires g c).In_ok-turn old.0 all.0 old.1 all.1,
        all.1,
        omega (arith, c.requires.room),
      );
    }

pub returns-in_err-place_area-clause-any_moment : goal.returns-in_err-place_area-clause-any_moment
returns-in_err-place_area-clause-any_moment g c old all settled is_area =
    weaker g.D.Disk.seen c.args.disk.now c.place_area.new.disk (GivesRecords old) (GivesOneOf old all)
    (λ image is. inl is) (c.place_area.ensures.any_moment old settled)

pub returns-in_err-turn-clause-any_moment : goal.returns-in_err-turn-clause-any_moment
returns-in_err-turn-clause-any_moment g c old all settled is_area =
    first_moments g (goal.at.returns-in_err-turn-clause-any_moment g c).After-turn old all settled is_area

pub returns-in_err-settle-clause-any_moment : goal.returns-in_err-settle-clause-any_moment
returns-in_err-settle-clause-any_moment g c old all settled is_area =
    let now = goal.at.returns-in_err-settle-clause-any_moment g c in
    moments g now.After-settle old all is_area (turned g now.In_ok-turn old all settled is_area) (first_moments g now.After-turn old all settled is_area)

pub returns-clause-moved : goal.returns-clause-moved
returns-clause-moved g c old all settled is_area =
    c.in_ok-settle.ensures.settled (c.args.place + 1) all (turned g (goal.at.returns-clause-moved g c).In_ok-turn old all settled is_area) is_area

pub returns-clause-closed : goal.returns-clause-closed
returns-clause-closed g c old all settled is_area =
    c.in_ok-settle.ensures.closed (c.args.place + 1) all (turned g (goal.at.returns-clause-closed g c).In_ok-turn old all settled is_area) is_area

pub returns-clause-any_moment : goal.returns-clause-any_moment
returns-clause-any_moment g c old all settled is_area =
    let now = goal.at.returns-clause-any_moment g c in
    moments g now.After-settle old all is_area (turned g now.In_ok-turn old all settled is_area) (first_moments g now.After-turn old all settled is_area)
