-- The place is told, and the new records are written there.
use Rattle.std.proofs.Common.{◌≡◌, ◌+◌, ℕ, List, ap, length, subst, take}
use Rattle.std.proofs.lemmas.Result.{on_ok_weaker}
use Rattle.disk_model.specs.Disks.{EachMoment, Follows, Torn, written}
use Rattle.journal.specs.DiskSteps.{WithStep}
use Rattle.journal.proofs.Phases.{placed_after, placing_moments}
use Rattle.journal.proofs.replacing.moves.place_area.Goals as goal

pub returns-clause-placed : goal.returns-clause-placed
returns-clause-placed g c =
    let before = (g.D.Disk.seen c.args.disk.now).images in
    let after = (g.D.Disk.seen c.write_both_through.new.disk).images in
    let seven = ap (λ (eight : List ℕ). take 7 eight) c.to_le_bytes-told.ensures in
    on_ok_weaker c.write_both_through.result
    (λ done old all settled is_area. placed_after before after c.args.place all old c.args.area.now is_area c.requires.fits c.requires.room settled
    (subst (λ (told : List ℕ). Follows (λ earlier image. image ≡ written (c.args.place + 1) c.args.area.now (written 9 told earlier)) before after) seven done))
    c.write_both_through.ensures.done

pub returns-clause-any_moment : goal.returns-clause-any_moment
returns-clause-any_moment g c old settled =
    let images = (g.D.Disk.seen c.args.disk.now).images in
    let seven = ap (λ (eight : List ℕ). length (take 7 eight)) c.to_le_bytes-told.ensures in
    placing_moments g.D.Disk.seen c.args.disk.now c.write_both_through.new.disk images c.args.place old old (length c.args.area.now) settled
    (subst (λ (count : ℕ). EachMoment g.D.Disk.seen c.args.disk.now c.write_both_through.new.disk
    (WithStep (Torn (c.args.place + 1) (length c.args.area.now)) (WithStep (Torn 9 count) images)))
    seven c.write_both_through.ensures.any_moment)
