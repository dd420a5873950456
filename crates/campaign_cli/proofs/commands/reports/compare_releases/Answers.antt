-- Both releases are there, or one isn't; or the archive's keeper failed.
use Rattle.std.proofs.Common.{◌∙◌, ap, arith, Err}
use Rattle.campaign_cli.specs.declared.endings.Cause.TheVariants as cause
use Rattle.campaign_cli.specs.Causes.{ending_of, says}
use Rattle.campaign_cli.specs.Ends.ReportEnds.{compared}
use Rattle.campaign_cli.proofs.CommandWays.{not_compared, not_first, not_second, rose_before}
use Rattle.campaign_cli.proofs.commands.reports.compare_releases.Goals as goal

pub returns-in-Ok-None : goal.returns-in-Ok-None
returns-in-Ok-None g c =
    not_first c.args.first.now c.args.second.now (g.K.Keeper.seen c.args.keeper.now)
    (g.K.Keeper.seen c.find.new.self) c.in-Ok-None.ensures.later c.in-Ok-None.ensures.same
    (ending_of c.unknown.result) (rw c.in-Ok-None.field-0-is at c.in-Ok-None.ensures.found) c.unknown.ensures

pub returns-in-Err : goal.returns-in-Err
returns-in-Err g c =
    not_compared c.args.first.now c.args.second.now (g.K.Keeper.seen c.args.keeper.now)
    (g.K.Keeper.seen c.find.new.self) c.in-Err.ensures.later c.in-Err.ensures.same
    c.in-Err.end c.cause_of.result c.cause_of.ensures (λ is. c.in-Err.ensures.failed (ap Err is))

pub returns-in-Ok : goal.returns-in-Ok
returns-in-Ok g c = record {
  way = compared c.in-Ok-Some.kept c.in-Ok-Some-find.other (rw c.in-Ok-Some.field-0-is at c.in-Ok-Some.ensures.found)
      (rw (c.in-Ok-Some-find.field-0-is, c.in-Ok-Some.ensures.same) at c.in-Ok-Some-find.ensures.found);
  told = ap (says cause.Done) c.in-Ok.ensures;
  archive = (omega (arith, c.in-Ok-Some.ensures.later, c.in-Ok-Some-find.ensures.later), c.in-Ok-Some-find.ensures.same ∙ c.in-Ok-Some.ensures.same);
}

pub returns-in-Ok-None-find : goal.returns-in-Ok-None-find
returns-in-Ok-None-find g c =
    not_second c.args.first.now c.args.second.now (g.K.Keeper.seen c.args.keeper.now) (g.K.Keeper.seen c.find-2.new.self)
    (omega (arith, c.in-Ok-Some.ensures.later, c.in-Ok-None-find.ensures.later)) (c.in-Ok-None-find.ensures.same ∙ c.in-Ok-Some.ensures.same)
    (ending_of c.unknown-in-Ok-None-find.result) c.in-Ok-Some.kept (rw c.in-Ok-Some.field-0-is at c.in-Ok-Some.ensures.found)
    (rw (c.in-Ok-None-find.field-0-is, c.in-Ok-Some.ensures.same) at c.in-Ok-None-find.ensures.found) c.unknown-in-Ok-None-find.ensures

pub returns : goal.returns
returns g c =
    not_compared c.args.first.now c.args.second.now (g.K.Keeper.seen c.args.keeper.now) (g.K.Keeper.seen c.find-2.new.self)
    (omega (arith, c.in-Ok-Some.ensures.later, c.in-Err-find.ensures.later)) (c.in-Err-find.ensures.same ∙ c.in-Ok-Some.ensures.same)
    c.in-Err-find.end c.cause_of-in-Err-find.result c.cause_of-in-Err-find.ensures
    (λ failed. rose_before _ _ _ c.in-Ok-Some.ensures.later (c.in-Err-find.ensures.failed (ap Err failed)))
