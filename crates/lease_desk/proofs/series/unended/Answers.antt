use Rattle.std.proofs.Common.{◌≡◌, Option, Some, None, Bool, false, not, is_none, is_some, length, refl, sym, ap, subst, ◌∙◌, get_or}
use Rattle.lease_desk.specs.Series.{IsSeriesOf, LeadsBack}
use Rattle.lease_desk.specs.declared.leases.LeaseEnd.{LeaseEnd}
use Rattle.lease_desk.proofs.NextLeases.{ended_leads, newest_leads, none_leads}
use Rattle.lease_desk.proofs.series.unended.Goals as goal

-- what is some isn't none
some_ends : (end : Option LeaseEnd) (told : Bool) → told ≡ false → is_some end ≡ not told → is_none end ≡ false
some_ends (Some how) told e is = refl
some_ends None told e is = sym (is ∙ ap not e)

pub returns-in_err-place-clause-back : goal.returns-in_err-place-clause-back
returns-in_err-place-clause-back c = λ passes series.
    subst (LeadsBack passes c.args.leases.now (length c.args.links.now)) (sym c.from_residual.ensures)
    (none_leads passes c.args.leases.now c.args.links.now
    (subst (IsSeriesOf passes c.args.leases.now c.args.links.now) c.in_err-place.was series) c.requires.as_many)

pub returns-then-is_none-clause-back : goal.returns-then-is_none-clause-back
returns-then-is_none-clause-back c = λ passes series.
    newest_leads passes c.args.leases.now c.args.links.now c.in_ok-place.place
    (subst (IsSeriesOf passes c.args.leases.now c.args.links.now) c.in_ok-place.was series) c.requires.as_many

pub returns-clause-back : goal.returns-clause-back
returns-clause-back c = λ passes series.
    let ended = some_ends
    (get_or c.args.leases.now c.in_ok-place.place c.index-leases-place.result).end c.is_none.result c.if-is_none.false c.is_none.ensures in
    ended_leads passes c.args.leases.now c.args.links.now c.in_ok-place.place c.index-leases-place.result _
    (subst (IsSeriesOf passes c.args.leases.now c.args.links.now) c.in_ok-place.was series) c.requires.as_many ended
