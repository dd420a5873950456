use Rattle.std.proofs.Common.{◌∙◌, Bool, ap, sym, subst, arith, eqb, count_by, ◌&&◌, Some}
use Rattle.decimal_rank.specs.Tables.TextKeys.{text_key}
use Rattle.lease_desk.specs.Series.{LeadEarlier, up_to, is_asked}
use Rattle.lease_desk.specs.DeskView.{DeskView}
use Rattle.lease_desk.specs.Leases.{is_lease_live, live_of}
use Rattle.lease_desk.specs.declared.leases.Lease.{Lease}
use Rattle.lease_desk.proofs.CountAnswers.{of_assessor}
use Rattle.lease_desk.proofs.DeskSteps.{numbers_same, series_read, lead_earlier, newest_within}
use Rattle.lease_desk.proofs.desk.Desk.live_of.Goals as goal

pub count_live-requires-clause-within : goal.count_live-requires-clause-within
count_live-requires-clause-within c =
    let upper = ap up_to (c.copied-newest.ensures ∙ c.get.ensures.value) in
    let long = c.as_slice.ensures.len in
    let within = newest_within _ _ _ _ _ c.self.invariant.by_assessor c.key_of.result in
    omega (arith, upper, long, within)

pub count_live-requires-clause-back : goal.count_live-requires-clause-back
count_live-requires-clause-back c = subst LeadEarlier (sym c.as_slice-links.ensures.value) (lead_earlier _ _ _ _ _ c.self.invariant.by_assessor numbers_same)

pub returns : goal.returns
returns c =
    let leases = c.as_slice.result.now in
    let passes : Lease → Bool = λ lease. eqb c.key_of.result (text_key c.self.inside.secret lease.assessor) in
    let series =
    series_read _ _ _ _ _ c.self.invariant.by_assessor c.key_of.result leases c.as_slice-links.result.now c.copied-newest.result
    c.as_slice.ensures.value c.as_slice-links.ensures.value (c.copied-newest.ensures ∙ c.get.ensures.value) in
    c.count_live.ensures passes series
    ∙ ap (λ h. count_by
    (λ lease. eqb h (text_key c.self.inside.secret lease.assessor) && is_asked (Some c.args.assessor.now) lease && is_lease_live lease c.args.now) leases)
    c.key_of.ensures
    ∙ of_assessor c.self.inside.secret leases c.args.assessor.now c.args.now
    ∙ ap (λ leases. live_of leases c.args.assessor.now c.args.now) (c.as_slice.ensures.value ∙ ap (λ (view : DeskView). view.leases) c.self.view_is)
