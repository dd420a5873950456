use Rattle.std.proofs.Common.{◌∙◌, Bool, ap, sym, subst, arith, eqb}
use Rattle.lease_desk.specs.Series.{LeadEarlier, up_to}
use Rattle.lease_desk.specs.DeskView.{DeskView}
use Rattle.lease_desk.specs.Leases.{live_on_topic}
use Rattle.lease_desk.specs.declared.leases.Lease.{Lease}
use Rattle.lease_desk.proofs.CountAnswers.{on_topic}
use Rattle.lease_desk.proofs.DeskSteps.{numbers_same, series_read, lead_earlier, newest_within}
use Rattle.lease_desk.proofs.desk.Desk.live_on_topic.Goals as goal

pub count_live-requires-clause-within : goal.count_live-requires-clause-within
count_live-requires-clause-within c =
    let upper = ap up_to (c.copied-newest.ensures ∙ c.get.ensures.value) in
    let long = c.as_slice.ensures.len in
    let within = newest_within _ _ _ _ _ c.self.invariant.by_topic c.args.topic in
    omega (arith, upper, long, within)

pub count_live-requires-clause-back : goal.count_live-requires-clause-back
count_live-requires-clause-back c = subst LeadEarlier (sym c.as_slice-links.ensures.value) (lead_earlier _ _ _ _ _ c.self.invariant.by_topic numbers_same)

pub returns : goal.returns
returns c =
    let leases = c.as_slice.result.now in
    let passes : Lease → Bool = λ lease. eqb c.args.topic lease.topic in
    let series =
    series_read _ _ _ _ _ c.self.invariant.by_topic c.args.topic leases c.as_slice-links.result.now c.copied-newest.result
    c.as_slice.ensures.value c.as_slice-links.ensures.value (c.copied-newest.ensures ∙ c.get.ensures.value) in
    c.count_live.ensures passes series ∙ on_topic leases c.args.topic c.args.now
    ∙ ap (λ leases. live_on_topic leases c.args.topic c.args.now) (c.as_slice.ensures.value ∙ ap (λ (view : DeskView). view.leases) c.self.view_is)
