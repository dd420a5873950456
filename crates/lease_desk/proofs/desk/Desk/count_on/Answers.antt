use Rattle.std.proofs.Common.{◌∙◌, ◌&&◌, Bool, ap, sym, subst, arith, count_by}
use Rattle.std.specs.Option.{option_map}
use Rattle.lease_desk.specs.Series.{LeadEarlier, up_to, document_of, is_asked, same_document}
use Rattle.lease_desk.specs.DeskView.{DeskView}
use Rattle.lease_desk.specs.Leases.{is_lease_live}
use Rattle.lease_desk.specs.declared.leases.Lease.{Lease}
use Rattle.lease_desk.proofs.DeskSteps.{documents_same, series_read, lead_earlier, newest_within}
use Rattle.lease_desk.proofs.desk.Desk.count_on.Goals as goal

pub count_live-requires-clause-within : goal.count_live-requires-clause-within
count_live-requires-clause-within c =
    let upper = ap up_to (c.copied-newest.ensures ∙ c.get.ensures.value) in
    let long = c.as_slice.ensures.len in
    let within = newest_within _ _ _ _ _ c.self.invariant.by_document (c.args.topic, c.args.doc.0) in
    omega (arith, upper, long, within)

pub count_live-requires-clause-back : goal.count_live-requires-clause-back
count_live-requires-clause-back c = subst LeadEarlier (sym c.as_slice-links.ensures.value) (lead_earlier _ _ _ _ _ c.self.invariant.by_document documents_same)

pub returns : goal.returns
returns c =
    let leases = c.as_slice.result.now in
    let passes : Lease → Bool = λ lease. same_document (c.args.topic, c.args.doc.0) (document_of lease) in
    let series =
    series_read _ _ _ _ _ c.self.invariant.by_document (c.args.topic, c.args.doc.0) leases c.as_slice-links.result.now
    c.copied-newest.result c.as_slice.ensures.value c.as_slice-links.ensures.value (c.copied-newest.ensures ∙ c.get.ensures.value) in
    c.count_live.ensures passes series
    ∙ ap (λ leases. count_by (λ lease. passes lease && is_asked (option_map (λ name. name.now) c.args.assessor) lease && is_lease_live lease c.args.now) leases)
    (c.as_slice.ensures.value ∙ ap (λ (view : DeskView). view.leases) c.self.view_is)
