use Rattle.std.proofs.Common.{ℕ, ◌-◌, ◌∙◌, ap, arith, sym, subst, eqb, List, Option}
use Rattle.std.proofs.Math.ListN.{set}
use Rattle.std.specs.Option.{IsSomeAnd}
use Rattle.indexmap.specs.IndexMap.{get}
use Rattle.lease_desk.specs.Series.{same_document}
use Rattle.lease_desk.specs.DeskView.{DeskView, IsKept}
use Rattle.lease_desk.specs.Leases.{desk_lease, ended_lease, with_end}
use Rattle.lease_desk.specs.declared.leases.Lease.{Lease}
use Rattle.lease_desk.proofs.DeskSteps.{documents_same, kept_end, lead_earlier, numbers_same}
use Rattle.lease_desk.proofs.Numbers.{end_is, there}
use Rattle.lease_desk.proofs.desk.Desk.end.Goals as goal

pub leave_out-requires-clause-back : goal.leave_out-requires-clause-back
leave_out-requires-clause-back c = lead_earlier _ _ _ _ _ c.self.invariant.by_assessor numbers_same

pub leave_out-requires-2-clause-within : goal.leave_out-requires-2-clause-within
leave_out-requires-2-clause-within c =
    let is_there =
    there c.self.inside.leases.items c.args.number _
    (subst (λ (view : DeskView). IsSomeAnd (desk_lease view.leases c.args.number) _) (sym c.self.view_is) c.requires) in
    let within = is_there.1 in
    let long = c.self.invariant.by_document.as_many in
    omega (arith, within, long)

pub leave_out-requires-2-clause-back : goal.leave_out-requires-2-clause-back
leave_out-requires-2-clause-back c = lead_earlier _ _ _ _ _ c.self.invariant.by_document documents_same

pub leave_out-requires-3-clause-within : goal.leave_out-requires-3-clause-within
leave_out-requires-3-clause-within c =
    let is_there =
    there c.self.inside.leases.items c.args.number _
    (subst (λ (view : DeskView). IsSomeAnd (desk_lease view.leases c.args.number) _) (sym c.self.view_is) c.requires) in
    let within = is_there.1 in
    let long = c.self.invariant.by_topic.as_many in
    omega (arith, within, long)

pub leave_out-requires-3-clause-back : goal.leave_out-requires-3-clause-back
leave_out-requires-3-clause-back c = lead_earlier _ _ _ _ _ c.self.invariant.by_topic numbers_same

pub invariant_of-self : goal.invariant_of-self
invariant_of-self c =
    let inside = c.self.inside in
    let leases = inside.leases.items in
    let is_there =
    there leases c.args.number _ (subst (λ (view : DeskView). IsSomeAnd (desk_lease view.leases c.args.number) _) (sym c.self.view_is) c.requires) in
    let lease = c.index_mut.result.now in
    let is = end_is leases c.args.number c.args.how lease c.self.invariant.numbered is_there.0 is_there.1 c.index_mut.ensures.value in
    let after : List Lease = set leases (c.args.number - 1) (ended_lease c.args.how lease) in
    let kept = kept_end inside.secret leases _ _ _ _ _ _ c.self.invariant c.args.number c.args.how c.leave_out.new.self.links.items
    c.leave_out-2.new.self.links.items c.leave_out-3.new.self.links.items
    is_there.0 is_there.1 c.leave_out.ensures.links c.leave_out-2.ensures.links c.leave_out-3.ensures.links in
    let kept_by : List Lease → (ℕ → Option ℕ) → (ℕ × ℕ → Option ℕ) → (ℕ → Option ℕ) → Type 0
    = λ after. IsKept inside.secret after c.leave_out.new.self.links.items c.leave_out-2.new.self.links.items c.leave_out-3.new.self.links.items in
    subst (λ m. kept_by after (get eqb m) (get same_document c.leave_out-2.new.self.newest) (get eqb c.leave_out-3.new.self.newest))
    (sym c.leave_out.ensures.newest)
    (subst (λ m. kept_by after (get eqb inside.assessors.newest) (get same_document m) (get eqb c.leave_out-3.new.self.newest))
    (sym c.leave_out-2.ensures.newest)
    (subst (λ m. kept_by after (get eqb inside.assessors.newest) (get same_document inside.documents.newest) (get eqb m)) (sym c.leave_out-3.ensures.newest)
    (subst (λ list. kept_by list (get eqb inside.assessors.newest) (get same_document inside.documents.newest) (get eqb inside.topics.newest)) (sym is) kept)))

pub returns-clause-leases : goal.returns-clause-leases
returns-clause-leases c =
    let leases = c.self.inside.leases.items in
    let is_there =
    there leases c.args.number _ (subst (λ (view : DeskView). IsSomeAnd (desk_lease view.leases c.args.number) _) (sym c.self.view_is) c.requires) in
    end_is leases c.args.number c.args.how c.index_mut.result.now c.self.invariant.numbered is_there.0 is_there.1 c.index_mut.ensures.value
    ∙ ap (λ (view : DeskView). with_end view.leases c.args.number c.args.how) c.self.view_is
