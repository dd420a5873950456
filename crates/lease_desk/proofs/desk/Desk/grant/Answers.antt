use Rattle.std.proofs.Common.{◌≡◌, ◌∙◌, ℕ, ◌+◌, ◌<◌, ◌^◌, List, [], ◌∷◌, ◌++◌, Option, Some, None, cond, eqb, max, ap, sym, subst, length, arith, rules}
use Rattle.indexmap.specs.IndexMap.{get}
use Rattle.decimal_rank.specs.Tables.TextKeys.{text_key}
use Rattle.lease_desk.specs.declared.series.Link.{Link}
use Rattle.lease_desk.specs.declared.leases.Lease.{Lease}
use Rattle.lease_desk.specs.Series.{HasLink, latest_at, same_document}
use Rattle.lease_desk.specs.DeskView.{DeskView, IsKept}
use Rattle.lease_desk.specs.Leases.{with_grant}
use Rattle.lease_desk.proofs.DeskSteps.{documents_same, kept_grant, lead_earlier, newest_linked, numbers_same}
use Rattle.lease_desk.proofs.desk.Desk.grant.Goals as goal

pub add-requires-clause-within : goal.add-requires-clause-within
add-requires-clause-within c = newest_linked _ _ _ _ _ c.self.invariant.by_assessor c.key_of-key.result

pub add-requires-clause-back : goal.add-requires-clause-back
add-requires-clause-back c = lead_earlier _ _ _ _ _ c.self.invariant.by_assessor numbers_same

pub add-requires-2-clause-back : goal.add-requires-2-clause-back
add-requires-2-clause-back c = lead_earlier _ _ _ _ _ c.self.invariant.by_document documents_same

pub add-requires-3-clause-back : goal.add-requires-3-clause-back
add-requires-3-clause-back c = lead_earlier _ _ _ _ _ c.self.invariant.by_topic numbers_same

pub add-requires-2-clause-within : goal.add-requires-2-clause-within
add-requires-2-clause-within c = newest_linked _ _ _ _ _ c.self.invariant.by_document (c.args.topic, c.args.doc.0)

pub add-requires-3-clause-within : goal.add-requires-3-clause-within
add-requires-3-clause-within c = newest_linked _ _ _ _ _ c.self.invariant.by_topic c.args.topic

pub invariant_of-self : goal.invariant_of-self
invariant_of-self c =
    let inside = c.self.inside in
    let leases = inside.leases.items in
    let assessor = c.args.assessor in
    let topic = c.args.topic in
    let doc = c.args.doc in
    let until = c.args.until in
    let hash = c.key_of-key.result in
    let assessors : ℕ → Option ℕ = get eqb inside.assessors.newest in
    let hash_is : hash ≡ text_key inside.secret assessor = c.key_of-key.ensures ∙ ap (text_key inside.secret) c.bytes.ensures in
    let number_is : c.len.result ≡ length leases = search rules in
    let pushed : c.push.new.self.items
    ≡ leases ++ record { number = c.len.result + 1; assessor = assessor; topic = topic; doc = doc; until = until; end = None } ∷ [] = search rules in
    let lease_at : ℕ → Lease = λ n. record { number = n + 1; assessor = assessor; topic = topic; doc = doc; until = until; end = None } in
    let granted_is : c.push.new.self.items ≡ with_grant leases assessor topic doc until = pushed ∙ ap (λ n. leases ++ lease_at n ∷ []) number_is in
    let few : length leases + 1 < 2 ^ 32 = let same = ap (λ (view : DeskView). length view.leases) c.self.view_is in let lt = c.requires.few in omega arith in
    let P : List Lease → Type 0 = λ after. IsKept inside.secret after c.add.new.self.links.items c.add-2.new.self.links.items c.add-3.new.self.links.items
    (get eqb c.add.new.self.newest) (get same_document c.add-2.new.self.newest) (get eqb c.add-3.new.self.newest) in
    let seen : List Lease → Option ℕ → List Link → List Link → Type 0 = λ list newest old new. HasLink list old new newest (max until (latest_at old newest)) in
    let leases_are = c.as_slice-leases.ensures.value in
    subst P (sym granted_is)
    (kept_grant inside.secret leases inside.assessors.links.items inside.documents.links.items inside.topics.links.items assessors
    (get same_document inside.documents.newest) (get eqb inside.topics.newest) c.self.invariant
    assessor topic doc until c.add.new.self.links.items c.add-2.new.self.links.items c.add-3.new.self.links.items
    (get eqb c.add.new.self.newest) (get same_document c.add-2.new.self.newest) (get eqb c.add-3.new.self.newest)
    few
    (subst (λ key. seen leases (assessors key) inside.assessors.links.items c.add.new.self.links.items) hash_is
    (subst (λ list. seen list (assessors hash) inside.assessors.links.items c.add.new.self.links.items) leases_are c.add.ensures.links))
    (subst (λ list. seen list (get same_document inside.documents.newest (topic, doc.0)) inside.documents.links.items c.add-2.new.self.links.items)
    leases_are c.add-2.ensures.links)
    (subst (λ list. seen list (get eqb inside.topics.newest topic) inside.topics.links.items c.add-3.new.self.links.items) leases_are c.add-3.ensures.links)
    (λ key. c.add.ensures.newest.0 key ∙ ap (λ h. cond (eqb h key) (Some (length inside.assessors.links.items)) (assessors key)) hash_is
    ∙ ap (λ n. cond (eqb (text_key inside.secret assessor) key) (Some n) (assessors key)) c.self.invariant.by_assessor.as_many)
    (λ key. c.add-2.ensures.newest.0 key
    ∙ ap (λ n. cond (same_document (topic, doc.0) key) (Some n) (get same_document inside.documents.newest key)) c.self.invariant.by_document.as_many)
    (λ key. c.add-3.ensures.newest.0 key ∙ ap (λ n. cond (eqb topic key) (Some n) (get eqb inside.topics.newest key)) c.self.invariant.by_topic.as_many))
