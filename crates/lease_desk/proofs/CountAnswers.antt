-- What is counted along a series is what is asked for.
use Rattle.std.proofs.Common.{◌≡◌, ℕ, ◌+◌, Bool, true, false, ◌&&◌, ◌||◌, eqb, nat_lt, List, [], ◌∷◌, Some, None, count_by, refl, sym, ap, ◌∙◌, arith}
use Rattle.std.specs.List.{list_any}
use Rattle.std.proofs.lemmas.Bool.{eq-eqb, lt-ltb}
use Rattle.std.proofs.lemmas.Slice.Eq.{bytes_eq-Decides}
use Rattle.std.proofs.Math.Bool.{and-true, and-false, and_comm}
use Rattle.decimal_rank.specs.Tables.TextKeys.{text_key}
use Rattle.decimal_rank.specs.declared.naming.DocId.{DocId}
use Rattle.decimal_rank.specs.declared.tables.secrets.Secret.{Secret}
use Rattle.decimal_rank.proofs.TruthValues.{eqb_swap}
use Rattle.decimal_rank.proofs.Lists.{count_by-alike}
use Rattle.lease_desk.specs.Series.{document_of, is_asked, same_document}
use Rattle.lease_desk.specs.Leases.{has_live, is_lease_live, is_of_assessor, is_on_document, live_of, live_on, live_on_topic}
use Rattle.lease_desk.specs.declared.leases.Lease.{Lease}
use Rattle.lease_desk.proofs.SeriesCounts.{as_number, count-cons}

-- ---- tests

-- a count over 0 says that some element passes
pub some_counted : {X : Type 0} (p : X → Bool) (xs : List X) → nat_lt 0 (count_by p xs) ≡ list_any p xs
some_counted p [] = refl
some_counted p (x ∷ xs) = ap (nat_lt 0) (count-cons p x xs) ∙ step (p x) (some_counted p xs)
  where
    step : (t : Bool) → nat_lt 0 (count_by p xs) ≡ list_any p xs → nat_lt 0 (as_number t + count_by p xs) ≡ (t || list_any p xs)
    step true rest = lt-ltb 0 (1 + count_by p xs) (omega arith)
    step false rest = let none : 0 + count_by p xs ≡ count_by p xs = omega arith in ap (nat_lt 0) none ∙ rest

-- ---- what is asked for

pub on_topic : (leases : List Lease) (topic now : ℕ)
    → count_by (λ lease. eqb topic lease.topic && is_asked None lease && is_lease_live lease now) leases ≡ live_on_topic leases topic now
on_topic leases topic now =
    count_by-alike _ _ leases (λ lease. ap (λ t. t && is_lease_live lease now) (and-true (eqb topic lease.topic) ∙ eqb_swap topic lease.topic))

document_alike : (topic : ℕ) (doc : DocId) (lease : Lease) → same_document (topic, doc.0) (document_of lease) ≡ is_on_document topic doc lease
document_alike topic doc lease =
    ap (λ t. t && eqb doc.0 lease.doc.0) (eqb_swap topic lease.topic) ∙ ap (λ t. eqb lease.topic topic && t) (eqb_swap doc.0 lease.doc.0)

pub on_document : (leases : List Lease) (topic : ℕ) (doc : DocId) (now : ℕ)
    → count_by (λ lease. same_document (topic, doc.0) (document_of lease) && is_asked None lease && is_lease_live lease now) leases
    ≡ live_on leases topic doc now
on_document leases topic doc now =
    count_by-alike _ _ leases
    (λ lease. ap (λ t. t && is_lease_live lease now) (and-true (same_document (topic, doc.0) (document_of lease)) ∙ document_alike topic doc lease))

pub of_assessor : (secret : Secret) (leases : List Lease) (assessor : List ℕ) (now : ℕ)
    → count_by (λ lease. eqb (text_key secret assessor) (text_key secret lease.assessor) && is_asked (Some assessor) lease && is_lease_live lease now) leases
    ≡ live_of leases assessor now
of_assessor secret leases assessor now =
    count_by-alike _ _ leases (λ lease. ap (λ t. t && is_lease_live lease now) (step lease (is_of_assessor assessor lease) refl))
  where
    step : (lease : Lease) (t : Bool) → is_of_assessor assessor lease ≡ t
        → (eqb (text_key secret assessor) (text_key secret lease.assessor) && is_of_assessor assessor lease) ≡ is_of_assessor assessor lease
    step lease true e =
        let same : lease.assessor ≡ assessor = (bytes_eq-Decides lease.assessor assessor).0 e in
        ap (λ t. t && is_of_assessor assessor lease) (eq-eqb _ _ (ap (text_key secret) (sym same)))
    step lease false e = ap (λ t. eqb (text_key secret assessor) (text_key secret lease.assessor) && t) e
        ∙ and-false (eqb (text_key secret assessor) (text_key secret lease.assessor)) ∙ sym e

pub has_one : (leases : List Lease) (assessor : List ℕ) (topic : ℕ) (doc : DocId) (now : ℕ)
    → nat_lt 0 (count_by (λ lease. same_document (topic, doc.0) (document_of lease) && is_asked (Some assessor) lease && is_lease_live lease now) leases)
    ≡ has_live leases assessor topic doc now
has_one leases assessor topic doc now =
    let asked : Lease → Bool = λ lease. is_of_assessor assessor lease && is_on_document topic doc lease && is_lease_live lease now in
    ap (nat_lt 0)
    (count_by-alike _ asked leases
    (λ lease. ap (λ t. t && is_lease_live lease now)
    (ap (λ t. t && is_of_assessor assessor lease) (document_alike topic doc lease)
    ∙ and_comm (is_on_document topic doc lease) (is_of_assessor assessor lease))))
    ∙ some_counted asked leases
