-- What a desk keeps, through one more lease and through a lease's end.
use Rattle.std.proofs.Common.{◌≡◌, ℕ, ◌+◌, ◌-◌, ◌<◌, ◌≤◌, ◌^◌, Bool, cond, ◌&&◌, eqb, List, Option, Some, length, map, max, refl, sym, ap, subst, ◌∙◌, arith, get_or}
use Rattle.std.proofs.lemmas.Bool.{eq-eqb, eqb-true, and_parts}
use Rattle.std.proofs.lemmas.List.{length-map, length_push}
use Rattle.decimal_rank.specs.Tables.TextKeys.{text_key}
use Rattle.decimal_rank.specs.declared.naming.DocId.{DocId}
use Rattle.decimal_rank.specs.declared.tables.secrets.Secret.{Secret}
use Rattle.lease_desk.specs.Series.{AreInSeries, HasLink, IsSeriesOf, LeadEarlier, LeadPast, document_of, latest_at, same_document, up_to}
use Rattle.lease_desk.specs.DeskView.{IsKept}
use Rattle.lease_desk.specs.Leases.{ended_lease, next_lease, with_end, with_grant}
use Rattle.lease_desk.specs.declared.series.Link.{Link}
use Rattle.lease_desk.specs.declared.leases.Lease.{Lease}
use Rattle.lease_desk.specs.declared.leases.LeaseEnd.{LeaseEnd}
use Rattle.lease_desk.proofs.LastPlaces.{last_place-within}
use Rattle.lease_desk.proofs.SeriesCounts.{some_lease}
use Rattle.lease_desk.proofs.LeaseEnds.{HasEnd, outlasts}
use Rattle.lease_desk.proofs.NextLeases.{IsSame, grows}
use Rattle.lease_desk.proofs.Numbers.{end_ends, end_keeps, end_numbered, end_of, end_stays, granted_numbered}

-- ---- keys

pub numbers_same : IsSame eqb
numbers_same = record { sound = eqb-true; complete = λ a. eq-eqb a a refl }

pub documents_same : IsSame same_document
documents_same = record {
  sound = λ a b e. let both = and_parts (eqb a.0 b.0) (eqb a.1 b.1) e in two a b (eqb-true a.0 b.0 both.0) (eqb-true a.1 b.1 both.1);
  complete = λ a. ap (λ t. t && eqb a.1 a.1) (eq-eqb a.0 a.0 refl) ∙ eq-eqb a.1 a.1 refl;
}
  where
    two : (a b : ℕ × ℕ) → a.0 ≡ b.0 → a.1 ≡ b.1 → a ≡ b
    two a b e f = ap (λ x. (x, a.1)) e ∙ ap (λ y. (b.0, y)) f

module _ {K : Type 0} (same : K → K → Bool) (key_of : Lease → K) (leases : List Lease) (links : List Link)
    (newest : K → Option ℕ) (by_key : AreInSeries same key_of leases links newest) where
  -- the newest lease of a key stands within the list
  pub newest_within : (key : K) → up_to (newest key) ≤ length leases
  newest_within key =
      let upper = ap up_to ((by_key.each key).newest_is) in
      omega (arith, upper, last_place-within (λ lease. same key (key_of lease)) leases)

  pub newest_linked : (key : K) → up_to (newest key) ≤ length links
  newest_linked key = let h = newest_within key in let e = by_key.as_many in omega arith

  -- the series of a key, as it was read
  pub series_read : (key : K) (read_leases : List Lease) (read_links : List Link) (read_newest : Option ℕ)
      → read_leases ≡ leases → read_links ≡ links → read_newest ≡ newest key
      → IsSeriesOf (λ lease. same key (key_of lease)) read_leases read_links read_newest
  series_read key read_leases read_links read_newest leases_are links_are newest_is =
      let passes : Lease → Bool = λ lease. same key (key_of lease) in
      subst (λ xs. IsSeriesOf passes xs read_links read_newest) (sym leases_are)
      (subst (λ ls. IsSeriesOf passes leases ls read_newest) (sym links_are) (subst (IsSeriesOf passes leases links) (sym newest_is) (by_key.each key)))

  -- links lead back
  pub lead_earlier : IsSame same → LeadEarlier links
  lead_earlier laws place link h =
      let within : place < length leases = let e = by_key.as_many in omega arith in
      let key = key_of (get_or leases place some_lease) in
      ((by_key.each key).leads_back place some_lease link within (laws.complete key)).earlier

-- ---- one more lease, and an end

module _ (secret : Secret) (leases : List Lease) (assessor_links document_links topic_links : List Link)
    (assessors : ℕ → Option ℕ) (documents : ℕ × ℕ → Option ℕ) (topics : ℕ → Option ℕ)
    (kept : IsKept secret leases assessor_links document_links topic_links assessors documents topics) where
  pub kept_end : (number : ℕ) (how : LeaseEnd) (after_assessor after_document after_topic : List Link) → 0 < number → number - 1 < length leases
      → LeadPast (number - 1) assessor_links after_assessor → LeadPast (number - 1) document_links after_document
      → LeadPast (number - 1) topic_links after_topic
      → IsKept secret (with_end leases number how) after_assessor after_document after_topic assessors documents topics
  kept_end number how after_assessor after_document after_topic some within assessor document topic =
      let long : length (map (end_of number how) leases) ≡ length leases = length-map leases (end_of number how) in
      let few = kept.few in
      record {
        few = omega arith;
        numbered = end_numbered leases number how kept.numbered;
        by_assessor = outlasts eqb (λ lease. text_key secret lease.assessor) numbers_same leases assessor_links after_assessor assessors
            (number - 1) (end_of number how)
            (has_end (λ lease. text_key secret lease.assessor) (λ lease. refl)) assessor kept.by_assessor;
        by_document = outlasts same_document document_of documents_same leases document_links after_document documents (number - 1) (end_of number how)
            (has_end document_of (λ lease. refl)) document kept.by_document;
        by_topic = outlasts eqb (λ lease. lease.topic) numbers_same leases topic_links after_topic topics (number - 1) (end_of number how)
            (has_end (λ lease. lease.topic) (λ lease. refl)) topic kept.by_topic;
      }
    where
      has_end : {K : Type 0} (key_of : Lease → K) → ((lease : Lease) → key_of (ended_lease how lease) ≡ key_of lease)
          → HasEnd key_of leases (number - 1) (end_of number how)
      has_end key_of keeps = record {
        keeps_key = end_keeps key_of number how keeps;
        keeps_until = end_keeps (λ lease. lease.until) number how (λ lease. refl);
        keeps_end = λ lease e. end_stays number how lease e;
        ends = λ lease. end_ends leases number how lease kept.numbered some within;
      }

  pub kept_grant : (assessor : List ℕ) (topic : ℕ) (doc : DocId) (until : ℕ) (after_assessor after_document after_topic : List Link)
      (told_assessors : ℕ → Option ℕ) (told_documents : ℕ × ℕ → Option ℕ) (told_topics : ℕ → Option ℕ)
      → length leases + 1 < 2 ^ 32
      → HasLink leases assessor_links after_assessor (assessors (text_key secret assessor))
      (max until (latest_at assessor_links (assessors (text_key secret assessor))))
      → HasLink leases document_links after_document (documents (topic, doc.0)) (max until (latest_at document_links (documents (topic, doc.0))))
      → HasLink leases topic_links after_topic (topics topic) (max until (latest_at topic_links (topics topic)))
      → ((key : ℕ) → told_assessors key ≡ cond (eqb (text_key secret assessor) key) (Some (length leases)) (assessors key))
      → ((key : ℕ × ℕ) → told_documents key ≡ cond (same_document (topic, doc.0) key) (Some (length leases)) (documents key))
      → ((key : ℕ) → told_topics key ≡ cond (eqb topic key) (Some (length leases)) (topics key))
      → IsKept secret (with_grant leases assessor topic doc until) after_assessor after_document after_topic told_assessors told_documents told_topics
  kept_grant assessor topic doc until after_assessor after_document after_topic told_assessors told_documents told_topics
      room by_assessor by_document by_topic is_assessor is_document is_topic =
      let new : Lease = next_lease leases assessor topic doc until in
      record {
        few = omega (arith, length_push leases new);
        numbered = granted_numbered leases assessor topic doc until kept.numbered;
        by_assessor = grows eqb (λ lease. text_key secret lease.assessor) numbers_same leases assessor_links after_assessor
            assessors told_assessors new kept.by_assessor by_assessor is_assessor;
        by_document = grows same_document document_of documents_same leases document_links after_document
            documents told_documents new kept.by_document by_document is_document;
        by_topic = grows eqb (λ lease. lease.topic) numbers_same leases topic_links after_topic topics told_topics new kept.by_topic by_topic is_topic;
      }
