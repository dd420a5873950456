-- The live leases of the desk are those of the history.
use Rattle.std.proofs.Common.{◌≡◌, ◌&&◌, ◌||◌, ◌+◌, ℕ, Bool, true, false, not, cond, List, [], ◌∷◌, Option, None, Some, length, map, filter, refl, sym, ap, ◌∙◌, arith, eq-eqb, is_some, zero-add}
use Rattle.std.specs.Prelude.{◌==◌, nat_lt, is_none}
use Rattle.std.specs.List.{list_all, list_any}
use Rattle.std.specs.Str.{bytes_eq}
use Rattle.std.specs.Cmp.{both_ways}
use Rattle.std.proofs.lemmas.Bool.{eqb-true, and_parts}
use Rattle.std.proofs.lemmas.Slice.Eq.{bytes_eq-Decides}
use Rattle.decimal_rank.proofs.Lists.{count_by-cons}
use Rattle.lease_desk.specs.Leases.{has_live, is_lease_live as is_live_there, is_of_assessor, is_on_document, is_on_topic, live_of, live_on, live_on_topic}
use Rattle.lease_desk.specs.declared.leases.Lease.{Lease as DeskLease}
use Rattle.lease_desk.specs.declared.leases.LeaseEnd.{LeaseEnd}
use Rattle.rulebook.specs.Words.{Text, contains_text}
use Rattle.rulebook.specs.Campaign.{History}
use Rattle.rulebook.specs.Reports.Pages.{live_count}
use Rattle.rulebook.specs.Judgements.Leases.{Lease, has_lease, is_live, leases, live_leases_of, live_leases_on}
use Rattle.campaign_core.specs.Assessments.DeskLeases.{IsLeased, KnownLease, is_known, lease_known, lease_seen, topic_in}
use Rattle.campaign_core.specs.Numbering.Numbers.{doc_in}
use Rattle.campaign_core.specs.Assessments.Topics.{topic_ids}
use Rattle.campaign_core.proofs.Numbers.DocNumbers.{number-exact}

-- names with one number are one
pub same-number : (names : List Text) (a b : Text) → contains_text names a ≡ true → contains_text names b ≡ true
    → ((doc_in names a).0 == (doc_in names b).0) ≡ bytes_eq a b
same-number names a b first second =
    both_ways ((doc_in names a).0 == (doc_in names b).0) (bytes_eq a b)
    (λ e. (bytes_eq-Decides a b).1 (number-exact names a b first second (eqb-true (doc_in names a).0 (doc_in names b).0 e)))
    (λ e. eq-eqb (doc_in names a).0 (doc_in names b).0 (ap (λ (t : Text). (doc_in names t).0) ((bytes_eq-Decides a b).0 e)))

module _ (H : History) (names : List Text) (now : ℕ) where
  -- whether a known lease is live
  abbrev lives : KnownLease → Bool
  lives k = not k.ended && nat_lt now k.until

  lives-there : (l : DeskLease) → is_live_there l now ≡ lives (lease_seen l)
  lives-there l = step l.end
    where
      step : (o : Option LeaseEnd) → (is_none o && nat_lt now l.until) ≡ (not (is_some o) && nat_lt now l.until)
      step None = refl
      step (Some how) = refl

  split-known : (l : Lease) (ls : List Lease) → list_all (is_known H names) (l ∷ ls) ≡ true
      → (contains_text names l.doc ≡ true) × (contains_text (topic_ids H) l.topic ≡ true) × (list_all (is_known H names) ls ≡ true)
  split-known l ls all =
      let parts = and_parts (is_known H names l) (list_all (is_known H names) ls) all in
      let here = and_parts (contains_text names l.doc) (contains_text (topic_ids H) l.topic) parts.0 in
      (here.0, here.1, parts.1)

  -- one more lease, and those of the later ones that are live and pass a test
  module _ (p : Lease → Bool) where
    count-step : (s v : Bool) (n : ℕ) (l : Lease) (rest : List Lease) → p l ≡ s → is_live H now l ≡ v → length (filter p (filter (is_live H now) rest)) ≡ n
        → cond (s && v) 1 0 + n ≡ length (filter p (filter (is_live H now) (l ∷ rest)))
    count-step true true n l rest is lively same = rw (lively, is) (omega (arith, same))
    count-step false true n l rest is lively same = rw (lively, is) (zero-add n ∙ sym same)
    count-step true false n l rest is lively same = rw lively (zero-add n ∙ sym same)
    count-step false false n l rest is lively same = rw lively (zero-add n ∙ sym same)

  module _ (assessor : Text) where
    of-same : (desk : List DeskLease) (ls : List Lease) → map lease_seen desk ≡ map (lease_known H names) ls
        → live_of desk assessor now ≡ length (filter (λ (l : Lease). bytes_eq l.assessor assessor) (filter (is_live H now) ls))
    of-same [] [] same = refl
    of-same [] (l ∷ ls) same = cc same
    of-same (x ∷ desk) [] same = cc same
    of-same (x ∷ desk) (l ∷ ls) same =
        let head : lease_seen x ≡ lease_known H names l = cc same in
        let tail : map lease_seen desk ≡ map (lease_known H names) ls = cc same in
        let test : (is_of_assessor assessor x && is_live_there x now) ≡ (bytes_eq l.assessor assessor && is_live H now l) =
        ap (λ t. is_of_assessor assessor x && t) (lives-there x) ∙ ap (λ (k : KnownLease). bytes_eq k.assessor assessor && lives k) head in
        count_by-cons (λ (x : DeskLease). is_of_assessor assessor x && is_live_there x now) x desk
        ∙ ap (λ t. cond t 1 0 + live_of desk assessor now) test
        ∙ count-step (λ (l : Lease). bytes_eq l.assessor assessor) (bytes_eq l.assessor assessor) (is_live H now l)
        (live_of desk assessor now) l ls refl refl (sym (of-same desk ls tail))

  module _ (topic : Text) (topic_named : contains_text (topic_ids H) topic ≡ true) where
    abbrev on_topic : Lease → Bool
    on_topic l = bytes_eq l.topic topic

    topic-same : (desk : List DeskLease) (ls : List Lease) → map lease_seen desk ≡ map (lease_known H names) ls → list_all (is_known H names) ls ≡ true
        → live_on_topic desk (topic_in (topic_ids H) topic) now ≡ length (filter on_topic (filter (is_live H now) ls))
    topic-same [] [] same all = refl
    topic-same [] (l ∷ ls) same all = cc same
    topic-same (x ∷ desk) [] same all = cc same
    topic-same (x ∷ desk) (l ∷ ls) same all =
        let head : lease_seen x ≡ lease_known H names l = cc same in
        let tail : map lease_seen desk ≡ map (lease_known H names) ls = cc same in
        let parts = split-known l ls all in
        let number = topic_in (topic_ids H) topic in
        let test : (is_on_topic number x && is_live_there x now) ≡ (on_topic l && is_live H now l) =
        ap (λ t. is_on_topic number x && t) (lives-there x)
        ∙ ap (λ (k : KnownLease). (k.topic == number) && lives k) head
        ∙ ap (λ t. t && is_live H now l) (same-number (topic_ids H) l.topic topic parts.1 topic_named) in
        count_by-cons (λ (x : DeskLease). is_on_topic number x && is_live_there x now) x desk
        ∙ ap (λ t. cond t 1 0 + live_on_topic desk number now) test
        ∙ count-step on_topic (on_topic l) (is_live H now l) (live_on_topic desk number now) l ls refl refl (sym (topic-same desk ls tail parts.2))

  module _ (topic doc : Text) (topic_named : contains_text (topic_ids H) topic ≡ true) (doc_named : contains_text names doc ≡ true) where
    abbrev on : Lease → Bool
    on l = bytes_eq l.topic topic && bytes_eq l.doc doc

    abbrev on-known : KnownLease → Bool
    on-known k = (k.topic == topic_in (topic_ids H) topic) && (k.doc.0 == (doc_in names doc).0)

    on-same : (l : Lease) → contains_text names l.doc ≡ true → contains_text (topic_ids H) l.topic ≡ true → on-known (lease_known H names l) ≡ on l
    on-same l named listed =
        ap (λ t. t && ((doc_in names l.doc).0 == (doc_in names doc).0)) (same-number (topic_ids H) l.topic topic listed topic_named)
        ∙ ap (λ t. bytes_eq l.topic topic && t) (same-number names l.doc doc named doc_named)

    abbrev left : List Lease → List Lease
    left ls = filter on (filter (is_live H now) ls)

    on-there : (x : DeskLease) (l : Lease) → lease_seen x ≡ lease_known H names l
        → contains_text names l.doc ≡ true → contains_text (topic_ids H) l.topic ≡ true
        → (is_on_document (topic_in (topic_ids H) topic) (doc_in names doc) x && is_live_there x now) ≡ (on l && is_live H now l)
    on-there x l head named listed =
        ap (λ t. on-known (lease_seen x) && t) (lives-there x) ∙ ap (λ (k : KnownLease). on-known k && lives k) head
        ∙ ap (λ t. t && is_live H now l) (on-same l named listed)

    count-same : (desk : List DeskLease) (ls : List Lease) → map lease_seen desk ≡ map (lease_known H names) ls → list_all (is_known H names) ls ≡ true
        → live_on desk (topic_in (topic_ids H) topic) (doc_in names doc) now ≡ length (left ls)
    count-same [] [] same all = refl
    count-same [] (l ∷ ls) same all = cc same
    count-same (x ∷ desk) [] same all = cc same
    count-same (x ∷ desk) (l ∷ ls) same all =
        let head : lease_seen x ≡ lease_known H names l = cc same in
        let tail : map lease_seen desk ≡ map (lease_known H names) ls = cc same in
        let parts = split-known l ls all in
        count_by-cons (λ (x : DeskLease). is_on_document (topic_in (topic_ids H) topic) (doc_in names doc) x && is_live_there x now) x desk
        ∙ ap (λ t. cond t 1 0 + live_on desk (topic_in (topic_ids H) topic) (doc_in names doc) now) (on-there x l head parts.0 parts.1)
        ∙ count-step on (on l) (is_live H now l) (live_on desk (topic_in (topic_ids H) topic) (doc_in names doc) now) l ls refl refl
        (sym (count-same desk ls tail parts.2))

    module _ (assessor : Text) where
      abbrev of : Lease → Bool
      of l = bytes_eq l.assessor assessor

      has-step : (s o v r : Bool) (l : Lease) (rest : List Lease) → of l ≡ s → on l ≡ o → is_live H now l ≡ v
          → list_any of (left rest) ≡ r → (s && o && v || r) ≡ list_any of (left (l ∷ rest))
      has-step true true true r l rest mine is lively same = rw (lively, is, mine) refl
      has-step false true true r l rest mine is lively same = rw (lively, is, mine) (sym same)
      has-step true false true r l rest mine is lively same = rw (lively, is) (sym same)
      has-step false false true r l rest mine is lively same = rw (lively, is) (sym same)
      has-step true true false r l rest mine is lively same = rw lively (sym same)
      has-step true false false r l rest mine is lively same = rw lively (sym same)
      has-step false o false r l rest mine is lively same = rw lively (sym same)

      and-last : (s o v : Bool) → (s && o && v) ≡ (s && (o && v))
      and-last true o v = refl
      and-last false o v = refl

      has-same : (desk : List DeskLease) (ls : List Lease) → map lease_seen desk ≡ map (lease_known H names) ls → list_all (is_known H names) ls ≡ true
          → has_live desk assessor (topic_in (topic_ids H) topic) (doc_in names doc) now ≡ list_any of (left ls)
      has-same [] [] same all = refl
      has-same [] (l ∷ ls) same all = cc same
      has-same (x ∷ desk) [] same all = cc same
      has-same (x ∷ desk) (l ∷ ls) same all =
          let head : lease_seen x ≡ lease_known H names l = cc same in
          let tail : map lease_seen desk ≡ map (lease_known H names) ls = cc same in
          let parts = split-known l ls all in
          let topic_number = topic_in (topic_ids H) topic in
          let test : (is_of_assessor assessor x && is_on_document topic_number (doc_in names doc) x && is_live_there x now)
          ≡ (of l && on l && is_live H now l) =
          and-last (is_of_assessor assessor x) (is_on_document topic_number (doc_in names doc) x) (is_live_there x now)
          ∙ ap (λ t. is_of_assessor assessor x && t) (on-there x l head parts.0 parts.1)
          ∙ ap (λ (k : KnownLease). bytes_eq k.assessor assessor && (on l && is_live H now l)) head
          ∙ sym (and-last (of l) (on l) (is_live H now l)) in
          ap (λ t. t || has_live desk assessor topic_number (doc_in names doc) now) test
          ∙ has-step (of l) (on l) (is_live H now l) (has_live desk assessor topic_number (doc_in names doc) now) l ls refl refl refl
          (sym (has-same desk ls tail parts.2))

pub live-of-same : (H : History) (names : List Text) (desk : List DeskLease) (now : ℕ) (assessor : Text) → IsLeased H names desk
    → live_of desk assessor now ≡ length (live_leases_of H now assessor)
live-of-same H names desk now assessor leased = of-same H names now assessor desk (leases H) leased.leases_are

pub live-on-same : (H : History) (names : List Text) (desk : List DeskLease) (now : ℕ) (topic doc : Text) → IsLeased H names desk
    → contains_text (topic_ids H) topic ≡ true → contains_text names doc ≡ true
    → live_on desk (topic_in (topic_ids H) topic) (doc_in names doc) now ≡ length (live_leases_on H now topic doc)
live-on-same H names desk now topic doc leased listed named = count-same H names now topic doc listed named desk (leases H) leased.leases_are leased.are_known

pub has-lease-same : (H : History) (names : List Text) (desk : List DeskLease) (now : ℕ) (topic doc assessor : Text)
    → IsLeased H names desk → contains_text (topic_ids H) topic ≡ true → contains_text names doc ≡ true
    → has_live desk assessor (topic_in (topic_ids H) topic) (doc_in names doc) now ≡ has_lease H now topic doc assessor
has-lease-same H names desk now topic doc assessor leased listed named =
    has-same H names now topic doc listed named assessor desk (leases H) leased.leases_are leased.are_known

pub live-on-topic-same : (H : History) (names : List Text) (desk : List DeskLease) (now : ℕ) (topic : Text)
    → IsLeased H names desk → contains_text (topic_ids H) topic ≡ true
    → live_on_topic desk (topic_in (topic_ids H) topic) now ≡ live_count H now topic
live-on-topic-same H names desk now topic leased listed = topic-same H names now topic listed desk (leases H) leased.leases_are leased.are_known
