-- What the commands on leases come to, by the desk.
use Rattle.std.proofs.Common.{◌≡◌, ◌<◌, ◌≤◌, ◌+◌, ◌-◌, ℕ, suc, zero, Bool, true, false, not, List, [], ◌∷◌, ◌++◌, Option, Some, None, Ok, Err, length, map, slice_get, refl, sym, ap, ◌∙◌, arith, subst, nat_lt, lt-ltb, ltb-true, le-leb, leb-true}
use Rattle.std.specs.Prelude.{if◌then◌else◌, nat_le}
use Rattle.std.specs.List.{list_all}
use Rattle.std.specs.Option.{IsSomeAnd, is_some}
use Rattle.std.specs.Str.{bytes_eq}
use Rattle.std.proofs.lemmas.Bool.{and_parts}
use Rattle.decimal_rank.proofs.Lists.{none_is}
use Rattle.lease_desk.specs.Leases.{desk_lease as desk_lease}
use Rattle.lease_desk.specs.declared.leases.Lease.{Lease as DeskLease}
use Rattle.rulebook.specs.declared.entry.Entry.{Entry}
use Rattle.rulebook.specs.declared.reply.Refusal.{Refusal}
use Rattle.rulebook.specs.declared.reply.Refusal.TheVariants as refusal
use Rattle.rulebook.specs.declared.reply.Reply.TheVariants as reply
use Rattle.rulebook.specs.declared.rules.Caller.{Caller}
use Rattle.rulebook.specs.declared.rules.Phase.{Phase}
use Rattle.rulebook.specs.declared.rules.Phase.TheVariants.{Judging}
use Rattle.rulebook.specs.Answers.{grade_outcome, graded_lease, lease_outcome, lease_refusals, release_outcome, released_lease}
use Rattle.rulebook.specs.Campaign.{History, is_topic, phase, rules_of, title, topics}
use Rattle.rulebook.specs.Judgements.JudgingOrder.{named_document}
use Rattle.rulebook.specs.Judgements.Leases.{Lease, lease_in, lease_numbered, leases, live_leases_of}
use Rattle.rulebook.specs.Requests.Refusals.{Outcome, ◌when◌, unless_missing, is_phase, unless, wrong_phase_unless}
use Rattle.rulebook.specs.Words.{Text, contains_text}
use Rattle.campaign_core.specs.Assessments.DeskLeases.{IsLeased, KnownLease, first_refusal, is_known, lease_known, lease_seen, refusals_of}
use Rattle.campaign_core.specs.Assessments.Topics.{topic_ids}
use Rattle.assessment.specs.Changes.{IsUnended}
use Rattle.campaign_core.proofs.Lists.Elements.{length-filter_map}
use Rattle.campaign_core.proofs.Rulings.AcceptedCommands.{listed-id}
use Rattle.campaign_core.proofs.Rulings.TestOrder.{in-phase, passed, refused}

-- The lease of a number, in the history and at the desk.

abbrev Meets : History → List Text → Option DeskLease → Option Lease → Type 0
Meets H names None None = Unit {0}
Meets H names None (Some l) = ⊥
Meets H names (Some x) None = ⊥
Meets H names (Some x) (Some l) = (lease_seen x ≡ lease_known H names l) × (is_known H names l ≡ true)

meets-at : (H : History) (names : List Text) (desk : List DeskLease) (ls : List Lease) (i : ℕ) → map lease_seen desk ≡ map (lease_known H names) ls
    → list_all (is_known H names) ls ≡ true → Meets H names (slice_get desk i) (slice_get ls i)
meets-at H names [] [] i same all = tt
meets-at H names [] (l ∷ ls) i same all = cc same
meets-at H names (x ∷ desk) [] i same all = cc same
meets-at H names (x ∷ desk) (l ∷ ls) zero same all = (cc same, (and_parts (is_known H names l) (list_all (is_known H names) ls) all).0)
meets-at H names (x ∷ desk) (l ∷ ls) (suc i) same all =
    meets-at H names desk ls i (cc same) (and_parts (is_known H names l) (list_all (is_known H names) ls) all).1

meets : (H : History) (names : List Text) (desk : List DeskLease) (number : ℕ) → IsLeased H names desk
    → Meets H names (desk_lease desk number) (lease_numbered H number)
meets H names desk number leased = step (nat_lt 0 number)
  where
    step : (t : Bool) → Meets H names (if t then slice_get desk (number - 1) else None) (if t then slice_get (leases H) (number - 1) else None)
    step true = meets-at H names desk (leases H) (number - 1) leased.leases_are leased.are_known
    step false = tt

-- the lease of the history that the desk has under a number
pub record Found (H : History) (names : List Text) (x : DeskLease) (number : ℕ) : Type 0 where
  pub lease : Lease
  pub found : lease_numbered H number ≡ Some lease
  pub alike : lease_seen x ≡ lease_known H names lease
  pub doc_named : contains_text names lease.doc ≡ true
  pub listed : contains_text (topic_ids H) lease.topic ≡ true

pub found-lease : (H : History) (names : List Text) (desk : List DeskLease) (number : ℕ) (x : DeskLease)
    → IsLeased H names desk → desk_lease desk number ≡ Some x → Found H names x number
found-lease H names desk number x leased is =
    step (lease_numbered H number) refl (subst (λ o. Meets H names o (lease_numbered H number)) is (meets H names desk number leased))
  where
    step : (o : Option Lease) → lease_numbered H number ≡ o → Meets H names (Some x) o → Found H names x number
    step None found met = absurd met
    step (Some l) found met =
        let parts = and_parts (contains_text names l.doc) (contains_text (topic_ids H) l.topic) met.1 in
        record { lease = l; found = found; alike = met.0; doc_named = parts.0; listed = parts.1 }

no-lease : (H : History) (names : List Text) (desk : List DeskLease) (number : ℕ) → IsLeased H names desk → desk_lease desk number ≡ None
    → lease_numbered H number ≡ None
no-lease H names desk number leased none =
    step (lease_numbered H number) (subst (λ o. Meets H names o (lease_numbered H number)) none (meets H names desk number leased))
  where
    step : (o : Option Lease) → Meets H names None o → o ≡ None
    step None met = refl
    step (Some l) met = absurd met

abbrev refusals_by : KnownLease → Text → ℕ → List (Option Refusal)
refusals_by k caller now =
    (refusal.NotYours when not (bytes_eq k.assessor caller)) ∷ (refusal.Ended when k.ended) ∷ (refusal.Expired k.until when nat_le k.until now) ∷ []

module _ (H : History) (names : List Text) (desk : List DeskLease) (who : Caller) (now number : ℕ) (p : Phase)
    (phase_is : p ≡ phase H) (judging : true ≡ is_phase Judging p) (leased : IsLeased H names desk) where
  same-refusals : (x : DeskLease) (l : Lease) → lease_seen x ≡ lease_known H names l → lease_refusals H who now l ≡ refusals_of x who.name now
  same-refusals x l alike = sym (ap (λ k. refusals_by k who.name now) alike)

  module _ (none : desk_lease desk number ≡ None) where
    on-none : (follows : Lease → Outcome)
        → unless (wrong_phase_unless Judging H ∷ []) (unless_missing (lease_numbered H number) refusal.UnknownLease follows) ≡ Err refusal.UnknownLease
    on-none follows =
        in-phase H p [] (unless_missing (lease_numbered H number) refusal.UnknownLease follows) phase_is judging
        ∙ ap (λ o. unless_missing o refusal.UnknownLease follows) (no-lease H names desk number leased none)

    pub release-unknown : Err refusal.UnknownLease ≡ release_outcome H who now number
    release-unknown = sym (on-none (released_lease H who now))

    pub grade-unknown : (grade : ℕ) → Err refusal.UnknownLease ≡ grade_outcome H who now number grade
    grade-unknown grade = sym (on-none (graded_lease H who now grade))

  module _ (x : DeskLease) (is : desk_lease desk number ≡ Some x) where
    abbrev lease_there : Lease
    lease_there = (found-lease H names desk number x leased is).lease

    on-lease : (more : Lease → List (Option Refusal)) (ruling : Lease → Outcome)
        → unless (wrong_phase_unless Judging H ∷ [])
        (unless_missing (lease_numbered H number) refusal.UnknownLease (λ lease. unless (lease_refusals H who now lease ++ more lease) (ruling lease)))
        ≡ unless (refusals_of x who.name now ++ more lease_there) (ruling lease_there)
    on-lease more ruling =
        let w = found-lease H names desk number x leased is in
        let follows : Lease → Outcome = λ lease. unless (lease_refusals H who now lease ++ more lease) (ruling lease) in
        in-phase H p [] (unless_missing (lease_numbered H number) refusal.UnknownLease follows) phase_is judging
        ∙ ap (λ o. unless_missing o refusal.UnknownLease follows) w.found
        ∙ ap (λ tests. unless (tests ++ more w.lease) (ruling w.lease)) (same-refusals x w.lease w.alike)

    pub release-refused : (r : Refusal) → first_refusal (refusals_of x who.name now) ≡ Some r → Err r ≡ release_outcome H who now number
    release-refused r first = sym (on-lease (λ lease. []) (λ lease. Ok reply.Done) ∙ refused (refusals_of x who.name now) [] r (Ok reply.Done) first)

    pub release-done : first_refusal (refusals_of x who.name now) ≡ None → Ok reply.Done ≡ release_outcome H who now number
    release-done none = sym (on-lease (λ lease. []) (λ lease. Ok reply.Done) ∙ passed (refusals_of x who.name now) [] (Ok reply.Done) none)

    module _ (grade : ℕ) where
      abbrev range_test : List (Option Refusal)
      range_test = (refusal.GradeRange when nat_lt (rules_of H).top_grade grade) ∷ []

      pub grade-refused : (r : Refusal) → first_refusal (refusals_of x who.name now) ≡ Some r → Err r ≡ grade_outcome H who now number grade
      grade-refused r first =
          sym (on-lease (λ lease. range_test) (λ lease. Ok (reply.Graded lease.topic lease.doc grade))
          ∙ refused (refusals_of x who.name now) range_test r (Ok (reply.Graded lease_there.topic lease_there.doc grade)) first)

      grade-rest : first_refusal (refusals_of x who.name now) ≡ None
          → grade_outcome H who now number grade ≡ unless range_test (Ok (reply.Graded lease_there.topic lease_there.doc grade))
      grade-rest none =
          on-lease (λ lease. range_test) (λ lease. Ok (reply.Graded lease.topic lease.doc grade))
          ∙ passed (refusals_of x who.name now) range_test (Ok (reply.Graded lease_there.topic lease_there.doc grade)) none

      range-step : (t : Bool) → nat_lt (rules_of H).top_grade grade ≡ t → (ruling : Outcome)
          → unless range_test ruling ≡ unless ((refusal.GradeRange when t) ∷ []) ruling
      range-step t is ruling = ap (λ t. unless ((refusal.GradeRange when t) ∷ []) ruling) is

      pub grade-outside : first_refusal (refusals_of x who.name now) ≡ None → (rules_of H).top_grade < grade
          → Err refusal.GradeRange ≡ grade_outcome H who now number grade
      grade-outside none above =
          sym (grade-rest none ∙ range-step true (lt-ltb (rules_of H).top_grade grade above) (Ok (reply.Graded lease_there.topic lease_there.doc grade)))

      pub grade-given : first_refusal (refusals_of x who.name now) ≡ None → grade ≤ (rules_of H).top_grade
          → Ok (reply.Graded lease_there.topic lease_there.doc grade) ≡ grade_outcome H who now number grade
      grade-given none within =
          sym (grade-rest none
          ∙ range-step false (not-above (nat_lt (rules_of H).top_grade grade) refl) (Ok (reply.Graded lease_there.topic lease_there.doc grade)))
        where
          not-above : (t : Bool) → nat_lt (rules_of H).top_grade grade ≡ t → t ≡ false
          not-above true above = absurd (omega (arith, within, ltb-true (rules_of H).top_grade grade above))
          not-above false above = refl

-- A lease that nothing refuses has no end.

second-none : (r s : Refusal) (t u : Bool) (tests : List (Option Refusal)) → first_refusal ((r when t) ∷ (s when u) ∷ tests) ≡ None → u ≡ false
second-none r s true u tests is = cc is
second-none r s false true tests is = cc is
second-none r s false false tests is = refl

pub unended : (desk : List DeskLease) (number : ℕ) (x : DeskLease) (caller : Text) (now : ℕ) → desk_lease desk number ≡ Some x
    → first_refusal (refusals_of x caller now) ≡ None → IsUnended number desk
unended desk number x caller now there none =
    subst (λ (o : Option DeskLease). IsSomeAnd o (λ lease. lease.end ≡ None)) (sym there)
    (none_is x.end
    (second-none refusal.NotYours refusal.Ended (not (bytes_eq x.assessor caller)) (is_some x.end)
    ((refusal.Expired x.until when nat_le x.until now) ∷ []) none))

-- What a wish for a document comes to.

module _ (H : History) (who : Caller) (now : ℕ) (topic : Text) (p : Phase) (phase_is : p ≡ phase H) (judging : true ≡ is_phase Judging p) where
  abbrev leased_then : Text → Outcome
  leased_then doc = Ok (reply.Leased (length (leases H) + 1) topic doc (now + (rules_of H).term) (title H topic))

  abbrev many_test : Option Refusal
  many_test = refusal.TooMany (length (live_leases_of H now who.name)) when nat_le (rules_of H).hold (length (live_leases_of H now who.name))

  past-phase : lease_outcome H who now topic ≡ unless ((refusal.UnknownTopic when not (is_topic H topic)) ∷ many_test ∷ [])
      (unless_missing (named_document H now who.name topic) refusal.NothingLeft leased_then)
  past-phase = in-phase H p ((refusal.UnknownTopic when not (is_topic H topic)) ∷ many_test ∷ [])
      (unless_missing (named_document H now who.name topic) refusal.NothingLeft leased_then) phase_is judging

  pub lease-unknown : is_topic H topic ≡ false → Err refusal.UnknownTopic ≡ lease_outcome H who now topic
  lease-unknown unknown =
      sym (past-phase
      ∙ ap (λ t. unless ((refusal.UnknownTopic when not t) ∷ many_test ∷ [])
      (unless_missing (named_document H now who.name topic) refusal.NothingLeft leased_then)) unknown)

  module _ (listed : contains_text (topic_ids H) topic ≡ true) where
    past-topic : lease_outcome H who now topic ≡ unless (many_test ∷ []) (unless_missing (named_document H now who.name topic) refusal.NothingLeft leased_then)
    past-topic =
        past-phase ∙ ap
        (λ t. unless ((refusal.UnknownTopic when not t) ∷ many_test ∷ [])
        (unless_missing (named_document H now who.name topic) refusal.NothingLeft leased_then)) (listed-id (topics H) topic ∙ listed)

    pub lease-many : (live : ℕ) → live ≡ length (live_leases_of H now who.name) → (rules_of H).hold ≤ live
        → Err (refusal.TooMany live) ≡ lease_outcome H who now topic
    lease-many live live_is full =
        let test : nat_le (rules_of H).hold (length (live_leases_of H now who.name)) ≡ true =
        le-leb (rules_of H).hold (length (live_leases_of H now who.name)) (omega (arith, live_is, full)) in
        ap (λ (n : ℕ). let told : Outcome = Err (refusal.TooMany n) in told) live_is
        ∙ sym (past-topic
        ∙ ap (λ t. unless ((refusal.TooMany (length (live_leases_of H now who.name)) when t) ∷ [])
        (unless_missing (named_document H now who.name topic) refusal.NothingLeft leased_then)) test)

    module _ (few : length (live_leases_of H now who.name) < (rules_of H).hold) where
      past-all : lease_outcome H who now topic ≡ unless_missing (named_document H now who.name topic) refusal.NothingLeft leased_then
      past-all =
          past-topic
          ∙ ap (λ t. unless ((refusal.TooMany (length (live_leases_of H now who.name)) when t) ∷ [])
          (unless_missing (named_document H now who.name topic) refusal.NothingLeft leased_then))
          (not-full (nat_le (rules_of H).hold (length (live_leases_of H now who.name))) refl)
        where
          not-full : (t : Bool) → nat_le (rules_of H).hold (length (live_leases_of H now who.name)) ≡ t → t ≡ false
          not-full true full = absurd (omega (arith, few, leb-true (rules_of H).hold (length (live_leases_of H now who.name)) full))
          not-full false full = refl

      pub lease-nothing : named_document H now who.name topic ≡ None → Err refusal.NothingLeft ≡ lease_outcome H who now topic
      lease-nothing none = sym (past-all ∙ ap (λ o. unless_missing o refusal.NothingLeft leased_then) none)

      pub lease-granted : (doc : Text) → named_document H now who.name topic ≡ Some doc
          → Ok (reply.Leased (length (leases H) + 1) topic doc (now + (rules_of H).term) (title H topic)) ≡ lease_outcome H who now topic
      lease-granted doc is = sym (past-all ∙ ap (λ o. unless_missing o refusal.NothingLeft leased_then) is)

-- Numbers that fit.

-- no more leases than entries
pub few-leases : (H : History) → length (leases H) ≤ length H
few-leases H = length-filter_map (λ (e : Entry). lease_in e.core.caller.name e.reply) H
