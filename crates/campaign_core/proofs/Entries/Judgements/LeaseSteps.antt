-- The leases of a history with one more entry, and those of the desk.
use Rattle.std.proofs.Common.{◌≡◌, ◌<◌, ◌≤◌, ◌+◌, ◌-◌, ℕ, Bool, true, false, List, ◌++◌, ◌∷◌, [], None, Option, Some, length, map, length-append, subst, arith, refl, sym, ap, ◌∙◌}
use Rattle.std.specs.Prelude.{◌==◌, if◌then◌else◌}
use Rattle.std.specs.List.{list_all}
use Rattle.std.specs.Option.{option_or}
use Rattle.std.proofs.lemmas.Bool.{eqb-true, ne_eqb, and_from}
use Rattle.std.proofs.lemmas.List.{length-map, map-append}
use Rattle.std.proofs.lemmas.List.Folds.{list_all-append}
use Rattle.decimal_rank.specs.declared.naming.DocId.{DocId}
use Rattle.decimal_rank.proofs.TruthValues.{eqb_swap}
use Rattle.decimal_rank.proofs.Lists.{none_is}
use Rattle.lease_desk.specs.Leases.{ended_lease, next_lease, with_end, with_grant}
use Rattle.lease_desk.specs.declared.leases.Lease.{Lease as DeskLease}
use Rattle.lease_desk.specs.declared.leases.LeaseEnd.{LeaseEnd}
use Rattle.rulebook.specs.declared.entry.Entry.{Entry}
use Rattle.rulebook.specs.Words.{Text, contains_text}
use Rattle.rulebook.specs.Campaign.{History}
use Rattle.rulebook.specs.Judgements.LeaseEntries.{EndsAreThere, LeasesAreEntries, end_in, end_of}
use Rattle.rulebook.specs.Judgements.Leases.{Lease, is_ended, lease_in, lease_numbered, leases}
use Rattle.rulebook.specs.Histories.Legal.{IsLegal}
use Rattle.campaign_core.specs.Assessments.DeskLeases.{IsLeased, KnownLease, is_known, lease_known, lease_seen, topic_in}
use Rattle.campaign_core.specs.Numbering.Numbers.{doc_in, names_of}
use Rattle.campaign_core.specs.Assessments.Topics.{topic_ids}
use Rattle.campaign_core.proofs.Rulings.AcceptedCommands.{numbered-at}
use Rattle.campaign_core.proofs.Entries.Judgements.QuietEntries.{all-stay, end-push, known-by, known-stays, known-with, leases-push, listed-stays, none-ended, or-none}

one-more : (H : History) (e : Entry) (l : Lease) → lease_in e.core.caller.name e.reply ≡ Some l → leases (H ++ e ∷ []) ≡ leases H ++ l ∷ []
one-more H e l told = leases-push H e (Some l) told

pub desk-long : (H : History) (desk : List DeskLease) → IsLeased H (names_of H) desk → length desk ≡ length (leases H)
desk-long H desk leased = sym (length-map desk lease_seen) ∙ ap length leased.leases_are ∙ length-map (leases H) (lease_known H (names_of H))

-- A granted lease.
pub leased-granted : EndsAreThere → (H : History) (e : Entry) (l : Lease) (desk : List DeskLease) (topic : ℕ) (doc : DocId) (until : ℕ) (assessor : Text)
    → lease_in e.core.caller.name e.reply ≡ Some l → l.number ≡ length (leases H) + 1 → ((number : ℕ) → end_in number e.core.command ≡ None)
    → topic_ids (H ++ e ∷ []) ≡ topic_ids H → names_of (H ++ e ∷ []) ≡ names_of H
    → topic ≡ topic_in (topic_ids H) l.topic → doc ≡ doc_in (names_of H) l.doc → until ≡ l.until → assessor ≡ l.assessor
    → contains_text (names_of H) l.doc ≡ true → contains_text (topic_ids H) l.topic ≡ true
    → IsLeased H (names_of H) desk → IsLeased (H ++ e ∷ []) (names_of (H ++ e ∷ [])) (with_grant desk assessor topic doc until)
leased-granted ends_there H e l desk topic doc until assessor told number_is none_end ids_are names_are topic_is doc_is until_is assessor_is
    doc_named topic_listed leased =
    let J : History = H ++ e ∷ [] in
    let ends_are : (number : ℕ) → end_of J number ≡ end_of H number = none-ended H e none_end in
    let leases_grow : leases J ≡ leases H ++ l ∷ [] = one-more H e l told in
    let unended : end_of J l.number ≡ None = ends_are l.number ∙ leased.ends_granted l.number (omega (arith, number_is)) in
    let new : DeskLease = next_lease desk assessor topic doc until in
    let number : length desk + 1 ≡ l.number = omega (arith, number_is, desk-long H desk leased) in
    let by_numbers : lease_seen new ≡ known-by (topic_ids H) (doc_in (names_of H) l.doc) None l =
    λ i. record { number = number i; assessor = assessor_is i; topic = topic_is i; doc = doc_is i; until = until_is i; ended = false; end = None } in
    let last : lease_seen new ≡ lease_known J (names_of J) l =
    by_numbers ∙ sym (known-with ends_there H J l None unended ids_are (ap (λ names. doc_in names l.doc) names_are)) in
    let before : map lease_seen desk ≡ map (lease_known J (names_of J)) (leases H) =
    leased.leases_are ∙ sym (all-stay ends_there H J (leases H) ends_are ids_are names_are) in
    record {
      leases_are = map-append lease_seen desk (new ∷ [])
          ∙ ap (λ ks. ks ++ lease_seen new ∷ []) before ∙ ap (λ k. map (lease_known J (names_of J)) (leases H) ++ k ∷ []) last
          ∙ sym (map-append (lease_known J (names_of J)) (leases H) (l ∷ [])) ∙ ap (map (lease_known J (names_of J))) (sym leases_grow);
      are_known = ap (list_all (is_known J (names_of J))) leases_grow
          ∙ list_all-append (is_known J (names_of J)) (leases H) (l ∷ [])
          ∙ and_from _ _ (listed-stays H J (leases H) ids_are names_are leased.are_known)
          (and_from _ _
          (and_from _ _ (ap (λ names. contains_text names l.doc) names_are ∙ doc_named) (ap (λ ids. contains_text ids l.topic) ids_are ∙ topic_listed)) refl);
      ends_granted = λ number beyond. ends_are number
          ∙ leased.ends_granted number (omega (arith, subst (λ ls. length ls < number) leases_grow beyond, length-append (leases H) (l ∷ [])));
    }

-- the lease of a number that hasn't ended has no end
pub unended-of : EndsAreThere → LeasesAreEntries → (H : History) → IsLegal H → (number : ℕ) (l : Lease)
    → lease_numbered H number ≡ Some l → is_ended H l.number ≡ false → end_of H number ≡ None
unended-of ends_there entries H legal number l found unended =
    let at = numbered-at H number l found in
    let place_is : number - 1 + 1 ≡ number = omega (arith, at.0) in
    let number_is : l.number ≡ number = (entries H legal).numbered (number - 1) l at.1 ∙ place_is in
    none_is (end_of H number) (ends_there H number ∙ ap (is_ended H) (sym number_is) ∙ unended)

-- An ended lease.
module _ (ends_there : EndsAreThere) (H : History) (e : Entry) (ended_number : ℕ) (how : LeaseEnd)
    (ends_one : (number : ℕ) → end_in number e.core.command ≡ (if ended_number == number then Some how else None))
    (unended : end_of H ended_number ≡ None) (ids_are : topic_ids (H ++ e ∷ []) ≡ topic_ids H) (names_are : names_of (H ++ e ∷ []) ≡ names_of H) where
  abbrev J : History
  J = H ++ e ∷ []

  end-then : (number : ℕ) → end_of J number ≡ (if ended_number == number then Some how else end_of H number)
  end-then number = end-push H e number ∙ ap (option_or (end_of H number)) (ends_one number) ∙ step (ended_number == number) refl
    where
      step : (t : Bool) → (ended_number == number) ≡ t → option_or (end_of H number) (if t then Some how else None) ≡ (if t then Some how else end_of H number)
      step true is = ap (λ (end : Option LeaseEnd). option_or end (Some how)) (ap (end_of H) (sym (eqb-true ended_number number is)) ∙ unended)
      step false is = or-none (end_of H number)

  one-ended : (x : DeskLease) (l : Lease) → lease_seen x ≡ lease_known H (names_of H) l
      → lease_seen (if x.number == ended_number then ended_lease how x else x) ≡ lease_known J (names_of J) l
  one-ended x l same = step (x.number == ended_number) refl
    where
      test : (ended_number == l.number) ≡ (x.number == ended_number)
      test = eqb_swap ended_number l.number ∙ ap (λ (k : KnownLease). k.number == ended_number) (sym same)

      end-now : (t : Bool) → (x.number == ended_number) ≡ t → end_of J l.number ≡ (if t then Some how else end_of H l.number)
      end-now t is = end-then l.number ∙ ap (λ t. if t then Some how else end_of H l.number) (test ∙ is)

      doc_is : doc_in (names_of J) l.doc ≡ doc_in (names_of H) l.doc
      doc_is = ap (λ names. doc_in names l.doc) names_are

      step : (t : Bool) → (x.number == ended_number) ≡ t → lease_seen (if t then ended_lease how x else x) ≡ lease_known J (names_of J) l
      step true is =
          ap (λ (k : KnownLease). record k { ended = true; end = Some how }) same
          ∙ sym (known-with ends_there H J l (Some how) (end-now true is) ids_are doc_is)
      step false is = same ∙ sym (known-stays ends_there H J l (end-now false is) ids_are doc_is)

  all-ended : (desk : List DeskLease) (ls : List Lease) → map lease_seen desk ≡ map (lease_known H (names_of H)) ls
      → map lease_seen (with_end desk ended_number how) ≡ map (lease_known J (names_of J)) ls
  all-ended [] [] same = refl
  all-ended [] (l ∷ ls) same = cc same
  all-ended (x ∷ desk) [] same = cc same
  all-ended (x ∷ desk) (l ∷ ls) same =
      let head : lease_seen x ≡ lease_known H (names_of H) l = cc same in
      let tail : map lease_seen desk ≡ map (lease_known H (names_of H)) ls = cc same in
      ap (λ k. k ∷ map lease_seen (with_end desk ended_number how)) (one-ended x l head) ∙ ap (λ ks. lease_known J (names_of J) l ∷ ks) (all-ended desk ls tail)

  pub leased-ended : (desk : List DeskLease) → leases J ≡ leases H → ended_number ≤ length (leases H)
      → IsLeased H (names_of H) desk → IsLeased J (names_of J) (with_end desk ended_number how)
  leased-ended desk leases_stay within leased = record {
    leases_are = all-ended desk (leases H) leased.leases_are ∙ ap (map (lease_known J (names_of J))) (sym leases_stay);
    are_known = ap (list_all (is_known J (names_of J))) leases_stay ∙ listed-stays H J (leases H) ids_are names_are leased.are_known;
    ends_granted = λ number beyond.
        let ahead : length (leases H) < number = subst (λ ls. length ls < number) leases_stay beyond in
        end-then number
        ∙ ap (λ t. if t then Some how else end_of H number) (ne_eqb ended_number number (λ same. absurd (omega (arith, same, within, ahead))))
        ∙ leased.ends_granted number ahead;
  }
