-- What an entry leaves of labels and leases that gives none.
use Rattle.std.proofs.Common.{◌≡◌, ◌&&◌, ◌<◌, ℕ, true, List, ◌++◌, ◌∷◌, [], Option, None, Some, Ok, filter, is_some, length, map, subst, refl, sym, ap, ◌∙◌}
use Rattle.std.specs.Prelude.{slice_get}
use Rattle.std.specs.List.{cons_option, filter_map, list_all}
use Rattle.std.specs.Option.{option_or}
use Rattle.std.specs.Str.{bytes_eq}
use Rattle.std.proofs.lemmas.List.{append-nil}
use Rattle.std.proofs.lemmas.List.Elements.{filter_map-append}
use Rattle.decimal_rank.specs.declared.naming.DocId.{DocId}
use Rattle.decimal_rank.proofs.Lists.{map-alike}
use Rattle.labels.specs.LabelledDocuments.{labelled_docs as marked_docs}
use Rattle.lease_desk.specs.declared.leases.Lease.{Lease as DeskLease}
use Rattle.lease_desk.specs.declared.leases.LeaseEnd.{LeaseEnd}
use Rattle.rulebook.specs.declared.entry.Entry.{Entry}
use Rattle.rulebook.specs.declared.reply.Refusal.{Refusal}
use Rattle.rulebook.specs.declared.reply.Reply.{Reply}
use Rattle.rulebook.specs.Words.{Text, contains_text, each_once}
use Rattle.rulebook.specs.Campaign.{History}
use Rattle.rulebook.specs.Histories.Entries.{AreKept}
use Rattle.rulebook.specs.Judgements.Grades.{Label, given_labels, labelled_documents, last_ruling, trail}
use Rattle.rulebook.specs.Judgements.LeaseEntries.{EndsAreThere, end_in, end_of}
use Rattle.rulebook.specs.Judgements.Leases.{Lease, lease_in, leases}
use Rattle.rulebook.specs.Requests.Refusals.{Outcome, unless_missing}
use Rattle.campaign_core.specs.CampaignStates.{IsUnjudged}
use Rattle.campaign_core.specs.Assessments.TopicLabelling.{IsLabelled, graded_in}
use Rattle.campaign_core.specs.Assessments.DeskLeases.{IsLeased, KnownLease, is_known, lease_known, topic_in}
use Rattle.campaign_core.specs.Numbering.Numbers.{are_named, doc_in, docs_in, names_of}
use Rattle.campaign_core.specs.Assessments.Topics.{LabelledTopic, topic_ids}

-- an accepted ruling is what follows the tests
pub given-ok : {X : Type 0} (o : Option X) (r : Refusal) (follows : X → Outcome) (answer : Reply)
    → unless_missing o r follows ≡ Ok answer → (x : X) × (o ≡ Some x) × (follows x ≡ Ok answer)
given-ok None r follows answer is = cc is
given-ok (Some x) r follows answer is = (x, refl, is)

-- The leases

pub leases-push : (H : History) (e : Entry) (o : Option Lease) → lease_in e.core.caller.name e.reply ≡ o
    → leases (H ++ e ∷ []) ≡ leases H ++ filter_map (λ (l : Option Lease). l) (o ∷ [])
leases-push H e None is =
    let one : leases (e ∷ []) ≡ [] = rw is refl in
    filter_map-append (λ (e : Entry). lease_in e.core.caller.name e.reply) H (e ∷ []) ∙ ap (λ ls. leases H ++ ls) one
leases-push H e (Some l) is =
    let one : leases (e ∷ []) ≡ l ∷ [] = rw is refl in
    filter_map-append (λ (e : Entry). lease_in e.core.caller.name e.reply) H (e ∷ []) ∙ ap (λ ls. leases H ++ ls) one

pub no-lease : (H : History) (e : Entry) → lease_in e.core.caller.name e.reply ≡ None → leases (H ++ e ∷ []) ≡ leases H
no-lease H e none = leases-push H e None none ∙ append-nil (leases H)

-- the first of a list with one more behind it
first-or : {X : Type 0} (xs : List X) (o : Option X) → slice_get (xs ++ cons_option o []) 0 ≡ option_or (slice_get xs 0) o
first-or [] None = refl
first-or [] (Some x) = refl
first-or (x ∷ xs) o = refl

pub end-push : (H : History) (e : Entry) (number : ℕ) → end_of (H ++ e ∷ []) number ≡ option_or (end_of H number) (end_in number e.core.command)
end-push H e number =
    ap (λ (ends : List LeaseEnd). slice_get ends 0) (filter_map-append (λ (e : Entry). end_in number e.core.command) H (e ∷ []))
    ∙ first-or (filter_map (λ (e : Entry). end_in number e.core.command) H) (end_in number e.core.command)

pub or-none : (end : Option LeaseEnd) → option_or end None ≡ end
or-none None = refl
or-none (Some how) = refl

pub none-ended : (H : History) (e : Entry) → ((number : ℕ) → end_in number e.core.command ≡ None) → (number : ℕ) → end_of (H ++ e ∷ []) number ≡ end_of H number
none-ended H e none number = end-push H e number ∙ ap (option_or (end_of H number)) (none number) ∙ or-none (end_of H number)

-- a lease by these numbers, with this end
abbrev pub known-by : List Text → DocId → Option LeaseEnd → Lease → KnownLease
known-by ids doc end l = record {
  number = l.number;
  assessor = l.assessor;
  topic = topic_in ids l.topic;
  doc = doc;
  until = l.until;
  ended = is_some end;
  end = end;
}

-- a known lease, where a lease has an end where it ended
module _ (ends_there : EndsAreThere) where
  known-told : (H : History) (names : List Text) (l : Lease) → lease_known H names l ≡ known-by (topic_ids H) (doc_in names l.doc) (end_of H l.number) l
  known-told H names l = ap (λ t. let k : KnownLease = record (lease_known H names l) { ended = t } in k) (sym (ends_there H l.number))

  pub known-with : (H J : History) (l : Lease) (end : Option LeaseEnd) → end_of J l.number ≡ end → topic_ids J ≡ topic_ids H
      → doc_in (names_of J) l.doc ≡ doc_in (names_of H) l.doc → lease_known J (names_of J) l ≡ known-by (topic_ids H) (doc_in (names_of H) l.doc) end l
  known-with H J l end end_is ids_are doc_is =
      known-told J (names_of J) l
      ∙ ap (λ ids. known-by ids (doc_in (names_of J) l.doc) (end_of J l.number) l) ids_are
      ∙ ap (λ doc. known-by (topic_ids H) doc (end_of J l.number) l) doc_is
      ∙ ap (λ end. known-by (topic_ids H) (doc_in (names_of H) l.doc) end l) end_is

  pub known-stays : (H J : History) (l : Lease) → end_of J l.number ≡ end_of H l.number → topic_ids J ≡ topic_ids H
      → doc_in (names_of J) l.doc ≡ doc_in (names_of H) l.doc → lease_known J (names_of J) l ≡ lease_known H (names_of H) l
  known-stays H J l end_is ids_are doc_is = known-with H J l (end_of H l.number) end_is ids_are doc_is ∙ sym (known-told H (names_of H) l)

pub listed-stays : (H J : History) (ls : List Lease) → topic_ids J ≡ topic_ids H → names_of J ≡ names_of H
    → list_all (is_known H (names_of H)) ls ≡ true → list_all (is_known J (names_of J)) ls ≡ true
listed-stays H J ls ids_are names_are all =
    ap (λ names. list_all (λ (l : Lease). contains_text names l.doc && contains_text (topic_ids J) l.topic) ls) names_are
    ∙ ap (λ ids. list_all (λ (l : Lease). contains_text (names_of H) l.doc && contains_text ids l.topic) ls) ids_are ∙ all

-- the leases where they, their ends and all names stay
pub all-stay : EndsAreThere → (H J : History) (ls : List Lease) → ((number : ℕ) → end_of J number ≡ end_of H number)
    → topic_ids J ≡ topic_ids H → names_of J ≡ names_of H → map (lease_known J (names_of J)) ls ≡ map (lease_known H (names_of H)) ls
all-stay ends_there H J ls ends_are ids_are names_are =
    map-alike (lease_known J (names_of J)) (lease_known H (names_of H)) ls
    (λ l. known-stays ends_there H J l (ends_are l.number) ids_are (ap (λ names. doc_in names l.doc) names_are))

pub leased-stays : EndsAreThere → (H J : History) (desk : List DeskLease) → leases J ≡ leases H → ((number : ℕ) → end_of J number ≡ end_of H number)
    → topic_ids J ≡ topic_ids H → names_of J ≡ names_of H → IsLeased H (names_of H) desk → IsLeased J (names_of J) desk
leased-stays ends_there H J desk leases_are ends_are ids_are names_are leased = record {
  leases_are = leased.leases_are ∙ sym (all-stay ends_there H J (leases H) ends_are ids_are names_are) ∙ ap (map (lease_known J (names_of J))) (sym leases_are);
  are_known = ap (list_all (is_known J (names_of J))) leases_are ∙ listed-stays H J (leases H) ids_are names_are leased.are_known;
  ends_granted = λ number beyond. ends_are number ∙ leased.ends_granted number (subst (λ ls. length ls < number) leases_are beyond);
}

-- the leases where there are none
pub leased-none : (H J : History) (desk : List DeskLease) → leases H ≡ [] → leases J ≡ leases H → ((number : ℕ) → end_of J number ≡ end_of H number)
    → IsLeased H (names_of H) desk → IsLeased J (names_of J) desk
leased-none H J desk none leases_are ends_are leased =
    let empty : leases J ≡ [] = leases_are ∙ none in
    record {
      leases_are = leased.leases_are ∙ ap (map (lease_known H (names_of H))) none ∙ sym (ap (map (lease_known J (names_of J))) empty);
      are_known = ap (list_all (is_known J (names_of J))) empty;
      ends_granted = λ number beyond. ends_are number ∙ leased.ends_granted number (subst (λ ls. length ls < number) leases_are beyond);
    }

-- The labels of a topic

pub labelled-stays : (H J : History) (t : LabelledTopic) → AreKept H J → names_of J ≡ names_of H → IsLabelled H (names_of H) t → IsLabelled J (names_of J) t
labelled-stays H J t keeps names_are labelled_documents = subst (λ names. IsLabelled J names t) (sym names_are) (record {
  given_are = λ doc named. labelled_documents.given_are doc named ∙ sym (keeps.labels_are t.id doc);
  rulings_are = λ doc named. labelled_documents.rulings_are doc named ∙ sym (keeps.rulings_are t.id doc);
  given_named = labelled_documents.given_named;
  labels_named = λ doc absent. keeps.labels_are t.id doc ∙ labelled_documents.labels_named doc absent;
  ruled_named = labelled_documents.ruled_named;
  rulings_named = λ doc absent. keeps.rulings_are t.id doc ∙ labelled_documents.rulings_named doc absent;
  marked_are = labelled_documents.marked_are ∙ ap (docs_in (names_of H)) (sym (keeps.labelled_are t.id));
  labelled_named = ap (are_named (names_of H)) (keeps.labelled_are t.id) ∙ labelled_documents.labelled_named;
  graded_are = labelled_documents.graded_are
      ∙ sym (map-alike (graded_in J (names_of H) t.id) (graded_in H (names_of H) t.id) (trail H t.id)
      (λ doc. ap (λ (o : Option ℕ). let g = graded_in H (names_of H) t.id doc in record g { grade = o }) (keeps.effective_is t.id doc)))
      ∙ ap (map (graded_in J (names_of H) t.id)) (sym (keeps.trail_is t.id));
  trail_named = ap (are_named (names_of H)) (keeps.trail_is t.id) ∙ labelled_documents.trail_named;
})

none-labelled : (J : History) (topic : Text) → given_labels J ≡ [] → labelled_documents J topic ≡ []
none-labelled J topic none = ap (λ (ls : List Label). each_once (map (λ l. l.doc) (filter (λ l. bytes_eq l.topic topic) ls))) none

pub labelled-none : (J : History) (t : LabelledTopic) → given_labels J ≡ [] → ((topic doc : Text) → last_ruling J topic doc ≡ None)
    → ((topic : Text) → trail J topic ≡ []) → t.marked ≡ [] → t.graded ≡ [] → IsLabelled J (names_of J) t
labelled-none J t no_label no_ruling no_trail no_mark no_grade = record {
  given_are = λ doc named. rw (no_mark, no_label) refl;
  rulings_are = λ doc named. rw no_mark (sym (no_ruling t.id doc));
  given_named = λ doc past. rw no_mark refl;
  labels_named = λ doc absent. rw no_label refl;
  ruled_named = λ doc past. rw no_mark refl;
  rulings_named = λ doc absent. no_ruling t.id doc;
  marked_are = ap marked_docs no_mark ∙ sym (ap (docs_in (names_of J)) (none-labelled J t.id no_label));
  labelled_named = ap (are_named (names_of J)) (none-labelled J t.id no_label);
  graded_are = no_grade ∙ sym (ap (map (graded_in J (names_of J) t.id)) (no_trail t.id));
  trail_named = ap (are_named (names_of J)) (no_trail t.id);
}

-- nothing is leased or labelled by an entry that keeps all and leases nothing
pub unjudged-stays : (H J : History) (ts : List LabelledTopic) → AreKept H J → given_labels J ≡ given_labels H
    → leases J ≡ leases H → IsUnjudged H ts → IsUnjudged J ts
unjudged-stays H J ts keeps labels_are leases_are none = record {
  no_lease = leases_are ∙ none.no_lease;
  no_label = labels_are ∙ none.no_label;
  no_ruling = λ topic doc. keeps.rulings_are topic doc ∙ none.no_ruling topic doc;
  no_trail = λ topic. keeps.trail_is topic ∙ none.no_trail topic;
  no_mark = none.no_mark;
}
