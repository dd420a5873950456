-- The leases of the history and those of the desk, and the document that is leased next, by numbers.
use Rattle.std.specs.Prelude.{◌≡◌, ◌<◌, ℕ, ◌+◌, Bool, not, ◌&&◌, List, [], ◌∷◌, Option, None, map, length, nat_le, nat_lt, is_some, find, IsTrue}
use Rattle.std.specs.List.{list_all, position_or_len}
use Rattle.std.specs.Option.{option_or}
use Rattle.std.specs.Str.{bytes_eq}
use Rattle.decimal_rank.specs.declared.naming.DocId.{DocId}
use Rattle.depth_pool.specs.Holdings.{Held, pool_docs}
use Rattle.depth_pool.specs.declared.runs.RunId.{RunId}
use Rattle.labels.specs.DocumentLabels.{has_label}
use Rattle.labels.specs.LabelledDocuments.{LabelledDocument, effective_at, given_at}
use Rattle.lease_desk.specs.Leases.{has_live, live_on}
use Rattle.lease_desk.specs.declared.leases.Lease.{Lease as DeskLease}
use Rattle.lease_desk.specs.declared.leases.LeaseEnd.{LeaseEnd}
use Rattle.rulebook.specs.declared.reply.Refusal.{Refusal}
use Rattle.rulebook.specs.declared.reply.Refusal.TheVariants as refusal
use Rattle.rulebook.specs.Requests.Refusals.{◌when◌}
use Rattle.rulebook.specs.Words.{Text, contains_text}
use Rattle.rulebook.specs.Campaign.{History}
use Rattle.rulebook.specs.Judgements.LeaseEntries.{end_of}
use Rattle.rulebook.specs.Judgements.Leases.{Lease, is_ended, leases}
use Rattle.campaign_core.specs.Numbering.Numbers.{doc_in}
use Rattle.campaign_core.specs.Assessments.Topics.{topic_ids}

-- a lease by the numbers of its topic and its document, and whether and how it ended
pub record KnownLease : Type 0 where
  pub number : ℕ
  pub assessor : Text
  pub topic : ℕ
  pub doc : DocId
  pub until : ℕ
  pub ended : Bool
  pub end : Option LeaseEnd

-- the number of a topic among the ids
abbrev pub topic_in : List Text → Text → ℕ
topic_in ids topic = position_or_len (bytes_eq topic) ids

abbrev pub lease_known : History → List Text → Lease → KnownLease
lease_known H names lease = record {
  number = lease.number;
  assessor = lease.assessor;
  topic = topic_in (topic_ids H) lease.topic;
  doc = doc_in names lease.doc;
  until = lease.until;
  ended = is_ended H lease.number;
  end = end_of H lease.number;
}

abbrev pub lease_seen : DeskLease → KnownLease
lease_seen lease = record {
  number = lease.number;
  assessor = lease.assessor;
  topic = lease.topic;
  doc = lease.doc;
  until = lease.until;
  ended = is_some lease.end;
  end = lease.end;
}

-- a lease on a document of the names, of a topic of the campaign
abbrev pub is_known : History → List Text → Lease → Bool
is_known H names lease = contains_text names lease.doc && contains_text (topic_ids H) lease.topic

-- The desk has the leases of the history, each with its end, and no lease that isn't granted has one.
pub record IsLeased (H : History) (names : List Text) (desk : List DeskLease) : Type 0 where
  pub leases_are : map lease_seen desk ≡ map (lease_known H names) (leases H)
  pub are_known : IsTrue (list_all (is_known H names) (leases H))
  pub ends_granted : (number : ℕ) → length (leases H) < number → end_of H number ≡ None

-- the first refusal that holds
abbrev pub first_refusal : List (Option Refusal) → Option Refusal
first_refusal [] = None
first_refusal (test ∷ tests) = option_or test (first_refusal tests)

-- the refusals of a request about a lease of the desk
abbrev pub refusals_of : DeskLease → Text → ℕ → List (Option Refusal)
refusals_of lease caller now =
    (refusal.NotYours when not (bytes_eq lease.assessor caller))
    ∷ (refusal.Ended when is_some lease.end)
    ∷ (refusal.Expired lease.until when nat_le lease.until now) ∷ []

-- whether a document may be leased to an assessor, by numbers
abbrev pub is_open_in : ℕ → List LabelledDocument → List DeskLease → ℕ → ℕ → Text → DocId → Bool
is_open_in need marked desk topic now assessor doc =
    not (is_some (effective_at need marked doc))
    && not (has_label assessor (given_at marked doc))
    && not (has_live desk assessor topic doc now)
    && nat_lt (length (given_at marked doc) + live_on desk topic doc now) need

-- of the runs in their order, the first document that is open in the first run that holds one
abbrev pub first_open : (DocId → Bool) → List Held → List RunId → Option DocId
first_open is_open runs [] = None
first_open is_open runs (run ∷ order) = option_or (find is_open (pool_docs runs run)) (first_open is_open runs order)
