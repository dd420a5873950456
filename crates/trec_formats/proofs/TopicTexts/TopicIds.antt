-- Topics are told apart by their ids alone.
use Rattle.std.proofs.Common.{◌≡◌, ◌&&◌, ℕ, Bool, true, false, List, [], refl, subst, bytes_eq}
use Rattle.trec_formats.specs.Documents.{same_by}
use Rattle.trec_formats.specs.Faults.{IsDistinct, IsTwice}
use Rattle.trec_formats.specs.TopicsFormat.Topics.{NumberedTopic, same_id}
use Rattle.trec_formats.specs.declared.faults.FormatFault.{FormatFault}

abbrev id_of : NumberedTopic → List ℕ
id_of topic = topic.1.id

abbrev no_doc : NumberedTopic → List ℕ
no_doc topic = []

whole : (t : Bool) → (t && bytes_eq [] []) ≡ t
whole true = refl
whole false = refl

same_ids : same_by id_of no_doc ≡ same_id
same_ids = λ i a b. whole (bytes_eq a.1.id b.1.id) i

pub distinct_ids : (topics : List NumberedTopic) → IsDistinct (same_by id_of no_doc) topics → IsDistinct same_id topics
distinct_ids topics distinct = subst (λ same. IsDistinct same topics) same_ids distinct

pub twice_ids : (topics : List NumberedTopic) (fault : FormatFault) → IsTwice (same_by id_of no_doc) (λ topic. topic.0) topics fault
    → IsTwice same_id (λ topic. topic.0) topics fault
twice_ids topics fault twice = subst (λ same. IsTwice same (λ topic. topic.0) topics fault) same_ids twice
