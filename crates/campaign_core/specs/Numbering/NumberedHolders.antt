-- The runs that hold a document, by the pool that is kept.
use Rattle.std.specs.Prelude.{◌≡◌, IsTrue, map}
use Rattle.depth_pool.specs.Holdings.{holders_of}
use Rattle.rulebook.specs.Campaign.{History}
use Rattle.rulebook.specs.Judgements.Holders.{holders}
use Rattle.rulebook.specs.Words.{Text, contains_text}
use Rattle.campaign_core.specs.Numbering.Numbers.{doc_in, names_of}
use Rattle.campaign_core.specs.Assessments.Topics.{pool_of}
use Rattle.campaign_core.specs.Numbering.Submissions.{run_id_of}

-- The runs of a topic's pool that hold a document are the live runs that hold it.
abbrev pub HoldersByNumbers : Type 0
HoldersByNumbers =
    (H : History) (topic doc : Text) → IsTrue (contains_text (names_of H) doc)
    → holders_of (doc_in (names_of H) doc) (pool_of H topic) ≡ map run_id_of (holders H topic doc)
