-- The documents of a topic that no lease is granted on any more: to nobody, or to one assessor.
use Rattle.std.specs.Prelude.{ℕ, nat_le, ◌||◌, Bool, true, List, [], All, is_some, length, nat_lt, slice_index_or, slice_set, take, ◌≡◌, if◌then◌else◌}
use Rattle.decimal_rank.specs.declared.naming.DocId.{DocId}
use Rattle.depth_pool.specs.declared.runs.RunId.{RunId}
use Rattle.depth_pool.specs.Holdings.{Held, pool_docs}
use Rattle.labels.specs.DocumentLabels.{has_label}
use Rattle.labels.specs.LabelledDocuments.{LabelledDocument, effective_at, given_at}

-- whether a document is done for an assessor: it has as many labels as it needs, an effective grade, or a label of the assessor
abbrev pub is_done : ℕ → List LabelledDocument → List ℕ → DocId → Bool
is_done need marked assessor doc =
    nat_le need (length (given_at marked doc)) || is_some (effective_at need marked doc) || has_label assessor (given_at marked doc)

-- these documents are done
abbrev pub AreDone : ℕ → List LabelledDocument → List ℕ → List DocId → Type 0
AreDone need marked assessor docs = All (λ doc. is_done need marked assessor doc ≡ true) docs

-- the first documents of each run, up to its front, are done
abbrev pub HasFronts : ℕ → List LabelledDocument → List ℕ → List Held → List ℕ → Type 0
HasFronts need marked assessor runs fronts = (run : RunId) → AreDone need marked assessor (take (slice_index_or fronts run.0 0) (pool_docs runs run))

-- the fronts that stand at a name
pub record Own : Type 0 where
  pub assessor : List ℕ
  pub fronts : List ℕ

-- at each name stand fronts
abbrev pub AreFronts : ℕ → List LabelledDocument → List Held → List Own → Type 0
AreFronts need marked runs all = All (λ own. HasFronts need marked own.assessor runs own.fronts) all

-- an assessor's name, or no name where one label is enough
abbrev pub whose : ℕ → List ℕ → List ℕ
whose need assessor = if nat_lt 1 need then assessor else []

-- with the front of a run at its first document
abbrev pub front_restarted : RunId → Own → Own
front_restarted run own = record own { fronts = slice_set own.fronts run.0 0 }
