-- Groups of runs: those that documents don't tell apart.
use Rattle.std.specs.Prelude.{◌≡◌, ℕ, ◌+◌, ◌*◌, ◌<◌, ◌≤◌, ◌==◌, ◌⊎◌, Some, Bool, List, [], ◌∷◌, length, map, slice_index_or, sum, take, All, AllPairs}
use Rattle.std.specs.List.{count_by}
use Rattle.std.specs.Ordering.{nat_cmp, ordering_then}
use Rattle.std.specs.declared.cmp.Ordering.{Ordering}
use Rattle.std.specs.declared.cmp.Ordering.TheVariants.{Equal}
use Rattle.depth_pool.specs.declared.runs.RunId.{RunId}
use Rattle.depth_pool.specs.Holdings.{has_id}
use Rattle.mtf_queue.specs.declared.groups.Member.{Member}
use Rattle.mtf_queue.specs.declared.rule.Judged.{Judged}
use Rattle.mtf_queue.specs.Rule.{HoldingRule, side}

abbrev pub member_run : Member → RunId
member_run member = member.run

-- a run in the first group
abbrev pub first_group : RunId → Member
first_group run = record { group = 0; run = run }

-- a run's half of its group, once a document with these holders is looked at
abbrev pub half_of : List RunId → Bool → Member → Member
half_of holders relevant member = record { group = 2 * member.group + side (Some relevant) (has_id member.run holders); run = member.run }

-- which of two runs is first by documents alone, given with the oldest first: Equal where none tells them apart
abbrev pub docs_cmp : HoldingRule → List Judged → RunId → RunId → Ordering
docs_cmp held [] r s = Equal
docs_cmp held (judged ∷ newer) r s =
    ordering_then (docs_cmp held newer r s) (nat_cmp (side judged.relevant (held r judged.doc)) (side judged.relevant (held s judged.doc)))

-- the groups stand as the documents put their runs
abbrev pub AreGrouped : HoldingRule → List Judged → List Member → Type 0
AreGrouped held docs members = All (λ p. All (λ q. nat_cmp p.group q.group ≡ docs_cmp held docs p.run q.run) members) members

-- by group, and in a group by number
abbrev pub AreSorted : List Member → Type 0
AreSorted members = AllPairs (λ p q. (p.group < q.group) ⊎ ((p.group ≡ q.group) × (p.run.0 ≤ q.run.0))) members

-- by number
abbrev pub AreMembersByRun : List Member → Type 0
AreMembersByRun members = AllPairs (λ r s. r.0 ≤ s.0) (map member_run members)

-- the runs of one group are one run
abbrev pub AreToldApart : List Member → Type 0
AreToldApart members = All (λ p. All (λ q. p.group ≡ q.group → p.run ≡ q.run) members) members

-- there are no more groups than runs
abbrev pub AreFewGroups : List Member → Type 0
AreFewGroups members = All (λ member. member.group < length members) members

-- each two groups compare as they did
abbrev pub StandAlike : List Member → List Member → Type 0
StandAlike old new = (i j : ℕ) (d : Member) → i < length old → j < length old
    → nat_cmp (slice_index_or new i d).group (slice_index_or new j d).group ≡ nat_cmp (slice_index_or old i d).group (slice_index_or old j d).group

-- how many runs a group has
abbrev pub group_size : ℕ → List Member → ℕ
group_size group members = count_by (λ member. member.group == group) members

-- the sizes of the groups, by their numbers
pub record AreSizes (sizes : List ℕ) (members : List Member) : Type 0 where
  pub each : (group : ℕ) → group < length sizes → slice_index_or sizes group 0 ≡ group_size group members
  pub total : sum sizes ≡ length members

-- at each place the sum of the numbers before it
abbrev pub AreSumsBefore : List ℕ → List ℕ → Type 0
AreSumsBefore numbers sums = (k : ℕ) → k < length numbers → slice_index_or sums k 0 ≡ sum (take k numbers)

-- a run whose group has the number that stands at the place of its old one
abbrev pub numbered_by : List ℕ → Member → Member
numbered_by numbers member = record { group = slice_index_or numbers member.group 0; run = member.run }

-- the runs from a number on that are among some of these are among all
abbrev pub KeepsFrom : RunId → List RunId → List RunId → Type 0
KeepsFrom run all some = (other : RunId) → run.0 ≤ other.0 → has_id other some ≡ has_id other all
