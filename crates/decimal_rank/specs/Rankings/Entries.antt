-- The entries by which a ranking finds the place of a document.
use Rattle.std.specs.Prelude.{List, map}
use Rattle.std.specs.List.{enumerate_from}
use Rattle.std.specs.List.Sorted.{IsPermutation, IsNonDecreasingBy}
use Rattle.decimal_rank.specs.declared.naming.DocId.{DocId}
use Rattle.decimal_rank.specs.declared.rankings.Entry.{Entry}

-- each document and its place
abbrev pub entries_in : List DocId → List Entry
entries_in docs = map (λ p. record { doc = p.1.0; place = p.0 }) (enumerate_from 1 docs)

-- these, by document
pub record AreEntries (docs : List DocId) (entries : List Entry) : Type 0 where
  pub same : IsPermutation (entries_in docs) entries
  pub sorted : IsNonDecreasingBy (λ entry. entry.doc) entries
