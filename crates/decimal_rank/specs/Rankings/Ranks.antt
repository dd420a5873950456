-- The rank of each document of a ranked list, as trec_eval 9 orders them.
use Rattle.std.specs.Prelude.{◌≡◌, ℕ, ◌+◌, Bool, List, length, map, All, count_by, Some}
use Rattle.std.specs.Cmp.Lexicographic.{slice_cmp}
use Rattle.std.specs.List.Sorted.{IsPermutation}
use Rattle.std.specs.Ordering.{nat_cmp, then_cmp, on, is_gt}
use Rattle.std.specs.declared.cmp.Ordering.{Ordering}
use Rattle.decimal_rank.specs.declared.naming.DocId.{DocId}
use Rattle.decimal_rank.specs.declared.rankings.Scored.{Scored}
use Rattle.decimal_rank.specs.Decimals.Decimal.{DecimalValue, decimal_cmp}
use Rattle.decimal_rank.specs.Names.{docno_of}
use Rattle.decimal_rank.specs.Rankings.Places.{AreDistinct, place_in}

-- a document's score and docno
pub record Standing : Type 0 where
  pub score : DecimalValue
  pub docno : List ℕ

-- by score, and at equal scores by the docno's bytes
unfoldable pub standing_cmp : Standing → Standing → Ordering
standing_cmp = then_cmp (on (λ d. d.score) decimal_cmp) (on (λ d. d.docno) (slice_cmp nat_cmp))

-- d stands before e: its score is greater, or the scores are equal and its docno is greater
abbrev pub stands_before : Standing → Standing → Bool
stands_before d e = is_gt (standing_cmp d e)

-- 1 plus the number of documents before it
abbrev pub rank_in : List Standing → Standing → ℕ
rank_in list d = 1 + count_by (λ e. stands_before e d) list

abbrev pub standing_of : List (List ℕ) → Scored → Standing
standing_of names line = record { score = line.score; docno = docno_of names line.doc.0 }

-- the documents of the lines stand once each, at their ranks
pub record IsRanking (names : List (List ℕ)) (lines : List Scored) (docs : List DocId) : Type 0 where
  pub size : length docs ≡ length lines
  pub listed : IsPermutation (map (λ line. line.doc) lines) docs
  pub once : AreDistinct docs
  pub places : All (λ line. place_in docs line.doc ≡ Some (rank_in (map (standing_of names) lines) (standing_of names line))) lines
