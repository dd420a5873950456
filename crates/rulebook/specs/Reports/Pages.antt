-- The printed pages of a campaign whose list of accepted entries is H.
use Rattle.std.specs.Prelude.{ℕ, ◌++◌, List, codes, decimal, filter, length, map, unwrap_or}
use Rattle.std.specs.List.{flat_map}
use Rattle.std.specs.Str.{bytes_eq}
use Rattle.decimal_rank.specs.Texts.QrelLines.{qrel_line}
use Rattle.rulebook.specs.Words.{Text, in_order}
use Rattle.rulebook.specs.Campaign.{History, pool, topics}
use Rattle.rulebook.specs.Judgements.Grades.{disagrees, effective, graded_documents, labelled_documents, non_relevant_count, relevant_count}
use Rattle.rulebook.specs.Judgements.Leases.{live_leases}

-- the topics by id
abbrev pub topics_in_order : History → List Text
topics_in_order H = in_order (map (λ t. t.id) (topics H))

-- the effective grades of a topic, by docno
abbrev pub qrels_lines : History → Text → Text
qrels_lines H topic = flat_map (λ doc. qrel_line topic doc (unwrap_or (effective H topic doc) 0)) (in_order (graded_documents H topic))

-- all effective grades, by topic id and docno
abbrev pub qrels_page : History → Text
qrels_page H = flat_map (qrels_lines H) (topics_in_order H)

-- a topic and a docno with a space between them, and a line feed
abbrev pub disagreement_line : Text → Text → Text
disagreement_line topic doc = topic ++ codes " " ++ doc ++ codes "\n"

-- the documents of a topic whose labels differ, by docno
abbrev pub disagreement_lines : History → Text → Text
disagreement_lines H topic = flat_map (disagreement_line topic) (in_order (filter (disagrees H topic) (labelled_documents H topic)))

-- the documents whose labels differ, by topic id and docno
abbrev pub disagreements_page : History → Text
disagreements_page H = flat_map (disagreement_lines H) (topics_in_order H)

-- how many leases on a topic are live
abbrev pub live_count : History → ℕ → Text → ℕ
live_count H now topic = length (filter (λ lease. bytes_eq lease.topic topic) (live_leases H now))

-- a topic and four numbers with a space before each, and a line feed
abbrev pub counts_line : Text → ℕ → ℕ → ℕ → ℕ → Text
counts_line topic documents relevant non_relevant live =
    topic ++ codes " " ++ decimal documents ++ codes " " ++ decimal relevant ++ codes " " ++ decimal non_relevant ++ codes " " ++ decimal live ++ codes "\n"

-- a topic, the documents of its pool, its relevant documents, those with a lower grade and the live leases
abbrev pub progress_line : History → ℕ → Text → Text
progress_line H now topic = counts_line topic (length (pool H topic)) (relevant_count H topic) (non_relevant_count H topic) (live_count H now topic)

-- each topic by id
abbrev pub progress_page : History → ℕ → Text
progress_page H now = flat_map (progress_line H now) (topics_in_order H)
