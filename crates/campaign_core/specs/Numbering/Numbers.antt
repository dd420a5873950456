-- Docnos by their numbers.
use Rattle.std.specs.Prelude.{◌≡◌, ◌++◌, ◌≤◌, List, map, Bool, IsTrue, length}
use Rattle.std.specs.List.{fold, list_all, position_or_len}
use Rattle.std.specs.Str.{bytes_eq}
use Rattle.decimal_rank.specs.Names.{with_name}
use Rattle.decimal_rank.specs.declared.naming.DocId.{DocId}
use Rattle.trec_formats.specs.declared.TopicList.{TopicList}
use Rattle.rulebook.specs.Spelling.{differ}
use Rattle.rulebook.specs.Words.{Text, contains_text, each_once}
use Rattle.rulebook.specs.Campaign.{History, docnos, docs_on, submitted_docnos}
use Rattle.rulebook.specs.Requests.Limits.{max_docs}

-- the docnos of a history, by their first mention
abbrev pub names_of : History → List Text
names_of H = each_once (submitted_docnos H)

-- the number of a docno among the names
abbrev pub doc_in : List Text → Text → DocId
doc_in names doc = record { 0 = position_or_len (bytes_eq doc) names }

abbrev pub docs_in : List Text → List Text → List DocId
docs_in names docs = map (doc_in names) docs

-- each docno is among the names
abbrev pub are_named : List Text → List Text → Bool
are_named names docs = list_all (contains_text names) docs

-- the number of a docno that is among the names
pub record IsNumberOf (names : List Text) (doc : Text) (number : DocId) : Type 0 where
  pub named : IsTrue (contains_text names doc)
  pub number_is : number ≡ doc_in names doc

-- documents that are numbered one after another, where the names of those that were new join the others
pub record AreAdded (docs names later : List Text) (before after : List DocId) : Type 0 where
  pub names_are : later ≡ fold with_name names docs
  pub numbers_are : after ≡ before ++ docs_in later docs

-- a run's documents on a topic can be ranked by number: they are few, differ, and are among the names
pub record IsRankable (names : List Text) (docs : List Text) : Type 0 where
  pub few : length docs ≤ max_docs
  pub distinct : IsTrue (differ docs)
  pub named : IsTrue (are_named names docs)

-- so it is on each topic, and these are the numbers of the run's documents, one list after another
pub record AreRankable (names : List Text) (lists : List TopicList) (numbers : List DocId) : Type 0 where
  pub numbers_are : numbers ≡ docs_in names (docnos lists)
  pub rankable : (topic : Text) → IsRankable names (docs_on lists topic)
