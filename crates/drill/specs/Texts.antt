-- The topics and the runs of a generated campaign as texts.
use Rattle.std.specs.Prelude.{ℕ, zero, suc, List, [], ◌++◌, codes, decimal}
use Rattle.drill.specs.declared.numbers.DrillNumbers.{DrillNumbers}
use Rattle.drill.specs.Figures.{doc_name, run_name, score_of, topic_name}

-- the texts of 1 up to a number, one after another
abbrev pub texts_to : ℕ → (ℕ → List ℕ) → List ℕ
texts_to zero text = []
texts_to (suc n) text = texts_to n text ++ text (suc n)

-- a topic, whose title is its id
abbrev pub topic_text : ℕ → List ℕ
topic_text t = codes "<top>\n<num> " ++ topic_name t ++ codes "\n<title> " ++ topic_name t ++ codes "\n</top>\n"

abbrev pub topics_text : DrillNumbers → List ℕ
topics_text numbers = texts_to numbers.topics topic_text

-- the topic and the docno of a line, with two fields that nobody looks at
abbrev pub place_text : ℕ → ℕ → List ℕ
place_text t d = topic_name t ++ codes " Q0 " ++ doc_name d ++ codes " 0 "

-- the score and the name of the run
abbrev pub score_text : ℕ → ℕ → List ℕ
score_text score r = decimal score ++ codes " " ++ run_name r ++ codes "\n"

-- a line of a run
abbrev pub line : DrillNumbers → ℕ → ℕ → ℕ → List ℕ
line numbers r t d = place_text t d ++ score_text (score_of numbers r t d) r

-- the lines of a run on a topic, by document
abbrev pub list_text : DrillNumbers → ℕ → ℕ → List ℕ
list_text numbers r t = texts_to numbers.docs (line numbers r t)

-- the lines of a run, by topic
abbrev pub run_text : DrillNumbers → ℕ → List ℕ
run_text numbers r = texts_to numbers.topics (list_text numbers r)
