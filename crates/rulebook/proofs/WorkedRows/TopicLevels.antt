-- Answers of a small campaign in which a topic has a level of its own, and the bytes of its first entry.
use Rattle.std.specs.Prelude.{◌≡◌, ℕ, ◌++◌, true, [], ◌∷◌, refl, codes, map, slice_index}
use Rattle.measures.specs.Cells.{cell_of}
use Rattle.measures.specs.Means.{summary_of}
use Rattle.rulebook.specs.declared.rules.Rules.{Rules}
use Rattle.rulebook.specs.declared.ask.Command.TheVariants as command
use Rattle.rulebook.specs.Campaign.{History, level, live}
use Rattle.rulebook.specs.Judgements.Grades.{non_relevant_count, relevant_count}
use Rattle.rulebook.specs.Histories.Legal.{founding}
use Rattle.rulebook.specs.Reports.Scores.{summary_on}
use Rattle.rulebook.specs.Spelling.{are_rules, entry_bytes}
use Rattle.trec_formats.specs.Names.{is_name}
use Rattle.rulebook.proofs.WorkedRows.JudgedCampaign.{after, lease, p}
use Rattle.rulebook.proofs.WorkedRows.SmallCampaign.{X, group, organiser, pooling, rules, after as after_at_1000}

abbrev leveled : Rules
leveled = record (rules 3) { levels = record { topic = codes "1"; level = 2 } ∷ [] }

are-rules : are_rules leveled ≡ true
unfolding is_name
are-rules = refl

-- X = a, b, e is submitted, and the campaign is opened
abbrev opened : History
opened =
    after_at_1000 (after_at_1000 (after_at_1000 (founding leveled ∷ []) organiser (command.Topics (pooling ∷ []))) group X)
    organiser command.Open

-- one more document is leased and graded
abbrev with_grade : History → ℕ → ℕ → History
with_grade H number grade = after (after H p lease 1000) p (command.Grade number grade) 1000

-- a is graded 1, b 2 and e 0
abbrev graded : History
graded = with_grade (with_grade (with_grade opened 1 1) 2 2) 3 0

level-of-the-topic : level graded (codes "1") ∷ level graded (codes "2") ∷ [] ≡ 2 ∷ 1 ∷ []
level-of-the-topic = refl

counts : relevant_count graded (codes "1") ∷ non_relevant_count graded (codes "1") ∷ [] ≡ 1 ∷ 2 ∷ []
counts = refl

-- map, bpref, recip_rank and P_5
scores : map (λ run. let s = summary_on graded run in s.map ∷ s.bpref ∷ s.recip ∷ slice_index s.at 0 ∷ []) (live graded)
    ≡ (500000000000000 ∷ 0 ∷ 500000000000000 ∷ 200000000000000 ∷ []) ∷ []
unfolding summary_of cell_of
scores = refl

first-entry : entry_bytes (founding leveled).core
    ≡ 8 ∷ codes "campaign" ++ 1 ∷ 0 ∷ 0 ∷ 0 ∷ 0 ∷ 0 ∷ 0 ∷ 0 ∷ 0 ∷ 0 ∷ 12 ∷ 3 ∷ 0 ∷ 88 ∷ 2 ∷ 0 ∷ 0 ∷ 0 ∷ 0 ∷ 0 ∷ 0
    ∷ 2 ∷ 1 ∷ 3 ∷ 0 ∷ 0 ∷ 0 ∷ 0 ∷ 1 ∷ 0 ∷ 0 ∷ 0 ∷ 1 ∷ 49 ∷ 2 ∷ []
first-entry = refl
