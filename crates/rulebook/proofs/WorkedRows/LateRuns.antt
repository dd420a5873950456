-- Answers of a small campaign in which a run is submitted while documents are judged.
use Rattle.std.specs.Prelude.{◌≡◌, ℕ, [], ◌∷◌, List, Some, refl, codes, map}
use Rattle.rulebook.specs.declared.ask.Command.TheVariants as command
use Rattle.rulebook.specs.declared.reply.Reply.TheVariants as reply
use Rattle.measures.specs.Cells.{cell_of}
use Rattle.measures.specs.Means.{summary_of}
use Rattle.rulebook.specs.Words.{Text}
use Rattle.rulebook.specs.Campaign.{History, live}
use Rattle.rulebook.specs.Reports.Scores.{summary_on}
use Rattle.rulebook.proofs.WorkedRows.JudgedCampaign.{after, first_run, lease, leased, p, replied}
use Rattle.rulebook.proofs.WorkedRows.SmallCampaign.{X, group, organiser, submitted, with_topic, after as after_at_1000}

-- X = a, b, e is submitted, the campaign is opened, and a is graded
abbrev a_graded : ℕ → History
a_graded grade = after (after (after_at_1000 (after_at_1000 (with_topic 3) group X) organiser command.Open) p lease 1000) p (command.Grade 1 grade) 1000

abbrev with_late : ℕ → Text → List Text → History
with_late grade run docs = after (a_graded grade) group (submitted run docs) 1000

abbrev maps : History → List ℕ
maps H = map (λ run. (summary_on H run).map) (live H)

late-run : replied (a_graded 0) group (submitted (codes "Y") (codes "c" ∷ codes "d" ∷ codes "f" ∷ [])) 1000 ≡ reply.Submitted (codes "Y") 1 3
late-run = refl

-- a isn't relevant, and X alone holds it
late-run-first : first_run (with_late 0 (codes "Y") (codes "c" ∷ codes "d" ∷ codes "f" ∷ [])) ≡ Some (codes "Y")
late-run-first = refl

lease-of-late-run : replied (with_late 0 (codes "Y") (codes "c" ∷ codes "d" ∷ codes "f" ∷ [])) p lease 1000 ≡ leased 2 (codes "c") 1600
lease-of-late-run = refl

-- a is relevant, and both hold it
earlier-run-first : first_run (with_late 1 (codes "Z") (codes "b" ∷ codes "a" ∷ codes "c" ∷ [])) ≡ Some (codes "X")
earlier-run-first = refl

lease-of-earlier-run : replied (with_late 1 (codes "Z") (codes "b" ∷ codes "a" ∷ codes "c" ∷ [])) p lease 1000 ≡ leased 2 (codes "b") 1600
lease-of-earlier-run = refl

scores-with-late-run : maps (with_late 1 (codes "Z") (codes "b" ∷ codes "a" ∷ codes "c" ∷ [])) ≡ 1000000000000000 ∷ 500000000000000 ∷ []
unfolding summary_of cell_of
scores-with-late-run = refl
