-- Answers of a small campaign while it is judged: one topic, two runs of three documents, two assessors.
use Rattle.std.specs.Prelude.{◌≡◌, ◌+◌, ℕ, [], ◌∷◌, ◌++◌, List, Option, None, Some, refl, codes, unwrap_or}
use Rattle.std.specs.Fmt.{digits}
use Rattle.std.specs.Option.{option_map}
use Rattle.rulebook.specs.declared.rules.Role.TheVariants.{Assessor}
use Rattle.rulebook.specs.declared.rules.Caller.{Caller}
use Rattle.rulebook.specs.declared.ask.Command.{Command}
use Rattle.rulebook.specs.declared.ask.Command.TheVariants as command
use Rattle.rulebook.specs.declared.ask.Ask.TheVariants.{Act, See}
use Rattle.rulebook.specs.declared.ask.Query.{Query}
use Rattle.rulebook.specs.declared.ask.Query.TheVariants as query
use Rattle.rulebook.specs.Histories.Legal.{founding}
use Rattle.rulebook.specs.declared.reply.Refusal.{Refusal}
use Rattle.rulebook.specs.declared.reply.Refusal.TheVariants as refusal
use Rattle.rulebook.specs.declared.reply.Reply.{Reply}
use Rattle.rulebook.specs.declared.reply.Reply.TheVariants as reply
use Rattle.rulebook.specs.declared.rules.Phase.TheVariants.{Collecting}
use Rattle.rulebook.specs.Words.{Text}
use Rattle.measures.specs.Cells.{cell_of}
use Rattle.measures.specs.Means.{summary_of}
use Rattle.measures.specs.declared.means.Summary.{Summary}
use Rattle.rulebook.specs.Campaign.{History, Run, numbered_runs}
use Rattle.rulebook.specs.Answers.{answer, moment_after}
use Rattle.rulebook.specs.Judgements.Grades.{effective, trail}
use Rattle.rulebook.specs.Judgements.JudgingOrder.{first_of}
use Rattle.rulebook.specs.Reports.Scores.{run_named, summary_on}
use Rattle.rulebook.proofs.WorkedRows.SmallCampaign.{after as after_at_1000, campaign, group, opened, organiser, pooling, rules, submitted}

abbrev assessor : Text → Caller
assessor name = record { name = name; role = Assessor }

abbrev pub p : Caller
p = assessor (codes "p")

abbrev pub q : Caller
q = assessor (codes "q")

abbrev pub lease : Command
lease = command.Lease (codes "1")

-- the list after one more request at a moment
abbrev pub after : History → Caller → Command → ℕ → History
after H who c moment = H ++ (answer H who None (Act c) moment).added

abbrev pub replied : History → Caller → Command → ℕ → Reply
replied H who c moment = (answer H who None (Act c) moment).reply

abbrev pub leased : ℕ → Text → ℕ → Reply
leased number doc until = reply.Leased number (codes "1") doc until (codes "pooling")

abbrev pub refused : Refusal → Reply
refused r = reply.Refused r

-- the order of the two runs, by the first of them
abbrev pub first_run : History → Option (List ℕ)
first_run H = option_map (λ run. run.1.name) (first_of H (codes "1") (numbered_runs H))

first-lease : replied opened p lease 1000 ≡ leased 1 (codes "a") 1600
first-lease = refl

abbrev pub a_leased : History
a_leased = after opened p lease 1000

abbrev a_graded : History
a_graded = after a_leased p (command.Grade 1 0) 1000

grade-of-a : replied a_leased p (command.Grade 1 0) 1000 ≡ reply.Graded (codes "1") (codes "a") 0
grade-of-a = refl

first-before : first_run a_leased ≡ Some (codes "X")
first-before = refl

first-after : first_run a_graded ≡ Some (codes "Y")
first-after = refl

second-lease : replied a_graded p lease 1000 ≡ leased 2 (codes "c") 1600
second-lease = refl

abbrev pub c_leased : History
c_leased = after a_graded p lease 1000

beside-a-live-lease : replied c_leased q lease 1000 ≡ leased 3 (codes "d") 1600
beside-a-live-lease = refl

trail-of-one : trail c_leased (codes "1") ≡ codes "a" ∷ []
trail-of-one = refl

effective-of-a : effective c_leased (codes "1") (codes "a") ≡ Some 0
effective-of-a = refl

-- The lease ends at its moment, and the document is leased again.
at-the-last-second : replied a_leased p (command.Grade 1 0) 1599 ≡ reply.Graded (codes "1") (codes "a") 0
at-the-last-second = refl

expired : replied a_leased p (command.Grade 1 0) 1600 ≡ refused (refusal.Expired 1600)
expired = refl

leased-again : replied a_leased q lease 1600 ≡ leased 2 (codes "a") 2200
leased-again = refl

not-before : replied a_leased q lease 1599 ≡ leased 2 (codes "b") 2199
not-before = refl

-- A moment that goes back counts as the last entry's.
abbrev leased_again : History
leased_again = after a_leased q lease 1600

release-with-an-older-moment : replied leased_again q (command.Release 2) 900 ≡ reply.Done
release-with-an-older-moment = refl

moment-of-the-release : moment_after (after leased_again q (command.Release 2) 900) 0 ≡ 1600
moment-of-the-release = refl

free-after-the-release : replied (after leased_again q (command.Release 2) 900) q lease 1600 ≡ leased 3 (codes "a") 2200
free-after-the-release = refl

-- Refusals, each in its order.
abbrev two_leased : History
two_leased = after a_leased p lease 1000

too-many : replied two_leased p lease 1000 ≡ refused (refusal.TooMany 2)
too-many = refl

not-too-many-once-expired : replied two_leased p lease 1600 ≡ leased 3 (codes "a") 2200
not-too-many-once-expired = refl

not-yours : replied a_leased q (command.Grade 1 1) 1000 ≡ refused refusal.NotYours
not-yours = refl

not-yours-before-expired : replied a_leased q (command.Release 1) 1600 ≡ refused refusal.NotYours
not-yours-before-expired = refl

grade-range : replied a_leased p (command.Grade 1 4) 1000 ≡ refused refusal.GradeRange
grade-range = refl

expired-before-range : replied a_leased p (command.Grade 1 4) 1600 ≡ refused (refusal.Expired 1600)
expired-before-range = refl

ended : replied a_graded p (command.Grade 1 1) 1000 ≡ refused refusal.Ended
ended = refl

ended-before-expired : replied a_graded p (command.Release 1) 1600 ≡ refused refusal.Ended
ended-before-expired = refl

unknown-lease : replied a_graded p (command.Grade 2 1) 1000 ≡ refused refusal.UnknownLease
unknown-lease = refl

no-lease-zero : replied a_graded p (command.Release 0) 1000 ≡ refused refusal.UnknownLease
no-lease-zero = refl

unknown-topic : replied a_graded p (command.Lease (codes "9")) 1000 ≡ refused refusal.UnknownTopic
unknown-topic = refl

wrong-phase : replied (campaign 3) p lease 1000 ≡ refused (refusal.WrongPhase Collecting)
wrong-phase = refl

-- All six documents are graded in the order in which they are named, and then nothing is left.
abbrev graded_next : History → ℕ → ℕ → History
graded_next H number grade = after (after H p lease 1000) p (command.Grade number grade) 1000

abbrev pub all_graded : History
all_graded = graded_next (graded_next (graded_next (graded_next (graded_next (graded_next opened 1 0) 2 1) 3 0) 4 1) 5 0) 6 2

nothing-left : replied all_graded p lease 1000 ≡ refused refusal.NothingLeft
nothing-left = refl

trail-of-all : trail all_graded (codes "1") ≡ codes "a" ∷ codes "c" ∷ codes "d" ∷ codes "b" ∷ codes "e" ∷ codes "f" ∷ []
trail-of-all = refl

-- An amendment, and what it does to the order.
abbrev c_graded : History
c_graded = after c_leased p (command.Grade 2 1) 1000

still-second : first_run c_graded ≡ Some (codes "Y")
still-second = refl

abbrev amended : History
amended = after c_graded p (command.Amend (codes "1") (codes "c") 0) 1000

amendment : replied c_graded p (command.Amend (codes "1") (codes "c") 0) 1000 ≡ reply.Done
amendment = refl

changed-back : first_run amended ≡ Some (codes "X")
changed-back = refl

next-after-the-amendment : replied amended p lease 1000 ≡ leased 3 (codes "b") 1600
next-after-the-amendment = refl

not-labelled : replied amended p (command.Amend (codes "1") (codes "b") 0) 1000 ≡ refused refusal.NotLabelled
not-labelled = refl

not-labelled-by-the-other : replied amended q (command.Amend (codes "1") (codes "c") 0) 1000 ≡ refused refusal.NotLabelled
not-labelled-by-the-other = refl

label-before-range : replied amended p (command.Amend (codes "1") (codes "b") 4) 1000 ≡ refused refusal.NotLabelled
label-before-range = refl

amendment-out-of-range : replied amended p (command.Amend (codes "1") (codes "c") 4) 1000 ≡ refused refusal.GradeRange
amendment-out-of-range = refl

-- Progress counts the leases that are live at the moment.
abbrev pub told_at : History → Query → ℕ → Reply
told_at H ask moment = (answer H organiser None (See ask) moment).reply

progress-before : told_at a_leased query.Progress 1599 ≡ reply.Page (codes "1 6 0 0 1\n")
unfolding digits
progress-before = refl

progress-at : told_at a_leased query.Progress 1600 ≡ reply.Page (codes "1 6 0 0 0\n")
unfolding digits
progress-at = refl

qrels-of-all : told_at all_graded query.Qrels 1000 ≡ reply.Page (codes "1 0 a 0\n1 0 b 1\n1 0 c 1\n1 0 d 0\n1 0 e 0\n1 0 f 2\n")
unfolding digits
qrels-of-all = refl

progress-of-all : told_at all_graded query.Progress 1000 ≡ reply.Page (codes "1 6 3 3 0\n")
unfolding digits
progress-of-all = refl

-- Two labels for each document: they may differ, and a ruling decides.
abbrev double : History
double =
    after_at_1000
    (after_at_1000 (after_at_1000 (founding (record (rules 3) { doubles = codes "1" ∷ [] }) ∷ []) organiser (command.Topics (pooling ∷ []))) group
    (submitted (codes "X") (codes "b" ∷ codes "e" ∷ codes "a" ∷ []))) organiser command.Open

abbrev graded_by_both : History → ℕ → ℕ → ℕ → History
graded_by_both H number first second =
    after (after (after (after H p lease 1000) q lease 1000) p (command.Grade number first) 1000) q (command.Grade (number + 1) second) 1000

abbrev double_graded : History
double_graded = graded_by_both (graded_by_both (graded_by_both double 1 1 1) 3 0 0) 5 1 2

no-grade-of-a : effective double_graded (codes "1") (codes "a") ≡ None
no-grade-of-a = refl

disagreement : told_at double_graded query.Disagreements 1000 ≡ reply.Page (codes "1 a\n")
disagreement = refl

abbrev a_ruled : History
a_ruled = after double_graded organiser (command.Rule (codes "1") (codes "a") 2) 1000

no-disagreement : told_at a_ruled query.Disagreements 1000 ≡ reply.Page []
no-disagreement = refl

progress-of-a-ruling : told_at a_ruled query.Progress 1000 ≡ reply.Page (codes "1 3 2 1 0\n")
unfolding digits
progress-of-a-ruling = refl

abbrev a_amended : History
a_amended = after a_ruled p (command.Amend (codes "1") (codes "a") 0) 1000

ruling-stands : effective a_amended (codes "1") (codes "a") ≡ Some 2
ruling-stands = refl

last-ruling : effective (after a_amended organiser (command.Rule (codes "1") (codes "a") 3) 1000) (codes "1") (codes "a") ≡ Some 3
last-ruling = refl

abbrev b_amended : History
b_amended = after a_amended p (command.Amend (codes "1") (codes "b") 0) 1000

one-less : told_at b_amended query.Progress 1000 ≡ reply.Page (codes "1 3 1 1 0\n")
unfolding digits
one-less = refl

another-disagreement : told_at b_amended query.Disagreements 1000 ≡ reply.Page (codes "1 b\n")
another-disagreement = refl

trail-of-amended : trail b_amended (codes "1") ≡ codes "b" ∷ codes "e" ∷ codes "a" ∷ []
trail-of-amended = refl

rule-without-a-label : replied double organiser (command.Rule (codes "1") (codes "a") 2) 1000 ≡ refused refusal.NotLabelled
rule-without-a-label = refl

-- The scores by the grades that stand: a ruling counts, and so does an amendment.
abbrev run_of : History → Text → Run
run_of H name = unwrap_or (run_named H name) (record { name = []; lists = [] })

abbrev summary_by_name : History → Text → Summary
summary_by_name H name = summary_on H (run_of H name)

map-of-a-ruling : (summary_by_name a_ruled (codes "X")).map ≡ 833333333333333
unfolding cell_of summary_of
map-of-a-ruling = refl

bpref-of-a-ruling : (summary_by_name a_ruled (codes "X")).bpref ≡ 500000000000000
unfolding cell_of summary_of
bpref-of-a-ruling = refl

map-of-an-amendment : (summary_by_name b_amended (codes "X")).map ≡ 333333333333333
unfolding cell_of summary_of
map-of-an-amendment = refl

bpref-of-an-amendment : (summary_by_name b_amended (codes "X")).bpref ≡ 0
unfolding cell_of summary_of
bpref-of-an-amendment = refl

-- The six documents of two runs: three are relevant.
map-of-X : (summary_by_name all_graded (codes "X")).map ≡ 166666666666666
unfolding cell_of summary_of
map-of-X = refl

bpref-of-X : (summary_by_name all_graded (codes "X")).bpref ≡ 222222222222222
unfolding cell_of summary_of
bpref-of-X = refl

map-of-Y : (summary_by_name all_graded (codes "Y")).map ≡ 555555555555555
unfolding cell_of summary_of
map-of-Y = refl

bpref-of-Y : (summary_by_name all_graded (codes "Y")).bpref ≡ 555555555555555
unfolding cell_of summary_of
bpref-of-Y = refl

nothing-counts : (summary_by_name opened (codes "X")).topics ≡ 0
unfolding cell_of summary_of
nothing-counts = refl

unknown-run : told_at all_graded (query.Scores (codes "Z")) 1000 ≡ refused refusal.UnknownRun
unknown-run = refl

scores-of-another-group : (answer all_graded (record group { name = codes "g2" }) None (See (query.Scores (codes "X"))) 1000).reply ≡ refused refusal.NotYours
scores-of-another-group = refl
