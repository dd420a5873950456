-- Answers of a small campaign to numbered requests, to a withdrawal and to its end.
use Rattle.std.specs.Fmt.{digits}
use Rattle.std.specs.Prelude.{◌≡◌, ℕ, [], ◌∷◌, ◌++◌, Some, refl, codes, length, map}
use Rattle.rulebook.specs.declared.ask.Command.{Command}
use Rattle.rulebook.specs.declared.ask.Command.TheVariants as command
use Rattle.rulebook.specs.declared.ask.Query.TheVariants as query
use Rattle.rulebook.specs.declared.ask.Ask.TheVariants.{Act}
use Rattle.rulebook.specs.declared.reply.Refusal.TheVariants as refusal
use Rattle.rulebook.specs.declared.reply.Reply.TheVariants as reply
use Rattle.rulebook.specs.declared.rules.Phase.TheVariants.{Published}
use Rattle.rulebook.specs.Words.{Text}
use Rattle.rulebook.specs.Answers.{Answer, answer}
use Rattle.rulebook.specs.Campaign.{History, live, phase, pool}
use Rattle.rulebook.specs.Judgements.Grades.{relevant_count, non_relevant_count}
use Rattle.rulebook.specs.Judgements.Holders.{holders}
use Rattle.rulebook.proofs.WorkedRows.SmallCampaign.{X, group, organiser, submitted, with_topic}
use Rattle.rulebook.proofs.WorkedRows.JudgedCampaign.{after, all_graded, c_leased, lease, leased, p, q, refused, replied, told_at}

-- Numbered requests: the sixth entry is a grade under the number 7.

abbrev one_leased : History
one_leased = after (after (after (with_topic 3) group X 1000) organiser command.Open 1000) p lease 1000

abbrev numbered_at : History → ℕ → ℕ → Answer
numbered_at H number grade = answer H p (Some number) (Act (command.Grade 1 grade)) 1000

abbrev one_graded : History
one_graded = one_leased ++ (numbered_at one_leased 7 1).added

entries-before : length one_leased ≡ 5
entries-before = refl

first-time : (numbered_at one_leased 7 1).reply ≡ reply.Graded (codes "1") (codes "a") 1
first-time = refl

entries-then : length one_graded ≡ 6
entries-then = refl

second-time : (numbered_at one_graded 7 1).reply ≡ (numbered_at one_leased 7 1).reply
second-time = refl

nothing-added : (numbered_at one_graded 7 1).added ≡ []
nothing-added = refl

another-grade : (numbered_at one_graded 7 2).reply ≡ refused (refusal.Reused 6)
another-grade = refl

another-number : (numbered_at one_graded 8 1).reply ≡ refused refusal.Ended
another-number = refl

number-of-another-caller : (answer one_graded q (Some 7) (Act lease) 1000).reply ≡ leased 2 (codes "b") 1600
number-of-another-caller = refl

-- a refused command leaves its number free
free-after-a-refusal : (answer (one_graded ++ (numbered_at one_graded 8 1).added) p (Some 8) (Act lease) 1000).reply ≡ leased 2 (codes "b") 1600
free-after-a-refusal = refl

-- A withdrawal: Y has no part any more, and what its documents were given stays.

abbrev withdraw : Text → Command
withdraw run = command.Withdraw run

abbrev d_leased : History
d_leased = after c_leased q lease 1000

abbrev y_withdrawn : History
y_withdrawn = after d_leased group (withdraw (codes "Y")) 1000

abbrev d_graded : History
d_graded = after y_withdrawn q (command.Grade 3 1) 1000

withdrawal : replied d_leased group (withdraw (codes "Y")) 1000 ≡ reply.Done
withdrawal = refl

live-runs : map (λ run. run.name) (live y_withdrawn) ≡ codes "X" ∷ []
live-runs = refl

pool-without-Y : pool y_withdrawn (codes "1") ≡ codes "a" ∷ codes "b" ∷ codes "e" ∷ []
pool-without-Y = refl

holder-before : map (λ run. run.0) (holders d_leased (codes "1") (codes "d")) ≡ 1 ∷ []
holder-before = refl

no-holder-then : holders y_withdrawn (codes "1") (codes "d") ≡ []
no-holder-then = refl

grade-of-its-document : replied y_withdrawn q (command.Grade 3 1) 1000 ≡ reply.Graded (codes "1") (codes "d") 1
grade-of-its-document = refl

qrels-keep-it : told_at d_graded query.Qrels 1000 ≡ reply.Page (codes "1 0 a 0\n1 0 d 1\n")
unfolding digits
qrels-keep-it = refl

next-lease : replied d_graded p lease 1000 ≡ leased 4 (codes "b") 1600
next-lease = refl

withdrawn-once : replied d_graded group (withdraw (codes "Y")) 1000 ≡ refused refusal.Withdrawn
withdrawn-once = refl

no-scores : told_at d_graded (query.Scores (codes "Y")) 1000 ≡ refused refusal.Withdrawn
no-scores = refl

withdrawal-by-another-group : replied d_leased (record group { name = codes "g2" }) (withdraw (codes "Y")) 1000 ≡ refused refusal.NotYours
withdrawal-by-another-group = refl

withdrawal-by-an-organiser : replied d_leased organiser (withdraw (codes "Y")) 1000 ≡ reply.Done
withdrawal-by-an-organiser = refl

withdrawal-of-no-run : replied d_leased organiser (withdraw (codes "Z")) 1000 ≡ refused refusal.UnknownRun
withdrawal-of-no-run = refl

-- The end: release 1 is what was published.

abbrev published : History
published = after all_graded organiser command.Publish 1000

nothing-left : replied all_graded p lease 1000 ≡ refused refusal.NothingLeft
nothing-left = refl

no-release-before : told_at all_graded (query.ReleaseQrels 1) 1000 ≡ refused refusal.UnknownRelease
no-release-before = refl

publication : replied all_graded organiser command.Publish 1000 ≡ reply.Done
publication = refl

phase-then : phase published ≡ Published
phase-then = refl

release : told_at published (query.ReleaseQrels 1) 1000 ≡ reply.Page (codes "1 0 a 0\n1 0 b 1\n1 0 c 1\n1 0 d 0\n1 0 e 0\n1 0 f 2\n")
unfolding digits
release = refl

no-other-release : told_at published (query.ReleaseQrels 2) 1000 ≡ refused refusal.UnknownRelease
no-other-release = refl

relevant-then : relevant_count published (codes "1") ≡ 3
relevant-then = refl

lower-then : non_relevant_count published (codes "1") ≡ 3
lower-then = refl

no-lease-then : replied published p lease 1000 ≡ refused (refusal.WrongPhase Published)
no-lease-then = refl

no-withdrawal-then : replied published group (withdraw (codes "Y")) 1000 ≡ refused (refusal.WrongPhase Published)
no-withdrawal-then = refl

no-run-then : replied published group (submitted (codes "Z") (codes "a" ∷ [])) 1000 ≡ refused (refusal.WrongPhase Published)
no-run-then = refl
