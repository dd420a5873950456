-- Small campaigns on one topic: two runs by the reduced judgements of their groups, and how two assessors agree.
use Rattle.std.specs.Prelude.{◌≡◌, ℕ, ◌++◌, ◌+◌, List, [], ◌∷◌, None, codes, map, refl}
use Rattle.measures.specs.Cells.{cell_of}
use Rattle.measures.specs.Means.{summary_of}
use Rattle.rulebook.specs.declared.rules.Rules.{Rules}
use Rattle.rulebook.specs.declared.rules.Caller.{Caller}
use Rattle.rulebook.specs.declared.rules.Role.{Role}
use Rattle.rulebook.specs.declared.rules.Role.TheVariants.{Organiser, Group, Assessor}
use Rattle.rulebook.specs.declared.ask.Command.{Command}
use Rattle.rulebook.specs.declared.ask.Command.TheVariants as command
use Rattle.rulebook.specs.declared.ask.Ask.TheVariants.{Act}
use Rattle.rulebook.specs.Words.{Text}
use Rattle.rulebook.specs.Answers.{answer}
use Rattle.rulebook.specs.Campaign.{History}
use Rattle.rulebook.specs.Histories.Legal.{founding}
use Rattle.leave_out.specs.Agreement.{agreement}
use Rattle.leave_out.specs.Reuse.{reuse}
use Rattle.leave_out.specs.declared.assessors.Agreed.{Agreed}
use Rattle.leave_out.specs.declared.reusability.Reused.{Reused}

abbrev rules : Rules
rules = record { depth = 3; term = 600; hold = 2; level = 1; top_grade = 3; doubles = []; levels = [] }

abbrev caller : Role → Text → Caller
caller role name = record { name = name; role = role }

abbrev organiser : Caller
organiser = caller Organiser (codes "org")

abbrev after : History → Caller → Command → History
after H who c = H ++ (answer H who None (Act c) 1000).added

abbrev submitted : Text → List Text → Command
submitted run docs = command.Submit run (record { topic = codes "1"; line = 1; docs = docs } ∷ [])

abbrev begun : Rules → History
begun rules = after (founding rules ∷ []) organiser (command.Topics (record { id = codes "1"; title = codes "pooling"; desc = []; narr = [] } ∷ []))

-- a lease, and the grade of its document
abbrev judged : History → ℕ → ℕ → History
judged H lease grade =
    after (after H (caller Assessor (codes "p")) (command.Lease (codes "1"))) (caller Assessor (codes "p")) (command.Grade lease grade)

-- so many leases with these grades
abbrev graded : History → ℕ → List ℕ → History
graded H lease [] = H
graded H lease (grade ∷ grades) = graded (judged H lease grade) (lease + 1) grades

-- two runs are submitted by their groups, and the campaign is opened
abbrev opened : Text → List Text → Text → List Text → History
opened first X second Y =
    after (after (after (begun rules) (caller Group first) (submitted (codes "X") X)) (caller Group second) (submitted (codes "Y") Y)) organiser command.Open

-- X and Y share b; a, b, e, c and d are named in this order
abbrev two_groups : History
two_groups =
    graded (opened (codes "first") (codes "a" ∷ codes "b" ∷ codes "e" ∷ []) (codes "second") (codes "b" ∷ codes "c" ∷ codes "d" ∷ [])) 1
    (1 ∷ 1 ∷ 0 ∷ 0 ∷ 1 ∷ [])

-- both runs are one group's
abbrev one_group : History
one_group =
    graded (opened (codes "grp") (codes "a" ∷ codes "b" ∷ codes "e" ∷ []) (codes "grp") (codes "c" ∷ codes "d" ∷ codes "f" ∷ [])) 1
    (0 ∷ 1 ∷ 0 ∷ 1 ∷ 0 ∷ 2 ∷ [])

-- both groups submit the same list
abbrev one_list : History
one_list = graded (opened (codes "first") (codes "a" ∷ codes "b" ∷ []) (codes "second") (codes "a" ∷ codes "b" ∷ [])) 1 (1 ∷ 0 ∷ [])

abbrev figures : Reused → List ℕ
figures one = one.unique ∷ one.full ∷ one.reduced ∷ []

of-two-groups : map figures (reuse two_groups) ≡ (2 ∷ 666666666666666 ∷ 250000000000000 ∷ []) ∷ (2 ∷ 555555555555555 ∷ 500000000000000 ∷ []) ∷ []
unfolding summary_of cell_of
of-two-groups = refl

of-one-group : map figures (reuse one_group) ≡ (6 ∷ 166666666666666 ∷ 0 ∷ []) ∷ (6 ∷ 555555555555555 ∷ 0 ∷ []) ∷ []
unfolding summary_of cell_of
of-one-group = refl

-- a document that both groups hold is nobody's own
of-one-list : map figures (reuse one_list) ≡ (0 ∷ 1000000000000000 ∷ 1000000000000000 ∷ []) ∷ (0 ∷ 1000000000000000 ∷ 1000000000000000 ∷ []) ∷ []
unfolding summary_of cell_of
of-one-list = refl

-- A topic needs two labels, and two assessors grade b, e and a.

abbrev doubled : History
doubled =
    after (after (begun (record rules { doubles = codes "1" ∷ [] })) (caller Group (codes "grp"))
    (submitted (codes "X") (codes "b" ∷ codes "e" ∷ codes "a" ∷ [])))
    organiser command.Open

-- a document leased and graded by both
abbrev twice : History → ℕ → ℕ → ℕ → History
twice H lease x y =
    let p = caller Assessor (codes "p") in
    let q = caller Assessor (codes "q") in
    after (after (after (after H p (command.Lease (codes "1"))) q (command.Lease (codes "1"))) p (command.Grade lease x)) q (command.Grade (lease + 1) y)

abbrev labelled : History
labelled = twice (twice (twice doubled 1 1 1) 3 0 0) 5 1 2

-- one is ruled on, and the first labels of two are amended
abbrev amended : History
amended =
    let p = caller Assessor (codes "p") in
    after (after (after labelled organiser (command.Rule (codes "1") (codes "a") 2)) p (command.Amend (codes "1") (codes "a") 0)) p
    (command.Amend (codes "1") (codes "b") 0)

abbrev counts : Agreed → List ℕ
counts one = one.pairs ∷ one.equal ∷ one.both ∷ one.either ∷ []

of-labels : map counts (agreement labelled) ≡ (3 ∷ 2 ∷ 2 ∷ 2 ∷ []) ∷ []
of-labels = refl

of-amended-labels : map counts (agreement amended) ≡ (3 ∷ 1 ∷ 0 ∷ 2 ∷ []) ∷ []
of-amended-labels = refl
