-- The roles, and which of them may ask which query.
use Rattle.std.specs.Prelude.{Bool, true, false, ◌||◌, Option, None, Some}
use Rattle.rulebook.specs.declared.rules.Role.{Role}
use Rattle.rulebook.specs.declared.rules.Role.TheVariants.{Organiser, Group, Assessor}
use Rattle.rulebook.specs.declared.ask.Query.{Query}
use Rattle.rulebook.specs.declared.ask.Query.TheVariants.{Pool, Qrels, Scores, Table, Disagreements, Progress, ReleaseQrels, ReleaseScores}
use Rattle.rulebook.specs.Words.{Text}

abbrev pub is_organiser : Role → Bool
is_organiser Organiser = true
is_organiser Group = false
is_organiser Assessor = false

abbrev pub is_group : Role → Bool
is_group Organiser = false
is_group Group = true
is_group Assessor = false

abbrev pub is_assessor : Role → Bool
is_assessor Organiser = false
is_assessor Group = false
is_assessor Assessor = true

-- what the rules say of a query beside its answer
pub record QueryFacts : Type 0 where
  -- the roles that may ask it
  pub roles : Role → Bool
  -- the name that it gives, of a topic or of a run
  pub name : Option Text

abbrev pub shows : Query → QueryFacts
shows (Pool topic) = record { roles = λ role. is_organiser role || is_assessor role; name = Some topic }
shows Qrels = record { roles = is_organiser; name = None }
shows (Scores run) = record { roles = λ role. is_group role || is_organiser role; name = Some run }
shows Table = record { roles = is_organiser; name = None }
shows Disagreements = record { roles = is_organiser; name = None }
shows Progress = record { roles = is_organiser; name = None }
shows (ReleaseQrels release) = record { roles = λ role. true; name = None }
shows (ReleaseScores release) = record { roles = λ role. true; name = None }

abbrev pub may_see : Role → Query → Bool
may_see role q = (shows q).roles role
