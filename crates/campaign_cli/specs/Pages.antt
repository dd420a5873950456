-- The pages of a campaign that the program asks for itself.
use Rattle.std.specs.Prelude.{◌≡◌, ℕ}
use Rattle.rulebook.specs.declared.ask.Query.{Query}
use Rattle.rulebook.specs.declared.rules.Caller.{Caller}
use Rattle.rulebook.specs.Answers.{page_outcome, query_outcome}
use Rattle.rulebook.specs.Campaign.{History}
use Rattle.rulebook.specs.Words.{Text}

-- a query is answered by this page, whoever asks and whenever
abbrev pub IsPageOf : History → Query → Text → Type 0
IsPageOf H query page = (who : Caller) (now : ℕ) → query_outcome H who now query ≡ page_outcome page
