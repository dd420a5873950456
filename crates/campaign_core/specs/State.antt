-- What a state stands for, and how it answers.
use Rattle.std.specs.Prelude.{◌≡◌, [], ◌∷◌, ℕ, IsTrue, Option, None, Some}
use Rattle.rulebook.specs.declared.ask.Ask.TheVariants.{Act}
use Rattle.rulebook.specs.declared.ask.Command.{Command}
use Rattle.rulebook.specs.declared.entry.Entry.{Entry}
use Rattle.rulebook.specs.declared.rules.Caller.{Caller}
use Rattle.rulebook.specs.Answers.{Answer}
use Rattle.rulebook.specs.Histories.Legal.{is_well_addressed}
use Rattle.rulebook.specs.Requests.Numbers.{entry_of_number}
use Rattle.campaign_core.specs.StateViews.{StateView}
use Rattle.campaign_core.specs.declared.state.verdict.Verdict.{Verdict}
use Rattle.campaign_core.specs.declared.state.verdict.Verdict.TheVariants.{Told, Ready}

-- Told is the reply of an answer that adds nothing, Ready the entry that an answer adds. The entry that is prepared afterwards is that one alone.
abbrev pub IsVerdict : Answer → Verdict → Option Entry → Type 0
IsVerdict answer (Told reply) prepared = (answer.added ≡ []) × (reply ≡ answer.reply) × (prepared ≡ None)
IsVerdict answer (Ready entry) prepared = (answer.added ≡ entry ∷ []) × (prepared ≡ Some entry)

-- the history stays, and no entry is prepared
pub record IsAtRest (old new : StateView) : Type 0 where
  pub history : new.history ≡ old.history
  pub prepared : new.prepared ≡ None

-- a well addressed command whose number its caller didn't use before, while no entry is prepared
pub record IsFirst (s : StateView) (who : Caller) (number : Option ℕ) (command : Command) (moment : ℕ) : Type 0 where
  pub addressed : IsTrue (is_well_addressed who number (Act command) moment)
  pub unused : entry_of_number s.history who.name number ≡ None
  pub none : s.prepared ≡ None
