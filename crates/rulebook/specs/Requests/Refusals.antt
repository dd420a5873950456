-- Refusals, tried in the order in which they are written.
use Rattle.std.specs.Prelude.{Bool, true, false, not, List, [], ◌∷◌, Option, None, Some, Result, Err}
use Rattle.std.specs.Bool.{then_some}
use Rattle.rulebook.specs.declared.rules.Phase.{Phase}
use Rattle.rulebook.specs.declared.rules.Phase.TheVariants.{Collecting, Judging, Published}
use Rattle.rulebook.specs.declared.reply.Refusal.{Refusal}
use Rattle.rulebook.specs.declared.reply.Refusal.TheVariants as refusal
use Rattle.rulebook.specs.declared.reply.Reply.{Reply}
use Rattle.rulebook.specs.Campaign.{History, phase}

-- what a request comes to: a reply, or a refusal
abbrev pub Outcome : Type 0
Outcome = Result Reply Refusal

infix 20 ◌when◌
abbrev pub ◌when◌ : Refusal → Bool → Option Refusal
r when test = then_some test r

-- the first refusal that holds, and else what follows
abbrev pub unless : List (Option Refusal) → Outcome → Outcome
unless [] outcome = outcome
unless (None ∷ tests) outcome = unless tests outcome
unless (Some r ∷ tests) outcome = Err r

-- the refusal where the value is missing, and else what follows from it
abbrev pub unless_missing : {X : Type 0} → Option X → Refusal → (X → Outcome) → Outcome
unless_missing None r outcome = Err r
unless_missing (Some value) r outcome = outcome value

abbrev pub is_phase : Phase → Phase → Bool
is_phase Collecting Collecting = true
is_phase Collecting _ = false
is_phase Judging Judging = true
is_phase Judging _ = false
is_phase Published Published = true
is_phase Published _ = false

abbrev pub wrong_phase_unless : Phase → History → Option Refusal
wrong_phase_unless p H = refusal.WrongPhase (phase H) when not (is_phase p (phase H))

abbrev pub wrong_phase_where : Phase → History → Option Refusal
wrong_phase_where p H = refusal.WrongPhase (phase H) when is_phase p (phase H)
