-- What `clap` tells of a command line.
use Rattle.std.proofs.Common.{◌≡◌, inl, inr, true, false, List, [], ◌∷◌, refl, sym, subst}
use Rattle.clap.specs.Words.{App, HasKind, HasMatchesOf, Kinds, Text, fault_of, first_of, is_simple_and_free, kind_of, rows_of, subcommand_of, subcommand_rows_of}
use Rattle.clap.specs.Matches.{first_value}
use Rattle.clap.specs.declared.error.Error.{Error}
use Rattle.clap.specs.declared.error.kind.ErrorKind.TheVariants.{OutOfMemory}
use Rattle.clap.specs.declared.parser.matches.ArgMatches.{ArgMatches}
use Rattle.clap.specs.declared.parser.matches.Found.{Found}
use Rattle.clap.proofs.WalkLemmas.{first_value-rows}
use Rattle.command_words.specs.CommandLines.{is_clear, program}
use Rattle.command_words.specs.Words.{Form}
use Rattle.command_words.proofs.Programs.{simple, simple_and_free}
use Rattle.command_words.proofs.Refusals.{clear_none}

bad_kinds : (kinds : Kinds) (e : Error) → HasKind kinds e → ¬ (kind_of e ≡ OutOfMemory) → is_clear kinds ≡ false
unfolding is_clear
bad_kinds [] e (inl memory) other = absurd (other memory)
bad_kinds [] e (inr among) other = absurd among
bad_kinds (k ∷ kinds) e has other = refl

-- an error that isn't want of memory is a refusal
pub refused : (forms : List Form) (a : App) (words : List Text) (e : Error) → a ≡ program forms → (is_simple_and_free a ≡ true → HasKind (fault_of a words) e)
    → ¬ (kind_of e ≡ OutOfMemory) → is_clear (fault_of (program forms) words) ≡ false
refused forms a words e is =
    subst (λ a. (is_simple_and_free a ≡ true → HasKind (fault_of a words) e) → ¬ (kind_of e ≡ OutOfMemory) → is_clear (fault_of (program forms) words) ≡ false)
    (sym is)
    (λ has other. bad_kinds (fault_of (program forms) words) e (has (simple_and_free forms)) other)

-- matches are what `clap` makes of words that it takes
pub accepted : (forms : List Form) (a : App) (words : List Text) (m : ArgMatches) → a ≡ program forms → (is_simple_and_free a ≡ true → fault_of a words ≡ [])
    → HasMatchesOf a words m → (is_clear (fault_of (program forms) words) ≡ true) × (subcommand_rows_of m ≡ subcommand_of (program forms) words)
accepted forms a words m is = subst (λ a. (is_simple_and_free a ≡ true → fault_of a words ≡ []) → HasMatchesOf a words m
    → (is_clear (fault_of (program forms) words) ≡ true) × (subcommand_rows_of m ≡ subcommand_of (program forms) words)) (sym is)
    (λ none has. (clear_none (fault_of (program forms) words) (none (simple_and_free forms)), (has (simple forms)).1))

-- the value of a name, by its row
pub first_row : (f : Found) (id : Text) → first_value f id ≡ first_of id (rows_of f)
first_row f id = first_value-rows f id
