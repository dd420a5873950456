-- Well addressed requests, and the lists of entries that can come about.
use Rattle.std.specs.Prelude.{◌≡◌, ℕ, Bool, true, ◌&&◌, [], ◌∷◌, ◌++◌, Option, None, length, nat_le, IsTrue, codes}
use Rattle.std.specs.Option.{option_map_or}
use Rattle.trec_formats.specs.Names.{is_name}
use Rattle.rulebook.specs.Requests.Limits.{max_moment, max_entry_bytes}
use Rattle.rulebook.specs.declared.rules.Role.TheVariants.{Organiser}
use Rattle.rulebook.specs.declared.rules.Rules.{Rules}
use Rattle.rulebook.specs.declared.rules.Caller.{Caller}
use Rattle.rulebook.specs.declared.ask.Command.{Command}
use Rattle.rulebook.specs.declared.ask.Command.TheVariants as command
use Rattle.rulebook.specs.declared.ask.Query.{Query}
use Rattle.rulebook.specs.declared.ask.Ask.{Ask}
use Rattle.rulebook.specs.declared.ask.Ask.TheVariants.{Act, See}
use Rattle.rulebook.specs.declared.reply.Reply.TheVariants.{Done}
use Rattle.rulebook.specs.declared.entry.Entry.{Entry}
use Rattle.rulebook.specs.declared.entry.EntryCore.{EntryCore}
use Rattle.rulebook.specs.Requests.Roles.{may_see, shows}
use Rattle.rulebook.specs.Spelling.{entry_bytes, has_spelling, are_rules}
use Rattle.rulebook.specs.Answers.{answer}
use Rattle.rulebook.specs.Campaign.{History, may_give}

-- whether the name that a query gives is one
abbrev pub is_named : Query → Bool
is_named q = option_map_or is_name (shows q).name true

abbrev pub core_of : Caller → Option ℕ → ℕ → Command → EntryCore
core_of who number moment c = record { caller = who; number = number; moment = moment; command = c }

-- A request that may be answered. A command is given by a role that may give it, and its entry has a spelling that
-- isn't too long. A query is asked by a role that may ask it, and has names that are names and a moment that isn't too
-- late.
abbrev pub is_well_addressed : Caller → Option ℕ → Ask → ℕ → Bool
is_well_addressed who number (Act c) moment =
    may_give who.role c && has_spelling (core_of who number moment c)
    && nat_le (length (entry_bytes (core_of who number moment c))) max_entry_bytes
is_well_addressed who number (See q) moment =
    may_see who.role q && is_name who.name && is_named q && nat_le moment max_moment

-- the first entry of a campaign
abbrev pub founding : Rules → Entry
founding rules = record { core = core_of (record { name = codes "campaign"; role = Organiser }) None 0 (command.Found rules); reply = Done }

-- the entry is what its own request adds after those before it
pub record IsAccepted (before : History) (e : Entry) : Type 0 where
  pub addressed : IsTrue (is_well_addressed e.core.caller e.core.number (Act e.core.command) e.core.moment)
  pub added : (answer before e.core.caller e.core.number (Act e.core.command) e.core.moment).added ≡ e ∷ []

-- each of these entries is accepted after those before it
abbrev pub AreAccepted : History → History → Type 0
AreAccepted before [] = Unit {0}
AreAccepted before (e ∷ later) = IsAccepted before e × AreAccepted (before ++ e ∷ []) later

abbrev pub IsFounding : Entry → Type 0
IsFounding e = (rules : Rules) × IsTrue (are_rules rules) × (e ≡ founding rules)

-- a list of entries that can come about
abbrev pub IsLegal : History → Type 0
IsLegal [] = ⊥
IsLegal (first ∷ later) = IsFounding first × AreAccepted (first ∷ []) later
