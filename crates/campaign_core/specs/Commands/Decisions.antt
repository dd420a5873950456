-- What a command comes to, and what is asked with it.
use Rattle.std.specs.Prelude.{◌≡◌, ◌<◌, ◌≤◌, ℕ, List, Option, Ok, Err, None, IsTrue, length, map}
use Rattle.std.specs.List.{position}
use Rattle.std.specs.Str.{bytes_eq}
use Rattle.assessment.specs.Changes.{facts}
use Rattle.assessment.specs.TopicFacts.{TopicFacts, facts_of}
use Rattle.rulebook.specs.declared.ask.Ask.TheVariants.{Act}
use Rattle.rulebook.specs.declared.ask.Command.{Command}
use Rattle.rulebook.specs.declared.ask.Command.TheVariants.{Lease}
use Rattle.rulebook.specs.declared.entry.EntryCore.{EntryCore}
use Rattle.rulebook.specs.declared.limits.TheConstants.{MAX_DOCNOS, MAX_ENTRIES, MAX_LINES}
use Rattle.rulebook.specs.Answers.{command_outcome, moment_after}
use Rattle.rulebook.specs.Campaign.{History, docnos_with, lines_with}
use Rattle.rulebook.specs.Histories.Legal.{is_well_addressed}
use Rattle.rulebook.specs.Requests.Numbers.{entry_of_number}
use Rattle.rulebook.specs.Words.{Text}
use Rattle.campaign_core.specs.Commands.Changes.{CarriesOut}
use Rattle.campaign_core.specs.Growth.{lists_in}
use Rattle.campaign_core.specs.CampaignStates.{IsKnown}
use Rattle.campaign_core.specs.Numbering.NumberedRequests.{NumberedRequest, numbers_of}
use Rattle.campaign_core.specs.Numbering.Numbers.{names_of}
use Rattle.campaign_core.specs.declared.campaign.Campaign.{Campaign}
use Rattle.campaign_core.specs.declared.decisions.Decision.{Decision}
use Rattle.campaign_core.specs.declared.decisions.Decision.TheVariants.{Accepted, Refused}

-- a well addressed request of a campaign that is known
pub record IsAsked (campaign : Campaign) (core : EntryCore) : Type 0 where
  pub known : IsKnown campaign
  pub addressed : IsTrue (is_well_addressed core.caller core.number (Act core.command) core.moment)

-- the same, with this command
pub record IsAskedFor (campaign : Campaign) (core : EntryCore) (command : Command) : Type 0 where
  pub asked : IsAsked campaign core
  pub command_is : core.command ≡ command

-- and these are the docnos of the history
pub record IsAskedWith (campaign : Campaign) (docnos : List Text) (core : EntryCore) (command : Command) : Type 0 where
  pub asked : IsAskedFor campaign core command
  pub names : docnos ≡ names_of campaign.history.items

-- where the command asks for a lease: the number of its topic, from 0, if it is a topic
abbrev pub IsNumberFor : Campaign → Command → Option ℕ → Type 0
IsNumberFor campaign command number =
    (topic : Text) → command ≡ Lease topic → number ≡ position (λ (s : TopicFacts). bytes_eq s.id topic) (map facts_of campaign.assessment.topics.topics)

-- The decision is what the rules say: the refusal; or the reply, with a change that carries the entry out, by the numbers of these docnos.
abbrev pub IsDecision : Campaign → List Text → EntryCore → Decision → Type 0
IsDecision campaign names core (Refused refusal) = command_outcome campaign.history.items core.caller core.moment core.command ≡ Err refusal
IsDecision campaign names core (Accepted reply change) =
    (command_outcome campaign.history.items core.caller core.moment core.command ≡ Ok reply)
    × CarriesOut campaign.history.items names (facts campaign.assessment).topics.topics campaign.assessment.leases
    (record { core = core; reply = reply }) change

-- where the command is accepted, these are the docnos with its own, and the limits of lines and docnos hold
pub record IsWithinLimits (H : History) (names : List Text) (command : Command) : Type 0 where
  pub names_are : names ≡ docnos_with H (lists_in command)
  pub names_fit : length names ≤ MAX_DOCNOS
  pub lines_fit : lines_with H (lists_in command) ≤ MAX_LINES

abbrev pub KeepsLimits : History → List Text → Command → Decision → Type 0
KeepsLimits H names command (Refused refusal) = Unit {0}
KeepsLimits H names command (Accepted reply change) = IsWithinLimits H names command

-- A request whose moment is the next entry's and whose caller didn't use its number before, with the docnos and the numbers of the history, which isn't full.
pub record IsNewRequest (campaign : Campaign) (names : List Text) (numbers : List NumberedRequest) (core : EntryCore) : Type 0 where
  pub asked : IsAsked campaign core
  pub names_are : names ≡ names_of campaign.history.items
  pub numbers_are : numbers ≡ numbers_of campaign.history.items
  pub unused : entry_of_number campaign.history.items core.caller.name core.number ≡ None
  pub latest : moment_after campaign.history.items core.moment ≡ core.moment
  pub entries_fit : length campaign.history.items < MAX_ENTRIES
