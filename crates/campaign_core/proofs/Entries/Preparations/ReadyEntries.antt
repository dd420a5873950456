-- What is known of a campaign that is founded, and what stays known while an entry is prepared.
use Rattle.std.proofs.Common.{◌≡◌, ◌+◌, ◌<◌, ◌≤◌, ◌∙◌, ◌∷◌, ◌++◌, [], Ok, arith, length, map, refl, subst, ap, sym, true, List}
use Rattle.assessment.specs.Changes.{Facts, facts}
use Rattle.assessment.specs.TopicsFacts.{new_topics}
use Rattle.assessment.specs.declared.change.Change.{Change}
use Rattle.rulebook.specs.declared.entry.Entry.{Entry}
use Rattle.rulebook.specs.declared.entry.EntryCore.{EntryCore}
use Rattle.depth_pool.specs.declared.runs.RunId.{RunId}
use Rattle.rulebook.specs.declared.limits.TheConstants.{MAX_DOCNOS, MAX_ENTRIES, MAX_LINES}
use Rattle.rulebook.specs.declared.reply.Reply.{Reply}
use Rattle.rulebook.specs.declared.rules.Rules.{Rules}
use Rattle.rulebook.specs.Answers.{command_outcome}
use Rattle.rulebook.specs.Campaign.{History, submitted_lines}
use Rattle.rulebook.specs.Histories.Legal.{IsAccepted, IsLegal, founding}
use Rattle.rulebook.specs.Requests.Refusals.{Outcome}
use Rattle.rulebook.specs.Spelling.{are_rules}
use Rattle.rulebook.specs.Words.{Text, each_once}
use Rattle.campaign_core.specs.Commands.Changes.{CarriesOut}
use Rattle.campaign_core.specs.Commands.Decisions.{IsDecision, IsNewRequest, IsWithinLimits}
use Rattle.campaign_core.specs.Growth.{BeginsWith}
use Rattle.campaign_core.specs.CampaignStates.{AwaitsChange, IsAssessmentOf, IsPrepared, IsUnchanged, IsUnjudged}
use Rattle.campaign_core.specs.Numbering.NumberedRequests.{NumberedRequest, number_in, numbers_of}
use Rattle.campaign_core.specs.Numbering.Numbers.{names_of}
use Rattle.campaign_core.specs.Numbering.Submissions.{AreSubmissions, RunsAreKnown, live_numbers}
use Rattle.campaign_core.specs.Assessments.Topics.{labelled_of}
use Rattle.campaign_core.specs.declared.campaign.Campaign.{Campaign}
use Rattle.campaign_core.specs.declared.decisions.Decision.TheVariants.{Accepted}
use Rattle.campaign_core.specs.declared.campaign.submissions.Submission.{Submission}
use Rattle.campaign_core.proofs.Entries.HistoryGrowth.{submitted_docnos-core, submitted_lines-core}
use Rattle.campaign_core.proofs.Entries.Legality.{accepted-by}
use Rattle.campaign_core.proofs.Numbers.UsedNumbers.{numbers-push}
use Rattle.campaign_core.proofs.Rulings.AcceptedEntries.{moment-of}

-- an entry is ready once its change waits
pub prepared-entry : (old new : Campaign) (before names : List Text) (counted numbers : List NumberedRequest)
    (core : EntryCore) (told answer : Reply) (change : Change)
    → IsNewRequest old before counted core
    → IsUnchanged old new
    → AwaitsChange new change
    → BeginsWith before names
    → IsDecision old names core (Accepted answer change)
    → IsWithinLimits old.history.items names core.command
    → numbers ≡ counted ++ number_in (length old.history.items + 1) core
    → told ≡ answer
    → IsPrepared new names numbers core (Ok (record { core = core; reply = told }))
prepared-entry old new before names counted numbers core told answer change asked same awaits grown decided limits numbers_are told_is =
    let H : History = old.history.items in
    let e : Entry = record { core = core; reply = told } in
    let J : History = H ++ e ∷ [] in
    let back : H ≡ new.history.items = sym same.history_is in
    let ruled_is : command_outcome H core.caller core.moment core.command ≡ Ok told =
    decided.0 ∙ ap (λ (r : Reply). let told : Outcome = Ok r in told) (sym told_is) in
    let names_are : names ≡ names_of J = limits.names_are ∙ ap each_once (sym (submitted_docnos-core H e core refl)) in
    let out : CarriesOut H (names_of J) (facts old.assessment).topics.topics old.assessment.leases e change =
    subst (λ (ns : List Text). CarriesOut H ns (facts old.assessment).topics.topics old.assessment.leases e change) names_are
    (subst (λ (r : Reply). CarriesOut H names (facts old.assessment).topics.topics old.assessment.leases (record { core = core; reply = r }) change)
    (sym told_is) decided.1) in
    let out_now : CarriesOut H (names_of J) (facts new.assessment).topics.topics new.assessment.leases e change =
    subst (λ (k : Facts). CarriesOut H (names_of J) k.topics.topics k.leases e change) (sym same.facts_are) out in (
      refl,
      subst (λ (H : History). command_outcome H core.caller core.moment core.command ≡ Ok told) back ruled_is,
      record {
        ready = record {
          accepted = subst (λ (H : History). IsAccepted H e) back
              (accepted-by H e core refl asked.asked.addressed asked.unused asked.latest asked.entries_fit ruled_is);
          moment_fits = moment-of core.caller core.number core.command core.moment asked.asked.addressed;
          entries_fit = subst (λ (H : History). length H < MAX_ENTRIES) back asked.entries_fit;
          lines_fit = subst (λ (H : History). submitted_lines (H ++ e ∷ []) ≤ MAX_LINES) back (submitted_lines-core H e core refl limits.lines_fit);
          docnos_fit = subst (λ (H : History). length (names_of (H ++ e ∷ [])) ≤ MAX_DOCNOS) back
              (subst (λ (ns : List Text). length ns ≤ MAX_DOCNOS) names_are limits.names_fit);
          docnos_grow = subst (λ (H : History). BeginsWith (names_of H) (names_of (H ++ e ∷ []))) back
              (subst (BeginsWith (names_of H)) names_are (subst (λ (ns : List Text). BeginsWith ns names) asked.names_are grown));
          change = change;
          awaits = awaits;
          carries_out = subst
              (λ (H : History). CarriesOut H (names_of (H ++ e ∷ [])) (facts new.assessment).topics.topics new.assessment.leases e change) back out_now;
        };
        names_are = subst (λ (H : History). names ≡ names_of (H ++ e ∷ [])) back names_are;
        numbers_are = subst (λ (H : History). numbers ≡ numbers_of (H ++ e ∷ [])) back
            (numbers_are ∙ ap (λ (ns : List NumberedRequest). ns ++ number_in (length H + 1) core) asked.numbers_are ∙ sym (numbers-push H e));
      },
    )

-- a founded campaign has no runs and no topics

pub founded-submissions : (H : History) (rules : Rules) (all : List Submission) → H ≡ founding rules ∷ [] → all ≡ [] → AreSubmissions H all
founded-submissions H rules all is none = rw (is, none) (record { places_are = refl; withdrawn_are = refl })

pub founded-live : (H : History) (rules : Rules) (live : List RunId) → H ≡ founding rules ∷ [] → live ≡ [] → live ≡ live_numbers H
founded-live H rules live is none = rw (is, none) refl

pub founded-runs : (H : History) (rules : Rules) → H ≡ founding rules ∷ [] → RunsAreKnown H
founded-runs H rules is = rw is (record { names_differ = refl; withdrawn_taken = λ name away. cc away })

-- an assessment that begins
pub is-begun : (known : Facts) → known.topics ≡ new_topics [] → known.leases ≡ []
    → known ≡ record { topics = new_topics []; leases = []; on_board = known.on_board }
is-begun known topics leases = λ i. record { topics = topics i; leases = leases i; on_board = known.on_board }

pub founded-assessed : (H : History) (rules : Rules) (known : Facts) → H ≡ founding rules ∷ []
    → known ≡ record { topics = new_topics []; leases = []; on_board = known.on_board } → IsAssessmentOf H known
founded-assessed H rules known is known_is =
    let start : Facts = record { topics = new_topics []; leases = []; on_board = known.on_board } in
    let first : IsAssessmentOf (founding rules ∷ []) start = record {
      knows = record {
        topics_are = refl;
        labels_are = λ k d within. absurd (omega (arith, within));
        leased = record { leases_are = refl; are_known = refl; ends_granted = λ number above. refl };
        topics_differ = refl;
        topics_fit = omega arith;
      };
      few = λ k d within. absurd (omega (arith, within));
      levels_are = refl;
      lists_are = λ run on. refl;
    } in
    subst (λ (H : History). IsAssessmentOf H known) (sym is) (subst (IsAssessmentOf (founding rules ∷ [])) (sym known_is) first)

pub founded-unjudged : (H : History) (rules : Rules) (known : Facts) → H ≡ founding rules ∷ []
    → known ≡ record { topics = new_topics []; leases = []; on_board = known.on_board } → IsUnjudged H (map labelled_of known.topics.topics)
founded-unjudged H rules known is known_is =
    let start : Facts = record { topics = new_topics []; leases = []; on_board = known.on_board } in
    let first : IsUnjudged (founding rules ∷ []) (map labelled_of start.topics.topics) = record {
      no_lease = refl;
      no_label = refl;
      no_ruling = λ topic doc. refl;
      no_trail = λ topic. refl;
      no_mark = λ k d within. absurd (omega (arith, within));
    } in
    subst (λ (H : History). IsUnjudged H (map labelled_of known.topics.topics)) (sym is)
    (subst (λ (known : Facts). IsUnjudged (founding rules ∷ []) (map labelled_of known.topics.topics)) (sym known_is) first)

-- a campaign begins with its founding entry
pub founded-legal : (H : History) (rules : Rules) → H ≡ founding rules ∷ [] → are_rules rules ≡ true → IsLegal H
founded-legal H rules is allowed = rw is ((rules, allowed, refl), tt)
