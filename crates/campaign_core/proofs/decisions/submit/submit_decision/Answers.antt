use Rattle.std.proofs.Common.{◌≡◌, ◌+◌, ◌<◌, ◌≤◌, ◌++◌, ◌∙◌, List, Ok, ap, arith, false, is_some, length, map, refl, rules, subst, sym, true, vec_len}
use Rattle.std.specs.Prelude.{nat_lt}
use Rattle.std.specs.List.{fold}
use Rattle.std.specs.Str.{bytes_eq}
use Rattle.std.proofs.lemmas.Bool.{le-ltb, lt-ltb}
use Rattle.std.proofs.lemmas.Int.{ints}
use Rattle.assessment.specs.TopicFacts.{TopicFacts, TopicView, facts_of}
use Rattle.decimal_rank.specs.Names.{with_name}
use Rattle.rulebook.specs.declared.ask.Command.TheVariants as command
use Rattle.rulebook.specs.declared.limits.TheConstants.{MAX_DOCNOS, MAX_ENTRY_BYTES, MAX_LINES}
use Rattle.rulebook.specs.declared.reply.Reply.{Reply}
use Rattle.rulebook.specs.declared.reply.Reply.TheVariants as reply
use Rattle.rulebook.specs.declared.rules.Phase.TheVariants.{Published}
use Rattle.rulebook.specs.Answers.{command_outcome}
use Rattle.trec_formats.specs.declared.TopicList.{TopicList}
use Rattle.rulebook.specs.Campaign.{History, Run, docnos, docnos_with, docs_on, is_taken, line_count, lines_with, phase, runs, submitted_docnos, submitted_lines}
use Rattle.rulebook.specs.Requests.Refusals.{Outcome, is_phase}
use Rattle.rulebook.specs.Spelling.{is_plain}
use Rattle.rulebook.specs.Words.{Text, contains_text, each_once}
use Rattle.campaign_core.specs.Commands.Decisions.{IsDecision}
use Rattle.campaign_core.specs.Growth.{lists_in}
use Rattle.campaign_core.specs.Numbering.Numbers.{AreRankable, are_named, docs_in}
use Rattle.campaign_core.specs.Numbering.Submissions.{AreSubmissions}
use Rattle.rulebook.proofs.LegalHistories.PlainReplies.{addressed_plain}
use Rattle.campaign_core.proofs.Rulings.CollectingRulings.{Passes, each_once-submitted, submit-accepted, submit-fits, submit-taken, submit-too-many-docnos, submit-too-many-lines, submit-too-many-runs, submit-unlisted}
use Rattle.campaign_core.proofs.Rulings.TestOrder.{barred-phase}
use Rattle.campaign_core.proofs.Lists.Elements.{all_back}
use Rattle.campaign_core.proofs.Lists.FirstPlaces.{is-there}
use Rattle.campaign_core.proofs.Numbers.DocNumbers.{each_named}
use Rattle.campaign_core.proofs.PageTexts.PoolTexts.{lists-named}
use Rattle.campaign_core.proofs.Numbers.RunPlaces.{runs-many}
use Rattle.campaign_core.proofs.Rulings.AcceptedEntries.{command-short, docs-plain}
use Rattle.campaign_core.proofs.decisions.submit.submit_decision.Goals.{After-add_docnos, After-deref-3, After-from, After-is_some, After-len}
use Rattle.campaign_core.proofs.decisions.submit.submit_decision.Goals as goal

-- the campaign isn't published
unpublished : (c : After-is_some) → is_phase Published (phase c.args.campaign.now.history.items) ≡ false
unpublished c = ap (is_phase Published) (sym c.requires.asked.asked.known.phase_is) ∙ sym c.if-is_in.ensures

-- whether the name is taken, by what was looked up
taken-is : (c : After-is_some) → c.is_some.result ≡ is_taken c.args.campaign.now.history.items c.args.run.now
taken-is c =
    c.is_some.ensures
    ∙ ap is_some c.run_number.ensures
    ∙ is-there (λ (run : Run). bytes_eq run.name c.bytes.result.now) (runs c.deref.result.now)
    ∙ ap (λ (H : History). is_taken H c.bytes.result.now) c.deref.ensures.value
    ∙ ap (is_taken c.args.campaign.now.history.items) c.bytes.ensures

-- how many runs there are
runs-counted : (c : After-len) → c.len.result ≡ length (runs c.args.campaign.now.history.items)
runs-counted c =
    let counted : length c.args.campaign.now.submissions.items ≡ vec_len c.args.campaign.now.submissions = search rules in
    omega (
      arith,
      runs-many c.args.campaign.now.history.items c.args.campaign.now.submissions.items c.requires.asked.asked.known.submissions_are,
      counted,
      c.len.ensures,
    )

passes : (c : After-from) → is_phase Published (phase c.args.campaign.now.history.items) ≡ false
    → c.is_some.result ≡ is_taken c.args.campaign.now.history.items c.args.run.now
    → c.len.result ≡ length (runs c.args.campaign.now.history.items) → Passes c.args.campaign.now.history.items c.args.run.now c.args.lists.now
passes c not_published taken counted = record {
  unpublished = not_published;
  free = sym taken ∙ c.if-is_some.false;
  listed = sym c.unknown_line.ensures ∙ c.in_default.is;
  runs_fit = omega (arith, counted, c.if-len.false);
}

-- the lines with those of the run
lines-are : (c : After-from)
    → c.args.campaign.now.lines + c.line_count-lines.result ≡ submitted_lines c.args.campaign.now.history.items + line_count c.args.lists.now
lines-are c = ap (λ n. n + c.line_count-lines.result) c.requires.asked.asked.known.lines_are
    ∙ ap (λ n. submitted_lines c.args.campaign.now.history.items + n) c.line_count-lines.ensures

-- a run is no more than its spelling
run-fits : (c : After-is_some) → length c.args.lists.now + line_count c.args.lists.now ≤ MAX_ENTRY_BYTES
run-fits c =
    let core = c.args.core.now in
    submit-fits core.command c.args.run.now c.args.lists.now c.args.lists.now c.requires.asked.command_is
    (command-short core.caller core.number core.command core.moment c.requires.asked.asked.addressed) refl

pub returns-then-is_in-clause-decision : goal.returns-then-is_in-clause-decision
returns-then-is_in-clause-decision c =
    let campaign = c.args.campaign.now in
    let core = c.args.core.now in
    subst (IsDecision campaign c.args.docnos.now core) (sym c.wrong_phase.ensures)
    (ap (command_outcome campaign.history.items core.caller core.moment) c.requires.asked.command_is
    ∙ barred-phase campaign.history.items Published campaign.phase _ _ c.requires.asked.asked.known.phase_is c.if-is_in.ensures)

pub run_number-requires : goal.run_number-requires
run_number-requires c =
    let known = c.requires.asked.asked.known in
    subst (λ (H : History). AreSubmissions H c.deref-2.result.now) (sym c.deref.ensures.value)
    (subst (AreSubmissions c.args.campaign.now.history.items) (sym c.deref-2.ensures.value) known.submissions_are)

pub returns-then-is_some-clause-decision : goal.returns-then-is_some-clause-decision
returns-then-is_some-clause-decision c =
    let core = c.args.core.now in
    let at = (goal.at.returns-then-is_some-clause-decision c).After-is_some in
    ap (command_outcome c.args.campaign.now.history.items core.caller core.moment) c.requires.asked.command_is
    ∙ submit-taken c.args.campaign.now.history.items c.args.run.now c.args.lists.now (unpublished at) (sym (taken-is at) ∙ c.if-is_some.true)

pub returns-in-Some-clause-decision : goal.returns-in-Some-clause-decision
returns-in-Some-clause-decision c =
    let core = c.args.core.now in
    let at = (goal.at.returns-in-Some-clause-decision c).After-is_some in
    ap (command_outcome c.args.campaign.now.history.items core.caller core.moment) c.requires.asked.command_is
    ∙ submit-unlisted c.args.campaign.now.history.items c.args.run.now c.args.lists.now c.in-Some.line (unpublished at)
    (sym (taken-is at) ∙ c.if-is_some.false) (sym c.unknown_line.ensures ∙ c.in-Some.is)

pub returns-then-len-clause-decision : goal.returns-then-len-clause-decision
returns-then-len-clause-decision c =
    let campaign = c.args.campaign.now in
    let core = c.args.core.now in
    let at = goal.at.returns-then-len-clause-decision c in
    subst (IsDecision campaign c.args.docnos.now core) (sym c.limit.ensures)
    (ap (command_outcome campaign.history.items core.caller core.moment) c.requires.asked.command_is
    ∙ submit-too-many-runs campaign.history.items c.args.run.now c.args.lists.now (unpublished at.After-is_some)
    (sym (taken-is at.After-is_some) ∙ c.if-is_some.false) (sym c.unknown_line.ensures ∙ c.in_default.is)
    (omega (arith, runs-counted at.After-len, c.if-len.true)))

pub line_count-lines-requires : goal.line_count-lines-requires
line_count-lines-requires c = omega (arith, run-fits (goal.at.line_count-lines-requires c).After-is_some)

pub overflow_add-campaign : goal.overflow_add-campaign
overflow_add-campaign c =
    let known = c.requires.asked.asked.known in
    omega (arith, ints, known.lines_are, known.lines_fit, c.line_count-lines.ensures, run-fits (goal.at.overflow_add-campaign c).After-is_some)

pub returns-then-campaign-lines-clause-decision : goal.returns-then-campaign-lines-clause-decision
returns-then-campaign-lines-clause-decision c =
    let campaign = c.args.campaign.now in
    let core = c.args.core.now in
    let at = goal.at.returns-then-campaign-lines-clause-decision c in
    let many : MAX_LINES < submitted_lines campaign.history.items + line_count c.args.lists.now =
    omega (arith, lines-are at.After-from, c.from.ensures, c.if-campaign-lines.true) in
    subst (IsDecision campaign c.args.docnos.now core) (sym c.limit-then-campaign-lines.ensures)
    (ap (command_outcome campaign.history.items core.caller core.moment) c.requires.asked.command_is
    ∙ submit-too-many-lines campaign.history.items c.args.run.now c.args.lists.now
    (passes at.After-from (unpublished at.After-is_some) (taken-is at.After-is_some) (runs-counted at.After-len))
    (lt-ltb MAX_LINES (submitted_lines campaign.history.items + line_count c.args.lists.now) many))

-- the lines are few
lines-few : (c : After-add_docnos) → nat_lt MAX_LINES (submitted_lines c.args.campaign.now.history.items + line_count c.args.lists.now) ≡ false
lines-few c =
    le-ltb MAX_LINES (submitted_lines c.args.campaign.now.history.items + line_count c.args.lists.now)
    (omega (arith, c.requires.asked.asked.known.lines_are, c.line_count-lines.ensures, c.from.ensures, c.if-campaign-lines.false))

pub add_docnos-requires : goal.add_docnos-requires
add_docnos-requires c =
    let known = c.requires.asked.asked.known in
    let H = c.args.campaign.now.history.items in
    let lines = lines-are (goal.at.add_docnos-requires c).After-from in
    let few : length c.args.docnos.now ≤ MAX_DOCNOS = subst (λ (names : List Text). length names ≤ MAX_DOCNOS) (sym c.requires.names) known.docnos_fit in
    omega (arith, few, lines, c.from.ensures, c.if-campaign-lines.false)

pub overflow_cast-number : goal.overflow_cast-number
overflow_cast-number c = omega (arith, ints, c.len-3.ensures, c.len.ensures, c.if-len.false)

pub returns-then-len-gt-MAX_DOCNOS-clause-decision : goal.returns-then-len-gt-MAX_DOCNOS-clause-decision
returns-then-len-gt-MAX_DOCNOS-clause-decision c =
    let campaign = c.args.campaign.now in
    let core = c.args.core.now in
    let lists = c.args.lists.now in
    let at = goal.at.returns-then-len-gt-MAX_DOCNOS-clause-decision c in
    let docnos_are : c.add_docnos.new.docnos ≡ each_once (submitted_docnos campaign.history.items ++ docnos lists) =
    c.in_ok-numbers.ensures.added.names_are ∙ ap (λ texts. fold with_name texts (docnos lists)) c.requires.names
    ∙ sym (each_once-submitted campaign.history.items lists) in
    let many : MAX_DOCNOS < length c.add_docnos.new.docnos = omega (arith, c.len-2.ensures.len, c.if-len-gt-MAX_DOCNOS.true) in
    subst (IsDecision campaign c.add_docnos.new.docnos core) (sym c.limit-then-len-gt-MAX_DOCNOS.ensures)
    (ap (command_outcome campaign.history.items core.caller core.moment) c.requires.asked.command_is
    ∙ submit-too-many-docnos campaign.history.items c.args.run.now lists
    (passes at.After-from (unpublished at.After-is_some) (taken-is at.After-is_some) (runs-counted at.After-len))
    (lines-few at.After-add_docnos) (subst (λ (names : List Text). MAX_DOCNOS < length names) docnos_are many))

pub overflow_cast-reply-2 : goal.overflow_cast-reply-2
overflow_cast-reply-2 c = omega (arith, ints, c.line_count-lines.ensures, run-fits (goal.at.overflow_cast-reply-2 c).After-is_some)

pub overflow_cast-reply : goal.overflow_cast-reply
overflow_cast-reply c = omega (arith, ints, run-fits (goal.at.overflow_cast-reply c).After-is_some)

-- the documents of the run can be ranked on each topic by their numbers
rankable : (c : After-deref-3) → AreRankable c.add_docnos.new.docnos c.args.lists.now c.deref-3.result.now
rankable c =
    let core = c.args.core.now in
    let H = c.args.campaign.now.history.items in
    let lists = c.args.lists.now in
    let docnos_are : c.add_docnos.new.docnos ≡ each_once (submitted_docnos H ++ docnos lists) =
    c.in_ok-numbers.ensures.added.names_are ∙ ap (λ texts. fold with_name texts (docnos lists)) c.requires.names ∙ sym (each_once-submitted H lists) in
    let all : are_named c.add_docnos.new.docnos (docnos lists) ≡ true =
    rw docnos_are
    (all_back (contains_text (each_once (submitted_docnos H ++ docnos lists))) (submitted_docnos H)
    (docnos lists) (each_named (submitted_docnos H ++ docnos lists))) in
    record {
      numbers_are = c.deref-3.ensures.value ∙ c.in_ok-numbers.ensures.added.numbers_are;
      rankable = λ topic.
          let plain = docs-plain (command.Submit c.args.run.now lists) topic
          (ap is_plain (sym c.requires.asked.command_is) ∙ addressed_plain core.caller core.number core.command core.moment c.requires.asked.asked.addressed) in
          record { few = plain.0; distinct = plain.1; named = lists-named c.add_docnos.new.docnos lists all topic };
    }

pub rankings_of-requires : goal.rankings_of-requires
rankings_of-requires c = (c.add_docnos.new.docnos, rankable (goal.at.rankings_of-requires c).After-deref-3)

pub returns-clause-limits : goal.returns-clause-limits
returns-clause-limits c =
    let H = c.args.campaign.now.history.items in
    let run = c.args.run.now in
    let lists = c.args.lists.now in
    let submits : lists ≡ lists_in c.args.core.now.command = sym (ap lists_in c.requires.asked.command_is) in
    let docnos_are : c.add_docnos.new.docnos ≡ each_once (submitted_docnos H ++ docnos lists) =
    c.in_ok-numbers.ensures.added.names_are ∙ ap (λ texts. fold with_name texts (docnos lists)) c.requires.names ∙ sym (each_once-submitted H lists) in
    record {
      names_are = docnos_are ∙ ap (docnos_with H) submits;
      names_fit = omega (arith, c.len-2.ensures.len, c.if-len-gt-MAX_DOCNOS.false);
      lines_fit = subst (λ (lists : List TopicList). lines_with H lists ≤ MAX_LINES) submits
          (omega (arith, lines-are (goal.at.returns-clause-limits c).After-from, c.from.ensures, c.if-campaign-lines.false));
    }

pub returns-clause-decision : goal.returns-clause-decision
returns-clause-decision c =
    let campaign = c.args.campaign.now in
    let H = campaign.history.items in
    let core = c.args.core.now in
    let run = c.args.run.now in
    let lists = c.args.lists.now in
    let known = c.requires.asked.asked.known in
    let at = goal.at.returns-clause-decision c in
    let counted : length campaign.submissions.items ≡ vec_len campaign.submissions = search rules in
    let docnos_are : c.add_docnos.new.docnos ≡ each_once (submitted_docnos H ++ docnos lists) =
    c.in_ok-numbers.ensures.added.names_are ∙ ap (λ texts. fold with_name texts (docnos lists)) c.requires.names ∙ sym (each_once-submitted H lists) in
    let few : length c.add_docnos.new.docnos ≤ MAX_DOCNOS = omega (arith, c.len-2.ensures.len, c.if-len-gt-MAX_DOCNOS.false) in
    let accepted =
    submit-accepted H run lists (passes at.After-from (unpublished at.After-is_some) (taken-is at.After-is_some) (runs-counted at.After-len))
    (lines-few at.After-add_docnos) (subst (λ (names : List Text). length names ≤ MAX_DOCNOS) docnos_are few) in
    let reply_is : reply.Submitted c.in_ok-name.name (length lists) c.line_count-lines.result ≡ reply.Submitted run (length lists) (line_count lists) =
    ap (λ (name : Text). let r : Reply = reply.Submitted name (length lists) c.line_count-lines.result in r) c.in_ok-name.ensures.copy
    ∙ ap (λ lines. let r : Reply = reply.Submitted run (length lists) lines in r) c.line_count-lines.ensures in
    let number : c.len-3.result ≡ length (runs H) = omega (arith, runs-many H campaign.submissions.items known.submissions_are, counted, c.len-3.ensures) in (
      ap (command_outcome H core.caller core.moment) c.requires.asked.command_is ∙ accepted
          ∙ ap (λ (r : Reply). let told : Outcome = Ok r in told) (sym reply_is),
      (
        run,
        lists,
        c.requires.asked.command_is,
        number,
        c.in_ok-rankings.ensures c.add_docnos.new.docnos (rankable at.After-deref-3)
            ∙ ap (λ (topics : List TopicView). map (λ (t : TopicFacts). docs_in c.add_docnos.new.docnos (docs_on lists t.id)) (map facts_of topics))
            c.topics.ensures,
      ),
    )
