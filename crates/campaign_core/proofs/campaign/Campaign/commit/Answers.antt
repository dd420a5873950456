use Rattle.std.proofs.Common.{◌≡◌, ◌+◌, ◌≤◌, ◌++◌, ◌∷◌, [], ℕ, Option, ap, arith, subst, ◌∙◌, refl, sym}
use Rattle.std.proofs.lemmas.Int.{ints}
use Rattle.std.specs.Prelude.{IfSome}
use Rattle.assessment.specs.Changes.{Facts, after_change, facts}
use Rattle.assessment.specs.Costs.{change_steps}
use Rattle.assessment.specs.declared.change.Change.{Change}
use Rattle.rulebook.specs.declared.entry.Entry.{Entry}
use Rattle.rulebook.specs.Campaign.{History, line_count}
use Rattle.campaign_core.specs.Growth.{lists_in}
use Rattle.campaign_core.specs.Numbering.Numbers.{names_of}
use Rattle.campaign_core.specs.Numbering.Submissions.{AreSubmissions, live_numbers, MayNote}
use Rattle.campaign_core.proofs.Entries.Runs.BoardSteps.{stays-on}
use Rattle.campaign_core.proofs.Entries.CommitCosts.{change-within, have-lists}
use Rattle.campaign_core.proofs.Entries.Commits.{carried-out, known-after, lines-fit}
use Rattle.campaign_core.proofs.Entries.EntryLaws.{Laws}
use Rattle.campaign_core.proofs.campaign.Campaign.commit.Goals as goal

pub returns-clause-known : goal.returns-clause-known
returns-clause-known g c =
    let s = c.args.self.now in
    let H = s.history.items in
    let e : Entry = c.args.entry in
    let ready = c.requires.ready in
    let laws : Laws = record {
      goes_last = c.greatest_run_goes_last.ensures;
      quiet_entries = c.quiet_entries_keep_grades.ensures;
      labels_join = c.labels_join.ensures;
      given_follow = c.marks_follow_labels.ensures.given;
      rulings_stay = c.marks_follow_labels.ensures.ruling;
      rulings_join = c.rulings_join.ensures;
      rulings_follow = c.marks_follow_rulings.ensures.ruling;
      given_stay = c.marks_follow_rulings.ensures.given;
      ends_there = c.ends_are_there.ensures;
      lease_entries = c.leases_are_entries.ensures;
    } in
    let facts_are : facts c.commit.new.self ≡ after_change ready.change (facts s.assessment) =
    subst (λ (o : Option Change). IfSome o (λ change. facts c.commit.new.self ≡ after_change change (facts s.assessment)))
    ready.awaits.waits c.commit.ensures.facts in
    let submissions : AreSubmissions (H ++ e ∷ []) c.note_run.new.submissions.items =
    subst (λ (H : History). AreSubmissions (H ++ e ∷ []) c.note_run.new.submissions.items) c.deref.ensures.value c.note_run.ensures.submissions in
    let live = c.note_run.ensures.live ∙ ap (λ (H : History). live_numbers (H ++ e ∷ [])) c.deref.ensures.value in
    let lines : c.line_count.result ≡ line_count (lists_in e.core.command) = c.line_count.ensures ∙ ap line_count c.lists_of.ensures in
    known-after s _ e ready.change c.requires.known ready
    (carried-out laws s (names_of (H ++ e ∷ [])) e ready.change c.requires.known ready refl ready.carries_out)
    c.push_reserved.ensures.items c.phase_after-self.ensures (ap (λ (n : ℕ). s.lines + n) lines) facts_are submissions live

pub note_run-requires : goal.note_run-requires
note_run-requires g c =
    let s = c.args.self.now in
    let e : Entry = c.args.entry in
    let ready = c.requires.ready in
    subst (λ (H : History). MayNote H s.submissions s.live e c.withdrawn-withdrawn.result) (sym c.deref.ensures.value) (record {
      submissions = c.requires.known.submissions_are;
      room = ready.awaits.run_room;
      live_are = c.requires.known.live_are;
      live_room = ready.awaits.live_room;
      known = c.requires.known.runs_known;
      accepted = ready.accepted;
      few = ready.entries_fit;
      few_runs = c.requires.known.runs_fit;
      withdrawn_is = c.withdrawn-withdrawn.ensures e ready;
    })

pub line_count-requires : goal.line_count-requires
line_count-requires g c = omega (arith, ap line_count c.lists_of.ensures, lines-fit c.args.self.now c.args.entry c.requires.known c.requires.ready)

pub overflow_add-self : goal.overflow_add-self
overflow_add-self g c =
    let lines : c.line_count.result ≡ line_count (lists_in c.args.entry.core.command) = c.line_count.ensures ∙ ap line_count c.lists_of.ensures in
    omega (arith, ints, lines, lines-fit c.args.self.now c.args.entry c.requires.known c.requires.ready)

pub returns-clause-cost : goal.returns-clause-cost
returns-clause-cost g c =
    let s = c.args.self.now in
    let H = s.history.items in
    let e : Entry = c.args.entry in
    let ready = c.requires.ready in
    let known = facts s.assessment in
    let took =
    subst (λ (o : Option Change). IfSome o (λ change. c.commit.new.steps ≤ c.args.steps.now + change_steps (live_numbers H) change known.topics))
    ready.awaits.waits
    (c.commit.ensures.cost (live_numbers H) (have-lists H known c.requires.known.assessed)) in
    let within = change-within H known c.requires.known.assessed (names_of (H ++ e ∷ [])) e ready.change ready.carries_out in
    omega (arith, took, within)

pub returns-clause-on_board : goal.returns-clause-on_board
returns-clause-on_board g c =
    let s = c.args.self.now in
    let ready = c.requires.ready in
    let facts_are : facts c.commit.new.self ≡ after_change ready.change (facts s.assessment) =
    subst (λ (o : Option Change). IfSome o (λ change. facts c.commit.new.self ≡ after_change change (facts s.assessment)))
    ready.awaits.waits c.commit.ensures.facts in
    ap (λ (known : Facts). known.on_board) facts_are ∙ stays-on ready.change (facts s.assessment)
