use Rattle.std.proofs.Common.{◌≡◌, ◌∙◌, ◌≤◌, ℕ, List, Bool, true, false, ap, arith, length, map, sym}
use Rattle.std.specs.Prelude.{◌&&◌, not}
use Rattle.std.proofs.lemmas.List.{drop_all, length-map}
use Rattle.rulebook.specs.declared.entry.Entry.{Entry}
use Rattle.rulebook.specs.declared.rules.Role.{Role}
use Rattle.rulebook.specs.Requests.Roles.{is_group}
use Rattle.rulebook.specs.Reports.Scores.{is_submitter}
use Rattle.campaign_core.specs.Numbering.Submissions.{any_at, entry_place, is_submitted_by}
use Rattle.campaign_core.proofs.Numbers.RunPlaces.{any-entry, any-onwards, entry-within, submits-only}
use Rattle.campaign_core.proofs.campaign.submissions.is_another_group.Goals as goal

pub bounds-history-submission : goal.bounds-history-submission
bounds-history-submission c = entry-within c.args.history.now c.args.submissions.now c.loop-submission.submission-index _ c.requires c.loop-submission-test.true

pub returns-then-is_submitted_by : goal.returns-then-is_submitted_by
returns-then-is_submitted_by c =
    let H = c.args.history.now in
    let passes : Entry → Bool = is_submitted_by c.args.who.now.name c.args.name.now in
    let mine : is_submitter H c.args.who.now.name c.args.name.now ≡ true =
    sym (any-entry passes H (map entry_place c.args.submissions.now) c.requires.places_are (submits-only c.args.who.now.name c.args.name.now))
    ∙ sym c.loop-submission.invariant
    ∙ any-onwards passes H c.args.submissions.now c.loop-submission.submission-index c.index-history-submission.result true c.requires
    c.loop-submission-test.true c.index-history-submission.is (sym c.is_submitted_by.ensures ∙ c.if-is_submitted_by.true) in
    ap (λ (r : Role). is_group r && false) (sym c.in-Group.is) ∙ ap (λ t. is_group c.args.who.now.role && not t) (sym mine)

pub loop-submission-preserved : goal.loop-submission-preserved
loop-submission-preserved c =
    let passes : Entry → Bool = is_submitted_by c.args.who.now.name c.args.name.now in
    sym (any-onwards passes c.args.history.now c.args.submissions.now c.loop-submission.submission-index c.index-history-submission.result
    false c.requires c.loop-submission-test.true c.index-history-submission.is (sym c.is_submitted_by.ensures ∙ c.if-is_submitted_by.false))
    ∙ c.loop-submission.invariant

pub returns : goal.returns
returns c =
    let H = c.args.history.now in
    let places : List ℕ = map entry_place c.args.submissions.now in
    let passes : Entry → Bool = is_submitted_by c.args.who.now.name c.args.name.now in
    let past : length places ≤ c.loop-submission.submission-index =
    omega (arith, c.loop-submission-test.false, length-map c.args.submissions.now entry_place) in
    let none : false ≡ is_submitter H c.args.who.now.name c.args.name.now =
    ap (any_at passes H) (sym (drop_all c.loop-submission.submission-index places past))
    ∙ c.loop-submission.invariant
    ∙ any-entry passes H places c.requires.places_are (submits-only c.args.who.now.name c.args.name.now) in
    ap (λ (r : Role). is_group r && true) (sym c.in-Group.is) ∙ ap (λ t. is_group c.args.who.now.role && not t) none
