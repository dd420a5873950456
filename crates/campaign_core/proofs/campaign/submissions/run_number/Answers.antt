use Rattle.std.proofs.Common.{◌≡◌, ◌||◌, ◌<◌, ◌≤◌, ◌∙◌, Bool, false, ap, arith, get_or, length, sym, take_all}
use Rattle.std.specs.List.{list_any}
use Rattle.std.specs.Str.{bytes_eq}
use Rattle.std.proofs.lemmas.List.Folds.{list_any_more}
use Rattle.rulebook.specs.declared.entry.Entry.{Entry}
use Rattle.rulebook.specs.Campaign.{Run, run_in, runs}
use Rattle.campaign_core.proofs.Lists.FirstPlaces.{first-at, none-at}
use Rattle.campaign_core.proofs.Numbers.RunPlaces.{entry-at, entry-within, named-run, no_run, runs-many}
use Rattle.campaign_core.proofs.campaign.submissions.run_number.Goals as goal

pub returns-then-submits : goal.returns-then-submits
returns-then-submits c =
    let H = c.args.history.now in
    let n = c.loop-number.number in
    let e = c.index-history-submission.result in
    let at = entry-at H c.args.submissions.now n _ e no_run c.requires c.loop-number-test.true in
    let inside : n < length (runs H) = omega (arith, runs-many H c.args.submissions.now c.requires, c.loop-number-test.true) in
    sym (first-at (λ (run : Run). bytes_eq run.name c.args.name.now) (runs H) n no_run c.loop-number.invariant inside
    (sym (named-run e (get_or (runs H) n no_run) c.args.name.now (ap (λ (e : Entry). run_in e.core.command) c.index-history-submission.is ∙ at.run_is))
    ∙ sym c.submits.ensures ∙ c.if-submits.true))

pub loop-number-preserved : goal.loop-number-preserved
loop-number-preserved c =
    let H = c.args.history.now in
    let n = c.loop-number.number in
    let e = c.index-history-submission.result in
    let test : Run → Bool = λ run. bytes_eq run.name c.args.name.now in
    let at = entry-at H c.args.submissions.now n _ e no_run c.requires c.loop-number-test.true in
    let inside : n < length (runs H) = omega (arith, runs-many H c.args.submissions.now c.requires, c.loop-number-test.true) in
    let other : test (get_or (runs H) n no_run) ≡ false =
    sym (named-run e (get_or (runs H) n no_run) c.args.name.now (ap (λ (e : Entry). run_in e.core.command) c.index-history-submission.is ∙ at.run_is))
    ∙ sym c.submits.ensures ∙ c.if-submits.false in
    list_any_more test (runs H) n no_run inside
    ∙ ap (λ t. t || test (get_or (runs H) n no_run)) c.loop-number.invariant ∙ other

pub returns : goal.returns
returns c =
    let H = c.args.history.now in
    let test : Run → Bool = λ run. bytes_eq run.name c.args.name.now in
    let past : length (runs H) ≤ c.loop-number.number = omega (arith, runs-many H c.args.submissions.now c.requires, c.loop-number-test.false) in
    sym (none-at test (runs H) (sym (ap (list_any test) (take_all c.loop-number.number (runs H) past)) ∙ c.loop-number.invariant))

pub bounds-history-submission : goal.bounds-history-submission
bounds-history-submission c = entry-within c.args.history.now c.args.submissions.now c.loop-number.number _ c.requires c.loop-number-test.true
