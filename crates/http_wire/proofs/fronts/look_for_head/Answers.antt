use Rattle.std.proofs.Common.{true, false, None, refl, subst}
use Rattle.http_wire.specs.declared.messages.Step.TheVariants as steps
use Rattle.http_wire.specs.Fronts.{IsSearched}
use Rattle.http_wire.specs.Heads.{behind_line_ends}
use Rattle.http_wire.specs.Pieces.{HeadSteps}
use Rattle.http_wire.proofs.MessageFronts.{look_clean, look_head, look_more, none_left, some_left}
use Rattle.http_wire.proofs.HeadSearches.{searched_none, searched_behind}
use Rattle.http_wire.proofs.fronts.look_for_head.Goals as goal

pub returns-then-is_empty-clause-step : goal.returns-then-is_empty-clause-step
returns-then-is_empty-clause-step c =
    let message = c.pass_line_ends-taken.result.1.now in
    let none = none_left message c.is_empty.result c.is_empty.ensures c.if-is_empty.true in
    subst (λ rest. HeadSteps c.args.bytes.now (steps.Need true) (record { bytes = rest; left = None })) c.pass_line_ends-taken.ensures.behind
    (look_clean c.args.bytes.now message c.pass_line_ends-taken.ensures.message none)

pub returns-in-Whole-clause-step : goal.returns-in-Whole-clause-step
returns-in-Whole-clause-step c =
    let found = rw c.in-Whole.is at c.in_ok-found.ensures in (
      look_head c.args.bytes.now c.pass_line_ends-taken.result.1.now c.pass_line_ends-taken.result.0 c.in-Whole.count
          c.in-Whole.head c.pass_line_ends-taken.ensures.message c.pass_line_ends-taken.ensures.behind found.0,
      refl,
    )

pub returns-in-Unfinished-clause-step : goal.returns-in-Unfinished-clause-step
returns-in-Unfinished-clause-step c =
    let message = c.pass_line_ends-taken.result.1.now in
    let some = some_left message c.is_empty.result c.is_empty.ensures c.if-is_empty.false in
    let found = rw c.in-Unfinished.is at c.in_ok-found.ensures in
    subst (λ rest. HeadSteps c.args.bytes.now (steps.Need false) (record { bytes = rest; left = None })) c.pass_line_ends-taken.ensures.behind
    (look_more c.args.bytes.now message c.pass_line_ends-taken.ensures.message some found.0)

pub returns-then-is_empty-clause-searched : goal.returns-then-is_empty-clause-searched
returns-then-is_empty-clause-searched c = searched_none _

pub returns-in-Whole-clause-searched : goal.returns-in-Whole-clause-searched
returns-in-Whole-clause-searched c = searched_none _

pub returns-in-Faulty-clause-searched : goal.returns-in-Faulty-clause-searched
returns-in-Faulty-clause-searched c = searched_none _

pub returns-in-Unfinished-clause-searched : goal.returns-in-Unfinished-clause-searched
returns-in-Unfinished-clause-searched c =
    let found = rw c.in-Unfinished.is at c.in_ok-found.ensures in
    subst (λ bytes. IsSearched (behind_line_ends bytes) c.in-Unfinished.searched) c.pass_line_ends-taken.ensures.behind
    (searched_behind c.args.bytes.now c.pass_line_ends-taken.result.1.now c.in-Unfinished.searched c.pass_line_ends-taken.ensures.message found.1)
