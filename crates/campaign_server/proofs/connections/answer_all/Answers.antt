use Rattle.std.proofs.Common.{◌∙◌, inl, inr, refl}
use Rattle.campaign_server.proofs.TalkSteps.SpokenRequests.{turn_more, turn_closes, turn_part, spoke_refused, spoke_cut, spoke_pause}
use Rattle.http_wire.specs.Heads.{behind_line_ends}
use Rattle.campaign_server.proofs.connections.answer_all.Goals as goal

pub requests-init : goal.requests-init
requests-init g c = record { goes_on = λ old was bytes rest stands spoke. (rest, stands, spoke); reading_kept = refl }

pub returns-in-Err-clause-ends : goal.returns-in-Err-clause-ends
returns-in-Err-clause-ends g c = λ old was bytes rest stands spoke.
    let now = c.requests.invariant.goes_on old was bytes rest stands spoke in (now.0, now.2)

pub returns-in-Ok-Need-clause-pause : goal.returns-in-Ok-Need-clause-pause
returns-in-Ok-Need-clause-pause g c = λ old was bytes rest stands spoke.
    let (at, on, said) = c.requests.invariant.goes_on old was bytes rest stands spoke in
    let need = (rw c.in-Ok-Need.field-0-is at c.in-Ok-Need.ensures.asks) at on in (
      behind_line_ends at,
      need.1,
      spoke_pause g.T.Teller.tells c.args.keys.now c.readings_go_on.ensures c.fronts_are_messages.ensures old was bytes at c.requests.teller
          (g.I.Link.seen c.requests.link)
          said c.in-Ok-Need.clean need.0,
    )

pub returns-in-Ok-clause-ends : goal.returns-in-Ok-clause-ends
returns-in-Ok-clause-ends g c = λ old was bytes rest stands spoke.
    let (at, on, said) = c.requests.invariant.goes_on old was bytes rest stands spoke in
    let front = (rw c.in-Ok-Refused.field-0-is at c.in-Ok-Refused.ensures.asks) at on in
    spoke_refused g.T.Teller.tells c.args.keys.now c.readings_go_on.ensures c.fronts_are_messages.ensures old was bytes at c.requests.teller
    (g.I.Link.seen c.requests.link)
    said c.in-Ok-Refused.fault (g.I.Link.seen c.refuse.new.link) front c.in-Ok.ensures.clock_kept c.in-Ok.ensures.all

pub returns-in-Err-refuse-clause-ends : goal.returns-in-Err-refuse-clause-ends
returns-in-Err-refuse-clause-ends g c = λ old was bytes rest stands spoke.
    let (at, on, said) = c.requests.invariant.goes_on old was bytes rest stands spoke in
    let front = (rw c.in-Ok-Refused.field-0-is at c.in-Ok-Refused.ensures.asks) at on in
    inr (spoke_cut g.T.Teller.tells c.args.keys.now c.readings_go_on.ensures c.fronts_are_messages.ensures old was bytes at c.requests.teller
    (g.I.Link.seen c.requests.link)
    said c.in-Ok-Refused.fault (g.I.Link.seen c.refuse.new.link) front c.in-Err-refuse.ensures.clock_kept c.in-Err-refuse.ensures.part
    c.in-Err-refuse.ensures.cause.failed)

pub returns-then-close-clause-ends : goal.returns-then-close-clause-ends
returns-then-close-clause-ends g c = λ old was bytes rest stands spoke.
    let (at, on, said) = c.requests.invariant.goes_on old was bytes rest stands spoke in
    let (next, asked, behind) = (rw c.in-Ok-Whole.field-0-is at c.in-Ok-Whole.ensures.asks) at on in
    turn_closes g.T.Teller.tells c.args.keys.now c.readings_go_on.ensures c.fronts_are_messages.ensures old was bytes at c.requests.teller
    (g.I.Link.seen c.requests.link)
    said c.in-Ok-Whole.reading c.in-Ok-Whole.close next c.answer.new.teller (g.I.Link.seen c.answer.new.link) tt asked c.in-Ok-answer.ensures.turn
    c.if-close.true

pub requests-preserved : goal.requests-preserved
requests-preserved g c = record {
  goes_on = λ old was bytes rest stands spoke.
      let (at, on, said) = c.requests.invariant.goes_on old was bytes rest stands spoke in
      let (next, asked, behind) = (rw c.in-Ok-Whole.field-0-is at c.in-Ok-Whole.ensures.asks) at on in (
        next,
        behind,
        turn_more g.T.Teller.tells c.args.keys.now c.readings_go_on.ensures c.fronts_are_messages.ensures old was bytes at c.requests.teller
            (g.I.Link.seen c.requests.link)
            said c.in-Ok-Whole.reading c.in-Ok-Whole.close next c.answer.new.teller (g.I.Link.seen c.answer.new.link) tt asked
            c.in-Ok-answer.ensures.turn c.in-Ok-answer.ensures.cause.later c.if-close.false,
      );
  reading_kept = c.in-Ok-answer.ensures.reading_kept ∙ c.requests.invariant.reading_kept;
}

pub returns-in-Err-answer-clause-ends : goal.returns-in-Err-answer-clause-ends
returns-in-Err-answer-clause-ends g c = λ old was bytes rest stands spoke.
    let (at, on, said) = c.requests.invariant.goes_on old was bytes rest stands spoke in
    let (next, asked, behind) = (rw c.in-Ok-Whole.field-0-is at c.in-Ok-Whole.ensures.asks) at on in
    inl (turn_part g.T.Teller.tells c.args.keys.now c.readings_go_on.ensures c.fronts_are_messages.ensures old was bytes at c.requests.teller
    (g.I.Link.seen c.requests.link)
    said c.in-Ok-Whole.reading c.in-Ok-Whole.close next c.answer.new.teller
    (g.I.Link.seen c.answer.new.link) c.in-Err-answer.field-0 asked c.in-Err-answer.ensures.turn c.in-Err-answer.ensures.cause.failed)
