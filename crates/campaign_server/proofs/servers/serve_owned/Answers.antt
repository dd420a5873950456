use Rattle.std.proofs.Common.{rules, ◌≡◌, ◌≤◌, ap, false, refl, subst, sym, vec_len}
use Rattle.decimal_rank.specs.Causes.{Rose}
use Rattle.rulebook.specs.Histories.Stories.{IsPartOf}
use Rattle.book.specs.Books.{story_of}
use Rattle.book.specs.Halls.{seen_as}
use Rattle.campaign_server.specs.declared.ends.ServeEnd.TheVariants as serve_end
use Rattle.campaign_server.specs.Crews.Acceptors.{Closes, IsAcceptor}
use Rattle.campaign_server.specs.Crews.Records.{ended_all}
use Rattle.campaign_server.specs.Crews.Workers.{GatheredState, WorkState, Works}
use Rattle.campaign_server.proofs.ServerEnds.DoorLeavings.{accepts_on, serves_closed, serves_none, serves_shut}
use Rattle.campaign_server.proofs.servers.serve_owned.Goals as goal

pub returns-in_default : goal.returns-in_default
returns-in_default g c = serves_none _ _ _ _ _ refl c.requires.shut

pub returns-in_default-with_capacity : goal.returns-in_default-with_capacity
returns-in_default-with_capacity g c = serves_none _ _ _ _ _ refl c.requires.shut

pub returns-in_default-new : goal.returns-in_default-new
returns-in_default-new g c = serves_none _ _ _ _ _ refl c.requires.shut

pub returns-in-Err : goal.returns-in-Err
returns-in-Err g c =
    let same : c.in-Err.book ≡ c.args.book = search rules in
    let story = story_of g.D.Disk.seen in
    serves_none c.args.keys.now c.args.numbers (story c.args.book) (story c.in-Err.book) (g.R.Door.seen c.args.door) (ap story same) c.requires.shut

pub returns-in-Err-open : goal.returns-in-Err-open
returns-in-Err-open g c =
    let story = story_of g.D.Disk.seen in
    let old = g.R.Door.seen c.args.door in
    let new = g.R.Door.seen c.open.new.self in
    let same : new.told ≡ old.told = search rules in
    let rose : Rose old.faults new.faults = search rules in
    let later : old.faults ≤ new.faults = search rules in
    let most = c.close.ensures in
    let grown : IsPartOf (story c.args.book) (story c.close.result) =
    subst (λ s. IsPartOf (seen_as s) (story c.close.result)) c.in-Ok-new-2.ensures.pass.0 (record { longer = most.0; later = most.1; opening = most.2 }) in
    serves_shut c.args.keys.now c.args.numbers (story c.args.book) (story c.close.result) old new serve_end.DoorFault
    (λ wrong. cc wrong) grown c.requires.shut same (λ e. rose) later

pub new-requires-3-clause-acceptor : goal.new-requires-3-clause-acceptor
new-requires-3-clause-acceptor g c κs within =
    let was = g.R.Door.seen c.args.door in
    let is = g.R.Door.seen c.open.new.self in
    let limit = g.J.DoorOpening.limit in
    let later : g.J.DoorOpening.faults ≤ is.faults = subst (λ n. n ≤ is.faults) (sym c.requires.opening.1) c.open.ensures.cause.later in
    subst (λ port. IsAcceptor port g.J.DoorOpening.faults limit (record { door = is; accepted = 0; ended = false; failed = false })) (sym c.requires.opening.0)
    (accepts_on c.args.numbers.port g.J.DoorOpening.faults limit was is c.requires.shut c.in-Ok-open.ensures.opened later)

pub returns : goal.returns
returns g c =
    let story = story_of g.D.Disk.seen in
    let told = g.R.Door.seen in
    let keys = c.args.keys.now in
    let workers = c.args.numbers.workers in
    let after = story c.close-2.result in
    let all = c.all.inside in
    let was = (told c.args.door).faults in
    let closes : Closes c.args.numbers.port was c.args.numbers.connections (told c.close-door.result.0) all.share.amount c.close-door.result.1 = search rules in
    let first = c.fill_team.new.first in
    let work : WorkState =
    record { pass = all.pass; parts = all.share.parts; records = ended_all (λ v. v.items) g.R.Door.kept all.records.items; short = all.short } in
    let worked : Works keys (story c.args.book) workers work =
    subst (λ s. Works keys (seen_as s) workers work) c.in-Ok-new-2.ensures.pass.0
    (subst (λ p. Works keys (seen_as p.seen) workers work) c.fill_team.ensures.same
    (subst (λ n. Works keys (seen_as first.seen) n work) c.fill_team.ensures.len
    (subst (λ (v : GatheredState). Works keys (seen_as first.seen) (vec_len c.fill_team.new.team) v.done)
    (sym c.all.view_is) c.work_together.ensures.worked))) in
    let most = c.close-2.ensures in
    let grown : IsPartOf (seen_as all.pass.seen) after = record { longer = most.0; later = most.1; opening = most.2 } in
    serves_closed keys c.args.numbers (story c.args.book) after was all.share.amount (told c.close-door.result.0) c.close-door.result.1
    c.settle-door.result.1 work
    closes c.all.invariant worked grown (told c.args.door) (told c.settle-door.result.0) refl c.settle-door.ensures.settled c.settle-door.ensures.faults
