use Rattle.std.proofs.Common.{rules, ◌≡◌, ◌+◌, ◌∙◌, All, Some, arith, length, subst, sym, vec_len}
use Rattle.std.proofs.lemmas.List.{with_items_is}
use Rattle.std.proofs.lemmas.List.Elements.{All-pop}
use Rattle.book.specs.Halls.{seen_as}
use Rattle.campaign_server.specs.Crews.Workers.{HasServed, IsFreshWorker, Works}
use Rattle.campaign_server.proofs.ServerEnds.JoinedWorkers.{works_empty, works_in}
use Rattle.campaign_server.proofs.servers.work_together.Goals as goal

pub serve_by-requires-clause-fresh : goal.serve_by-requires-clause-fresh
serve_by-requires-clause-fresh g c κs within = (
  seen_as c.args.all.now.done.pass.seen,
  subst (All (IsFreshWorker c.args.crew.now.hall (seen_as c.args.all.now.done.pass.seen))) (sym c.as_mut_slice.ensures.value) c.requires.fresh,
)

pub workers-init : goal.workers-init
workers-init g c =
    let start = seen_as c.args.all.now.done.pass.seen in
    let keys = c.args.crew.now.keys.now in
    let hall = c.args.crew.now.hall in
    let none = c.requires.none in
    let len : length c.serve_by.new.team ≡ c.args.team.len = search rules in
    let whole = with_items_is c.args.team c.serve_by.new.team len in
    let fresh = subst (All (IsFreshWorker hall start)) (sym c.as_mut_slice.ensures.value) c.requires.fresh in
    record {
      hall = none.of;
      left = subst (All (HasServed keys hall start)) (sym whole) (c.serve_by.ensures.served start fresh);
      parts = search rules;
      room = search rules;
      worked = works_empty keys hall c.args.all.now.done.parts c.args.all.now.done none;
    }

pub take_in-requires-clause-other : goal.take_in-requires-clause-other
take_in-requires-clause-other g c κs within =
    let parted =
    All-pop (HasServed c.args.crew.now.keys.now c.args.crew.now.hall (seen_as c.args.all.now.done.pass.seen)) c.workers.team.items
    c.pop.new.self.items (Some c.in-Some.work)
    c.in-Some.ensures.items c.workers.invariant.left in
    parted.1.of

pub workers-preserved : goal.workers-preserved
workers-preserved g c =
    let start = seen_as c.args.all.now.done.pass.seen in
    let keys = c.args.crew.now.keys.now in
    let hall = c.args.crew.now.hall in
    let at = c.workers.invariant in
    let takes = c.take_in.ensures in
    let parted = All-pop (HasServed keys hall start) c.workers.team.items c.pop.new.self.items (Some c.in-Some.work) c.in-Some.ensures.items at.left in
    let shorter : vec_len c.pop.new.self + 1 ≡ vec_len c.workers.team = search rules in
    record {
      hall = takes.of ∙ at.hall;
      left = parted.0;
      parts = let parts = takes.parts in let was = at.parts in let part = parted.1.part in omega (arith, parts, was, part, shorter);
      room = let room = takes.room in let was = at.room in omega (arith, room, was, shorter);
      worked = works_in keys hall start c.workers.all c.in-Some.work c.take_in.new.all takes at.worked parted.1;
    }

pub returns-clause-worked : goal.returns-clause-worked
returns-clause-worked g c =
    let parts : c.workers.all.done.parts ≡ vec_len c.args.team = search rules in
    subst (λ n. Works c.args.crew.now.keys.now (seen_as c.args.all.now.done.pass.seen) n c.workers.all.done) parts c.workers.invariant.worked
