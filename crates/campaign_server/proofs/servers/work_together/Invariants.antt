-- The workers not yet taken apart have served, and what was gathered is of the others, of which each gave its part of the ledger.
use Rattle.std.proofs.Common.{◌≡◌, ◌+◌, ◌≤◌, All, vec_len}
use Rattle.book.specs.Halls.{seen_as}
use Rattle.campaign_server.specs.Crews.Workers.{HasServed, Works}
use Rattle.campaign_server.proofs.servers.work_together.Given as goal

abbrev pub invariant-workers : goal.invariant-workers
invariant-workers g l = record {
  hall : l.all.done.pass.hall ≡ l.crew.hall;
  left : All (HasServed l.crew.keys.now l.crew.hall (seen_as l.fn.all.done.pass.seen)) l.team.items;
  parts : l.all.done.parts + vec_len l.team ≡ vec_len l.fn.team;
  room : vec_len l.team ≤ l.all.room;
  worked : Works l.crew.keys.now (seen_as l.fn.all.done.pass.seen) l.all.done.parts l.all.done;
}

abbrev pub decreases-workers : goal.decreases-workers
decreases-workers g l = vec_len l.team
