-- The workers so far are fresh, the first pass is as it was, and the ledger's parts are those of the workers to come.
use Rattle.std.proofs.Common.{◌≡◌, ◌+◌, ◌≤◌, All, vec_capacity, vec_len}
use Rattle.book.specs.Halls.{seen_as}
use Rattle.campaign_server.specs.Crews.Workers.{IsFreshWorker}
use Rattle.campaign_server.proofs.servers.teams.fill_team.Given as goal

abbrev pub invariant-loop : goal.invariant-loop
invariant-loop g l = record {
  same : l.first ≡ l.initial.first;
  parts : l.whole.parts + l.counter ≡ l.workers;
  amount : l.whole.amount ≡ 0;
  len : vec_len l.team ≡ l.counter;
  room : l.workers ≤ vec_capacity l.team;
  fresh : All (IsFreshWorker l.hall (seen_as l.initial.first.seen)) l.team.items;
}
