-- The worker went on from what it had done at first, and memory isn't short for it.
use Rattle.std.proofs.Common.{◌≡◌, ◌<◌, false}
use Rattle.campaign_server.specs.Crews.Workers.{WorkerGoesOn}
use Rattle.campaign_server.proofs.servers.workers.serve_all.Given as goal

abbrev pub invariant-loop : goal.invariant-loop
invariant-loop g l = record {
  goes_on : WorkerGoesOn l.crew.keys.now l.initial.work l.work;
  hall : l.work.pass.hall ≡ l.crew.hall;
  parts : 0 < l.work.parts;
  not_short : l.work.short ≡ false;
}
