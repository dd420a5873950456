-- What is cut off behind a closed gate, and behind one that is closed first.
use Rattle.std.proofs.Common.{ℕ, List, inl, refl, rules}
use Rattle.std.proofs.lemmas.Result.{on_ok_weaker}
use Rattle.journal.specs.KeptRecords.{HoldsRecords, Keeps}
use Rattle.journal.specs.Moments.{joined}
use Rattle.journal.proofs.DueRecords.{cut_where_shut, gate_where_gate, not_gate}
use Rattle.journal.proofs.Steps.{gate_reaches}
use Rattle.journal.proofs.mends.mend_due.Goals as goal

pub mend_cut-requires : goal.mend_cut-requires
mend_cut-requires g c =
    let kept = c.requires.kept in
    record {
      cut = (kept.0, cut_where_shut (g.D.Disk.seen c.args.disk.now).images c.args.place c.args.due.now c.in-Nothing.is kept.0 kept.1 kept.2);
      room = c.requires.room;
    }

pub close_gate-requires-clause-within : goal.close_gate-requires-clause-within
close_gate-requires-clause-within g c =
    let images = (g.D.Disk.seen c.args.disk.now).images in
    let kept = c.requires.kept in
    gate_reaches images c.args.place kept.0 kept.1 (gate_where_gate images c.args.place c.args.due.now c.in-Gate.is kept.0 kept.1 kept.2)

pub returns-in-Nothing : goal.returns-in-Nothing
returns-in-Nothing g c =
    let shut = cut_where_shut (g.D.Disk.seen c.args.disk.now).images c.args.place c.args.due.now c.in-Nothing.is in
    let cut = c.mend_cut.ensures in
    record {
      mended = on_ok_weaker c.mend_cut.result (λ settles all pending keeps. settles all (shut all pending keeps)) cut.mended;
      closed = λ is_gate. absurd (not_gate c.args.due.now c.in-Nothing.is is_gate);
      nothing_due = cut.nothing_due;
      place = refl;
      kept = λ all pending keeps. inl (cut.kept all (shut all pending keeps));
      any_moment = λ all pending keeps. cut.any_moment all pending (shut all pending keeps);
      cause = cut.cause;
    }

pub returns-in_ok-close_gate-in-Gate : goal.returns-in_ok-close_gate-in-Gate
returns-in_ok-close_gate-in-Gate g c =
    let images = (g.D.Disk.seen c.args.disk.now).images in
    let gate = gate_where_gate images c.args.place c.args.due.now c.in-Gate.is in
    let shut = λ (all pending : List (List ℕ))
    (keeps : Keeps images c.args.place c.args.due.now all pending). c.in_ok-close_gate-in-Gate.ensures.done all pending (gate all pending keeps) in
    let kept = c.requires.kept in
    let closes = c.in_ok-close_gate-in-Gate.ensures.closed kept.0 kept.1 (gate kept.0 kept.1 kept.2) in
    let cut = c.mend_cut-in-Gate.ensures in
    record {
      mended = on_ok_weaker c.mend_cut-in-Gate.result (λ settles all pending keeps. settles all (shut all pending keeps)) cut.mended;
      closed = λ is_gate. on_ok_weaker c.mend_cut-in-Gate.result (λ ends. ends closes) cut.closed;
      nothing_due = cut.nothing_due;
      place = refl;
      kept = λ all pending keeps. inl (cut.kept all (shut all pending keeps));
      any_moment = λ all pending keeps. joined g.D.Disk.seen c.args.disk.now c.close_gate.new.disk c.mend_cut-in-Gate.new.disk (HoldsRecords all pending)
          (c.close_gate.ensures.any_moment all pending (gate all pending keeps)) (cut.any_moment all pending (shut all pending keeps));
      cause = search rules;
    }
