-- A mend, and an append behind it.
use Rattle.std.proofs.Common.{◌≡◌, ◌+◌, ◌∙◌, [], ◌∷◌, None, Option, ap, arith, inl, inr, length, subst, sym}
use Rattle.std.proofs.lemmas.Result.{err_from_is_err_and}
use Rattle.decimal_rank.specs.Causes.{Rose}
use Rattle.disk_model.specs.Disks.{EachMoment}
use Rattle.rulebook.specs.declared.entry.Entry.{Entry}
use Rattle.rulebook.specs.Campaign.{History}
use Rattle.rulebook.specs.Histories.Legal.{IsAccepted}
use Rattle.rulebook.specs.Spelling.{entry_bytes}
use Rattle.book.specs.Images.{HoldsOneOf}
use Rattle.book.specs.JournaledEntries.{KeepsBook}
use Rattle.book.proofs.JournalEntries.{append_done, append_failed, append_moments, both_moments, keep_failed, mend_only_moments}
use Rattle.book.proofs.journaling.keep.Given.{Over}
use Rattle.book.proofs.journaling.keep.Goals.{After-append}
use Rattle.book.proofs.journaling.keep.Goals as goal

-- nothing is pending behind the mend
alone : (g : Over) (c : After-append g) (H : History) → KeepsBook g.D.Disk.seen c.args.journal.now H c.args.pending.now
    → KeepsBook g.D.Disk.seen c.mend_first.new.journal H None
alone g c H keeps =
    subst (λ (pending : Option Entry). KeepsBook g.D.Disk.seen c.mend_first.new.journal H pending) c.in_ok-mend_first.ensures.none
    (c.mend_first.ensures.keeps H keeps)

moments : (g : Over) (c : After-append g) (H : History) → IsAccepted H c.args.prepared.now → KeepsBook g.D.Disk.seen c.args.journal.now H c.args.pending.now
    → EachMoment g.D.Disk.seen c.args.journal.now.disk c.append.new.self.disk (HoldsOneOf H c.args.pending.now (c.args.prepared.now ∷ []))
moments g c H accepted keeps =
    let D = g.D.Disk in
    let mended = c.mend_first.new.journal in
    both_moments D.seen c.args.journal.now.disk mended.disk c.append.new.self.disk H c.args.pending.now c.args.prepared.now
    (c.mend_first.ensures.any_moment H keeps)
    (append_moments D.seen mended c.append.new.self H c.args.prepared.now accepted c.args.frame.now c.requires.frame
    (alone g c H keeps) c.append.ensures.any_moment)

pub returns-in_err-mend_first : goal.returns-in_err-mend_first
returns-in_err-mend_first g c =
    let D = g.D.Disk in
    let mended = c.mend_first.new.journal in
    let p = err_from_is_err_and c.from_residual.result c.from_residual.ensures.1 in
    keep_failed D.seen c.args.journal.now mended c.args.pending.now c.mend_first.new.pending c.args.prepared.now
    c.from_residual.result p.0 p.1 c.mend_first.ensures.place (λ H accepted keeps. c.mend_first.ensures.keeps H keeps)
    (inl c.in_err-mend_first.ensures.same)
    (λ H accepted keeps. mend_only_moments D.seen c.args.journal.now.disk mended.disk H c.args.pending.now c.args.prepared.now
    (c.mend_first.ensures.any_moment H keeps))
    c.mend_first.ensures.cause.later c.in_err-mend_first.ensures.cause.failed

pub returns-in-Ok : goal.returns-in-Ok
returns-in-Ok g c =
    let D = g.D.Disk in
    let now = (goal.at.returns-in-Ok g c).After-append in
    let old = c.args.journal.now in
    let mended = c.mend_first.new.journal in
    let new = c.append.new.self in
    let bytes = entry_bytes c.args.prepared.now.core in
    let appended : new.place ≡ mended.place + 5 + length c.args.frame.now = c.in-Ok.ensures.place in
    let moved : new.place ≡ old.place + 5 + length bytes = omega (arith, appended, c.mend_first.ensures.place, ap length c.requires.frame) in
    record {
      added = λ H accepted keeps. append_done D.seen mended new H c.args.prepared.now accepted c.args.frame.now c.requires.frame
          (alone g now H keeps) c.in-Ok.ensures.added c.in-Ok.ensures.nothing_due;
      none = c.in_ok-mend_first.ensures.none;
      place = moved;
      place_err = tt;
      kept = tt;
      pending_is = tt;
      any_moment = λ H accepted keeps. moments g now H accepted keeps;
      cause = record { later = omega (arith, c.mend_first.ensures.cause.later, c.append.ensures.cause.later); failed = tt };
    }

pub returns-in-Err : goal.returns-in-Err
returns-in-Err g c =
    let D = g.D.Disk in
    let now = (goal.at.returns-in-Err g c).After-append in
    let old = c.args.journal.now in
    let mended = c.mend_first.new.journal in
    let new = c.append.new.self in
    let stays : new.place ≡ mended.place = c.in-Err.ensures.place_err in
    let rose : Rose (D.seen mended.disk).faults (D.seen new.disk).faults = c.in-Err.ensures.cause.failed in
    record {
      added = tt;
      none = tt;
      place = tt;
      place_err = stays ∙ c.mend_first.ensures.place;
      kept = λ H accepted keeps. subst (λ (pending : Option Entry). KeepsBook D.seen new H pending) (sym c.leave.ensures)
          (append_failed D.seen mended new H c.args.prepared.now accepted c.args.frame.now c.requires.frame (alone g now H keeps) c.in-Err.ensures.kept);
      pending_is = inr c.leave.ensures;
      any_moment = λ H accepted keeps. moments g now H accepted keeps;
      cause = record {
        later = omega (arith, c.mend_first.ensures.cause.later, c.append.ensures.cause.later);
        failed = omega (arith, c.mend_first.ensures.cause.later, rose);
      };
    }
