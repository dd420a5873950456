-- The founding entry is added to a journal without records, or isn't.
use Rattle.std.proofs.Common.{◌≡◌, ◌+◌, ◌≤◌, ◌^◌, ℕ, [], ◌∷◌, length, refl, ap, ◌∙◌, arith}
use Rattle.disk_model.specs.Disks.{EachMoment}
use Rattle.journal.specs.KeptRecords.{HoldsRecordsOfOne, Keeps}
use Rattle.journal.specs.Moments.{weaker}
use Rattle.rulebook.specs.Histories.Legal.{founding}
use Rattle.book.specs.declared.faults.BookFault.TheVariants as fault
use Rattle.book.specs.Opening.Openings.{Establishes}
use Rattle.book.proofs.Payloads.CompactedRecords.{found_done, found_failed, open_given_up}
use Rattle.book.proofs.Founders.{founding_story}
use Rattle.book.proofs.JournalEntries.{keeps_settled}
use Rattle.book.proofs.OpenJournals.{establishes}
use Rattle.book.proofs.compacting.compact_empty.Given.{Over}
use Rattle.book.proofs.compacting.compact_empty.Goals.{After-append, After-stands}
use Rattle.book.proofs.compacting.compact_empty.Goals as goal

-- nothing was kept before
keeps : (g : Over) (c : After-stands g) → Keeps (g.D.Disk.seen c.args.journal.disk).images c.args.journal.place c.args.journal.due [] []
keeps g c = let j = c.args.journal in keeps_settled (g.D.Disk.seen j.disk).images j.place j.due [] c.requires.nothing_due c.requires.settled

moments : (g : Over) (c : After-append g) → Keeps (g.D.Disk.seen c.args.journal.disk).images c.args.journal.place c.args.journal.due [] []
    → EachMoment g.D.Disk.seen c.args.journal.disk c.append.new.self.disk (Establishes c.args.rules [])
moments g c keeps =
    weaker g.D.Disk.seen c.args.journal.disk c.append.new.self.disk (HoldsRecordsOfOne [] [] c.in-Ok.frame) (Establishes c.args.rules [])
    (establishes c.args.rules c.in-Ok.frame (founding c.args.rules ∷ [])
    (founding_story c.args.rules (founding c.args.rules ∷ []) c.in-Ok.frame c.requires.rules refl c.in-Ok.ensures) refl)
    (c.append.ensures.any_moment [] [] keeps)

pub returns-in_default : goal.returns-in_default
returns-in_default g c =
    let D = g.D.Disk in
    rw c.close.ensures
    (open_given_up D.seen g.met.D.Disk.only_now c.args.rules [] c.args.journal.disk (c.stands.ensures.alone [] c.requires.settled) fault.Memory tt)

pub append-requires : goal.append-requires
append-requires g c =
    let first : c.args.journal.place ≡ 16 = c.stands.ensures.total [] [] (keeps g (goal.at.append-requires g c).After-stands) in
    let short : length c.in-Ok.frame ≤ 2 ^ 25 = omega (arith, c.requires.laws.founding c.args.rules c.requires.rules, ap length c.in-Ok.ensures) in
    omega (arith, first, short)

pub returns-in-Ok-append : goal.returns-in-Ok-append
returns-in-Ok-append g c =
    let D = g.D.Disk in
    let at = goal.at.returns-in-Ok-append g c in
    let kept = keeps g at.After-stands in
    let new = c.append.new.self in
    let frame = c.in-Ok.frame in
    let settled = c.in-Ok-append.ensures.added [] [] kept in
    let place = c.stands-in-Ok-append.ensures.total (frame ∷ []) []
    (keeps_settled (D.seen new.disk).images new.place new.due (frame ∷ []) c.in-Ok-append.ensures.nothing_due settled) in
    rw c.close-in-Ok-append.ensures
    (found_done D.seen c.args.rules c.args.journal.disk new.disk (moments g at.After-append kept) c.append.ensures.cause.later g.met.D.Disk.only_now
    c.requires.rules frame c.in-Ok.ensures (c.stands-in-Ok-append.ensures.length (frame ∷ []) settled) c.length-length.result
    (c.length-length.ensures ∙ ap (λ (n : ℕ). n + 1) place))

pub returns : goal.returns
returns g c =
    let D = g.D.Disk in
    let at = goal.at.returns g c in
    rw c.close-in-Err.ensures
    (found_failed D.seen c.args.rules c.args.journal.disk c.append.new.self.disk
    (moments g at.After-append (keeps g at.After-stands)) c.append.ensures.cause.later
    c.in-Err.ensures.cause.failed)
