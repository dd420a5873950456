-- An open journal, compacted.
use Rattle.std.proofs.Common.{◌∷◌, ◌-◌, List, length, take, drop, subst, sym, ap, ◌∙◌}
use Rattle.journal.specs.KeptRecords.{Settled, payloads as payloads_of}
use Rattle.rulebook.specs.Words.{Text}
use Rattle.book.specs.Compaction.CompactedJournals.{CompactsOpen}
use Rattle.book.specs.Opening.Openings.{OpensWith}
use Rattle.book.specs.Opening.Replays.{Stops}
use Rattle.book.specs.Stories.{IsStory}
use Rattle.book.proofs.Payloads.CompactedRecords.{open_given_up, open_packed}
use Rattle.book.proofs.OpenJournals.{first_and_others, no_records}
use Rattle.book.proofs.compacting.compact_open.Given.{Over}
use Rattle.book.proofs.compacting.compact_open.Goals.{In-Ok}
use Rattle.book.proofs.compacting.compact_open.Goals as goal

pub compact_empty-requires-clause-settled : goal.compact_empty-requires-clause-settled
compact_empty-requires-clause-settled g c =
    subst (λ (all : List Text). Settled (g.D.Disk.seen c.args.journal.disk).images c.args.journal.place all)
    (sym (no_records c.args.records.now c.in-empty.len_below)) c.requires.settled

pub returns-in-empty : goal.returns-in-empty
returns-in-empty g c =
    subst (λ (all : List Text). CompactsOpen g.D.Disk.seen c.args.rules all c.args.journal.disk c.compact_empty.result.0 c.compact_empty.result.1)
    (no_records c.args.records.now c.in-empty.len_below) c.compact_empty.ensures

-- the entries are the story of all records, whose first one stands apart
opens : (g : Over) (c : In-Ok g) → OpensWith c.args.rules (payloads_of c.args.records.now) c.in-Ok.replay
opens g c =
    let records = c.args.records.now in
    let others = payloads_of (take (length records - 1) (drop 1 records)) in
    let all_is = ap (λ (x : Text). x ∷ others) c.deref.ensures.value ∙ first_and_others records c.first-item.result c.in-len1-up.len_at_least c.first-item.is in
    subst (λ (all : List Text). OpensWith c.args.rules all c.in-Ok.replay) all_is c.in-Ok.ensures

story : (g : Over) (c : In-Ok g) → IsStory (payloads_of c.args.records.now) c.in-Ok.replay
story g c =
    let records = c.args.records.now in
    let others = payloads_of (take (length records - 1) (drop 1 records)) in
    let all_is = ap (λ (x : Text). x ∷ others) c.deref.ensures.value ∙ first_and_others records c.first-item.result c.in-len1-up.len_at_least c.first-item.is in
    let opens : OpensWith c.args.rules (c.deref.result.now ∷ others) c.in-Ok.replay = c.in-Ok.ensures in
    subst (λ (all : List Text). IsStory all c.in-Ok.replay) all_is opens.0.0

pub compact_records-requires-clause-story : goal.compact_records-requires-clause-story
compact_records-requires-clause-story g c = (c.in-Ok.replay, story g (goal.at.compact_records-requires-clause-story g c).In-Ok)

pub returns-in-Ok : goal.returns-in-Ok
returns-in-Ok g c =
    let D = g.D.Disk in
    let here = (goal.at.returns-in-Ok g c).In-Ok in
    let all = payloads_of c.args.records.now in
    let H = c.in-Ok.replay in
    open_packed D.seen g.met.D.Disk.only_now c.args.rules all c.args.journal.disk
    (c.stands.ensures.alone all c.requires.settled) H (opens g here) (story g here)
    c.entries-entries.result c.entries-entries.ensures.entries c.compact_records.result.0 c.compact_records.result.1
    (c.compact_records.ensures H c.entries-entries.ensures.legal (story g here))

pub returns-in-Err : goal.returns-in-Err
returns-in-Err g c =
    let D = g.D.Disk in
    let records = c.args.records.now in
    let all = payloads_of records in
    let others = payloads_of (take (length records - 1) (drop 1 records)) in
    let all_is = ap (λ (x : Text). x ∷ others) c.deref.ensures.value ∙ first_and_others records c.first-item.result c.in-len1-up.len_at_least c.first-item.is in
    let stops : Stops c.args.rules all c.in-Err.fault = subst (λ (p : List Text). Stops c.args.rules p c.in-Err.fault) all_is c.in-Err.ensures in
    rw c.close.ensures
    (open_given_up D.seen g.met.D.Disk.only_now c.args.rules all c.args.journal.disk (c.stands.ensures.alone all c.requires.settled) c.in-Err.fault stops)
