-- The records of a journal, packed and replaced, or left.
use Rattle.std.proofs.Common.{◌≡◌, ◌+◌, [], ℕ, List, refl, min, ap, sym, subst, ◌∙◌, arith}
use Rattle.journal.specs.declared.replacing.ReplaceEnd.{ReplaceEnd}
use Rattle.journal.specs.KeptRecords.{payloads as payloads_of}
use Rattle.journal.specs.Replacements.{Replaces}
use Rattle.journal.specs.Format.{place_behind}
use Rattle.rulebook.specs.Campaign.{History}
use Rattle.rulebook.specs.Histories.Legal.{IsLegal}
use Rattle.rulebook.specs.Words.{Text}
use Rattle.book.specs.Stories.{IsStory}
use Rattle.book.proofs.Payloads.CompactedRecords.{left_as_it_is, not_replaced, replace_failed, replaced}
use Rattle.book.proofs.JournalEntries.{keeps_settled}
use Rattle.book.proofs.Payloads.PackedEntries.{compacted_story}
use Rattle.book.proofs.compacting.compact_records.Given.{Over}
use Rattle.book.proofs.compacting.compact_records.Goals.{After-stands, In-Ok}
use Rattle.book.proofs.compacting.compact_records.Goals as goal

total : (g : Over) (c : After-stands g) → c.args.journal.place ≡ place_behind (payloads_of c.args.records.now)
total g c =
    let j = c.args.journal in
    let all = payloads_of c.args.records.now in
    c.stands.ensures.total all [] (keeps_settled (g.D.Disk.seen j.disk).images j.place j.due all c.requires.nothing_due c.requires.settled)

-- the area has the same story
packed_story : (g : Over) (c : In-Ok g) (H : History) → IsLegal H → IsStory (payloads_of c.args.records.now) H → IsStory c.in-Ok.area H
packed_story g c H legal story = subst (λ (area : List Text). IsStory area H) (sym (c.in-Ok.ensures H story)) (compacted_story c.requires.laws H legal)

pub lesser-after-requires : goal.lesser-after-requires
lesser-after-requires g c = omega (arith, c.length-before.ensures, total g (goal.at.lesser-after-requires g c).After-stands)

pub replace-requires : goal.replace-requires
replace-requires g c = omega (arith, c.requires.small)

pub returns-in_default : goal.returns-in_default
returns-in_default g c H legal story =
    let D = g.D.Disk in
    let all = payloads_of c.args.records.now in
    let disk = c.args.journal.disk in
    rw c.close.ensures
    (left_as_it_is D.seen disk H all (g.met.D.Disk.counts_now disk) (g.met.D.Disk.only_now disk) story (c.stands.ensures.alone all c.requires.settled))

pub returns-in_default-Done : goal.returns-in_default-Done
returns-in_default-Done g c H legal story =
    let D = g.D.Disk in
    let at = goal.at.returns-in_default-Done g c in
    let j = c.args.journal in
    let new = c.replace.result.0 in
    let all = payloads_of c.args.records.now in
    let ends = subst (λ (end : ReplaceEnd). Replaces D.seen j.disk new j.place j.due c.in-Ok.area end) c.in_default-Done.is-1 c.replace.ensures in
    let after_is = c.lesser-after.ensures ∙ ap (λ (bytes : ℕ). min c.length-before.result (16 + bytes)) c.bytes.ensures in (
      refl,
      replaced D.seen j.disk new H (g.met.D.Disk.counts_now new) j.place all c.in-Ok.area story
          (packed_story g at.In-Ok H legal story) (c.in-Ok.ensures H story)
          (total g at.After-stands) c.requires.settled (c.stands.ensures.length all c.requires.settled) j.due c.requires.nothing_due
          c.length-before.result c.lesser-after.result c.length-before.ensures after_is ends,
    )

pub returns-in_default-Larger : goal.returns-in_default-Larger
returns-in_default-Larger g c H legal story =
    let D = g.D.Disk in
    let at = goal.at.returns-in_default-Larger g c in
    let j = c.args.journal in
    let new = c.replace.result.0 in
    let all = payloads_of c.args.records.now in
    let ends = subst (λ (end : ReplaceEnd). Replaces D.seen j.disk new j.place j.due c.in-Ok.area end) c.in_default-Larger.is-1 c.replace.ensures in
    let after_is = c.lesser-after.ensures ∙ ap (λ (bytes : ℕ). min c.length-before.result (16 + bytes)) c.bytes.ensures in (
      refl,
      not_replaced D.seen j.disk new H (g.met.D.Disk.counts_now new) j.place all c.in-Ok.area story
          (packed_story g at.In-Ok H legal story) (c.in-Ok.ensures H story)
          (total g at.After-stands) c.requires.settled (c.stands.ensures.length all c.requires.settled) j.due c.requires.nothing_due
          c.length-before.result c.lesser-after.result c.length-before.ensures after_is ends,
    )

pub returns-in_default-Failed : goal.returns-in_default-Failed
returns-in_default-Failed g c H legal story =
    let D = g.D.Disk in
    let at = goal.at.returns-in_default-Failed g c in
    let j = c.args.journal in
    let new = c.replace.result.0 in
    let all = payloads_of c.args.records.now in
    let ends = subst (λ (end : ReplaceEnd). Replaces D.seen j.disk new j.place j.due c.in-Ok.area end) c.in_default-Failed.is-1 c.replace.ensures in
    replace_failed D.seen j.disk new H (g.met.D.Disk.counts_now new) j.place all c.in-Ok.area story
    (packed_story g at.In-Ok H legal story) (c.in-Ok.ensures H story)
    (total g at.After-stands) c.requires.settled (c.stands.ensures.length all c.requires.settled) j.due c.requires.nothing_due ends
