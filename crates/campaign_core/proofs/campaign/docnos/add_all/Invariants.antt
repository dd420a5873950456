-- The docnos so far, and their numbers, were added.
use Rattle.std.proofs.Common.{◌+◌, ◌≤◌, length, take}
use Rattle.campaign_core.specs.Growth.{BeginsWith}
use Rattle.campaign_core.specs.Numbering.Numbers.{AreAdded}
use Rattle.campaign_core.proofs.campaign.docnos.add_all.Given as goal

abbrev pub invariant-loop-place : goal.invariant-loop-place
invariant-loop-place l =
    AreAdded (take l.place l.docs) l.fn.docnos l.docnos l.fn.numbers.items l.numbers.items
    × BeginsWith l.fn.docnos l.docnos
    × (length l.docnos ≤ length l.fn.docnos + l.place)
