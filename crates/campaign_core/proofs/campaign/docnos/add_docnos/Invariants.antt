-- The docnos of the lists so far, and their numbers, were added.
use Rattle.std.proofs.Common.{◌+◌, ◌≤◌, [], drop, length, take}
use Rattle.rulebook.specs.Campaign.{docnos, line_count}
use Rattle.campaign_core.specs.Growth.{BeginsWith}
use Rattle.campaign_core.specs.Numbering.Numbers.{AreAdded}
use Rattle.campaign_core.proofs.campaign.docnos.add_docnos.Given as goal

abbrev pub invariant-loop-list : goal.invariant-loop-list
invariant-loop-list l =
    AreAdded (docnos (take l.list-index l.lists)) l.fn.docnos l.docnos [] l.numbers.items
    × BeginsWith l.fn.docnos l.docnos
    × (length l.docnos + line_count (drop l.list-index l.lists) ≤ length l.fn.docnos + line_count l.lists)
