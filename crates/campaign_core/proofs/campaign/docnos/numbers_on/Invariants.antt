-- The lists so far aren't on the topic, and their documents stand before the present list's.
use Rattle.std.proofs.Common.{◌≡◌, drop, take}
use Rattle.rulebook.specs.Campaign.{docs_on, line_count}
use Rattle.campaign_core.proofs.campaign.docnos.numbers_on.Given as goal

abbrev pub invariant-loop-list : goal.invariant-loop-list
invariant-loop-list l =
    (docs_on (drop l.list-index l.lists) l.topic ≡ docs_on l.lists l.topic)
    × (l.start ≡ line_count (take l.list-index l.lists))
