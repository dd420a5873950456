-- What is printed is the lines of the docnos so far.
use Rattle.std.proofs.Common.{◌≡◌, ◌++◌, take}
use Rattle.std.specs.List.{flat_map}
use Rattle.rulebook.specs.Reports.Pages.{disagreement_line}
use Rattle.campaign_core.proofs.pages.write_disagreements.Given as goal

abbrev pub invariant-loop-docno : goal.invariant-loop-docno
invariant-loop-docno l =
    l.out.items ≡ l.initial.out.items ++ flat_map (λ docno. disagreement_line l.topic.facts.id docno.now) (take l.docno-index l.docno-items)
