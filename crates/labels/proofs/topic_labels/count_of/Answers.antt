use Rattle.std.proofs.Common.{◌∙◌, ap, length, subst}
use Rattle.labels.specs.DocumentLabels.{IsOncePerAssessor}
use Rattle.labels.proofs.Entries.{given_found, given_looked_up}
use Rattle.labels.proofs.topic_labels.count_of.Goals as goal

pub returns-in-Some-clause-count : goal.returns-in-Some-clause-count
returns-in-Some-clause-count c =
    c.count.ensures.count ∙ ap (λ found. length (given_found found)) c.in-Some.ensures.value ∙ ap length (given_looked_up c.args.doc c.args.marked.now.entries)

pub returns-in-Some-clause-once_per_assessor : goal.returns-in-Some-clause-once_per_assessor
returns-in-Some-clause-once_per_assessor c =
    subst IsOncePerAssessor (ap given_found c.in-Some.ensures.value ∙ given_looked_up c.args.doc c.args.marked.now.entries) c.count.ensures.once

pub returns-in-None-clause-count : goal.returns-in-None-clause-count
returns-in-None-clause-count c =
    ap (λ found. length (given_found found)) c.in-None.ensures.value ∙ ap length (given_looked_up c.args.doc c.args.marked.now.entries)

pub returns-in-None-clause-once_per_assessor : goal.returns-in-None-clause-once_per_assessor
returns-in-None-clause-once_per_assessor c =
    subst IsOncePerAssessor (ap given_found c.in-None.ensures.value ∙ given_looked_up c.args.doc c.args.marked.now.entries) tt
