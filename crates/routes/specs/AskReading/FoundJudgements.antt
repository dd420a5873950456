-- A judgement as it is found.
use Rattle.routes.specs.declared.bodies.Judgement.{Judgement as FoundJudgement}
use Rattle.routes.specs.Json.Bodies.{Judgement}

abbrev pub judgement_shown : FoundJudgement → Judgement
judgement_shown found = record { doc = found.doc; grade = found.grade }
