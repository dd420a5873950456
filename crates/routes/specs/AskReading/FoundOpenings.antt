-- An opening as it is found.
use Rattle.routes.specs.declared.openings.Opening.{Opening as FoundOpening}
use Rattle.routes.specs.Openings.{Opening}

abbrev pub opening_shown : FoundOpening → Opening
opening_shown opening = record { place = opening.place; caller = opening.caller.now; number = opening.number }
