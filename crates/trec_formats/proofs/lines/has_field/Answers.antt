use Rattle.std.proofs.Common.{◌∙◌, ap}
use Rattle.std.specs.Option.{is_some}
use Rattle.trec_formats.proofs.LineTexts.Cuts.{is_filled-fields_of}
use Rattle.trec_formats.proofs.lines.has_field.Goals as goal

pub returns : goal.returns
returns c = c.is_some.ensures ∙ ap is_some c.field_start.ensures ∙ is_filled-fields_of c.args.line.now
