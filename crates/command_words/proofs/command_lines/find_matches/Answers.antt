use Rattle.std.proofs.Common.{map, string_bytes, rules}
use Rattle.command_words.specs.Words.{form_of}
use Rattle.command_words.proofs.MatchedRows.{accepted, refused}
use Rattle.command_words.proofs.command_lines.find_matches.Goals as goal

pub returns-in-Ok : goal.returns-in-Ok
returns-in-Ok c =
    accepted (map form_of c.args.forms.now) _
    (map string_bytes c.args.words.now) c.in-Ok.matches c.in_ok-line.ensures c.in-Ok.ensures.kinds c.in-Ok.ensures.matches

pub returns : goal.returns
returns c = refused (map form_of c.args.forms.now) _ (map string_bytes c.args.words.now) c.in-Err.error c.in_ok-line.ensures c.in-Err.ensures.kinds
    (search rules)
