use Rattle.std.proofs.Common.{rules, ◌≡◌, None, Option, sym}
use Rattle.std.specs.Prelude.{find, bytes_eq}
use Rattle.std.proofs.lemmas.List.{append-nil}
use Rattle.rulebook.specs.declared.systems.System.{System}
use Rattle.archive_reports.proofs.histories.add_row.Goals as goal

pub returns-in-None : goal.returns-in-None
returns-in-None c =
    let none : Option System = None in
    let is : find (λ system. bytes_eq c.args.run.now system.run) c.args.kept.now.systems ≡ none = search rules in
    rw is (sym (append-nil c.args.rows.now.items))
