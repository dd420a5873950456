use Rattle.std.proofs.Common.{◌≡◌, List, Option, IfOk, map, option_map, ap, subst}
use Rattle.clap.specs.Words.{found_of, rows_of}
use Rattle.command_words.specs.Words.{Text}
use Rattle.command_words.proofs.ValueLists.{joined, lacking}
use Rattle.command_words.proofs.values.values_in.Goals as goal

pub returns-in-Some : goal.returns-in-Some
returns-in-Some c =
    subst (λ (all : Option (List Text)). IfOk c.add_values-in-Some.result (λ values. option_map (λ v. map (λ value. value.now) v.items) values ≡ all))
    (joined (rows_of (found_of c.args.found.now)) (map (λ name. name.now) c.args.form.now.1.now) (map (λ name. name.now) c.args.form.now.2.now)
    (map (λ value. value.now) c.new.result.items) (map (λ value. value.now) c.in-Some.values.items) (ap (map (λ value. value.now)) c.new.ensures.items)
    (rw c.in-Some.is at c.in_ok-values.ensures)) c.add_values-in-Some.ensures

pub returns-in-None : goal.returns-in-None
returns-in-None c = lacking (rows_of (found_of c.args.found.now)) (map (λ name. name.now) c.args.form.now.1.now) (map (λ name. name.now) c.args.form.now.2.now)
    (map (λ value. value.now) c.new.result.items) (ap (map (λ value. value.now)) c.new.ensures.items) (rw c.in-None.is at c.in_ok-values.ensures)
