use Rattle.std.proofs.Common.{◌≡◌, ◌++◌, [], ◌∷◌, ℕ, List, refl, subst}
use Rattle.std.specs.Prelude.{codes, decimal}
use Rattle.decimal_rank.specs.Texts.Additions.{Adds}
use Rattle.trec_formats.specs.FaultNames.{kind_name}
use Rattle.trec_formats.specs.declared.faults.FormatFault.{FormatFault}
use Rattle.routes.specs.Answers.{format_members, kind_members, refused}
use Rattle.routes.specs.Json.MemberValues.{shown}
use Rattle.routes.specs.Json.Objects.{Member, in_quotes, object}
use Rattle.routes.proofs.answers.refusals.write_format.Goals as goal

-- what is told of a fault, by its members
told : (at : FormatFault) (beside : List Member) (name : List ℕ) (line : ℕ) (last : Member) → beside ≡ kind_members at.kind
    → name ≡ kind_name at.kind → line ≡ at.line → last ≡ refused (codes "format")
    → object (beside ++ ((codes "kind", in_quotes name) ∷ (codes "line", decimal line) ∷ last ∷ [])) ≡ object (format_members at)
told at beside name line last members named numbered is = rw (members, named, numbered, is) refl

pub returns-in-Some-clause-adds : goal.returns-in-Some-clause-adds
returns-in-Some-clause-adds c =
    subst (λ text. Adds c.args.out.now c.append_object.new.out text c.append_object.result)
    (told c.args.fault (shown c.in-Some.beside ∷ []) c.name.result.now c.from.result (shown c.refused-refusal.result)
    (rw c.in-Some.is at c.kind_member.ensures.member) c.name.ensures c.from.ensures c.refused-refusal.ensures) c.append_object.ensures

pub returns-in-None-clause-adds : goal.returns-in-None-clause-adds
returns-in-None-clause-adds c =
    subst (λ text. Adds c.args.out.now c.append_object-in-None.new.out text c.append_object-in-None.result)
    (told c.args.fault [] c.name.result.now c.from.result (shown c.refused-refusal.result)
    (rw c.in-None.is at c.kind_member.ensures.member) c.name.ensures c.from.ensures c.refused-refusal.ensures) c.append_object-in-None.ensures
