use Rattle.std.proofs.Common.{◌≡◌, ◌∙◌, Some, None, ap, sym, subst, arith, length, slice_set, rules}
use Rattle.std.specs.List.{position}
use Rattle.std.specs.Str.{bytes_eq}
use Rattle.std.proofs.lemmas.List.Quantifiers.{position-Some}
use Rattle.labels.specs.declared.given.Given.{Given}
use Rattle.labels.specs.DocumentLabels.{IsOncePerAssessor, Labelled, with_label}
use Rattle.labels.proofs.SetLabels.{none_passes, once_after_set, set_again, set_new}
use Rattle.labels.proofs.document.Labels.set.Goals as goal

again : (c : goal.After-drop-assessor)
    → slice_set c.self.inside.given.items c.in-Some.place (record { assessor = c.index_mut.result.now.assessor; grade = c.args.grade })
    ≡ with_label c.args.assessor c.args.grade c.self.inside.given.items
again c =
    let labels = c.self.inside.given.items in
    let found : position (λ (label : Given). bytes_eq label.assessor c.args.assessor) labels ≡ Some c.in-Some.place = search rules in
    let was = c.index_mut.result.now in
    let first = position-Some (λ (label : Given). bytes_eq label.assessor c.args.assessor) labels c.in-Some.place was found in
    set_again c.args.assessor c.args.grade labels c.in-Some.place was first.0 c.index_mut.ensures.value
    (ap (λ (label : Given). bytes_eq label.assessor c.args.assessor) c.index_mut.ensures.value ∙ first.1) first.2

added : (c : goal.After-push_reserved) → c.push_reserved.new.self.items ≡ with_label c.args.assessor c.args.grade c.self.inside.given.items
added c =
    let labels = c.self.inside.given.items in
    let none : position (λ (label : Given). bytes_eq label.assessor c.args.assessor) labels ≡ None = search rules in
    c.push_reserved.ensures.items ∙ set_new c.args.assessor c.args.grade labels (none_passes _ labels none)

pub invariant_of-self : goal.invariant_of-self
invariant_of-self c =
    (c.self.invariant.0, subst IsOncePerAssessor (sym (again c)) (once_after_set c.args.assessor c.args.grade c.self.inside.given.items c.self.invariant.1))

pub invariant_of-self-in-None : goal.invariant_of-self-in-None
invariant_of-self-in-None c =
    let was : length c.self.inside.given.items ≡ length c.args.self.now.given = ap (λ (view : Labelled). length view.given) c.self.view_is in (
      omega (arith, c.requires.few, c.push_reserved.ensures.len),
      subst IsOncePerAssessor (sym (added c)) (once_after_set c.args.assessor c.args.grade c.self.inside.given.items c.self.invariant.1),
    )

pub returns-in-Some-clause-given : goal.returns-in-Some-clause-given
returns-in-Some-clause-given c = again c ∙ ap (λ (view : Labelled). with_label c.args.assessor c.args.grade view.given) c.self.view_is

pub returns-in-None-clause-given : goal.returns-in-None-clause-given
returns-in-None-clause-given c = added c ∙ ap (λ (view : Labelled). with_label c.args.assessor c.args.grade view.given) c.self.view_is
