-- A book on an empty disk has the founding entry alone, and only a call on the disk that failed and want of memory keep it from being opened.
use Rattle.std.proofs.Common.{◌≡◌, ℕ, List, [], ◌∷◌, None, Option, Some, subst, sym}
use Rattle.std.specs.Prelude.{IfSome}
use Rattle.disk_model.specs.Disks.{DiskState}
use Rattle.book.specs.Opening.OpeningLaws.{none_unbroken}
use Rattle.book.specs.Opening.Openings.{Causes, OpensWith, ReadsPayloads, Refused}
use Rattle.book.specs.Stories.{BreaksAt}
use Rattle.book.specs.declared.faults.BookFault.{BookFault}
use Rattle.book.specs.declared.faults.BookFault.TheVariants as fault
use Rattle.drill.specs.Foundings.{RefusesEmpty}
use Rattle.journal.specs.Format.{decode}
use Rattle.rulebook.specs.declared.rules.Rules.{Rules}
use Rattle.rulebook.specs.Campaign.{History}
use Rattle.rulebook.specs.Histories.Legal.{founding}
use Rattle.rulebook.specs.Words.{Text}

no_payloads : (content : Option (List ℕ)) (payloads : List Text) → content ≡ Some [] → ReadsPayloads content payloads → payloads ≡ []
no_payloads content payloads empty reads =
    let read : decode [] ≡ Some payloads = subst (λ (o : Option (List ℕ)). IfSome o (λ bytes. decode bytes ≡ Some payloads)) empty reads in
    let none : (let ps : List Text = [] in ps) ≡ payloads = cc read in
    sym none

pub founded : (content : Option (List ℕ)) (payloads : List Text) (rules : Rules) (H : History) → content ≡ Some []
    → ReadsPayloads content payloads → OpensWith rules payloads H → H ≡ founding rules ∷ []
founded content payloads rules H empty reads opens = subst (λ (ps : List Text). OpensWith rules ps H) (no_payloads content payloads empty reads) opens

module _ {D : Type 0} (seen : D → DiskState) (rules : Rules) (disk after : D) (empty : (seen disk).content ≡ Some []) where
  causes_empty : (why : BookFault) → Causes seen rules disk after why → RefusesEmpty why
  causes_empty fault.Disk causes = tt
  causes_empty fault.Memory causes = tt
  causes_empty fault.Header causes =
      let wrong : decode [] ≡ None = subst (λ (o : Option (List ℕ)). IfSome o (λ bytes. decode bytes ≡ None)) empty causes.0 in cc wrong
  causes_empty (fault.Damaged entry) (payloads, reads, breaks) =
      absurd (none_unbroken entry (subst (λ (p : List Text). BreaksAt p entry) (no_payloads (seen disk).content payloads empty reads) breaks))
  causes_empty fault.RulesDiffer (payloads, reads, differs) = absurd (differs.0 (no_payloads (seen disk).content payloads empty reads))

  pub refused_empty : (why : BookFault) → Refused seen rules disk after why → RefusesEmpty why
  refused_empty why refused = causes_empty why refused.causes
