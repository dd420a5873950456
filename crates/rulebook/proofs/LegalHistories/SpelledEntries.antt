-- Each entry of a legal list has a spelling, with room in a record.
use Rattle.std.proofs.Common.{◌≡◌, Bool, true, [], ap, length, refl, ◌∙◌, subst, sym}
use Rattle.std.specs.Prelude.{◌&&◌, codes, nat_le}
use Rattle.std.specs.List.{All}
use Rattle.std.proofs.lemmas.List.Elements.{All-cons, All-nil, All-push}
use Rattle.decimal_rank.proofs.TruthValues.{first_of_both, second_of_both}
use Rattle.trec_formats.specs.Names.{is_name}
use Rattle.rulebook.specs.Requests.Limits.{max_entry_bytes}
use Rattle.rulebook.specs.declared.rules.Rules.{Rules}
use Rattle.rulebook.specs.declared.entry.Entry.{Entry}
use Rattle.rulebook.specs.Histories.Additions.{IsSpelled}
use Rattle.rulebook.specs.Campaign.{History, may_give}
use Rattle.rulebook.specs.Histories.Legal.{IsAccepted, IsLegal, founding}
use Rattle.rulebook.specs.Spelling.{are_rules, entry_bytes, has_spelling}
use Rattle.rulebook.proofs.LegalHistories.AddedEntries.{given_of}
use Rattle.rulebook.proofs.LegalHistories.JournalSizes.{founding_fits}
use Rattle.rulebook.proofs.LegalHistories.LegalWalk.{legal_induction}

accepted_spelled : (H : History) (e : Entry) → IsAccepted H e → IsSpelled e
accepted_spelled H e accepted =
    let core = e.core in
    let given = given_of core.caller core.number core.command core.moment accepted.addressed in
    let may = may_give core.caller.role core.command in
    record {
      spelled = second_of_both may (has_spelling core)
          (first_of_both (may && has_spelling core) (nat_le (length (entry_bytes core)) max_entry_bytes) accepted.addressed);
      fits = given.short;
    }

named : is_name (codes "campaign") ≡ true
unfolding is_name
named = refl

founding_spelled : (rules : Rules) → are_rules rules ≡ true → IsSpelled (founding rules)
founding_spelled rules are = record {
  spelled = ap (λ (t : Bool). t && true && true && are_rules rules) named ∙ are;
  fits = founding_fits rules are;
}

pub entries_spelled : (H : History) → IsLegal H → All IsSpelled H
entries_spelled =
    legal_induction (All IsSpelled)
    (λ before e legal spelled accepted. All-push IsSpelled before e spelled (accepted_spelled before e accepted))
    (λ first founds. All-cons IsSpelled first [] (subst IsSpelled (sym founds.2) (founding_spelled founds.0 founds.1)) (All-nil IsSpelled))
