-- The first entry of a campaign, by its record.
use Rattle.std.proofs.Common.{◌≡◌, ◌≢◌, inl, inr, ◌+◌, ◌<◌, ◌≤◌, true, false, List, [], ◌∷◌, ◌++◌, length, refl, sym, ap, subst, ◌∙◌, arith, length-append}
use Rattle.std.specs.Prelude.{◌&&◌, Err, IfErr, IfOk, Ok, Result}
use Rattle.std.specs.List.{list_all}
use Rattle.decimal_rank.proofs.TruthValues.{first_of_both, second_of_both}
use Rattle.campaign_core.specs.StateViews.{StateView}
use Rattle.trec_formats.specs.Names.{is_between, is_name}
use Rattle.record_codec.specs.Bundles.{are_rising, have_bundle, is_brief, is_packable}
use Rattle.record_codec.specs.Payloads.{IsPayload}
use Rattle.rulebook.specs.declared.rules.Rules.{Rules}
use Rattle.rulebook.specs.declared.ask.Command.TheVariants as command
use Rattle.rulebook.specs.declared.entry.Entry.{Entry}
use Rattle.rulebook.specs.declared.entry.EntryCore.{EntryCore}
use Rattle.rulebook.specs.Campaign.{History, rules_of}
use Rattle.rulebook.specs.Histories.Legal.{IsLegal, founding}
use Rattle.rulebook.specs.Spelling.{are_rules, entry_bytes, has_spelling}
use Rattle.rulebook.specs.Words.{Text}
use Rattle.book.specs.declared.faults.BookFault.{BookFault}
use Rattle.book.specs.declared.faults.BookFault.TheVariants as fault
use Rattle.book.specs.Laws.{Laws}
use Rattle.book.specs.Opening.Openings.{DiffersFrom, OpensWith}
use Rattle.book.specs.Opening.Replays.{BreaksOff, GoesOnWithRecords, IsFoundingRecord, NeverBegins, Restores, Stops}
use Rattle.book.specs.Stories.{BreaksAt, HasHistory, IsOnlyStory, IsStory, Unfolds, cores_of}
use Rattle.book.proofs.Payloads.UnfoldedPayloads.{breaks_first, broken as broken_at, only_story}

pub rules_spelled : (rules : Rules) → are_rules rules ≡ true → has_spelling (founding rules).core ≡ true
unfolding is_name
rules_spelled rules is = is

spelled_rules : (rules : Rules) → has_spelling (founding rules).core ≡ true → are_rules rules ≡ true
unfolding is_name
spelled_rules rules is = is

same_rules : (a b : Rules) → (founding a).core ≡ (founding b).core → a ≡ b
same_rules a b is =
    let commands : command.Found a ≡ command.Found b = ap (λ (c : EntryCore). c.command) is in
    cc commands

-- the record of a founding entry is its spelling
founding_payload : (rules : Rules) → are_rules rules ≡ true → IsPayload (entry_bytes (founding rules).core) ((founding rules).core ∷ [])
founding_payload rules plain = inr ((founding rules).core, (rules_spelled rules plain, refl), refl)

founding_legal : (rules : Rules) → are_rules rules ≡ true → IsLegal (founding rules ∷ [])
founding_legal rules plain = ((rules, plain, refl), tt)

-- which has it as its story
pub founding_story : (rules : Rules) (H : History) (bytes : Text) → are_rules rules ≡ true → H ≡ founding rules ∷ []
    → bytes ≡ entry_bytes (founding rules).core → IsStory (bytes ∷ []) H
founding_story rules H bytes plain is spells =
    let story : IsStory (entry_bytes (founding rules).core ∷ []) (founding rules ∷ [])
    = ((founding rules).core ∷ [], ((founding rules).core ∷ [], [], founding_payload rules plain, refl, refl), (founding_legal rules plain, refl)) in
    subst (λ (bytes : Text). IsStory (bytes ∷ []) H) (sym spells) (subst (λ (H : History). IsStory (entry_bytes (founding rules).core ∷ []) H) (sym is) story)

-- no bundle has a founding entry
first_packable : (core : EntryCore) (rest : List EntryCore) → have_bundle (core ∷ rest) ≡ true → is_brief core.command ≡ true
first_packable core rest is =
    let all = second_of_both (is_between 1 4096 (length (core ∷ rest))) (list_all is_packable (core ∷ rest))
    (first_of_both (is_between 1 4096 (length (core ∷ rest)) && list_all is_packable (core ∷ rest)) (are_rising 0 (core ∷ rest)) is) in
    second_of_both (has_spelling core) (is_brief core.command) (first_of_both (is_packable core) (list_all is_packable rest) all)

not_bundled : (rules : Rules) (core : EntryCore) → is_brief core.command ≡ true → core ≡ (founding rules).core → ⊥
not_bundled rules core brief is =
    let wrong : false ≡ true = ap (λ (c : EntryCore). is_brief c.command) (sym is) ∙ brief in
    cc wrong

-- the payload of a founding entry is its spelling
spelled_alone : (bytes : Text) (rules : Rules) → IsPayload bytes ((founding rules).core ∷ [])
    → (has_spelling (founding rules).core ≡ true) × (bytes ≡ entry_bytes (founding rules).core)
spelled_alone bytes rules (inl bundle) = absurd (not_bundled rules (founding rules).core (first_packable (founding rules).core [] bundle.0) refl)
spelled_alone bytes rules (inr (core, is, one)) =
    let same : core ≡ (founding rules).core = cc one in
    (subst (λ (c : EntryCore). has_spelling c ≡ true) same is.0, is.1 ∙ ap entry_bytes same)

pub begins : (first : Text) (core : EntryCore) (rules : Rules) (cores : List EntryCore) → IsPayload first cores → cores ≡ core ∷ []
    → core ≡ (founding rules).core → (are_rules rules ≡ true) × (first ≡ entry_bytes (founding rules).core)
begins first core rules cores spells one is =
    let here : IsPayload first ((founding rules).core ∷ []) = subst (IsPayload first) (one ∙ ap (λ (c : EntryCore). c ∷ []) is) spells in
    let alone = spelled_alone first rules here in
    (spelled_rules rules alone.0, alone.1)

pub one_alone : (cores rest : List EntryCore) (core : EntryCore) → cores ≡ rest ++ core ∷ [] → length cores ≤ 1 → cores ≡ core ∷ []
one_alone cores [] core is few = is
one_alone cores (first ∷ rest) core is few = absurd (omega (arith, few, ap length is, length-append (first ∷ rest) (core ∷ [])))

-- a core alone that has a history founds a campaign
founds : (core : EntryCore) → HasHistory (core ∷ []) → (rules : Rules) × (core ≡ (founding rules).core)
founds core ([], are) = absurd are.0
founds core (e ∷ later, are) =
    let (rules, plain, is) = are.0.0 in
    let head : e.core ≡ core = cc (are.1) in
    (rules, sym head ∙ ap (λ (e : Entry). e.core) is)

module _ (laws : Laws) (first : Text) where
  pub never_unread : ((cores : List EntryCore) → IsPayload first cores → ⊥) → NeverBegins first
  never_unread none others = breaks_first laws.one first others (inl (none, refl)) (λ core rest spells. absurd (none (core ∷ rest) spells))

  -- a payload spells some entry
  pub never_empty : (cores : List EntryCore) → IsPayload first cores → (0 < length cores → false ≡ true) → NeverBegins first
  never_empty [] (inl bundle) none others = let wrong : false ≡ true = bundle.0 in absurd (cc wrong)
  never_empty [] (inr (core, is, one)) none others = absurd (cc one)
  never_empty (core ∷ rest) spells none others =
      let wrong : false ≡ true = none (omega arith) in
      absurd (cc wrong)

  -- a bundle
  pub never_bundled : (cores : List EntryCore) → IsPayload first cores → 1 < length cores → NeverBegins first
  never_bundled [] spells several others = absurd (omega (arith, several))
  never_bundled (core ∷ rest) (inl bundle) several others =
      let brief = first_packable core rest bundle.0 in
      breaks_first laws.one first others (inr (core, rest, inl bundle)) none_of
    where
      none_of : (other : EntryCore) (more : List EntryCore) → IsPayload first (other ∷ more) → HasHistory (other ∷ []) → ⊥
      none_of other more spells has =
          let same : core ∷ rest ≡ other ∷ more = laws.one first (core ∷ rest) (other ∷ more) (inl bundle) spells in
          let head : core ≡ other = cc same in
          let (rules, is) = founds other has in
          not_bundled rules core (first_packable core rest bundle.0) (head ∙ is)
  never_bundled (core ∷ rest) (inr (single, is, one)) several others = absurd (omega (arith, several, ap length one))

  -- one entry, which founds nothing
  pub never_founded : (core : EntryCore) (cores : List EntryCore) → IsPayload first cores → cores ≡ core ∷ []
      → ((rules : Rules) → core ≡ (founding rules).core → ⊥) → NeverBegins first
  never_founded core cores spells one none others =
      breaks_first laws.one first others (inr (core, [], here)) none_of
    where
      here : IsPayload first (core ∷ [])
      here = subst (IsPayload first) one spells

      none_of : (other : EntryCore) (more : List EntryCore) → IsPayload first (other ∷ more) → HasHistory (other ∷ []) → ⊥
      none_of other more spelled has =
          let same : core ∷ [] ≡ other ∷ more = laws.one first (core ∷ []) (other ∷ more) here spelled in
          let head : core ≡ other = cc same in
          let (rules, is) = founds other has in
          none rules (head ∙ is)

  -- all records were entered behind the first
  module _ (others : List Text) (begun after : History) (begins : IsFoundingRecord first begun) (legal : IsLegal after) where
    first_is : IsPayload first (cores_of begun)
    first_is =
        let spells : IsPayload first ((founding begins.0).core ∷ []) =
        subst (λ (bytes : Text). IsPayload bytes ((founding begins.0).core ∷ [])) (sym begins.2) (founding_payload begins.0 begins.1) in
        subst (λ (H : History). IsPayload first (cores_of H)) (sym begins.3) spells

    pub replayed : GoesOnWithRecords begun others after → IsOnlyStory (first ∷ others) after
    replayed (cores, unfolds, is) =
        let all : Unfolds (first ∷ others) (cores_of after) = (cores_of begun, cores, first_is, unfolds, is) in
        only_story laws.one first others after legal all

    pub broken : BreaksOff begun others after → BreaksAt (first ∷ others) (length after + 1)
    broken w = broken_at laws.one first others begun after first_is legal w

  -- the rules of a story are those whose founding entry the first record spells
  record FirstOf (H : History) : Type 0 where
    rules : Rules
    plain : are_rules rules ≡ true
    later : History
    is : H ≡ founding rules ∷ later
    spells : first ≡ entry_bytes (founding rules).core

  first_of : (others : List Text) (H : History) → IsStory (first ∷ others) H → IsLegal H → FirstOf H
  first_of others [] story legal = absurd legal
  first_of others (x ∷ later) ([], unfolds, are) legal = cc are
  first_of others (x ∷ later) (core ∷ cores, ([], rest, spells, unfolds, all), are) legal = absurd (no_empty first spells)
    where
      no_empty : (payload : Text) → IsPayload payload [] → ⊥
      no_empty payload (inl bundle) = let wrong : false ≡ true = bundle.0 in cc wrong
      no_empty payload (inr (core, is, one)) = cc one
  first_of others (x ∷ later) (core ∷ cores, (these ∷ more, rest, spells, unfolds, all), are) legal =
      let (rules, plain, is) = legal.0 in
      let head : core ≡ these = cc all in
      let own : x.core ≡ core = cc (are.1) in
      let founder : these ≡ (founding rules).core = sym head ∙ sym own ∙ ap (λ (x : Entry). x.core) is in
      record {
        rules = rules;
        plain = plain;
        later = later;
        is = ap (λ (x : Entry). x ∷ later) is;
        spells = spells_of these more rules spells founder;
      }
    where
      spells_of : (core : EntryCore) (more : List EntryCore) (rules : Rules) → IsPayload first (core ∷ more)
          → core ≡ (founding rules).core → first ≡ entry_bytes (founding rules).core
      spells_of core more rules (inl bundle) founder = absurd (not_bundled rules core (first_packable core more bundle.0) founder)
      spells_of core more rules (inr (single, is, one)) founder =
          let same : core ≡ single = cc one in
          is.1 ∙ ap entry_bytes (sym same ∙ founder)

  founder_is : (others : List Text) (H : History) → IsStory (first ∷ others) H → IsLegal H → (rules : Rules)
      → are_rules rules ≡ true → first ≡ entry_bytes (founding rules).core → rules_of H ≡ rules
  founder_is others H story legal rules plain is =
      let w = first_of others H story legal in
      let here : IsPayload first ((founding w.rules).core ∷ []) =
      subst (λ (bytes : Text). IsPayload bytes ((founding w.rules).core ∷ [])) (sym w.spells) (founding_payload w.rules w.plain) in
      let there : IsPayload first ((founding rules).core ∷ []) =
      subst (λ (bytes : Text). IsPayload bytes ((founding rules).core ∷ [])) (sym is) (founding_payload rules plain) in
      let both : (founding w.rules).core ∷ [] ≡ (founding rules).core ∷ [] =
      laws.one first ((founding w.rules).core ∷ []) ((founding rules).core ∷ []) here there in
      let same : (founding w.rules).core ≡ (founding rules).core = cc both in
      ap rules_of w.is ∙ same_rules w.rules rules same

  founder_spells : (others : List Text) (H : History) → IsStory (first ∷ others) H → IsLegal H → (rules : Rules)
      → rules_of H ≡ rules → first ≡ entry_bytes (founding rules).core
  founder_spells others H story legal rules is =
      let w = first_of others H story legal in
      let same : w.rules ≡ rules = ap rules_of (sym w.is) ∙ is in
      w.spells ∙ ap (λ (r : Rules). entry_bytes (founding r).core) same

  pub opens_with : (others : List Text) (H : History) (rules : Rules) → IsOnlyStory (first ∷ others) H → IsLegal H
      → are_rules rules ≡ true → first ≡ entry_bytes (founding rules).core → OpensWith rules (first ∷ others) H
  opens_with others H rules only legal plain is = (only, founder_is others H only.0 legal rules plain is)

  pub differs_from : (others : List Text) (H : History) (rules : Rules) → IsOnlyStory (first ∷ others) H → IsLegal H
      → first ≢ entry_bytes (founding rules).core → DiffersFrom rules (first ∷ others)
  differs_from others H rules only legal other = ((λ is. cc), (H, only, λ is. other (founder_spells others H only.0 legal rules is)))

-- a replay that ends well, or finds no memory at its end
pub finishes : (rules : Rules) (payloads : List Text) (H : History) (made : Result StateView BookFault)
    → IfOk made (λ state. state.history ≡ H) → IfErr made (λ why. why ≡ fault.Memory)
    → OpensWith rules payloads H → Restores rules payloads made
finishes rules payloads H (Ok state) is none opens = subst (OpensWith rules payloads) (sym is) opens
finishes rules payloads H (Err why) none is opens = subst (Stops rules payloads) (sym is) tt
