-- The other records as a campaign's entries, or why they aren't.
use Rattle.std.proofs.Common.{◌≡◌, ◌∷◌, ◌+◌, ℕ, Bool, List, sym, subst, ◌∙◌, true, false}
use Rattle.std.specs.Prelude.{IfOk, Ok, Result}
use Rattle.std.proofs.lemmas.Slice.Eq.{bytes_eq-Decides}
use Rattle.decimal_rank.specs.declared.storage.Memory.{Memory}
use Rattle.rulebook.specs.Campaign.{History}
use Rattle.rulebook.specs.Histories.Legal.{founding}
use Rattle.rulebook.specs.Spelling.{entry_bytes}
use Rattle.rulebook.specs.Words.{Text}
use Rattle.book.specs.Opening.Replays.{EntersAll, IsFoundingRecord}
use Rattle.book.specs.Stories.{BreaksAt, IsOnlyStory}
use Rattle.book.proofs.Founders.{broken, differs_from, opens_with, replayed}
use Rattle.book.proofs.replays.ended.Goals.{In-Ok-true}
use Rattle.book.proofs.replays.ended.Goals as goal

-- what was entered, where nothing failed
known : (result : Result Bool Memory) (all told : Bool) (begun after : History) (others : List Text) → result ≡ Ok all → all ≡ told
    → IfOk result (λ all. EntersAll begun others all after) → EntersAll begun others told after
known result all told begun after others is test enters =
    subst (λ (all : Bool). EntersAll begun others all after) test
    (subst (λ (r : Result Bool Memory). IfOk r (λ all. EntersAll begun others all after)) is enters)

-- the entries are the only story of all records
only : (c : In-Ok-true) (first : Text) (others : List Text) (begun : History) → IsFoundingRecord first begun
    → IfOk c.args.entered (λ all. EntersAll begun others all c.args.replay) → IsOnlyStory (first ∷ others) c.args.replay
only c first others begun begins enters = replayed c.requires.laws first others begun c.args.replay begins c.entries-entries.ensures.legal
    (known c.args.entered c.in-Ok-true.field-0 true begun c.args.replay others c.in-Ok-true.is c.in-Ok-true.field-0-test enters)

pub returns-then-is_wanted : goal.returns-then-is_wanted
returns-then-is_wanted c rules first others begun plain has enters =
    opens_with c.requires.laws first others c.args.replay rules
    (only (goal.at.returns-then-is_wanted c).In-Ok-true first others begun has.0 enters) c.entries-entries.ensures.legal plain
    ((bytes_eq-Decides first (entry_bytes (founding rules).core)).0 (sym has.1 ∙ c.if-is_wanted.true))

pub returns-in-Ok-true : goal.returns-in-Ok-true
returns-in-Ok-true c rules first others begun plain has enters =
    differs_from c.requires.laws first others c.args.replay rules
    (only (goal.at.returns-in-Ok-true c).In-Ok-true first others begun has.0 enters) c.entries-entries.ensures.legal
    (λ is. let same : true ≡ false = sym ((bytes_eq-Decides first (entry_bytes (founding rules).core)).1 is) ∙ sym has.1 ∙ c.if-is_wanted.false in cc)

pub returns-in-Ok-false : goal.returns-in-Ok-false
returns-in-Ok-false c rules first others begun plain has enters =
    subst (λ (n : ℕ). BreaksAt (first ∷ others) (n + 1)) (sym c.entries-entries.ensures.entries)
    (broken c.requires.laws first others begun c.args.replay has.0 c.entries-entries.ensures.legal
    (known c.args.entered c.in-Ok-false.field-0 false begun c.args.replay others c.in-Ok-false.is c.in-Ok-false.field-0-test enters))
