-- The rules, runs, topics and phase of a history with one more entry.
use Rattle.std.proofs.Common.{◌≡◌, ◌||◌, Bool, true, false, List, ◌++◌, ◌∷◌, [], None, Some, refl, sym, ap, ◌∙◌}
use Rattle.std.specs.Prelude.{if◌then◌else◌, slice_get, unwrap_or}
use Rattle.std.specs.List.{filter_map, list_any}
use Rattle.std.specs.Option.{is_some}
use Rattle.std.proofs.lemmas.List.{append-nil}
use Rattle.std.proofs.lemmas.List.Elements.{filter_map-append}
use Rattle.std.proofs.lemmas.List.Folds.{list_any-append}
use Rattle.std.proofs.Math.Bool.{or-false, or-true}
use Rattle.decimal_rank.proofs.TruthValues.{first_of_neither}
use Rattle.trec_formats.specs.declared.Topic.{Topic}
use Rattle.rulebook.specs.declared.entry.Entry.{Entry}
use Rattle.rulebook.specs.declared.rules.Phase.{Phase}
use Rattle.rulebook.specs.declared.rules.Phase.TheVariants.{Collecting, Judging, Published}
use Rattle.rulebook.specs.Campaign.{History, Run, has_topics, opens, phase, publishes, rules_of, run_in, runs, topics, topics_in}
use Rattle.rulebook.specs.Histories.Legal.{IsLegal}
use Rattle.campaign_core.proofs.Entries.HistoryGrowth.{runs-push}
use Rattle.campaign_core.proofs.Rulings.AcceptedEntries.{no_topics}

-- The rules are those of the first entry.
pub rules-stay : (H : History) (e : Entry) → IsLegal H → rules_of (H ++ e ∷ []) ≡ rules_of H
rules-stay [] e legal = absurd legal
rules-stay (first ∷ H) e legal = refl

-- The runs that one more entry adds.

pub no-run : (H : History) (e : Entry) → run_in e.core.command ≡ None → runs (H ++ e ∷ []) ≡ runs H
no-run H e none = runs-push H e ∙ ap (λ rs. runs H ++ rs) (let one : runs (e ∷ []) ≡ [] = rw none refl in one) ∙ append-nil (runs H)

pub one-run : (H : History) (e : Entry) (run : Run) → run_in e.core.command ≡ Some run → runs (H ++ e ∷ []) ≡ runs H ++ run ∷ []
one-run H e run some = runs-push H e ∙ ap (λ rs. runs H ++ rs) (let one : runs (e ∷ []) ≡ run ∷ [] = rw some refl in one)

-- The topics that one more entry gives.

pub same-topics : (H : History) (e : Entry) → topics_in e.core.command ≡ None → topics (H ++ e ∷ []) ≡ topics H
same-topics H e none =
    let one : filter_map (λ (e : Entry). topics_in e.core.command) (e ∷ []) ≡ [] = rw none refl in
    ap (λ ts. unwrap_or (slice_get ts 0) [])
    (filter_map-append (λ (e : Entry). topics_in e.core.command) H (e ∷ [])
    ∙ ap (λ ts. filter_map (λ (e : Entry). topics_in e.core.command) H ++ ts) one ∙ append-nil _)

pub first-topics : (H : History) (e : Entry) (given : List Topic) → has_topics H ≡ false → topics_in e.core.command ≡ Some given → topics (H ++ e ∷ []) ≡ given
first-topics H e given none some =
    let one : filter_map (λ (e : Entry). topics_in e.core.command) (e ∷ []) ≡ given ∷ [] = rw some refl in
    ap (λ ts. unwrap_or (slice_get ts 0) [])
    (filter_map-append (λ (e : Entry). topics_in e.core.command) H (e ∷ [])
    ∙ ap (λ ts. ts ++ filter_map (λ (e : Entry). topics_in e.core.command) (e ∷ [])) (no_topics H none) ∙ one)

pub has-topics-push : (H : History) (e : Entry) → has_topics (H ++ e ∷ []) ≡ (has_topics H || (is_some (topics_in e.core.command) || false))
has-topics-push H e = list_any-append (λ (e : Entry). is_some (topics_in e.core.command)) H (e ∷ [])

pub had-none : (H : History) (e : Entry) → has_topics (H ++ e ∷ []) ≡ false → has_topics H ≡ false
had-none H e none = first_of_neither (has_topics H) _ (sym (has-topics-push H e) ∙ none)

-- The phase after one more entry.

abbrev phase_if : Bool → Bool → Phase
phase_if published opened = if published then Published else (if opened then Judging else Collecting)

phase-push : (H : History) (e : Entry)
    → phase (H ++ e ∷ []) ≡ phase_if (list_any (λ (e : Entry). publishes e.core.command) H || (publishes e.core.command || false))
    (list_any (λ (e : Entry). opens e.core.command) H || (opens e.core.command || false))
phase-push H e =
    rw (list_any-append (λ (e : Entry). publishes e.core.command) H (e ∷ []), list_any-append (λ (e : Entry). opens e.core.command) H (e ∷ [])) refl

pub phase-stays : (H : History) (e : Entry) → publishes e.core.command ≡ false → opens e.core.command ≡ false → phase (H ++ e ∷ []) ≡ phase H
phase-stays H e unpublished unopened =
    phase-push H e
    ∙ ap (λ t. phase_if (list_any (λ (e : Entry). publishes e.core.command) H || (t || false))
    (list_any (λ (e : Entry). opens e.core.command) H || (opens e.core.command || false))) unpublished
    ∙ ap (λ t. phase_if (list_any (λ (e : Entry). publishes e.core.command) H || (false || false))
    (list_any (λ (e : Entry). opens e.core.command) H || (t || false))) unopened
    ∙ ap (λ t. phase_if t (list_any (λ (e : Entry). opens e.core.command) H || (false || false))) (or-false _)
    ∙ ap (phase_if (list_any (λ (e : Entry). publishes e.core.command) H)) (or-false _)

unpublished-step : (p o : Bool) → phase_if p o ≡ Collecting → p ≡ false
unpublished-step true o is = cc is
unpublished-step false o is = refl

pub phase-opens : (H : History) (e : Entry) → phase H ≡ Collecting → publishes e.core.command ≡ false
    → opens e.core.command ≡ true → phase (H ++ e ∷ []) ≡ Judging
phase-opens H e was unpublished opened =
    phase-push H e
    ∙ ap (λ t. phase_if (list_any (λ (e : Entry). publishes e.core.command) H || (t || false))
    (list_any (λ (e : Entry). opens e.core.command) H || (opens e.core.command || false))) unpublished
    ∙ ap (λ t. phase_if (t || (false || false)) (list_any (λ (e : Entry). opens e.core.command) H || (opens e.core.command || false)))
    (unpublished-step _ (list_any (λ (e : Entry). opens e.core.command) H) was)
    ∙ ap (λ t. phase_if false (list_any (λ (e : Entry). opens e.core.command) H || (t || false))) opened
    ∙ ap (phase_if false) (or-true (list_any (λ (e : Entry). opens e.core.command) H))

pub phase-publishes : (H : History) (e : Entry) → publishes e.core.command ≡ true → phase (H ++ e ∷ []) ≡ Published
phase-publishes H e published =
    phase-push H e
    ∙ ap (λ t. phase_if (list_any (λ (e : Entry). publishes e.core.command) H || (t || false))
    (list_any (λ (e : Entry). opens e.core.command) H || (opens e.core.command || false))) published
    ∙ ap (λ t. phase_if t (list_any (λ (e : Entry). opens e.core.command) H || (opens e.core.command || false)))
    (or-true (list_any (λ (e : Entry). publishes e.core.command) H))
