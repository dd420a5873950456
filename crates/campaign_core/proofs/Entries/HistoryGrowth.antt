-- What one more entry adds to the runs, their lines and their docnos.
use Rattle.std.proofs.Common.{◌≡◌, ◌+◌, ◌≤◌, [], ◌∷◌, ◌++◌, Option, None, Some, refl, ap, ◌∙◌, arith}
use Rattle.std.specs.List.{filter_map, flat_map, sum_by}
use Rattle.std.specs.Option.{option_map_or}
use Rattle.std.proofs.lemmas.List.Elements.{filter_map-append}
use Rattle.std.proofs.lemmas.List.{append-nil}
use Rattle.std.proofs.lemmas.List.Sums.{sum_by-append}
use Rattle.std.proofs.lemmas.Grind.{flat_map-append}
use Rattle.rulebook.specs.declared.limits.TheConstants.{MAX_LINES}
use Rattle.rulebook.specs.declared.entry.Entry.{Entry}
use Rattle.rulebook.specs.declared.entry.EntryCore.{EntryCore}
use Rattle.rulebook.specs.Campaign.{History, Run, runs, run_in, line_count, docnos, submitted_lines, submitted_docnos}
use Rattle.campaign_core.specs.Growth.{lists_in}

pub runs-push : (H : History) (e : Entry) → runs (H ++ e ∷ []) ≡ runs H ++ runs (e ∷ [])
runs-push H e = filter_map-append (λ e. run_in e.core.command) H (e ∷ [])

lines-of-one : (run : Option Run)
    → sum_by (λ run. line_count run.lists) (filter_map (λ run. run) (run ∷ [])) ≡ line_count (option_map_or (λ run. run.lists) run [])
lines-of-one None = refl
lines-of-one (Some run) = omega arith

docnos-of-one : (run : Option Run) → flat_map (λ run. docnos run.lists) (filter_map (λ run. run) (run ∷ [])) ≡ docnos (option_map_or (λ run. run.lists) run [])
docnos-of-one None = refl
docnos-of-one (Some run) = append-nil (docnos run.lists)

pub submitted_lines-push : (H : History) (e : Entry) → submitted_lines (H ++ e ∷ []) ≡ submitted_lines H + line_count (lists_in e.core.command)
submitted_lines-push H e =
    ap (sum_by (λ run. line_count run.lists)) (runs-push H e)
    ∙ sum_by-append (λ run. line_count run.lists) (runs H) (runs (e ∷ []))
    ∙ ap (λ n. submitted_lines H + n) (lines-of-one (run_in e.core.command))

pub submitted_docnos-push : (H : History) (e : Entry) → submitted_docnos (H ++ e ∷ []) ≡ submitted_docnos H ++ docnos (lists_in e.core.command)
submitted_docnos-push H e =
    ap (flat_map (λ run. docnos run.lists)) (runs-push H e)
    ∙ flat_map-append (λ run. docnos run.lists) (runs H) (runs (e ∷ []))
    ∙ ap (λ texts. submitted_docnos H ++ texts) (docnos-of-one (run_in e.core.command))

-- The same, for an entry of a given core.

pub submitted_lines-core : (H : History) (e : Entry) (core : EntryCore) → e.core ≡ core
    → submitted_lines H + line_count (lists_in core.command) ≤ MAX_LINES → submitted_lines (H ++ e ∷ []) ≤ MAX_LINES
submitted_lines-core H e core is fit = rw (submitted_lines-push H e, is) fit

pub submitted_docnos-core : (H : History) (e : Entry) (core : EntryCore) → e.core ≡ core
    → submitted_docnos (H ++ e ∷ []) ≡ submitted_docnos H ++ docnos (lists_in core.command)
submitted_docnos-core H e core is = rw (submitted_docnos-push H e, is) refl
