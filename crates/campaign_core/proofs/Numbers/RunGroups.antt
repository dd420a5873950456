-- The groups of the submitted runs, by the entries that submit them.
use Rattle.std.proofs.Common.{◌≡◌, ◌<◌, ℕ, cond, List, [], ◌∷◌, Option, None, Some, is_some, get_or, length, map, refl, ap, ◌∙◌, arith}
use Rattle.std.specs.Prelude.{slice_get, unwrap_or}
use Rattle.std.specs.List.{cons_option}
use Rattle.std.specs.Option.{option_map}
use Rattle.std.proofs.lemmas.List.{length-map}
use Rattle.std.proofs.lemmas.Option.{slice_get-get_or}
use Rattle.rulebook.specs.declared.entry.Entry.{Entry}
use Rattle.rulebook.specs.Campaign.{History, Run, run_in}
use Rattle.rulebook.specs.Words.{Text}
use Rattle.campaign_core.specs.Views.Groups.{group_of, groups_of}
use Rattle.campaign_core.specs.Numbering.Submissions.{submissions}
use Rattle.campaign_core.proofs.Lists.Elements.{get-map}

abbrev submitter : Entry → Text
submitter e = e.core.caller.name

groups-are : (H : History) → groups_of H ≡ map submitter (submissions H)
groups-are [] = refl
groups-are (e ∷ H) = step (run_in e.core.command) (groups-are H)
  where
    step : (o : Option Run) → groups_of H ≡ map submitter (submissions H)
        → cons_option (option_map (λ run. submitter e) o) (groups_of H) ≡ map submitter (cond (is_some o) (e ∷ submissions H) (submissions H))
    step None rest = rest
    step (Some run) rest = ap (λ names. submitter e ∷ names) rest

pub group-at : (H : History) (number : ℕ) (e : Entry) → number < length (submissions H) → group_of H number ≡ (get_or (submissions H) number e).core.caller.name
group-at H number e within =
    let among : number < length (map submitter (submissions H)) = omega (arith, within, length-map (submissions H) submitter) in
    ap (λ (names : List Text). unwrap_or (slice_get names number) []) (groups-are H)
    ∙ ap (λ (found : Option Text). unwrap_or found []) (slice_get-get_or (map submitter (submissions H)) number (submitter e) among)
    ∙ get-map submitter (submissions H) number e
