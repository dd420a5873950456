-- The topics whose documents need two labels, and how many labels they have.
use Rattle.std.proofs.Common.{◌≡◌, ◌+◌, ◌≤◌, Bool, true, false, cond, List, [], ◌∷◌, None, Some, ap, arith, filter, length, map, refl}
use Rattle.std.specs.Prelude.{◌==◌, if◌then◌else◌}
use Rattle.std.specs.List.{cons_option, filter_map, fold}
use Rattle.std.specs.Str.{bytes_eq}
use Rattle.std.proofs.lemmas.List.{length-map}
use Rattle.decimal_rank.specs.Names.{with_name}
use Rattle.decimal_rank.proofs.Lists.{length-filter_le}
use Rattle.rulebook.specs.Words.{Text}
use Rattle.rulebook.specs.Campaign.{History, level, need}
use Rattle.rulebook.specs.Judgements.Grades.{Label, given_labels, label_of, labelled_documents}
use Rattle.campaign_core.proofs.Lists.Elements.{length-filter_map}
use Rattle.campaign_core.proofs.Numbers.AddedDocs.{length-added}
use Rattle.leave_out.specs.Agreement.{agreed_on, agreement_of, pairs_on}
use Rattle.leave_out.specs.declared.assessors.Agreed.{Agreed}

abbrev row : History → Text → Agreed
row H topic = agreement_of (level H topic) topic (pairs_on H topic)

abbrev is_double : History → Text → Bool
is_double H topic = need H topic == 2

-- those that need two labels
pub agreed-topics : (H : History) (topics : List Text) → filter_map (agreed_on H) topics ≡ map (row H) (filter (is_double H) topics)
agreed-topics H [] = refl
agreed-topics H (topic ∷ topics) = step (is_double H topic) (agreed-topics H topics)
  where
    step : (t : Bool) → filter_map (agreed_on H) topics ≡ map (row H) (filter (is_double H) topics)
        → cons_option (if t then Some (row H topic) else None) (filter_map (agreed_on H) topics)
        ≡ map (row H) (cond t (topic ∷ filter (is_double H) topics) (filter (is_double H) topics))
    step true rest = ap (λ rows. row H topic ∷ rows) rest
    step false rest = rest

-- No more documents with a label than entries.

length-once : (names texts : List Text) → length (fold with_name names texts) ≤ length names + length texts
length-once names [] = omega arith
length-once names (text ∷ texts) = omega (arith, length-added names text, length-once (with_name names text) texts)

pub labelled-few : (H : History) (topic : Text) → length (labelled_documents H topic) ≤ length H
labelled-few H topic =
    let on : Label → Bool = λ label. bytes_eq label.topic topic in
    let doc : Label → Text = λ label. label.doc in
    let once = length-once [] (map doc (filter on (given_labels H))) in
    omega (arith, once, length-map (filter on (given_labels H)) doc, length-filter_le on (given_labels H), length-filter_map label_of H)
