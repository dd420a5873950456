use Rattle.std.proofs.Common.{◌≡◌, ◌≤◌, ◌&&◌, ◌∙◌, ℕ, zero, suc, Bool, true, List, [], ◌∷◌, ap, arith, codes, cond, length, map, refl, rules}
use Rattle.std.specs.Prelude.{◌==◌, nat_le}
use Rattle.std.specs.List.{list_all}
use Rattle.std.proofs.lemmas.Bool.{and_from}
use Rattle.trec_formats.specs.Names.{is_name}
use Rattle.rulebook.specs.Requests.Limits.{max_topics}
use Rattle.rulebook.specs.Spelling.{are_levels, are_settings, is_ascending, is_topic_level}
use Rattle.rulebook.specs.declared.rules.Rules.{Rules}
use Rattle.rulebook.specs.declared.rules.TopicLevel.{TopicLevel}
use Rattle.campaign_cases.proofs.campaigns.founded_by.Goals as goal

abbrev allowed : List TopicLevel → Bool
allowed levels = nat_le (length levels) max_topics && list_all (is_topic_level 3) levels && is_ascending (map (λ own. own.topic) levels)

abbrev of_topic_one : ℕ → List TopicLevel
of_topic_one level = cond (level == 0) [] (record { topic = codes "1"; level = level } ∷ [])

each-allowed : (level : ℕ) → level ≤ 3 → allowed (of_topic_one level) ≡ true
unfolding is_name
each-allowed zero fits = refl
each-allowed (suc zero) fits = refl
each-allowed (suc (suc zero)) fits = refl
each-allowed (suc (suc (suc zero))) fits = refl
each-allowed (suc (suc (suc (suc level)))) fits = absurd (omega (arith, fits))

pub found-requires : goal.found-requires
unfolding is_name
found-requires c =
    let r : Rules =
    record {
      depth = c.args.depth;
      term = 600;
      hold = c.args.hold;
      level = 1;
      top_grade = 3;
      doubles = c.if-is_doubled.doubles;
      levels = c.in_ok-levels.levels;
    } in
    let settings : are_settings r ≡ true = search rules in
    and_from (are_settings r) (are_levels r) settings (ap allowed c.in_ok-levels.ensures ∙ each-allowed c.args.level c.requires.level)
