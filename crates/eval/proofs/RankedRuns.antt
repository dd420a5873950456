-- The ranked lists of a run's lines.
use Rattle.std.proofs.Common.{◌≤◌, ℕ, List, get_or, arith}
use Rattle.std.specs.Prelude.{bytes_eq}
use Rattle.std.proofs.lemmas.List.Sums.{length-filter}
use Rattle.trec_formats.specs.declared.runs.lists.TopicList.{TopicList}
use Rattle.trec_formats.specs.declared.runs.RunLine.{RunLine}
use Rattle.trec_formats.specs.RunFormat.Lists.{AreLists}
use Rattle.trec_formats.specs.RunFormat.Runs.{line_count_on}
use Rattle.eval.specs.Tables.{AreRankedLists}

pub ranked_lists : (lines : List RunLine) (lists : List TopicList) → ((topic : List ℕ) → line_count_on topic lines ≤ 1000)
    → AreLists lines lists → AreRankedLists lists
ranked_lists lines lists few w = record {
  ascending = w.ascending;
  short = λ k list within. omega
      (arith, (w.each k list within).docs.size, length-filter (λ line. bytes_eq line.topic (get_or lists k list).topic) lines, few (get_or lists k list).topic);
  once = λ k list within. (w.each k list within).docs.once;
}
