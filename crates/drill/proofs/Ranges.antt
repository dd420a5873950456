-- The numbers of a drill are within their ranges.
use Rattle.std.proofs.Common.{◌≡◌, ◌≤◌, ◌*◌, ◌&&◌, true, leb-true, IsTrue, nat_le}
use Rattle.std.proofs.lemmas.Bool.{and_parts}
use Rattle.drill.specs.Figures.{are_numbers, most_docs, most_lines, most_runs, most_seed, most_topics}
use Rattle.drill.specs.declared.numbers.DrillNumbers.{DrillNumbers}

module _ (numbers : DrillNumbers) (are : IsTrue (are_numbers numbers)) where
  -- all tests but the last, and all but the last two
  counts : (nat_le numbers.seed most_seed && (nat_le 1 numbers.runs && nat_le numbers.runs most_runs)
      && (nat_le 1 numbers.topics && nat_le numbers.topics most_topics) && (nat_le 1 numbers.docs && nat_le numbers.docs most_docs)) ≡ true
  counts = (and_parts
      (nat_le numbers.seed most_seed && (nat_le 1 numbers.runs && nat_le numbers.runs most_runs)
      && (nat_le 1 numbers.topics && nat_le numbers.topics most_topics) && (nat_le 1 numbers.docs && nat_le numbers.docs most_docs))
      (nat_le (numbers.runs * numbers.topics * numbers.docs) most_lines) are).0

  pub few-docs : numbers.docs ≤ most_docs
  few-docs =
      let front = nat_le numbers.seed most_seed && (nat_le 1 numbers.runs && nat_le numbers.runs most_runs)
      && (nat_le 1 numbers.topics && nat_le numbers.topics most_topics) in
      let docs = (and_parts front (nat_le 1 numbers.docs && nat_le numbers.docs most_docs) counts).1 in
      leb-true numbers.docs most_docs (and_parts (nat_le 1 numbers.docs) (nat_le numbers.docs most_docs) docs).1

  pub few-topics : numbers.topics ≤ most_topics
  few-topics =
      let front = nat_le numbers.seed most_seed && (nat_le 1 numbers.runs && nat_le numbers.runs most_runs) in
      let topics = (and_parts front (nat_le 1 numbers.topics && nat_le numbers.topics most_topics)
      (and_parts (front && (nat_le 1 numbers.topics && nat_le numbers.topics most_topics))
      (nat_le 1 numbers.docs && nat_le numbers.docs most_docs) counts).0).1 in
      leb-true numbers.topics most_topics (and_parts (nat_le 1 numbers.topics) (nat_le numbers.topics most_topics) topics).1

  pub few-runs : numbers.runs ≤ most_runs
  few-runs =
      let seed = nat_le numbers.seed most_seed in
      let runs = nat_le 1 numbers.runs && nat_le numbers.runs most_runs in
      let topics = nat_le 1 numbers.topics && nat_le numbers.topics most_topics in
      let docs = nat_le 1 numbers.docs && nat_le numbers.docs most_docs in
      let parts = (and_parts seed runs (and_parts (seed && runs) topics (and_parts (seed && runs && topics) docs counts).0).0).1 in
      leb-true numbers.runs most_runs (and_parts (nat_le 1 numbers.runs) (nat_le numbers.runs most_runs) parts).1
