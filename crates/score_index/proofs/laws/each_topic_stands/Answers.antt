use Rattle.std.proofs.Common.{[]}
use Rattle.score_index.specs.Scores.{no_topic}
use Rattle.score_index.specs.BoardGrades.{StandsAt}
use Rattle.score_index.proofs.KeptTopics.ListFacts.{zip_at}
use Rattle.score_index.proofs.laws.each_topic_stands.Goals as goal

pub returns : goal.returns
returns c = λ scores grades topic within stands. zip_at StandsAt scores.topics grades topic no_topic [] stands within
