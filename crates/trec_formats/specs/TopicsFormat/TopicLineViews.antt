-- What a line does, as the reader of topics tells it.
use Rattle.trec_formats.specs.declared.topics.topic_lines.LineKind.{LineKind as Told}
use Rattle.trec_formats.specs.declared.topics.topic_lines.LineKind.TheVariants as told
use Rattle.trec_formats.specs.TopicsFormat.TopicLines.{LineKind, Opens, Closes, Numbers, Begins, Skips, Says}

abbrev pub kind_seen : Told → LineKind
kind_seen told.Opens = Opens
kind_seen told.Closes = Closes
kind_seen (told.Numbers text) = Numbers text.now
kind_seen (told.Begins part text) = Begins part text.now
kind_seen told.Skips = Skips
kind_seen (told.Says text) = Says text.now
