use Rattle.std.proofs.Common.{refl, sym}
use Rattle.trec_formats.specs.TopicsFormat.TopicLines.{mark_of}
use Rattle.trec_formats.proofs.topics.topic_lines.mark_of.Goals as goal

pub returns-then-is_same : goal.returns-then-is_same
unfolding mark_of
returns-then-is_same c = rw (sym c.if-is_same.ensures) refl

pub returns-then-is_same-2 : goal.returns-then-is_same-2
unfolding mark_of
returns-then-is_same-2 c = rw (sym c.if-is_same.ensures, sym c.if-is_same-2.ensures) refl

pub returns : goal.returns
unfolding mark_of
returns c = rw (sym c.if-is_same.ensures, sym c.if-is_same-2.ensures, c.field_mark.ensures) refl
