use Rattle.std.proofs.Common.{refl, sym}
use Rattle.trec_formats.specs.TopicsFormat.TopicLines.{field_mark, other_kind}
use Rattle.trec_formats.proofs.topics.topic_lines.field_mark.Goals as goal

pub returns-in-Some : goal.returns-in-Some
unfolding field_mark
returns-in-Some c = rw (c.unlabelled.ensures, c.in-Some.ensures.1, c.in-Some.ensures.0) refl

pub returns-in-Some-behind : goal.returns-in-Some-behind
unfolding field_mark
returns-in-Some-behind c = rw (c.in-Some-behind.ensures.1, c.in_default.ensures, c.in-Some-behind.ensures.0) refl

pub returns-in-Some-behind-2 : goal.returns-in-Some-behind-2
unfolding field_mark
returns-in-Some-behind-2 c =
    rw (c.unlabelled-in-Some-behind-2.ensures, c.in-Some-behind-2.ensures.1, c.in_default.ensures, c.in_default-behind.ensures, c.in-Some-behind-2.ensures.0)
    refl

pub returns-in-Some-behind-3 : goal.returns-in-Some-behind-3
unfolding field_mark
returns-in-Some-behind-3 c =
    rw (
      c.unlabelled-in-Some-behind-3.ensures,
      c.in-Some-behind-3.ensures.1,
      c.in_default.ensures,
      c.in_default-behind.ensures,
      c.in_default-behind-2.ensures,
      c.in-Some-behind-3.ensures.0,
    ) refl

pub returns-then-is_tag : goal.returns-then-is_tag
unfolding field_mark other_kind
returns-then-is_tag c =
    rw (c.in_default.ensures, c.in_default-behind.ensures, c.in_default-behind-2.ensures, c.in_default-behind-3.ensures, sym c.if-is_tag.ensures) refl

pub returns : goal.returns
unfolding field_mark other_kind
returns c = rw (c.in_default.ensures, c.in_default-behind.ensures, c.in_default-behind-2.ensures, c.in_default-behind-3.ensures, sym c.if-is_tag.ensures) refl
