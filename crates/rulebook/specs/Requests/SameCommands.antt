-- Two commands are the same where they tell the same: where one tells a fact, the other tells it with the same fields.
use Rattle.std.specs.Prelude.{Bool, ◌&&◌, ◌==◌}
use Rattle.std.specs.Bool.{beq}
use Rattle.std.specs.Option.{option_eq}
use Rattle.std.specs.Str.{bytes_eq}
use Rattle.std.specs.Cmp.Lexicographic.{pointwise}
use Rattle.trec_formats.specs.declared.Topic.{Topic}
use Rattle.trec_formats.specs.declared.TopicList.{TopicList}
use Rattle.rulebook.specs.declared.rules.Rules.{Rules}
use Rattle.rulebook.specs.declared.rules.TopicLevel.{TopicLevel}
use Rattle.rulebook.specs.declared.ask.Command.{Command}
use Rattle.rulebook.specs.Campaign.{CommandFacts, DocGrade, EndedLease, Run, tells}

abbrev pub same_topic : Topic → Topic → Bool
same_topic a b = bytes_eq a.id b.id && bytes_eq a.title b.title && bytes_eq a.desc b.desc && bytes_eq a.narr b.narr

abbrev pub same_list : TopicList → TopicList → Bool
same_list a b = bytes_eq a.topic b.topic && a.line == b.line && pointwise bytes_eq a.docs b.docs

abbrev pub same_level : TopicLevel → TopicLevel → Bool
same_level a b = bytes_eq a.topic b.topic && a.level == b.level

abbrev pub same_rules : Rules → Rules → Bool
same_rules a b =
    a.depth == b.depth && a.term == b.term && a.hold == b.hold && a.level == b.level && a.top_grade == b.top_grade
    && pointwise bytes_eq a.doubles b.doubles && pointwise same_level a.levels b.levels

abbrev pub same_run : Run → Run → Bool
same_run a b = bytes_eq a.name b.name && pointwise same_list a.lists b.lists

abbrev pub same_lease_end : EndedLease → EndedLease → Bool
same_lease_end a b = a.number == b.number && option_eq ◌==◌ a.grade b.grade

abbrev pub same_doc_grade : DocGrade → DocGrade → Bool
same_doc_grade a b = bytes_eq a.topic b.topic && bytes_eq a.doc b.doc && a.grade == b.grade

abbrev pub same_facts : CommandFacts → CommandFacts → Bool
same_facts a b =
    option_eq same_rules a.rules b.rules && option_eq (pointwise same_topic) a.topics b.topics && option_eq same_run a.run b.run
    && beq a.opens b.opens && option_eq bytes_eq a.lease_wish b.lease_wish && option_eq same_lease_end a.lease_end b.lease_end
    && option_eq same_doc_grade a.amendment b.amendment && option_eq same_doc_grade a.ruling b.ruling
    && option_eq bytes_eq a.withdrawal b.withdrawal && beq a.publishes b.publishes

-- Whether all fields are the same: the facts of a command have all of them, and those of no other kind are the same.
abbrev pub same_command : Command → Command → Bool
same_command a b = same_facts (tells a) (tells b)
