-- A book in a hall: its state as the hall has it, and what an answer says of it.
use Rattle.disk_model.specs.Disks.{DiskState}
use Rattle.hall.specs.declared.stories.Story.{Story as HallStory}
use Rattle.rulebook.specs.declared.answer.Answer.{Answer}
use Rattle.rulebook.specs.declared.ask.Addressed.{Addressed}
use Rattle.rulebook.specs.declared.entry.Entry.{Entry}
use Rattle.rulebook.specs.Histories.Stories.{IsAddressed, IsTold, Story}
use Rattle.book.specs.Books.{BookView}

-- the accepted entries, with the disk's counts
abbrev pub story_in : {D : Type 0} → (D → DiskState) → BookView D → HallStory Entry
story_in seen book = record { list = book.history; faults = (seen book.disk).faults; opening = book.opening }

-- a state as the rules speak of it
abbrev pub seen_as : HallStory Entry → Story
seen_as story = record { list = story.list; faults = story.faults; opening = story.opening }

-- a request that may be answered
abbrev pub MayBeAnswered : Addressed → Type 0
MayBeAnswered asked = IsAddressed asked

-- what an answer says of the states before and after
abbrev pub BookTells : HallStory Entry → Addressed → Answer → HallStory Entry → Type 0
BookTells before asked answer after = IsTold (seen_as before) asked answer (seen_as after)
