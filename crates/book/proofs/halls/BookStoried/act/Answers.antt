use Rattle.book.specs.Books.{story_of}
use Rattle.book.proofs.AddedEntries.{few_more}
use Rattle.book.proofs.halls.BookStoried.act.Goals as goal

pub returns-clause-grows : goal.returns-clause-grows
returns-clause-grows g c =
    let acts = c.act.ensures in
    let story = story_of g.D.Disk.seen in
    ((acts.runs.grown, acts.told.later, acts.told.opening), few_more (story c.args.self.now) c.args.ask c.act.result (story c.act.new.self) acts.told)
