-- One request: what adds nothing leaves the book as it is, and an entry is journaled.
use Rattle.std.proofs.Common.{◌≡◌, [], ◌∷◌, rules, subst, sym}
use Rattle.rulebook.specs.Histories.Additions.{IsAdded}
use Rattle.rulebook.specs.Campaign.{History}
use Rattle.rulebook.specs.Histories.Stories.{added_by, reply_by}
use Rattle.book.specs.Books.{IsSound}
use Rattle.book.specs.JournaledEntries.{Accepts, BookParts, EndsWithin, EntryHasRoom, KeepsBook}
use Rattle.book.proofs.Requests.{acts_before, acts_still, kept_after, memory_acts, quiet_acts, ready_acts, room_for, seen_by, sound_of}
use Rattle.book.proofs.JournalEntries.{book_holds}
use Rattle.book.proofs.books.Book.act.Given.{Over}
use Rattle.book.proofs.books.Book.act.Goals.{After-accept-answer, After-stands, In-Ok-Ready}
use Rattle.book.proofs.books.Book.act.Goals as goal

-- the parts of the book before
abbrev before : (g : Over) → After-stands g → BookParts g.row.D.Denot
before g c = record { journal = c.self.inside.journal; history = c.self.inside.state.history; pending = c.self.inside.pending }

sound : (g : Over) (c : After-stands g) → IsSound g.D.Disk.seen
    (seen_by g.D.Disk.seen (before g c) c.self.inside.opening)
sound g c =
    let s = c.self.inside in
    let D = g.D.Disk in
    sound_of D.seen (before g c) s.opening c.self.invariant
    (book_holds D.seen s.journal s.state.history s.pending c.self.invariant.keeps c.stands.ensures.stands)

-- the entry that is prepared is the one that the rules add
added : (g : Over) (c : In-Ok-Ready g) → added_by c.self.inside.state.history c.args.asked ≡ c.in-Ok-Ready.prepared ∷ []
added g c = search rules

is_added : (g : Over) (c : In-Ok-Ready g)
    → IsAdded c.self.inside.state.history c.args.asked.who c.args.asked.number c.args.asked.ask c.args.asked.moment c.in-Ok-Ready.prepared
is_added g c =
    let asked = c.args.asked in
    c.rule_laws.ensures.added c.self.inside.state.history asked.who asked.number asked.ask asked.moment
    c.in-Ok-Ready.prepared c.entries-legal.ensures.legal c.requires (added g c)

-- the parts of the book after
abbrev after : (g : Over) → After-accept-answer g → BookParts g.row.D.Denot
after g c = record { journal = c.accept-answer.new.journal; history = c.accept-answer.new.state.history; pending = c.accept-answer.new.pending }

accepts : (g : Over) (c : After-accept-answer g) → Accepts g.D.Disk.seen
    (let p : BookParts g.row.D.Denot = record { journal = c.self.inside.journal; history = c.self.inside.state.history; pending = c.self.inside.pending } in p)
    c.in-Ok-Ready.prepared c.accept-answer.result (after g c)
accepts g c =
    let s = c.self.inside in
    let D = g.D.Disk in
    subst (λ (H : History). Accepts D.seen (let p : BookParts g.row.D.Denot = record { journal = s.journal; history = H; pending = s.pending } in p)
    c.in-Ok-Ready.prepared c.accept-answer.result (after g c)) c.prepare.ensures.history c.accept-answer.ensures

pub returns-in-Ok-Told : goal.returns-in-Ok-Told
returns-in-Ok-Told g c =
    let s = c.self.inside in
    let D = g.D.Disk in
    let now = (goal.at.returns-in-Ok-Told g c).After-stands in
    let none : added_by s.state.history c.args.asked ≡ [] = search rules in
    let reply : c.in-Ok-Told.reply ≡ reply_by s.state.history c.args.asked = search rules in
    acts_still D.seen c.args.self.now (before g now) s.opening c.args.asked _ c.prepare.new.self.history c.self.view_is c.prepare.ensures.history
    (quiet_acts D.seen g.met.D.Disk.only_now (seen_by D.seen (before g now) s.opening) (sound g now) c.args.asked c.in-Ok-Told.reply reply none)

pub accept-answer-requires-clause-keeps : goal.accept-answer-requires-clause-keeps
accept-answer-requires-clause-keeps g c =
    let s = c.self.inside in
    subst (λ (H : History). KeepsBook g.D.Disk.seen s.journal H s.pending) (sym c.prepare.ensures.history) c.self.invariant.keeps

pub accept-answer-requires-clause-within : goal.accept-answer-requires-clause-within
accept-answer-requires-clause-within g c =
    subst (λ (H : History). EndsWithin c.self.inside.journal.place H) (sym c.prepare.ensures.history) c.self.invariant.within

pub accept-answer-requires-clause-room : goal.accept-answer-requires-clause-room
accept-answer-requires-clause-room g c =
    let is = is_added g (goal.at.accept-answer-requires-clause-room g c).In-Ok-Ready in
    subst (λ (H : History). EntryHasRoom H c.in-Ok-Ready.prepared) (sym c.prepare.ensures.history)
    (room_for c.rule_laws.ensures c.self.inside.state.history c.in-Ok-Ready.prepared is.accepted is.legal)

pub invariant_of-self-in-Ok-Ready : goal.invariant_of-self-in-Ok-Ready
invariant_of-self-in-Ok-Ready g c =
    let D = g.D.Disk in
    let at = goal.at.invariant_of-self-in-Ok-Ready g c in
    kept_after D.seen g.met.D.Disk.only_now (before g at.After-stands) (after g at.After-accept-answer) c.self.inside.opening c.self.invariant c.args.asked
    c.in-Ok-Ready.prepared (added g at.In-Ok-Ready) (is_added g at.In-Ok-Ready) c.accept-answer.result (accepts g at.After-accept-answer)

pub returns-in-Ok-Ready : goal.returns-in-Ok-Ready
returns-in-Ok-Ready g c =
    let s = c.self.inside in
    let D = g.D.Disk in
    let at = goal.at.returns-in-Ok-Ready g c in
    let old = before g at.After-stands in
    let new = after g at.After-accept-answer in
    let done = accepts g at.After-accept-answer in
    acts_before D.seen c.args.self.now old s.opening c.args.asked c.accept-answer.result
    (seen_by D.seen new s.opening) c.self.view_is
    (ready_acts D.seen g.met.D.Disk.only_now old new s.opening c.self.invariant c.args.asked c.in-Ok-Ready.prepared
    (added g at.In-Ok-Ready) (is_added g at.In-Ok-Ready) c.accept-answer.result done
    (book_holds D.seen s.journal s.state.history s.pending c.self.invariant.keeps c.stands.ensures.stands)
    (book_holds D.seen new.journal new.history new.pending done.keeps c.stands-in-Ok-Ready.ensures.stands))

pub returns : goal.returns
returns g c =
    let s = c.self.inside in
    let D = g.D.Disk in
    let now = (goal.at.returns g c).After-stands in
    acts_still D.seen c.args.self.now (before g now) s.opening c.args.asked _ c.prepare.new.self.history c.self.view_is c.prepare.ensures.history
    (memory_acts D.seen g.met.D.Disk.only_now (seen_by D.seen (before g now) s.opening) (sound g now) c.args.asked)
