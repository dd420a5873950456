-- Answers of a small campaign: one topic, and two runs of three documents.
use Rattle.std.specs.Prelude.{◌≡◌, ℕ, true, [], ◌∷◌, ◌++◌, List, None, refl, codes, length, replicate}
use Rattle.trec_formats.specs.Names.{is_name, is_docno}
use Rattle.trec_formats.specs.declared.Topic.{Topic}
use Rattle.trec_formats.specs.declared.TopicList.{TopicList}
use Rattle.rulebook.specs.declared.rules.Rules.{Rules}
use Rattle.rulebook.specs.declared.rules.Role.TheVariants.{Organiser, Group}
use Rattle.rulebook.specs.declared.rules.Caller.{Caller}
use Rattle.rulebook.specs.declared.rules.Phase.TheVariants.{Collecting, Judging}
use Rattle.rulebook.specs.declared.ask.Command.{Command}
use Rattle.rulebook.specs.declared.ask.Command.TheVariants as command
use Rattle.rulebook.specs.declared.ask.Query.TheVariants as query
use Rattle.rulebook.specs.declared.ask.Ask.{Ask}
use Rattle.rulebook.specs.declared.ask.Ask.TheVariants.{Act, See}
use Rattle.rulebook.specs.declared.reply.Refusal.TheVariants as refusal
use Rattle.rulebook.specs.declared.reply.Quantity.TheVariants as quantity
use Rattle.rulebook.specs.declared.reply.Reply.{Reply}
use Rattle.rulebook.specs.declared.reply.Reply.TheVariants as reply
use Rattle.rulebook.specs.declared.entry.Entry.{Entry}
use Rattle.rulebook.specs.Words.{Text}
use Rattle.rulebook.specs.Campaign.{History, phase, pool}
use Rattle.rulebook.specs.Answers.{answer}
use Rattle.rulebook.specs.Histories.Legal.{core_of, founding, is_well_addressed, IsLegal}

abbrev pub rules : ℕ → Rules
rules depth = record { depth = depth; term = 600; hold = 2; level = 1; top_grade = 3; doubles = []; levels = [] }

abbrev pub organiser : Caller
organiser = record { name = codes "org"; role = Organiser }

abbrev pub group : Caller
group = record { name = codes "grp"; role = Group }

abbrev pub pooling : Topic
pooling = record { id = codes "1"; title = codes "pooling"; desc = []; narr = [] }

abbrev list_of : Text → ℕ → List Text → TopicList
list_of topic line docs = record { topic = topic; line = line; docs = docs }

abbrev pub submitted : Text → List Text → Command
submitted run docs = command.Submit run (list_of (codes "1") 1 docs ∷ [])

abbrev pub X : Command
X = submitted (codes "X") (codes "a" ∷ codes "b" ∷ codes "e" ∷ [])

abbrev Y : Command
Y = submitted (codes "Y") (codes "c" ∷ codes "d" ∷ codes "f" ∷ [])

-- the list after one more request of a command, at moment 1000
abbrev pub after : History → Caller → Command → History
after H who c = H ++ (answer H who None (Act c) 1000).added

abbrev founded : ℕ → History
founded depth = founding (rules depth) ∷ []

abbrev pub with_topic : ℕ → History
with_topic depth = after (founded depth) organiser (command.Topics (pooling ∷ []))

-- the campaign with both runs, at a depth
abbrev pub campaign : ℕ → History
campaign depth = after (after (with_topic depth) group X) group Y

-- the reply to a request at moment 1000
abbrev replied : History → Caller → Ask → Reply
replied H who ask = (answer H who None ask 1000).reply

entries-of-campaign : length (campaign 3) ≡ 4
entries-of-campaign = refl

campaign-is-legal : IsLegal (campaign 3)
unfolding is_name is_docno
campaign-is-legal = (
  (rules 3, refl, refl),
  (record { addressed = refl; added = refl }, (record { addressed = refl; added = refl }, (record { addressed = refl; added = refl }, tt))),
)

first-reply : replied (with_topic 3) group (Act X) ≡ reply.Submitted (codes "X") 1 3
first-reply = refl

whole-pool : replied (campaign 3) organiser (See (query.Pool (codes "1")))
    ≡ reply.Pool (codes "1") (codes "a" ∷ codes "b" ∷ codes "c" ∷ codes "d" ∷ codes "e" ∷ codes "f" ∷ [])
whole-pool = refl

pool-by-depth : pool (campaign 2) (codes "1") ≡ codes "a" ∷ codes "b" ∷ codes "c" ∷ codes "d" ∷ []
pool-by-depth = refl

pool-of-one-run : pool (after (with_topic 3) group X) (codes "1") ≡ codes "a" ∷ codes "b" ∷ codes "e" ∷ []
pool-of-one-run = refl

same-document-once : pool (after (campaign 3) group (submitted (codes "Z") (codes "f" ∷ codes "a" ∷ []))) (codes "1") ≡ pool (campaign 3) (codes "1")
same-document-once = refl

pool-of-unknown-topic : replied (campaign 3) organiser (See (query.Pool (codes "9"))) ≡ reply.Refused refusal.UnknownTopic
pool-of-unknown-topic = refl

second-run-of-a-name : replied (campaign 3) group (Act X) ≡ reply.Refused refusal.TagTaken
second-run-of-a-name = refl

-- Topic 9 stands on line 2. A taken name is refused before it.
abbrev stray : Text → Command
stray run = command.Submit run (list_of (codes "1") 1 (codes "a" ∷ []) ∷ list_of (codes "9") 2 (codes "b" ∷ []) ∷ [])

topic-outside-the-campaign : replied (campaign 3) group (Act (stray (codes "Z"))) ≡ reply.Refused (refusal.LineTopic 2)
topic-outside-the-campaign = refl

name-before-topic : replied (campaign 3) group (Act (stray (codes "X"))) ≡ reply.Refused refusal.TagTaken
name-before-topic = refl

least-line : replied (founded 3) group (Act (command.Submit (codes "Z") (list_of (codes "1") 4 (codes "a" ∷ []) ∷ list_of (codes "9") 2 (codes "b" ∷ []) ∷ [])))
    ≡ reply.Refused (refusal.LineTopic 2)
least-line = refl

second-topics : replied (campaign 3) organiser (Act (command.Topics (pooling ∷ []))) ≡ reply.Refused refusal.TopicsFixed
second-topics = refl

too-many-topics : replied (founded 3) organiser (Act (command.Topics (replicate 251 pooling))) ≡ reply.Refused (refusal.Limit quantity.Topics)
too-many-topics = refl

as-many-topics-as-there-may-be : replied (founded 3) organiser (Act (command.Topics (replicate 250 pooling))) ≡ reply.Topics 250
as-many-topics-as-there-may-be = refl

-- An older moment doesn't count: the entry is of the last entry's moment.
older-moment : (answer (campaign 3) group None (Act (submitted (codes "Z") (codes "a" ∷ []))) 900).added
    ≡ (answer (campaign 3) group None (Act (submitted (codes "Z") (codes "a" ∷ []))) 1000).added
older-moment = refl

-- Once it is opened, a campaign takes no topics, and isn't opened again. It still takes runs.
abbrev pub opened : History
opened = after (campaign 3) organiser command.Open

opening : replied (campaign 3) organiser (Act command.Open) ≡ reply.Done
opening = refl

judging-from-then-on : phase opened ≡ Judging
judging-from-then-on = refl

collecting-before : phase (campaign 3) ≡ Collecting
collecting-before = refl

run-after-opening : replied opened group (Act (submitted (codes "Z") (codes "a" ∷ []))) ≡ reply.Submitted (codes "Z") 1 1
run-after-opening = refl

pool-with-late-run : pool (after opened group (submitted (codes "Z") (codes "g" ∷ []))) (codes "1")
    ≡ codes "a" ∷ codes "b" ∷ codes "c" ∷ codes "d" ∷ codes "e" ∷ codes "f" ∷ codes "g" ∷ []
pool-with-late-run = refl

name-still-taken : replied opened group (Act X) ≡ reply.Refused refusal.TagTaken
name-still-taken = refl

no-topics-after-opening : replied opened organiser (Act (command.Topics (pooling ∷ []))) ≡ reply.Refused (refusal.WrongPhase Judging)
no-topics-after-opening = refl

opened-once : replied opened organiser (Act command.Open) ≡ reply.Refused (refusal.WrongPhase Judging)
opened-once = refl

pool-after-opening : pool opened (codes "1") ≡ pool (campaign 3) (codes "1")
pool-after-opening = refl

opened-is-legal : IsLegal opened
unfolding is_name is_docno
opened-is-legal = (
  (rules 3, refl, refl),
  (
    record { addressed = refl; added = refl },
    (record { addressed = refl; added = refl }, (record { addressed = refl; added = refl }, (record { addressed = refl; added = refl }, tt))),
  ),
)

addressed : is_well_addressed group None (Act X) 1000 ≡ true
unfolding is_name is_docno
addressed = refl

-- the 257th run
abbrev run_entry : Entry
run_entry = record { core = core_of group None 1000 X; reply = reply.Submitted (codes "X") 1 3 }

too-many-runs : replied (with_topic 3 ++ replicate 256 run_entry) group (Act Y) ≡ reply.Refused (refusal.Limit quantity.Runs)
too-many-runs = refl

as-many-runs-as-there-may-be : replied (with_topic 3 ++ replicate 255 run_entry) group (Act Y) ≡ reply.Submitted (codes "Y") 1 3
as-many-runs-as-there-may-be = refl
