-- The topics format: blocks of tagged fields, a topic each.
use Rattle.std.specs.Prelude.{◌≡◌, ◌+◌, ◌⊎◌, ℕ, Bool, true, false, if◌then◌else◌, ◌&&◌, ◌||◌, nat_lt, List, [], ◌∷◌, ◌++◌, length, map, filter, Option, Some, None, Ok, Err, Result, unwrap_or, bytes_eq}
use Rattle.std.specs.List.{join_with_byte, slice_split, after_last}
use Rattle.std.specs.Option.{is_some}
use Rattle.decimal_rank.specs.Bytes.{space}
use Rattle.trec_formats.specs.declared.topics.topic_lines.TopicField.{TopicField}
use Rattle.trec_formats.specs.declared.topics.topic_lines.TopicField.TheVariants.{Title, Desc, Narr}
use Rattle.trec_formats.specs.declared.topics.Topic.{Topic}
use Rattle.trec_formats.specs.declared.faults.FormatFault.{FormatFault}
use Rattle.trec_formats.specs.declared.faults.Kind.{Kind}
use Rattle.trec_formats.specs.Faults.{IsReadAs, IsReadOnce}
use Rattle.trec_formats.specs.declared.faults.Kind.TheVariants as kinds
use Rattle.trec_formats.specs.Lines.{is_filled, lines_of}
use Rattle.trec_formats.specs.TopicsFormat.TopicLines.{Opens, Closes, Numbers, Begins, Skips, Says, TopicLine, topic_lines, shown_byte}
use Rattle.trec_formats.specs.Names.{is_name}

abbrev pub same_part : TopicField → TopicField → Bool
same_part Title Title = true
same_part Title _ = false
same_part Desc Desc = true
same_part Desc _ = false
same_part Narr Narr = true
same_part Narr _ = false

-- the line of a block's number, and its text
abbrev pub block_number : List TopicLine → Option (ℕ × List ℕ)
block_number [] = None
block_number ((n, Numbers text) ∷ _) = Some (n, text)
block_number ((_, Opens) ∷ block) = block_number block
block_number ((_, Closes) ∷ block) = block_number block
block_number ((_, Begins part text) ∷ block) = block_number block
block_number ((_, Skips) ∷ block) = block_number block
block_number ((_, Says text) ∷ block) = block_number block

-- the texts of the lines in front that go on with a part
abbrev pub said : List TopicLine → List (List ℕ)
said [] = []
said ((_, Says text) ∷ block) = text ∷ said block
said ((_, Opens) ∷ block) = []
said ((_, Closes) ∷ block) = []
said ((_, Numbers text) ∷ block) = []
said ((_, Begins part text) ∷ block) = []
said ((_, Skips) ∷ block) = []

-- the text on the line that begins a part, and those of the lines that go on with it
abbrev pub part_texts : TopicField → List TopicLine → List (List ℕ)
part_texts part [] = []
part_texts part ((_, Begins other text) ∷ block) = if same_part part other then text ∷ said block else part_texts part block
part_texts part ((_, Opens) ∷ block) = part_texts part block
part_texts part ((_, Closes) ∷ block) = part_texts part block
part_texts part ((_, Numbers text) ∷ block) = part_texts part block
part_texts part ((_, Skips) ∷ block) = part_texts part block
part_texts part ((_, Says text) ∷ block) = part_texts part block

-- whether a part was begun
abbrev pub has_part : TopicField → List TopicLine → Bool
has_part part block = is_filled (part_texts part block)

-- the text of a part as it is kept: its texts that aren't empty, joined by a space
abbrev pub part_text : TopicField → List TopicLine → List ℕ
part_text part block = map shown_byte (join_with_byte space (filter is_filled (part_texts part block)))

-- whether the title has over 1,000 bytes, or another text over 8,192
abbrev pub is_long : List TopicLine → Bool
is_long block = nat_lt 1000 (length (part_text Title block)) || nat_lt 8192 (length (part_text Desc block)) || nat_lt 8192 (length (part_text Narr block))

-- what is wrong with a block of these lines
abbrev pub length_fault : List TopicLine → Option Kind
length_fault block = if is_long block then Some kinds.TooLong else None

-- what is wrong with one more line of a block of these lines
abbrev pub inner_fault : List TopicLine → TopicLine → Option Kind
inner_fault block (n, Opens) = Some kinds.Tag
inner_fault block (n, Closes) = if is_some (block_number block) && has_part Title block then None else Some kinds.Tag
inner_fault block (n, Numbers text) = if is_some (block_number block) then Some kinds.Tag else (if is_name text then None else Some kinds.Topic)
inner_fault block (n, Begins part text) = if has_part part block then Some kinds.Tag else length_fault (block ++ (n, Begins part text) ∷ [])
inner_fault block (n, Skips) = None
inner_fault block (n, Says text) = length_fault (block ++ (n, Says text) ∷ [])

-- What is wrong with one more line, where these are the lines after the last end of a block. Where there are none, no block is open.
abbrev pub fault_behind : List TopicLine → TopicLine → Option Kind
fault_behind [] (n, Opens) = None
fault_behind [] (n, _) = Some kinds.Tag
fault_behind (first ∷ block) line = inner_fault (first ∷ block) line

abbrev pub is_close : TopicLine → Bool
is_close (n, Closes) = true
is_close (n, _) = false

abbrev pub unless_fault : TopicLine → Option Kind → Result TopicLine Kind
unless_fault line None = Ok line
unless_fault line (Some kind) = Err kind

-- what a line is read as behind these lines: itself, or what is wrong with it
abbrev pub next_mark : List TopicLine → TopicLine → Result TopicLine Kind
next_mark before line = unless_fault line (fault_behind (after_last is_close before) line)

-- the lines, of which none has a fault behind those before it
pub record AreSound (rows lines : List TopicLine) : Type 0 where
  pub same : lines ≡ rows
  pub sound : (before : List TopicLine) (line : TopicLine) (after : List TopicLine) → rows ≡ before ++ line ∷ after → next_mark before line ≡ Ok line

-- a topic, and the line of its number
abbrev pub NumberedTopic : Type 0
NumberedTopic = ℕ × Topic

abbrev pub numbered_topic : ℕ × List ℕ → List TopicLine → NumberedTopic
numbered_topic (n, id) block = (n, record { id = id; title = part_text Title block; desc = part_text Desc block; narr = part_text Narr block })

-- the topic of a block that has a number
abbrev pub block_topic : List TopicLine → NumberedTopic
block_topic block = numbered_topic (unwrap_or (block_number block) (0, [])) block

-- the topics of lines that stand in blocks, each of which is ended
abbrev pub block_topics : List TopicLine → List NumberedTopic
block_topics lines = map block_topic (filter is_filled (slice_split is_close lines))

-- What so many lines with these marks are read as. Some topics may have one id.
abbrev pub IsBlocksReading : ℕ → List TopicLine → Result (List NumberedTopic) FormatFault → Type 0
IsBlocksReading count lines (Ok topics) =
    IsReadAs AreSound next_mark lines (Ok lines) × (after_last is_close lines ≡ []) × (topics ≡ block_topics lines)
IsBlocksReading count lines (Err fault) =
    IsReadAs AreSound next_mark lines (Err fault)
    ⊎ (IsReadAs AreSound next_mark lines (Ok lines) × (is_filled (after_last is_close lines) ≡ true) × (fault ≡ record { line = count + 1; kind = kinds.Tag }))

abbrev pub same_id : NumberedTopic → NumberedTopic → Bool
same_id a b = bytes_eq a.1.id b.1.id

-- What a text is read as. Some topics may have one id.
abbrev pub IsEachBlockRead : List ℕ → Result (List NumberedTopic) FormatFault → Type 0
IsEachBlockRead text = IsBlocksReading (length (lines_of text)) (topic_lines text)

-- what a text is read as: its topics with the lines of their numbers, or its fault
abbrev pub IsTopicsReading : List ℕ → Result (List NumberedTopic) FormatFault → Type 0
IsTopicsReading text = IsReadOnce (IsEachBlockRead text) same_id (λ t. t.0)

abbrev pub IsTopics : List ℕ → List Topic → Type 0
IsTopics text topics = (found : List NumberedTopic) × IsTopicsReading text (Ok found) × (topics ≡ map (λ t. t.1) found)

abbrev pub IsTopicsFault : List ℕ → FormatFault → Type 0
IsTopicsFault text fault = IsTopicsReading text (Err fault)
