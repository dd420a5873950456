-- A block of a topics text as its reader keeps it.
use Rattle.std.specs.Prelude.{◌≡◌, ◌+◌, ℕ, Bool, if◌then◌else◌, ◌||◌, nat_lt, List, [], ◌∷◌, ◌++◌, length, Option, Some, None, Ok, Err, Result, MatchResult, unwrap_or}
use Rattle.std.specs.Option.{is_some, option_map}
use Rattle.trec_formats.specs.declared.topics.topic_blocks.Block.{Block}
use Rattle.trec_formats.specs.declared.topics.topic_lines.TopicField.{TopicField}
use Rattle.trec_formats.specs.declared.topics.topic_lines.TopicField.TheVariants.{Title, Desc, Narr}
use Rattle.trec_formats.specs.TopicsFormat.FieldTexts.{with_more_text}
use Rattle.trec_formats.specs.declared.faults.FormatEnd.{FormatEnd}
use Rattle.trec_formats.specs.declared.faults.FormatFault.{FormatFault}
use Rattle.trec_formats.specs.declared.faults.Kind.{Kind}
use Rattle.trec_formats.specs.Faults.{OfFault}
use Rattle.trec_formats.specs.declared.faults.Kind.TheVariants as kinds
use Rattle.trec_formats.specs.TopicsFormat.TopicLines.{Opens, Closes, Numbers, Begins, Skips, Says, TopicLine}
use Rattle.trec_formats.specs.Names.{is_name}
use Rattle.trec_formats.specs.TopicsFormat.Topics.{NumberedTopic}

-- what a reading of line n told, seen by view: what stands there, or the fault of this line
abbrev pub TellsBy : {X Y : Type 0} → (X → Y) → Result X FormatEnd → ℕ → Result Y Kind → Type 0
TellsBy view r n reading = MatchResult r (λ x. reading ≡ Ok (view x)) (λ end. OfFault end (λ fault. (fault.line ≡ n) × (reading ≡ Err fault.kind)))

abbrev pub part_in : TopicField → Block → Option (List ℕ)
part_in Title block = block.title
part_in Desc block = block.desc
part_in Narr block = block.narr

abbrev pub is_longer : Option (List ℕ) → ℕ → Bool
is_longer field limit = nat_lt limit (length (unwrap_or field []))

abbrev pub is_long_in : Block → Bool
is_long_in block = is_longer block.title 1000 || is_longer block.desc 8192 || is_longer block.narr 8192

-- a block behind the line that begins a part
abbrev pub begun_in : Block → TopicField → List ℕ → Block
begun_in block Title text = record block { title = Some (with_more_text [] text); present = Some Title }
begun_in block Desc text = record block { desc = Some (with_more_text [] text); present = Some Desc }
begun_in block Narr text = record block { narr = Some (with_more_text [] text); present = Some Narr }

-- a block behind a line that goes on with the present part
abbrev pub said_at : Option TopicField → Block → List ℕ → Block
said_at (Some Title) block text = record block { title = option_map (λ kept. with_more_text kept text) block.title }
said_at (Some Desc) block text = record block { desc = option_map (λ kept. with_more_text kept text) block.desc }
said_at (Some Narr) block text = record block { narr = option_map (λ kept. with_more_text kept text) block.narr }
said_at None block text = block

abbrev pub said_in : Block → List ℕ → Block
said_in block text = said_at block.present block text

abbrev pub within_limits : Block → Result Block Kind
within_limits block = if is_long_in block then Err kinds.TooLong else Ok block

-- a block behind one more line that doesn't end it, or what is wrong with that line
abbrev pub block_behind : Block → TopicLine → Result Block Kind
block_behind block (n, Opens) = Err kinds.Tag
block_behind block (n, Closes) = Err kinds.Tag
block_behind block (n, Numbers text) =
    if is_some block.number then Err kinds.Tag else (if is_name text then Ok (record block { number = Some (n, text); present = None }) else Err kinds.Topic)
block_behind block (n, Begins part text) = if is_some (part_in part block) then Err kinds.Tag else within_limits (begun_in block part text)
block_behind block (n, Skips) = Ok (record block { present = None })
block_behind block (n, Says text) = within_limits (said_in block text)

abbrev pub ended_at : Option (ℕ × List ℕ) → Option (List ℕ) → Block → Option NumberedTopic
ended_at (Some (n, id)) (Some title) block = Some (n, record { id = id; title = title; desc = unwrap_or block.desc []; narr = unwrap_or block.narr [] })
ended_at _ _ block = None

-- the topic of a block that ends, where it has a number and a title
abbrev pub topic_at_end : Block → Option NumberedTopic
topic_at_end block = ended_at block.number block.title block

abbrev pub new_block : Block
new_block = record { number = None; title = None; desc = None; narr = None; present = None }

-- the topics that were read, and the block that is open
abbrev pub BlocksProgress : Type 0
BlocksProgress = List NumberedTopic × Option Block

abbrev pub behind_end : List NumberedTopic → Option NumberedTopic → Result BlocksProgress Kind
behind_end topics (Some topic) = Ok (topics ++ topic ∷ [], None)
behind_end topics None = Err kinds.Tag

abbrev pub still_open : List NumberedTopic → Result Block Kind → Result BlocksProgress Kind
still_open topics (Ok block) = Ok (topics, Some block)
still_open topics (Err kind) = Err kind

-- these topics and this block behind one more line, or what is wrong with the line
abbrev pub progress_behind : List NumberedTopic → Option Block → TopicLine → Result BlocksProgress Kind
progress_behind topics None (n, Opens) = Ok (topics, Some new_block)
progress_behind topics None (n, _) = Err kinds.Tag
progress_behind topics (Some block) (n, Closes) = behind_end topics (topic_at_end block)
progress_behind topics (Some block) line = still_open topics (block_behind block line)

-- what so many lines with these topics and this block at their end are read as
abbrev pub finished_as : ℕ → List NumberedTopic → Option Block → Result (List NumberedTopic) FormatFault
finished_as lines topics (Some block) = Err (record { line = lines + 1; kind = kinds.Tag })
finished_as lines [] None = Err (record { line = 0; kind = kinds.Empty })
finished_as lines (topic ∷ topics) None = Ok (topic ∷ topics)
