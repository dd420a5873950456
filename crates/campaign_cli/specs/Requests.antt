-- What the words of a call ask for.
use Rattle.std.specs.Prelude.{ℕ, ◌≤◌, List, [], ◌∷◌, Option, Some, None, String, string_bytes, map, codes, bytes_eq, IsTrue, ◌&&◌, if◌then◌else◌}
use Rattle.std.specs.Option.{option_map_or}
use Rattle.std.specs.declared.alloc.Global.{Global}
use Rattle.command_words.specs.Numbers.{number_in_word}
use Rattle.command_words.specs.Words.{Form, given_by}
use Rattle.campaign_server.specs.declared.numbers.ServerNumbers.{ServerNumbers}
use Rattle.drill.specs.Figures.{are_numbers}
use Rattle.trec_formats.specs.Names.{is_name}
use Rattle.drill.specs.declared.numbers.DrillNumbers.{DrillNumbers}
use Rattle.campaign_cli.specs.declared.commands.displays.Display.{Display}
use Rattle.campaign_cli.specs.declared.commands.displays.Display.TheVariants.{Check, Reuse, Agreement}
use Rattle.campaign_cli.specs.declared.words.Command.{Command}
use Rattle.campaign_cli.specs.declared.words.Command.TheVariants as command

-- the request, with the words that name its files or its numbers; nothing, where the words are no command
pub data Request : Type 0 where
  Eval : List ℕ → List ℕ → Request
  Session : Request
  Serve : ServerNumbers → Request
  Drill : DrillNumbers → Request
  Show : Display → Request
  Compact : Request
  Archive : List ℕ → Request
  RunHistory : List ℕ → Request
  Compare : List ℕ → List ℕ → Request
  Export : Request
  Nothing : Request

abbrev pub form : List ℕ → List (List ℕ) → List (List ℕ) → Form
form name positionals options = record { name = name; positionals = positionals; options = options }

-- the forms of the commands: their names, and the names of their positional words and of their options
abbrev pub forms : List Form
forms =
    form (codes "eval") (codes "run" ∷ codes "qrels" ∷ []) []
    ∷ form (codes "session") [] []
    ∷ form (codes "serve") [] (codes "port" ∷ codes "workers" ∷ codes "connections" ∷ [])
    ∷ form (codes "drill") (codes "seed" ∷ codes "runs" ∷ codes "topics" ∷ codes "docs" ∷ []) []
    ∷ form (codes "check") [] []
    ∷ form (codes "compact") [] []
    ∷ form (codes "archive") (codes "name" ∷ []) []
    ∷ form (codes "history") (codes "run" ∷ []) []
    ∷ form (codes "compare") (codes "first" ∷ codes "second" ∷ []) []
    ∷ form (codes "export") [] []
    ∷ form (codes "reuse") [] []
    ∷ form (codes "agreement") [] [] ∷ []

abbrev pub eval_of : List (List ℕ) → Request
eval_of (run ∷ qrels ∷ []) = Eval run qrels
eval_of values = Nothing

-- a port is 1 to 65535, the workers are 1 to 16, and the connections 1 to 4294967295
abbrev pub serve_at : Option ℕ → Option ℕ → Option ℕ → Request
serve_at (Some port) (Some workers) (Some connections) = Serve (record { port = port; workers = workers; connections = connections })
serve_at (Some port) (Some workers) None = Nothing
serve_at (Some port) None connections = Nothing
serve_at None workers connections = Nothing

abbrev pub serve_of : List (List ℕ) → Request
serve_of (port ∷ workers ∷ connections ∷ []) = serve_at (number_in_word 1 65535 port) (number_in_word 1 16 workers) (number_in_word 1 4294967295 connections)
serve_of values = Nothing

-- a campaign is generated from numbers within their ranges
abbrev pub drill_by : DrillNumbers → Request
drill_by numbers = if are_numbers numbers then Drill numbers else Nothing

abbrev pub any_number : List ℕ → Option ℕ
any_number word = number_in_word 0 4294967295 word

-- how many runs, topics and documents
abbrev pub Sizes : Type 0
Sizes = ℕ × ℕ × ℕ

abbrev pub all_three : Option ℕ → Option ℕ → Option ℕ → Option Sizes
all_three (Some runs) (Some topics) (Some docs) = Some (runs, topics, docs)
all_three (Some runs) (Some topics) None = None
all_three (Some runs) None docs = None
all_three None topics docs = None

abbrev pub three_numbers : List (List ℕ) → Option Sizes
three_numbers (runs ∷ topics ∷ docs ∷ []) = all_three (any_number runs) (any_number topics) (any_number docs)
three_numbers words = None

abbrev pub drill_at : Option ℕ → Option Sizes → Request
drill_at (Some seed) (Some sizes) = drill_by (record { seed = seed; runs = sizes.0; topics = sizes.1; docs = sizes.2 })
drill_at (Some seed) None = Nothing
drill_at None sizes = Nothing

abbrev pub drill_of : List (List ℕ) → Request
drill_of (seed ∷ sizes) = drill_at (any_number seed) (three_numbers sizes)
drill_of [] = Nothing

-- releases and runs are asked for by names

abbrev pub archive_by : List ℕ → Request
archive_by name = if is_name name then Archive name else Nothing

abbrev pub archive_of : List (List ℕ) → Request
archive_of (name ∷ []) = archive_by name
archive_of values = Nothing

abbrev pub history_by : List ℕ → Request
history_by run = if is_name run then RunHistory run else Nothing

abbrev pub history_request : List (List ℕ) → Request
history_request (run ∷ []) = history_by run
history_request values = Nothing

abbrev pub compare_by : List ℕ → List ℕ → Request
compare_by first second = if is_name first && is_name second then Compare first second else Nothing

abbrev pub compare_of : List (List ℕ) → Request
compare_of (first ∷ second ∷ []) = compare_by first second
compare_of values = Nothing

-- the request of a command, by its name and its values in the order of its form
abbrev pub request_by_name : List ℕ × List (List ℕ) → Request
request_by_name found = if bytes_eq found.0 (codes "eval") then eval_of found.1
    else (if bytes_eq found.0 (codes "session") then Session
    else (if bytes_eq found.0 (codes "serve") then serve_of found.1
    else (if bytes_eq found.0 (codes "drill") then drill_of found.1
    else (if bytes_eq found.0 (codes "check") then Show Check
    else (if bytes_eq found.0 (codes "compact") then Compact
    else (if bytes_eq found.0 (codes "archive") then archive_of found.1
    else (if bytes_eq found.0 (codes "history") then history_request found.1
    else (if bytes_eq found.0 (codes "compare") then compare_of found.1
    else (if bytes_eq found.0 (codes "export") then Export
    else (if bytes_eq found.0 (codes "reuse") then Show Reuse
    else (if bytes_eq found.0 (codes "agreement") then Show Agreement else Nothing)))))))))))

-- the request that words give by the forms
abbrev pub request_of : List (List ℕ) → Request
request_of words = option_map_or request_by_name (given_by forms words) Nothing

-- the request that the words after the program's name are
abbrev pub request_of_words : List (String Global) → Request
request_of_words words = request_of (map string_bytes words)

-- what a command of the program stands for
abbrev pub request_of_command : Command → Request
request_of_command (command.Eval run qrels) = Eval run.now qrels.now
request_of_command command.Session = Session
request_of_command (command.Serve numbers) = Serve numbers
request_of_command (command.Drill numbers) = Drill numbers
request_of_command (command.Show display) = Show display
request_of_command command.Compact = Compact
request_of_command (command.Archive name) = Archive name.now
request_of_command (command.RunHistory run) = RunHistory run.now
request_of_command (command.Compare first second) = Compare first.now second.now
request_of_command command.Export = Export
request_of_command command.Usage = Nothing

-- a server has 1 to 16 workers, and takes one connection at least; the numbers of a drill are within their ranges; releases and runs have names
abbrev pub IsInRange : Command → Type 0
IsInRange (command.Eval run qrels) = Unit {0}
IsInRange command.Session = Unit {0}
IsInRange (command.Serve numbers) = (1 ≤ numbers.workers) × (numbers.workers ≤ 16) × (1 ≤ numbers.connections)
IsInRange (command.Drill numbers) = IsTrue (are_numbers numbers)
IsInRange (command.Show display) = Unit {0}
IsInRange command.Compact = Unit {0}
IsInRange (command.Archive name) = IsTrue (is_name name.now)
IsInRange (command.RunHistory run) = IsTrue (is_name run.now)
IsInRange (command.Compare first second) = IsTrue (is_name first.now && is_name second.now)
IsInRange command.Export = Unit {0}
IsInRange command.Usage = Unit {0}

-- what is printed where the words are no command
abbrev pub usage_line : List ℕ
usage_line =
    codes
    "usage: campaign eval RUN QRELS | session | serve --port P --workers W --connections N | drill SEED RUNS TOPICS DOCS | check | compact | archive NAME | history RUN | compare A B | export | reuse | agreement\n"
