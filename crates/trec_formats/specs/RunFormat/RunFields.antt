-- A run's line as its reader keeps it.
use Rattle.std.specs.Prelude.{◌==◌, ◌+◌, ℕ, if◌then◌else◌, nat_lt, List, [], take, map, Err, Result}
use Rattle.std.specs.List.{fold}
use Rattle.decimal_rank.specs.Decimals.DecimalText.{decimal_of}
use Rattle.decimal_rank.specs.declared.decimals.DecimalFault.TheVariants as causes
use Rattle.trec_formats.specs.declared.runs.run_fields.KeptLine.{KeptLine}
use Rattle.trec_formats.specs.declared.runs.RunLine.{RunLine}
use Rattle.trec_formats.specs.declared.faults.Kind.{Kind}
use Rattle.trec_formats.specs.declared.faults.Kind.TheVariants.{Fields, Topic, Docno}
use Rattle.trec_formats.specs.Lines.{is_filled}
use Rattle.trec_formats.specs.Names.{is_name, is_docno}
use Rattle.trec_formats.specs.RunFormat.Runs.{scored}

-- the bytes of a field that are kept
abbrev pub kept_field : List ℕ → List ℕ
kept_field field = take 401 field

abbrev pub empty_line : KeptLine
empty_line = record { count = 0; topic = []; doc = []; score = Err causes.Shape }

-- a line with one more field, of which these bytes are kept
abbrev pub with_field : KeptLine → List ℕ → KeptLine
with_field line field = record {
  count = if nat_lt line.count 7 then line.count + 1 else line.count;
  topic = if line.count == 0 then field else line.topic;
  doc = if line.count == 2 then field else line.doc;
  score = if line.count == 4 then decimal_of field else line.score;
}

-- a line with one more field, where it has a byte
abbrev pub with_part : KeptLine → List ℕ → KeptLine
with_part line field = if is_filled field then with_field line field else line

-- a line of these fields
abbrev pub kept_fields : List (List ℕ) → KeptLine
kept_fields fields = fold with_field empty_line (map kept_field fields)

-- what a line says, or the first of its faults in the order of the kinds
abbrev pub line_of : ℕ → KeptLine → Result RunLine Kind
line_of number line =
    if line.count == 6 then
    (if is_name line.topic then (if is_docno line.doc then scored number line.topic line.doc line.score else Err Docno) else Err Topic) else Err Fields
