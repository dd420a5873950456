-- The lines of a run whose texts stand in one list of bytes.
use Rattle.std.specs.Prelude.{◌≡◌, ◌≤◌, ◌-◌, ℕ, if◌then◌else◌, nat_le, List, [], length, map, take, drop, All}
use denote.Ref.{Bor}
use Rattle.trec_formats.specs.declared.runs.packed_runs.PackedLine.{PackedLine}
use Rattle.trec_formats.specs.declared.runs.packed_runs.PackedRun.{PackedRun}
use Rattle.trec_formats.specs.declared.runs.packed_runs.Span.{Span}
use Rattle.trec_formats.specs.declared.runs.RunLine.{RunLine}

-- the bytes of a span; none where it doesn't end within them
abbrev pub text_in : List ℕ → Span → List ℕ
text_in bytes span = if nat_le span.end (length bytes) then take (span.end - span.start) (drop span.start bytes) else []

abbrev pub line_in : List ℕ → PackedLine → RunLine
line_in bytes line = record { line = line.line; topic = text_in bytes line.topic; doc = text_in bytes line.doc; score = line.score }

abbrev pub lines_in : List ℕ → List PackedLine → List RunLine
lines_in bytes lines = map (line_in bytes) lines

abbrev pub kept_lines : PackedRun → List RunLine
kept_lines run = lines_in run.bytes.items run.lines.items

-- the lines that references lead to
abbrev pub lines_behind : List ℕ → List (Bor PackedLine) → List RunLine
lines_behind bytes lines = map (λ line. line_in bytes line.now) lines

-- a span is within the bytes
abbrev pub IsSpanWithin : List ℕ → Span → Type 0
IsSpanWithin bytes span = (span.start ≤ span.end) × (span.end ≤ length bytes)

abbrev pub ArePlaced : List ℕ → List PackedLine → Type 0
ArePlaced bytes lines = All (λ line. IsSpanWithin bytes line.topic × IsSpanWithin bytes line.doc) lines

-- a text stands there
abbrev pub IsTextAt : List ℕ → Span → List ℕ → Type 0
IsTextAt bytes span text = IsSpanWithin bytes span × (text_in bytes span ≡ text)

-- what is within the bytes stays
abbrev pub KeepsSpan : List ℕ → List ℕ → Type 0
KeepsSpan old new = (span : Span) → IsSpanWithin old span → IsTextAt new span (text_in old span)
