-- Texts that stand in one list of bytes, and stay where more bytes come.
use Rattle.std.proofs.Common.{◌≡◌, ◌≤◌, ◌+◌, ◌-◌, ℕ, true, List, [], ◌∷◌, ◌++◌, length, take, drop, refl, sym, ◌∙◌, ap, arith, le-leb}
use Rattle.std.specs.Prelude.{nat_le}
use Rattle.std.proofs.lemmas.List.{drop-append-le, drop_at, length-append, length-drop, map-append, take-append-le, take_all}
use Rattle.std.proofs.lemmas.List.Elements.{All-head, All-tail, All-push}
use Rattle.trec_formats.specs.declared.runs.packed_runs.PackedLine.{PackedLine}
use Rattle.trec_formats.specs.declared.runs.packed_runs.Span.{Span}
use Rattle.trec_formats.specs.declared.runs.RunLine.{RunLine}
use Rattle.trec_formats.specs.RunFormat.PackedRuns.{text_in, line_in, lines_in, IsSpanWithin, ArePlaced, IsTextAt, KeepsSpan}

-- the bytes of a span that is within them
pub text_within : (bytes : List ℕ) (span : Span) → IsSpanWithin bytes span → text_in bytes span ≡ take (span.end - span.start) (drop span.start bytes)
text_within bytes span placed = let within : nat_le span.end (length bytes) ≡ true = le-leb _ _ placed.1 in rw within refl

pub keeps_same : (bytes : List ℕ) → KeepsSpan bytes bytes
keeps_same bytes span placed = (placed, refl)

pub keeps_more : (bytes more : List ℕ) → KeepsSpan bytes (bytes ++ more)
keeps_more bytes more span placed =
    let long : length (bytes ++ more) ≡ length bytes + length more = length-append bytes more in
    let still : IsSpanWithin (bytes ++ more) span = (placed.0, omega (arith, placed.1, long)) in
    let short : span.end - span.start ≤ length (drop span.start bytes) = omega (arith, placed.1, length-drop span.start bytes) in (
      still,
      text_within (bytes ++ more) span still
          ∙ ap (take (span.end - span.start)) (drop-append-le span.start bytes more (omega (arith, placed.0, placed.1)))
          ∙ take-append-le (span.end - span.start) (drop span.start bytes) more short
          ∙ sym (text_within bytes span placed),
    )

-- a text behind the bytes
pub text_behind : (bytes text : List ℕ) (span : Span) → span.start ≡ length bytes → span.end ≡ length bytes + length text → IsTextAt (bytes ++ text) span text
text_behind bytes text span start end =
    let placed : IsSpanWithin (bytes ++ text) span = (omega (arith, start, end), omega (arith, end, length-append bytes text)) in (
      placed,
      text_within (bytes ++ text) span placed
          ∙ ap (take (span.end - span.start)) (drop_at bytes text span.start (sym start))
          ∙ take_all (span.end - span.start) text (omega (arith, start, end)),
    )

pub placed_kept : (old new : List ℕ) (lines : List PackedLine) → KeepsSpan old new → ArePlaced old lines → ArePlaced new lines
placed_kept old new lines keeps placed k d within = let p = placed k d within in ((keeps _ p.0).0, (keeps _ p.1).0)

-- lines say the same where more bytes stand
pub lines_kept : (old new : List ℕ) (lines : List PackedLine) → KeepsSpan old new → ArePlaced old lines → lines_in new lines ≡ lines_in old lines
lines_kept old new [] keeps placed = refl
lines_kept old new (line ∷ lines) keeps placed =
    let P : PackedLine → Type 0 = λ line. IsSpanWithin old line.topic × IsSpanWithin old line.doc in
    let p = All-head P line lines placed in
    rw ((keeps line.topic p.0).1, (keeps line.doc p.1).1, lines_kept old new lines keeps (All-tail P line lines placed)) refl

-- one more line
module _ (old mid new : List ℕ) (lines : List PackedLine) (line : RunLine) (packed : PackedLine)
    (first : KeepsSpan old mid) (second : KeepsSpan mid new) (topic : IsTextAt mid packed.topic line.topic)
    (doc : IsTextAt new packed.doc line.doc) (placed : ArePlaced old lines) where
  before_placed : ArePlaced mid lines
  before_placed = placed_kept old mid lines first placed

  pub push_placed : ArePlaced new (lines ++ packed ∷ [])
  push_placed =
      All-push (λ line. IsSpanWithin new line.topic × IsSpanWithin new line.doc) lines packed
      (placed_kept mid new lines second before_placed) ((second packed.topic topic.0).0, doc.0)

  pub push_lines : packed.line ≡ line.line → packed.score ≡ line.score → lines_in new (lines ++ packed ∷ []) ≡ lines_in old lines ++ line ∷ []
  push_lines number score =
      let here : line_in new packed ≡ line = rw (number, score, (second packed.topic topic.0).1, topic.1, doc.1) refl in
      map-append (line_in new) lines (packed ∷ [])
      ∙ ap (λ front. front ++ line_in new packed ∷ []) (lines_kept mid new lines second before_placed ∙ lines_kept old mid lines first placed)
      ∙ ap (λ last. lines_in old lines ++ last ∷ []) here
