-- The run format, row by row.
use Rattle.std.proofs.Common.{◌≡◌, ◌≢◌, ◌≤◌, ◌+◌, ◌==◌, ℕ, Bool, true, false, cond, List, [], ◌∷◌, ◌++◌, refl, arith, Ok, Err, Result, bytes_eq}
use Rattle.std.specs.Prelude.{if◌then◌else◌}
use Rattle.std.proofs.lemmas.Bool.{eqb-true, eqb-false}
use Rattle.std.proofs.lemmas.Cmp.{nat_list_eq_equiv}
use Rattle.std.proofs.lemmas.List.Sums.{sum_by-append, sum_by-cons, sum_by_push}
use Rattle.std.proofs.lemmas.Slice.Eq.{bytes_eq-Decides}
use Rattle.trec_formats.specs.declared.runs.RunLine.{RunLine}
use Rattle.trec_formats.specs.declared.faults.Kind.{Kind}
use Rattle.trec_formats.specs.declared.faults.Kind.TheVariants.{TooLong}
use Rattle.trec_formats.specs.Lines.{Row}
use Rattle.trec_formats.specs.RunFormat.Runs.{AreRunLines, line_count_on, run_of, within}
use Rattle.trec_formats.proofs.LineTexts.Readings.{IsFormat, Stand-push, Stand-same, Stand-none, CutLines, cut_lines}

abbrev pub next_line : List RunLine → Row → Result RunLine Kind
next_line before row = within before (run_of row)

-- one line more or none
abbrev pub one_on : List ℕ → RunLine → ℕ
one_on topic line = cond (bytes_eq line.topic topic) 1 0

pub count_on-push : (topic : List ℕ) (lines : List RunLine) (line : RunLine)
    → line_count_on topic (lines ++ line ∷ []) ≡ line_count_on topic lines + one_on topic line
count_on-push topic lines line = sum_by_push (one_on topic) lines line

within_step : (before : List RunLine) (l line : RunLine) (t : Bool) → (line_count_on l.topic before == 1000) ≡ t
    → (let r : Result RunLine Kind = if t then Err TooLong else Ok l in r) ≡ Ok line
    → (◌≡◌ {A = Result RunLine Kind} (Ok l) (Ok line)) × (line_count_on l.topic before ≢ 1000)
within_step before l line true full is = cc is
within_step before l line false full is = (is, eqb-false _ _ full)

within_ok : (before : List RunLine) (r : Result RunLine Kind) (line : RunLine) → within before r ≡ Ok line
    → (r ≡ Ok line) × (line_count_on line.topic before ≢ 1000)
within_ok before (Ok l) line is =
    let p = within_step before l line (line_count_on l.topic before == 1000) refl is in
    let e : ◌≡◌ {A = Result RunLine Kind} (Ok l) (Ok line) = p.0 in
    let same : l ≡ line = cc e in
    (p.0, rw (← same) p.1)
within_ok before (Err kind) line is = cc is

short_step : (lines : List RunLine) (line : RunLine) (topic : List ℕ) (t : Bool) → bytes_eq line.topic topic ≡ t
    → line_count_on topic lines ≤ 1000 → line_count_on line.topic lines ≢ 1000 → line_count_on topic lines + cond t 1 0 ≤ 1000
short_step lines line topic true is short free =
    let same : line.topic ≡ topic = (bytes_eq-Decides line.topic topic).0 is in
    let other : line_count_on topic lines ≢ 1000 = rw (← same) free in
    omega (arith, short, other)
short_step lines line topic false is short free = omega (arith, short)

pub push : (rows : List Row) (lines : List RunLine) (row : Row) (line : RunLine) → AreRunLines rows lines
    → next_line lines row ≡ Ok line → AreRunLines (rows ++ row ∷ []) (lines ++ line ∷ [])
push rows lines row line w is =
    let p = within_ok lines (run_of row) line is in
    record {
      each = Stand-push run_of rows lines row line w.each p.0;
      short = λ topic. rw (count_on-push topic lines line) (short_step lines line topic (bytes_eq line.topic topic) refl (w.short topic) p.1);
    }

next_step : (line : RunLine) (front back : List RunLine) (kind : Kind) (t : Bool) → (line_count_on line.topic front == 1000) ≡ t
    → (let r : Result RunLine Kind = if t then Err TooLong else Ok line in r) ≡ Err kind → line_count_on line.topic (front ++ line ∷ back) ≤ 1000 → ⊥
next_step line front back kind true full is short =
    let same : bytes_eq line.topic line.topic ≡ true = nat_list_eq_equiv.refl line.topic in
    let one : one_on line.topic line ≡ 1 = rw same refl in
    omega (arith, short, eqb-true _ _ full, one, sum_by-append (one_on line.topic) front (line ∷ back), sum_by-cons (one_on line.topic) line back)
next_step line front back kind false full is short = cc is

next_cut : (before : List Row) (row : Row) (lines : List RunLine) (kind : Kind) (front : List RunLine) → CutLines run_of before row lines
    → ((topic : List ℕ) → line_count_on topic lines ≤ 1000) → AreRunLines before front → next_line front row ≡ Err kind → ⊥
next_cut before row lines kind front p short f is =
    let same : front ≡ p.front = Stand-same run_of before front p.front f.each p.front_is in
    let read : within front (Ok p.line) ≡ Err kind = rw p.line_is at is in
    next_step p.line p.front p.back kind (line_count_on p.line.topic p.front == 1000) refl (rw same at read) (rw p.cut at (short p.line.topic))

next_ok : (before : List Row) (row : Row) (after : List Row) (lines : List RunLine) (kind : Kind) (front : List RunLine)
    → AreRunLines (before ++ row ∷ after) lines → AreRunLines before front → next_line front row ≡ Err kind → ⊥
next_ok before row after lines kind front w = next_cut before row lines kind front (cut_lines run_of before row after lines w.each) w.short

pub run_format : IsFormat AreRunLines next_line
run_format = record {
  nil = record { each = refl; short = λ topic. omega arith };
  push = push;
  same = λ rows lines others x y. Stand-same run_of rows lines others x.each y.each;
  none = λ rows x. Stand-none run_of rows x.each;
  next_ok = next_ok;
}
