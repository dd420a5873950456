-- Every text is read as topics in exactly one way.
use Rattle.std.proofs.Common.{◌≡◌, ◌⊎◌, inl, inr, ◌+◌, ℕ, true, false, List, [], ◌∷◌, ◌++◌, refl, sym, ◌∙◌, ap, Option, Some, None, Ok, Err, Result}
use Rattle.std.specs.List.{after_last}
use Rattle.trec_formats.specs.declared.faults.FormatFault.{FormatFault}
use Rattle.trec_formats.specs.declared.faults.Kind.{Kind}
use Rattle.trec_formats.specs.Faults.{ExactlyOne, IsReadAs}
use Rattle.trec_formats.specs.declared.faults.Kind.TheVariants as kinds
use Rattle.trec_formats.specs.Lines.{is_filled}
use Rattle.trec_formats.specs.TopicsFormat.TopicLines.{TopicLine}
use Rattle.trec_formats.specs.TopicsFormat.Topics.{AreSound, IsBlocksReading, NumberedTopic, block_topics, fault_behind, is_close, next_mark, unless_fault}
use Rattle.trec_formats.proofs.LineTexts.Readings.{IsFormat, LiesIn, cut_nil, one_reading, push_cut}

unless_ok : (line other : TopicLine) (o : Option Kind) → unless_fault line o ≡ Ok other → other ≡ line
unless_ok line other None is = let e : ◌≡◌ {A = Result TopicLine Kind} (Ok line) (Ok other) = is in let same : line ≡ other = cc e in sym same
unless_ok line other (Some kind) is = cc is

-- a line that is read is read as itself
next_same : (before : List TopicLine) (line other : TopicLine) → next_mark before line ≡ Ok other → other ≡ line
next_same before line other is = unless_ok line other (fault_behind (after_last is_close before) line) is

push_sound : (rows : List TopicLine) (row : TopicLine) (w : AreSound rows rows) → next_mark rows row ≡ Ok row
    → (before : List TopicLine) (line : TopicLine) (after : List TopicLine)
    → ((rows ≡ before) × (row ≡ line)) ⊎ LiesIn before line rows → next_mark before line ≡ Ok line
push_sound rows row w is before line after (inl p) = let front : rows ≡ before = p.0 in let last : row ≡ line = p.1 in rw (← front, ← last) is
push_sound rows row w is before line after (inr l) = w.sound before line l.between l.cut

push : (rows lines : List TopicLine) (row line : TopicLine) → AreSound rows lines → next_mark lines row ≡ Ok line
    → AreSound (rows ++ row ∷ []) (lines ++ line ∷ [])
push rows lines row line w is =
    let front : lines ≡ rows = w.same in
    let last : line ≡ row = next_same lines row line is in
    let here : next_mark rows row ≡ Ok row = rw (← front) (rw last at is) in
    let same : AreSound rows rows = record { same = refl; sound = w.sound } in
    record {
      same = rw (front, last) refl;
      sound = λ before other after cut. push_sound rows row same here before other after (push_cut rows row before other after cut);
    }

next_ok : (before : List TopicLine) (row : TopicLine) (after lines : List TopicLine) (kind : Kind) (front : List TopicLine)
    → AreSound (before ++ row ∷ after) lines → AreSound before front → next_mark front row ≡ Err kind → ⊥
next_ok before row after lines kind front w f is =
    let good : next_mark before row ≡ Ok row = w.sound before row after refl in
    let bad : next_mark before row ≡ Err kind = rw (← f.same) is in
    let both : ◌≡◌ {A = Result TopicLine Kind} (Ok row) (Err kind) = sym good ∙ bad in
    cc both

pub sound_format : IsFormat AreSound next_mark
sound_format = record {
  nil = record { same = refl; sound = λ before line after cut. absurd (cut_nil before line after cut) };
  push = push;
  same = λ rows lines others x y. x.same ∙ sym y.same;
  none = λ rows x. sym x.same;
  next_ok = next_ok;
}

module _ (count : ℕ) (lines : List TopicLine) where
  one : ExactlyOne (IsReadAs AreSound next_mark lines)
  one = one_reading AreSound next_mark sound_format lines

  same_reading : (a b : Result (List TopicLine) FormatFault) → IsReadAs AreSound next_mark lines a → IsReadAs AreSound next_mark lines b → a ≡ b
  same_reading a b x y = one.2 a x ∙ sym (one.2 b y)

  not_both : (fault : FormatFault) → IsReadAs AreSound next_mark lines (Ok lines) → IsReadAs AreSound next_mark lines (Err fault) → ⊥
  not_both fault x y = let e : ◌≡◌ {A = Result (List TopicLine) FormatFault} (Ok lines) (Err fault) = same_reading (Ok lines) (Err fault) x y in cc e

  nil_filled : (block : List TopicLine) → block ≡ [] → is_filled block ≡ true → ⊥
  nil_filled block nil filled = let e : false ≡ true = rw nil at filled in cc e

  only : (a b : Result (List NumberedTopic) FormatFault) → IsBlocksReading count lines a → IsBlocksReading count lines b → b ≡ a
  only (Ok a) (Ok b) x y = ap (λ l. let r : Result (List NumberedTopic) FormatFault = Ok l in r) (y.2 ∙ sym x.2)
  only (Ok a) (Err b) x (inl y) = absurd (not_both b x.0 y)
  only (Ok a) (Err b) x (inr y) = absurd (nil_filled (after_last is_close lines) x.1 y.1)
  only (Err a) (Ok b) (inl x) y = absurd (not_both a y.0 x)
  only (Err a) (Ok b) (inr x) y = absurd (nil_filled (after_last is_close lines) y.1 x.1)
  only (Err a) (Err b) (inl x) (inl y) =
      let e : ◌≡◌ {A = Result (List TopicLine) FormatFault} (Err b) (Err a) = same_reading (Err b) (Err a) y x in
      let same : b ≡ a = cc e in
      ap (λ f. let r : Result (List NumberedTopic) FormatFault = Err f in r) same
  only (Err a) (Err b) (inl x) (inr y) = absurd (not_both a y.0 x)
  only (Err a) (Err b) (inr x) (inl y) = absurd (not_both b x.0 y)
  only (Err a) (Err b) (inr x) (inr y) = ap (λ f. let r : Result (List NumberedTopic) FormatFault = Err f in r) (y.2 ∙ sym x.2)

  nil_cases : (block : List TopicLine) → (block ≡ []) ⊎ (is_filled block ≡ true)
  nil_cases [] = inl refl
  nil_cases (line ∷ block) = inr refl

  ends_read : IsReadAs AreSound next_mark lines (Ok lines) → (after_last is_close lines ≡ []) ⊎ (is_filled (after_last is_close lines) ≡ true)
      → (r : Result (List NumberedTopic) FormatFault) × IsBlocksReading count lines r
  ends_read read (inl nil) = (Ok (block_topics lines), (read, nil, refl))
  ends_read read (inr filled) = (Err (record { line = count + 1; kind = kinds.Tag }), inr (read, filled, refl))

  blocks_read : (r : Result (List TopicLine) FormatFault) → IsReadAs AreSound next_mark lines r
      → (s : Result (List NumberedTopic) FormatFault) × IsBlocksReading count lines s
  blocks_read (Ok all) read =
      let same : all ≡ lines = read.1.same in
      ends_read (rw same at read) (nil_cases (after_last is_close lines))
  blocks_read (Err fault) read = (Err fault, inl read)

  -- so many lines with these marks are read in one way
  pub one_blocks_reading : ExactlyOne (IsBlocksReading count lines)
  one_blocks_reading = let r = blocks_read one.0 one.1 in (r.0, r.1, λ other is. only r.0 other r.1 is)
