-- The topics of a text are no longer, as they are spelled, than the text.
use Rattle.std.proofs.Common.{◌≡◌, ℕ, ◌+◌, ◌≤◌, List, [], ◌∷◌, Bool, true, false, length, map, drop, reverse, refl, sym, ap, ◌∙◌, arith, length-append, length-drop}
use Rattle.std.specs.Prelude.{if◌then◌else◌, bytes_eq, codes, unwrap_or}
use Rattle.std.specs.List.{filter, sum_by, slice_split, onto_first, enumerate_from, join_with_byte, flat_map}
use Rattle.std.specs.Int.{to_le_bytes, w32}
use Rattle.std.proofs.lemmas.Bool.{cond_both, false≢true}
use Rattle.std.proofs.lemmas.List.{length-map, length-reverse}
use Rattle.std.proofs.lemmas.List.Concat.{length-flat_map}
use Rattle.std.proofs.lemmas.List.Sums.{sum_by-cons}
use Rattle.std.proofs.lemmas.Slice.Eq.{bytes_eq-Decides}
use Rattle.decimal_rank.proofs.Lists.{two_bytes, four_bytes}
use Rattle.trec_formats.specs.declared.topics.Topic.{Topic}
use Rattle.trec_formats.proofs.TopicTexts.BlockTexts.{same_part-true, same_part-refl}
use Rattle.trec_formats.specs.Lines.{is_white_space, is_filled, lines_of}
use Rattle.trec_formats.specs.TopicsFormat.TopicLines.{LineKind, Opens, Closes, Numbers, Begins, Skips, Says, TopicLine, front_stripped, without_space, behind_tag, without_label, begins_with, is_tag, other_kind, field_mark, mark_of, lines_from_number, topic_lines, shown_byte}
use Rattle.trec_formats.specs.TopicsFormat.Topics.{NumberedTopic, block_number, said, part_texts, part_text, block_topic, block_topics, is_close, IsTopics, same_part}
use Rattle.rulebook.specs.Spelling.{spelled_list, topic_bytes}
use Rattle.routes.proofs.Requests.RunLines.{size_of, sizes, lines_sizes, sum_by-filter-le}

-- Lines and their kinds

front_short : (text : List ℕ) → length (front_stripped text) ≤ length text
front_short [] = omega arith
front_short (b ∷ text) =
    cond_both (is_white_space b) (front_stripped text) (b ∷ text) (λ (kept : List ℕ). length kept ≤ length (b ∷ text))
    (λ white. omega (arith, front_short text)) (λ other. omega arith)

stripped_short : (text : List ℕ) → length (without_space text) ≤ length text
unfolding without_space
stripped_short text =
    let front = front_stripped text in
    omega (arith, front_short text, front_short (reverse front), length-reverse front, length-reverse (front_stripped (reverse front)))

behind_short : (front text : List ℕ) → length (behind_tag front text) ≤ length text
behind_short front text = omega (arith, stripped_short (drop (length front) text), length-drop (length front) text)

unlabelled_short : (label text : List ℕ) → length (without_label label text) ≤ length text
unlabelled_short label text =
    cond_both (begins_with label text) (behind_tag label text) text (λ (kept : List ℕ). length kept ≤ length text)
    (λ there. behind_short label text) (λ other. omega arith)

-- how many bytes a line of this kind has at least
abbrev kind_size : LineKind → ℕ
kind_size Opens = 0
kind_size Closes = 6
kind_size (Numbers text) = length text
kind_size (Begins part text) = length text
kind_size Skips = 0
kind_size (Says text) = length text

other_size : (line : List ℕ) → kind_size (other_kind line) ≤ length line
unfolding other_kind
other_size line = cond_both (is_tag line) Skips (Says line) (λ (kind : LineKind). kind_size kind ≤ length line) (λ tag. omega arith) (λ other. omega arith)

field_size : (line : List ℕ) → kind_size (field_mark line) ≤ length line
unfolding field_mark
field_size line =
    cond_both (begins_with (codes "<num>") line) _ _ (λ (kind : LineKind). kind_size kind ≤ length line)
    (λ num. omega (arith, unlabelled_short (codes "Number:") (behind_tag (codes "<num>") line), behind_short (codes "<num>") line))
    (λ no_num.
    cond_both (begins_with (codes "<title>") line) _ _ (λ (kind : LineKind). kind_size kind ≤ length line)
    (λ title. behind_short (codes "<title>") line)
    (λ no_title.
    cond_both (begins_with (codes "<desc>") line) _ _ (λ (kind : LineKind). kind_size kind ≤ length line)
    (λ desc. omega (arith, unlabelled_short (codes "Description:") (behind_tag (codes "<desc>") line), behind_short (codes "<desc>") line))
    (λ no_desc.
    cond_both (begins_with (codes "<narr>") line) _ _ (λ (kind : LineKind). kind_size kind ≤ length line)
    (λ narr. omega (arith, unlabelled_short (codes "Narrative:") (behind_tag (codes "<narr>") line), behind_short (codes "<narr>") line))
    (λ no_narr. other_size line))))

line_size : (line : List ℕ) → kind_size (mark_of line) ≤ length line
unfolding mark_of
line_size line =
    cond_both (bytes_eq line (codes "<top>")) Opens _ (λ (kind : LineKind). kind_size kind ≤ length line)
    (λ top. omega arith)
    (λ no_top.
    cond_both (bytes_eq line (codes "</top>")) Closes (field_mark line) (λ (kind : LineKind). kind_size kind ≤ length line)
    (λ end. let same : length line ≡ 6 = ap length ((bytes_eq-Decides line (codes "</top>")).0 end) in omega (arith, same))
    (λ no_end. field_size line))

-- a line with the byte that ends it
abbrev weight : TopicLine → ℕ
weight line = kind_size line.1 + 1

row_weights : (number : ℕ) (lines : List (List ℕ))
    → sum_by (λ (row : ℕ × List ℕ). kind_size (mark_of row.1) + 1) (enumerate_from number (map without_space lines)) ≤ sizes lines
row_weights number [] = omega arith
row_weights number (line ∷ lines) =
    omega (
      arith,
      row_weights (number + 1) lines,
      line_size (without_space line),
      stripped_short line,
      sum_by-cons size_of line lines,
      sum_by-cons (λ (row : ℕ × List ℕ). kind_size (mark_of row.1) + 1) (number, without_space line) (enumerate_from (number + 1) (map without_space lines)),
    )

mapped_weights : (rows : List (ℕ × List ℕ))
    → sum_by weight (map (λ (row : ℕ × List ℕ). (row.0, mark_of row.1)) rows) ≡ sum_by (λ (row : ℕ × List ℕ). kind_size (mark_of row.1) + 1) rows
mapped_weights [] = refl
mapped_weights (row ∷ rows) =
    omega (
      arith,
      mapped_weights rows,
      sum_by-cons weight (row.0, mark_of row.1) (map (λ (row : ℕ × List ℕ). (row.0, mark_of row.1)) rows),
      sum_by-cons (λ (row : ℕ × List ℕ). kind_size (mark_of row.1) + 1) row rows,
    )

lines_weights : (text : List ℕ) → sum_by weight (topic_lines text) ≤ length text + 1
unfolding lines_from_number
lines_weights text =
    let rows = enumerate_from 1 (map without_space (lines_of text)) in
    let kept = filter (λ (row : ℕ × List ℕ). is_filled row.1) rows in
    omega (
      arith,
      mapped_weights kept,
      sum_by-filter-le (λ (row : ℕ × List ℕ). kind_size (mark_of row.1) + 1) (λ (row : ℕ × List ℕ). is_filled row.1) rows,
      row_weights 1 (lines_of text),
      lines_sizes text,
    )

-- A block and its topic

abbrev counted : Bool → ℕ → ℕ
counted test n = if test then n else 0

abbrev id_size : List TopicLine → ℕ
id_size block = length (unwrap_or (block_number block) (0, [])).1

-- no two of the tests hold
record AreApart (p q r : Bool) : Type 0 where
  first : p ≡ true → q ≡ true → ⊥
  second : p ≡ true → r ≡ true → ⊥
  third : q ≡ true → r ≡ true → ⊥

abbrev texts_at : Bool → List ℕ → List (List ℕ) → List (List ℕ) → List (List ℕ)
texts_at test text rest texts = if test then text ∷ rest else texts

-- the line that begins a part, which at most one of three parts is
begin_step : (p q r t d n : Bool) → AreApart p q r → (text : List ℕ) (rest a b c : List (List ℕ)) (id w : ℕ)
    → ((t d n : Bool) → sizes rest + (counted t (sizes a) + (counted d (sizes b) + (counted n (sizes c) + id))) ≤ w)
    → counted t (sizes (texts_at p text rest a)) + (counted d (sizes (texts_at q text rest b)) + (counted n (sizes (texts_at r text rest c)) + id))
    ≤ length text + 1 + w
begin_step true true r t d n apart text rest a b c id w most = absurd (apart.first refl refl)
begin_step true false true t d n apart text rest a b c id w most = absurd (apart.second refl refl)
begin_step false true true t d n apart text rest a b c id w most = absurd (apart.third refl refl)
begin_step true false false true d n apart text rest a b c id w most = omega (arith, most false d n, sum_by-cons size_of text rest)
begin_step true false false false d n apart text rest a b c id w most = omega (arith, most false d n)
begin_step false true false t true n apart text rest a b c id w most = omega (arith, most t false n, sum_by-cons size_of text rest)
begin_step false true false t false n apart text rest a b c id w most = omega (arith, most t false n)
begin_step false false true t d true apart text rest a b c id w most = omega (arith, most t d false, sum_by-cons size_of text rest)
begin_step false false true t d false apart text rest a b c id w most = omega (arith, most t d false)
begin_step false false false t d n apart text rest a b c id w most = omega (arith, most t d n)

none_left : (t d n : Bool) → counted t 0 + (counted d 0 + (counted n 0 + 0)) ≤ 0
none_left true true true = omega arith
none_left true true false = omega arith
none_left true false true = omega arith
none_left true false false = omega arith
none_left false true true = omega arith
none_left false true false = omega arith
none_left false false true = omega arith
none_left false false false = omega arith

-- The texts of three parts, the number, and what goes on with an earlier part stand on different lines.
apart : (p q r : _) → ((part : _) → AreApart (same_part p part) (same_part q part) (same_part r part)) → (block : List TopicLine) (t d n : Bool)
    → sizes (said block)
    + (counted t (sizes (part_texts p block)) + (counted d (sizes (part_texts q block)) + (counted n (sizes (part_texts r block)) + id_size block)))
    ≤ sum_by weight block
apart p q r differ [] t d n = omega (arith, none_left t d n)
apart p q r differ ((l, Opens) ∷ block) t d n = omega (arith, apart p q r differ block t d n, sum_by-cons weight (l, Opens) block)
apart p q r differ ((l, Closes) ∷ block) t d n = omega (arith, apart p q r differ block t d n, sum_by-cons weight (l, Closes) block)
apart p q r differ ((l, Skips) ∷ block) t d n = omega (arith, apart p q r differ block t d n, sum_by-cons weight (l, Skips) block)
apart p q r differ ((l, Says text) ∷ block) t d n =
    omega (arith, apart p q r differ block t d n, sum_by-cons weight (l, Says text) block, sum_by-cons size_of text (said block))
apart p q r differ ((l, Numbers text) ∷ block) t d n = omega (arith, apart p q r differ block t d n, sum_by-cons weight (l, Numbers text) block)
apart p q r differ ((l, Begins part text) ∷ block) t d n =
    omega (
      arith,
      begin_step (same_part p part) (same_part q part) (same_part r part) t d n (differ part) text (said block)
          (part_texts p block) (part_texts q block) (part_texts r block) (id_size block) (sum_by weight block)
          (λ t d n. apart p q r differ block t d n),
      sum_by-cons weight (l, Begins part text) block,
    )

joined_short : (texts : List (List ℕ)) → length (join_with_byte 32 texts) ≤ sizes texts
joined_short [] = omega arith
joined_short (text ∷ []) = omega (arith, sum_by-cons size_of text [])
joined_short (text ∷ next ∷ texts) =
    omega (arith, joined_short (next ∷ texts), sum_by-cons size_of text (next ∷ texts), length-append text (32 ∷ join_with_byte 32 (next ∷ texts)))

texts_short : (texts : List (List ℕ)) → length (map shown_byte (join_with_byte 32 (filter is_filled texts))) ≤ sizes texts
texts_short texts =
    omega (
      arith,
      length-map (join_with_byte 32 (filter is_filled texts)) shown_byte,
      joined_short (filter is_filled texts),
      sum_by-filter-le size_of is_filled texts,
    )

abbrev topic_size : Topic → ℕ
topic_size topic = length topic.id + (length topic.title + (length topic.desc + length topic.narr))

one_part : (p q part : _) → same_part p q ≡ false → same_part p part ≡ true → same_part q part ≡ true → ⊥
one_part p q part differ a b =
    let same : p ≡ q = same_part-true p part a ∙ sym (same_part-true q part b) in
    false≢true (sym differ ∙ ap (same_part p) (sym same) ∙ same_part-refl p)

parts_short : (p q r : _) → same_part p q ≡ false → same_part p r ≡ false → same_part q r ≡ false → (block : List TopicLine)
    → id_size block + (length (part_text p block) + (length (part_text q block) + length (part_text r block))) ≤ sum_by weight block
parts_short p q r first second third block =
    omega (
      arith,
      apart p q r (λ part. record { first = one_part p q part first; second = one_part p r part second; third = one_part q r part third }) block true true true,
      texts_short (part_texts p block),
      texts_short (part_texts q block),
      texts_short (part_texts r block),
    )

abbrev begins : LineKind → Bool
begins (Begins part text) = true
begins Opens = false
begins Closes = false
begins (Numbers text) = false
begins Skips = false
begins (Says text) = false

-- the part that a line of this kind begins
abbrev part_of : (kind : LineKind) → begins kind ≡ true → (part : _) × (same_part part part ≡ true)
part_of (Begins part text) is = (part, same_part-refl part)
part_of Opens is = absurd (false≢true is)
part_of Closes is = absurd (false≢true is)
part_of (Numbers text) is = absurd (false≢true is)
part_of Skips is = absurd (false≢true is)
part_of (Says text) is = absurd (false≢true is)

topic_short : (block : List TopicLine) → topic_size (block_topic block).1 ≤ sum_by weight block
unfolding field_mark
topic_short block =
    parts_short (part_of (field_mark (codes "<title>")) refl).0 (part_of (field_mark (codes "<desc>")) refl).0
    (part_of (field_mark (codes "<narr>")) refl).0 refl refl refl block

-- All topics

abbrev block_size : List TopicLine → ℕ
block_size block = sum_by weight block + 7

onto_blocks : (line : TopicLine) (n : ℕ) (blocks : List (List TopicLine)) → sum_by block_size blocks ≤ n + 7
    → 0 + 7 ≤ sum_by block_size blocks → sum_by block_size (onto_first line blocks) ≤ n + weight line + 7
onto_blocks line n [] is some = absurd (omega (arith, some))
onto_blocks line n (block ∷ blocks) is some =
    omega (arith, is, sum_by-cons block_size block blocks, sum_by-cons block_size (line ∷ block) blocks, sum_by-cons weight line block)

record AreBlocks (lines : List TopicLine) (blocks : List (List TopicLine)) : Type 0 where
  most : sum_by block_size blocks ≤ sum_by weight lines + 7
  some : 7 ≤ sum_by block_size blocks

onto_some : (line : TopicLine) (blocks : List (List TopicLine)) → 7 ≤ sum_by block_size blocks → 7 ≤ sum_by block_size (onto_first line blocks)
onto_some line [] some = absurd (omega (arith, some))
onto_some line (block ∷ blocks) some = omega (arith, sum_by-cons block_size (line ∷ block) blocks)

closing_weight : (line : TopicLine) → is_close line ≡ true → weight line ≡ 7
closing_weight (l, Closes) is = refl
closing_weight (l, Opens) is = cc
closing_weight (l, Numbers text) is = cc
closing_weight (l, Begins part text) is = cc
closing_weight (l, Skips) is = cc
closing_weight (l, Says text) is = cc

split_blocks : (lines : List TopicLine) → AreBlocks lines (slice_split is_close lines)
split_blocks [] = record { most = omega arith; some = omega arith }
split_blocks (line ∷ lines) =
    let rest = split_blocks lines in
    cond_both (is_close line) ([] ∷ slice_split is_close lines) (onto_first line (slice_split is_close lines))
    (λ (blocks : List (List TopicLine)). AreBlocks (line ∷ lines) blocks)
    (λ close. record {
      most = omega (arith, rest.most, closing_weight line close, sum_by-cons weight line lines, sum_by-cons block_size [] (slice_split is_close lines));
      some = omega (arith, sum_by-cons block_size [] (slice_split is_close lines));
    })
    (λ other. record {
      most = omega (arith, onto_blocks line (sum_by weight lines) (slice_split is_close lines) rest.most rest.some, sum_by-cons weight line lines);
      some = onto_some line (slice_split is_close lines) rest.some;
    })

spelled_size : (topic : Topic) → length (topic_bytes topic) ≡ topic_size topic + 7
spelled_size topic = simp (length-append, two_bytes) (omega arith)

spelled_blocks : (blocks : List (List TopicLine))
    → sum_by (λ topic. length (topic_bytes topic)) (map (λ (t : NumberedTopic). t.1) (map block_topic blocks)) ≤ sum_by block_size blocks
spelled_blocks [] = omega arith
spelled_blocks (block ∷ blocks) =
    omega (
      arith,
      spelled_blocks blocks,
      spelled_size (block_topic block).1,
      topic_short block,
      sum_by-cons block_size block blocks,
      sum_by-cons (λ topic. length (topic_bytes topic)) (block_topic block).1 (map (λ (t : NumberedTopic). t.1) (map block_topic blocks)),
    )

-- the topics of a text are spelled with no more bytes than the text, but for a few
pub topics_short : (text : List ℕ) (topics : List Topic) → IsTopics text topics → length (spelled_list topic_bytes topics) ≤ length text + 20
topics_short text topics (found, reading, is) =
    let lines = topic_lines text in
    let blocks = slice_split is_close lines in
    let all : topics ≡ map (λ (t : NumberedTopic). t.1) (block_topics lines) = is ∙ ap (map (λ (t : NumberedTopic). t.1)) reading.0.2 in
    rw all
    (omega (
      arith,
      length-append (to_le_bytes w32 (length (map (λ (t : NumberedTopic). t.1) (block_topics lines))))
          (flat_map topic_bytes (map (λ (t : NumberedTopic). t.1) (block_topics lines))),
      four_bytes (length (map (λ (t : NumberedTopic). t.1) (block_topics lines))),
      length-flat_map topic_bytes (map (λ (t : NumberedTopic). t.1) (block_topics lines)),
      spelled_blocks (filter is_filled blocks),
      sum_by-filter-le block_size is_filled blocks,
      (split_blocks lines).most,
      lines_weights text,
    ))
