-- A topics text whose first lines are read.
use Rattle.std.proofs.Common.{◌≡◌, ◌≢◌, inl, inr, ◌==◌, ◌+◌, ◌<◌, ◌≤◌, ℕ, Bool, true, false, List, [], ◌∷◌, ◌++◌, length, map, filter, refl, sym, ◌∙◌, ap, arith, Option, Some, None, Ok, Err, Result, append_assoc}
use Rattle.std.specs.List.{after_last, slice_split}
use Rattle.std.specs.Prelude.{IfErr, IfOk, MatchResult}
use Rattle.std.proofs.lemmas.Bool.{eqb-true}
use Rattle.std.proofs.lemmas.List.{append-nil, drop_all}
use Rattle.std.proofs.lemmas.List.Elements.{filter-append}
use Rattle.trec_formats.specs.declared.topics.topic_blocks.Block.{Block}
use Rattle.trec_formats.specs.declared.faults.FormatFault.{FormatFault}
use Rattle.trec_formats.specs.declared.faults.FormatEnd.{FormatEnd}
use Rattle.trec_formats.specs.declared.faults.FormatEnd.TheVariants as ends
use Rattle.trec_formats.specs.Faults.{IsReadAs, OfFault}
use Rattle.trec_formats.specs.declared.faults.Kind.TheVariants as kinds
use Rattle.trec_formats.specs.Lines.{is_filled, lines_of}
use Rattle.trec_formats.specs.TopicsFormat.TopicLines.{TopicLine, lines_from_number, mark_of, topic_lines, without_space}
use Rattle.trec_formats.specs.TopicsFormat.TopicBlocks.{BlocksProgress, finished_as, progress_behind}
use Rattle.trec_formats.specs.TopicsFormat.Topics.{AreSound, IsEachBlockRead, NumberedTopic, block_topic, is_close, next_mark}
use Rattle.trec_formats.proofs.LineTexts.Cuts.{lines_of-nil}
use Rattle.trec_formats.proofs.LineTexts.Pieces.{one_part}
use Rattle.trec_formats.proofs.TopicTexts.TopicLimits.{AreWithin, WithinNext, are_sound, none_within, within_next}
use Rattle.trec_formats.proofs.TopicTexts.TopicSteps.{AreReadAs, ToldNext, none_read, told_next}

-- the lines in front are read as these topics and this block, and the rest of the text is left, behind so many lines
pub record IsTopicsTo (text : List ℕ) (number : ℕ) (rest : List ℕ) (topics : List NumberedTopic) (present : Option Block) : Type 0 where
  pub done : List TopicLine
  pub rows : topic_lines text ≡ done ++ lines_from_number (number + 1) (lines_of rest)
  pub count : length (lines_of text) ≡ number + length (lines_of rest)
  pub fits : number + length rest ≤ length text
  pub read : AreReadAs done topics present
  pub limits : AreWithin topics present
  pub few : length topics + length rest ≤ length text

pub begins : (text : List ℕ) → IsTopicsTo text 0 text [] None
begins text = record { done = []; rows = refl; count = omega arith; fits = omega arith; read = none_read; limits = none_within; few = omega arith }

marks_from-nil : (number : ℕ) → lines_from_number number [] ≡ []
unfolding lines_from_number
marks_from-nil number = refl

marks_from-white : (number : ℕ) (line : List ℕ) (lines : List (List ℕ)) → is_filled (without_space line) ≡ false
    → lines_from_number number (line ∷ lines) ≡ lines_from_number (number + 1) lines
unfolding lines_from_number
marks_from-white number line lines white = rw white refl

marks_from-there : (number : ℕ) (line : List ℕ) (lines : List (List ℕ)) → is_filled (without_space line) ≡ true
    → lines_from_number number (line ∷ lines) ≡ (number, mark_of (without_space line)) ∷ lines_from_number (number + 1) lines
unfolding lines_from_number
marks_from-there number line lines there = rw there refl

module _ (text : List ℕ) (number : ℕ) (rest : List ℕ) (topics : List NumberedTopic) (present : Option Block)
    (w : IsTopicsTo text number rest topics present) where
  module _ (line after : List ℕ) (cut : lines_of rest ≡ line ∷ lines_of after) where
    counted : length (lines_of text) ≡ number + 1 + length (lines_of after)
    counted = omega (arith, w.count, ap length cut)

    -- a line of white space alone
    pub skips : length after < length rest → is_filled (without_space line) ≡ false → IsTopicsTo text (number + 1) after topics present
    skips less white = record {
      done = w.done;
      rows = w.rows ∙ ap (λ rows. w.done ++ rows) (ap (lines_from_number (number + 1)) cut ∙ marks_from-white (number + 1) line (lines_of after) white);
      count = counted;
      fits = omega (arith, w.fits, less);
      read = w.read;
      limits = w.limits;
      few = omega (arith, w.few, less);
    }

    there_is : is_filled (without_space line) ≡ true
        → topic_lines text ≡ w.done ++ (number + 1, mark_of (without_space line)) ∷ lines_from_number (number + 1 + 1) (lines_of after)
    there_is there = w.rows ∙ ap (λ rows. w.done ++ rows) (ap (lines_from_number (number + 1)) cut ∙ marks_from-there (number + 1) line (lines_of after) there)

    goes_on_step : length after < length rest → is_filled (without_space line) ≡ true → (next : BlocksProgress)
        → ToldNext w.done (number + 1, mark_of (without_space line)) (Ok next) → WithinNext topics (Ok next) → IsTopicsTo text (number + 1) after next.0 next.1
    goes_on_step less there next is limits = record {
      done = w.done ++ (number + 1, mark_of (without_space line)) ∷ [];
      rows = there_is there ∙ sym (append_assoc w.done ((number + 1, mark_of (without_space line)) ∷ []) _);
      count = counted;
      fits = omega (arith, w.fits, less);
      read = is.1;
      limits = limits.0;
      few = omega (arith, w.few, less, limits.1);
    }

    -- a line that is read
    pub goes_on : length after < length rest → is_filled (without_space line) ≡ true → (next : BlocksProgress)
        → progress_behind topics present (number + 1, mark_of (without_space line)) ≡ Ok next → IsTopicsTo text (number + 1) after next.0 next.1
    goes_on less there next is =
        let line_is : TopicLine = (number + 1, mark_of (without_space line)) in
        let told : ToldNext w.done line_is (Ok next) = rw is at (told_next w.done topics (number + 1) present (mark_of (without_space line)) w.read) in
        let limits : WithinNext topics (Ok next) = rw is at (within_next topics w.limits.each present line_is w.limits.open_block) in
        goes_on_step less there next told limits

    -- a line with a fault
    pub stops : is_filled (without_space line) ≡ true → (fault : FormatFault) → fault.line ≡ number + 1
        → progress_behind topics present (number + 1, mark_of (without_space line)) ≡ Err fault.kind → IsEachBlockRead text (Err fault)
    stops there fault at_line is =
        let line_is : TopicLine = (number + 1, mark_of (without_space line)) in
        let told : next_mark w.done line_is ≡ Err fault.kind = rw is at (told_next w.done topics (number + 1) present (mark_of (without_space line)) w.read) in
        inl
        (inr (record {
          before = w.done;
          row = line_is;
          after = lines_from_number (number + 1 + 1) (lines_of after);
          lines = w.done;
          cut = there_is there;
          good = w.read.sound;
          line = at_line;
          kind = told;
        }))

    -- the same, where memory may be why the line isn't taken
    pub stops_with : is_filled (without_space line) ≡ true → (end : FormatEnd)
        → OfFault end (λ fault. (fault.line ≡ number + 1) × (progress_behind topics present (number + 1, mark_of (without_space line)) ≡ Err fault.kind))
        → OfFault end (λ fault. IsEachBlockRead text (Err fault))
    stops_with there ends.Memory is = tt
    stops_with there (ends.Fault fault) is = stops there fault is.0 is.1

  module _ (none : rest ≡ []) where
    whole : topic_lines text ≡ w.done
    whole = w.rows ∙ ap (λ rows. w.done ++ rows)
        (ap (λ r. lines_from_number (number + 1) (lines_of r)) none ∙ ap (lines_from_number (number + 1)) lines_of-nil ∙ marks_from-nil (number + 1))
        ∙ append-nil w.done

    all_counted : length (lines_of text) ≡ number
    all_counted = omega (arith, w.count, ap length (ap lines_of none ∙ lines_of-nil))

    sound : (w.done ≢ []) → IsReadAs AreSound next_mark (topic_lines text) (Ok (topic_lines text))
    sound some = ((λ nil. some (sym whole ∙ nil)), rw whole w.read.sound)

    after_nil : (done : List TopicLine) → done ≡ [] → is_filled (after_last is_close done) ≡ true → ⊥
    after_nil done nil filled =
        let gone : after_last is_close done ≡ [] = drop_all _ done (omega (arith, ap length nil)) in
        let e : false ≡ true = rw gone at filled in
        cc e

    -- the text ends inside a block
    unended_in : (block : Block) → present ≡ Some block → IsEachBlockRead text (Err (record { line = number + 1; kind = kinds.Tag }))
    unended_in block is =
        let open_ = rw is at w.read.present in
        let filled : is_filled (after_last is_close w.done) ≡ true = open_.0 in
        inr (sound (λ nil. after_nil w.done nil filled), rw whole filled, rw all_counted refl)

    module _ (closed : present ≡ None) where
      nothing_after : after_last is_close w.done ≡ []
      nothing_after = rw closed at w.read.present

      cut_is : slice_split is_close w.done ≡ w.read.blocks ++ [] ∷ []
      cut_is = w.read.cut ∙ ap (λ last. w.read.blocks ++ last ∷ []) nothing_after

      no_blocks : (blocks : List (List TopicLine)) → [] ∷ [] ≡ blocks ++ [] ∷ [] → blocks ≡ []
      no_blocks [] is = refl
      no_blocks (block ∷ []) is = cc is
      no_blocks (block ∷ next ∷ blocks) is = cc is

      no_topics : (blocks : List (List TopicLine)) → blocks ≡ [] → map block_topic blocks ≡ []
      no_topics blocks nil = ap (map block_topic) nil

      mapped_nil : (blocks : List (List TopicLine)) → map block_topic blocks ≡ [] → blocks ≡ []
      mapped_nil [] nil = refl
      mapped_nil (block ∷ blocks) nil = cc nil

      some_done : (topics ≢ []) → w.done ≢ []
      some_done some nil =
          let one : [] ∷ [] ≡ w.read.blocks ++ [] ∷ [] = ap (slice_split is_close) (sym nil) ∙ cut_is in
          some (w.read.topics_are ∙ no_topics w.read.blocks (no_blocks w.read.blocks one))

      -- the topics of a whole text
      is_whole : (topics ≢ []) → IsEachBlockRead text (Ok topics)
      is_whole some =
          let all : filter is_filled (slice_split is_close w.done) ≡ w.read.blocks =
          ap (filter is_filled) cut_is ∙ filter-append is_filled w.read.blocks ([] ∷ []) ∙ append-nil (filter is_filled w.read.blocks) ∙ w.read.filled in
          (sound (some_done some), rw whole nothing_after, w.read.topics_are ∙ rw (whole, all) refl)

      -- a text of white space alone
      is_blank : topics ≡ [] → IsEachBlockRead text (Err (record { line = 0; kind = kinds.Empty }))
      is_blank nil =
          let blocks : w.read.blocks ≡ [] = mapped_nil w.read.blocks (sym w.read.topics_are ∙ nil) in
          let one : slice_split is_close w.done ≡ [] ∷ [] = cut_is ∙ ap (λ parts. parts ++ [] ∷ []) blocks in
          inl (inl (record { none = whole ∙ one_part is_close w.done one; line = refl; kind = refl }))

    finishes_cases : (o : Option Block) (found : List NumberedTopic) → present ≡ o → topics ≡ found → IsEachBlockRead text (finished_as number found o)
    finishes_cases (Some block) found is same = unended_in block is
    finishes_cases None [] closed nil = is_blank closed nil
    finishes_cases None (topic ∷ found) closed same = rw (← same) (is_whole closed (λ nil. filled_not_nil topic found (sym same ∙ nil)))
      where
        filled_not_nil : (topic : NumberedTopic) (found : List NumberedTopic) → (topic ∷ found) ≡ [] → ⊥
        filled_not_nil topic found e = cc e

    finishes_err : (end : FormatEnd) → OfFault end (λ fault. finished_as number topics present ≡ Err fault)
        → OfFault end (λ fault. IsEachBlockRead text (Err fault))
    finishes_err ends.Memory is = tt
    finishes_err (ends.Fault fault) is = rw is at (finishes_cases present topics refl refl)

    -- the whole text
    pub finishes : {X : Type 0} (r : Result X FormatEnd) (items : X → List NumberedTopic)
        → MatchResult r (λ found. finished_as number topics present ≡ Ok (items found))
        (λ end. OfFault end (λ fault. finished_as number topics present ≡ Err fault))
        → (IfOk r (λ found. IsEachBlockRead text (Ok (items found)))) × (IfErr r (λ end. OfFault end (λ fault. IsEachBlockRead text (Err fault))))
    finishes (Ok found) items is = (rw is at (finishes_cases present topics refl refl), tt)
    finishes (Err end) items is = (tt, finishes_err end is)

    same_topics : (o : Option Block) (found : List NumberedTopic) → finished_as number topics o ≡ Ok found → found ≡ topics
    same_topics o found is = same_cases o topics found is
      where
        same_cases : (o : Option Block) (topics found : List NumberedTopic) → finished_as number topics o ≡ Ok found → found ≡ topics
        same_cases (Some block) topics found is = cc is
        same_cases None [] found is = cc is
        same_cases None (topic ∷ topics) found is = let e : ◌≡◌ {A = Result (List NumberedTopic) FormatFault} (Ok (topic ∷ topics)) (Ok found) = is in
            let same : (topic ∷ topics) ≡ found = cc e in sym same

    -- the topics of the whole text, which are within the limits, and few
    pub ends_within : {X : Type 0} (r : Result X FormatEnd) (items : X → List NumberedTopic)
        → MatchResult r (λ found. finished_as number topics present ≡ Ok (items found))
        (λ end. OfFault end (λ fault. finished_as number topics present ≡ Err fault))
        → IfOk r (λ found. (are_sound (items found) ≡ true) × (length (items found) ≤ length text))
    ends_within (Ok found) items is =
        let same : items found ≡ topics = same_topics present (items found) is in
        (rw same w.limits.each, rw same (omega (arith, w.few)))
    ends_within (Err end) items is = tt

-- a line that is kept, or not
pub there_test : (kept line : List ℕ) (empty : Bool) → kept ≡ line → empty ≡ (length kept == 0) → empty ≡ false → is_filled line ≡ true
there_test kept [] empty is test no_ =
    let zero : (length kept == 0) ≡ true = rw is refl in
    let e : true ≡ false = sym zero ∙ sym test ∙ no_ in
    cc e
there_test kept (b ∷ line) empty is test no_ = refl

pub white_test : (kept line : List ℕ) (empty : Bool) → kept ≡ line → empty ≡ (length kept == 0) → empty ≡ true → is_filled line ≡ false
white_test kept [] empty is test is_empty = refl
white_test kept (b ∷ line) empty is test is_empty = absurd (omega (arith, eqb-true _ _ (sym test ∙ is_empty), ap length is))
