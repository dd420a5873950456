-- A topics text that is read up to a line.
use Rattle.std.proofs.Common.{◌≡◌, ◌≢◌, ℕ, true, false, List, [], ◌∷◌, ◌++◌, map, filter, refl, sym, ◌∙◌, ap, Option, Some, None, Ok, Err, Result}
use Rattle.std.specs.List.{after_last, slice_split}
use Rattle.std.proofs.lemmas.List.{map-append}
use Rattle.std.proofs.lemmas.List.Elements.{filter-append}
use Rattle.trec_formats.specs.declared.topics.topic_blocks.Block.{Block}
use Rattle.trec_formats.specs.declared.faults.Kind.{Kind}
use Rattle.trec_formats.specs.declared.faults.Kind.TheVariants as kinds
use Rattle.trec_formats.specs.Lines.{is_filled}
use Rattle.trec_formats.specs.TopicsFormat.TopicLines.{LineKind, Opens, Closes, Numbers, Begins, Skips, Says, TopicLine}
use Rattle.trec_formats.specs.TopicsFormat.TopicBlocks.{BlocksProgress, behind_end, block_behind, new_block, progress_behind, still_open, topic_at_end}
use Rattle.trec_formats.specs.TopicsFormat.Topics.{AreSound, NumberedTopic, block_topic, fault_behind, inner_fault, is_close, next_mark, unless_fault}
use Rattle.trec_formats.proofs.TopicTexts.BlockSteps.{Ends, IsBlockOf, Told, ends, opened_block, told}
use Rattle.trec_formats.proofs.LineTexts.Pieces.{after_last-no, after_last-yes, split-grows, split-yes}
use Rattle.trec_formats.proofs.TopicTexts.TopicReadings.{sound_format}

-- the block that the reader has open stands for these lines
abbrev pub IsOpen : Option Block → List TopicLine → Type 0
IsOpen None lines = lines ≡ []
IsOpen (Some block) lines = (is_filled lines ≡ true) × IsBlockOf block lines

-- the lines are read as these topics, and the block that is open
pub record AreReadAs (done : List TopicLine) (topics : List NumberedTopic) (open_ : Option Block) : Type 0 where
  pub sound : AreSound done done
  pub blocks : List (List TopicLine)
  pub cut : slice_split is_close done ≡ blocks ++ after_last is_close done ∷ []
  pub filled : filter is_filled blocks ≡ blocks
  pub topics_are : topics ≡ map block_topic blocks
  pub present : IsOpen open_ (after_last is_close done)

pub none_read : AreReadAs [] [] None
none_read = record { sound = sound_format.nil; blocks = []; cut = refl; filled = refl; topics_are = refl; present = refl }

-- what one more line was read as
abbrev pub ToldNext : List TopicLine → TopicLine → Result BlocksProgress Kind → Type 0
ToldNext done line (Ok next) = (next_mark done line ≡ Ok line) × AreReadAs (done ++ line ∷ []) next.0 next.1
ToldNext done line (Err kind) = next_mark done line ≡ Err kind

module _ (done : List TopicLine) (topics : List NumberedTopic) (n : ℕ) where
  -- a line that ends no block
  grows : (open_ next : Option Block) (line : TopicLine) (w : AreReadAs done topics open_) → is_close line ≡ false
      → next_mark done line ≡ Ok line → IsOpen next (after_last is_close done ++ line ∷ []) → AreReadAs (done ++ line ∷ []) topics next
  grows open_ next line w other is present =
      let block : after_last is_close (done ++ line ∷ []) ≡ after_last is_close done ++ line ∷ [] = after_last-no is_close done line other in
      record {
        sound = sound_format.push done done line line w.sound is;
        blocks = w.blocks;
        cut = split-grows is_close done line w.blocks (after_last is_close done) other w.cut ∙ ap (λ last. w.blocks ++ last ∷ []) (sym block);
        filled = w.filled;
        topics_are = w.topics_are;
        present = rw block present;
      }

  begins_step : (open_ : Option Block) (w : AreReadAs done topics open_) → after_last is_close done ≡ []
      → ToldNext done (n, Opens) (Ok (topics, Some new_block))
  begins_step open_ w none =
      let is : next_mark done (n, Opens) ≡ Ok (n, Opens) = rw none refl in
      (is, grows open_ (Some new_block) (n, Opens) w refl is (rw none (refl, opened_block n)))

  fault_is : (lines : List TopicLine) (line : TopicLine) → is_filled lines ≡ true → fault_behind lines line ≡ inner_fault lines line
  fault_is [] line filled = cc filled
  fault_is (first ∷ lines) line filled = refl

  -- what is said of a line of a block is said of it behind all lines
  next_is : (line : TopicLine) (o : Option Kind) → is_filled (after_last is_close done) ≡ true
      → inner_fault (after_last is_close done) line ≡ o → next_mark done line ≡ unless_fault line o
  next_is line o filled is = ap (unless_fault line) (fault_is (after_last is_close done) line filled ∙ is)

  filled_push : (lines : List TopicLine) (line : TopicLine) → is_filled (lines ++ line ∷ []) ≡ true
  filled_push [] line = refl
  filled_push (first ∷ lines) line = refl

  inner_step : (block : Block) (line : TopicLine) (w : AreReadAs done topics (Some block)) → is_close line ≡ false
      → (r : Result Block Kind) → Told r (after_last is_close done) line → ToldNext done line (still_open topics r)
  inner_step block line w other (Ok next) is =
      let read : next_mark done line ≡ Ok line = next_is line None w.present.0 is.0 in
      (read, grows (Some block) (Some next) line w other read (filled_push (after_last is_close done) line, is.1))
  inner_step block line w other (Err kind) is = next_is line (Some kind) w.present.0 is

  filter_one : (lines : List TopicLine) → is_filled lines ≡ true → filter is_filled (lines ∷ []) ≡ lines ∷ []
  filter_one [] filled = cc filled
  filter_one (first ∷ lines) filled = refl

  end_step : (block : Block) (w : AreReadAs done topics (Some block)) (o : Option NumberedTopic)
      → Ends o (after_last is_close done) n → ToldNext done (n, Closes) (behind_end topics o)
  end_step block w (Some topic) is =
      let lines : List TopicLine = after_last is_close done in
      let read : next_mark done (n, Closes) ≡ Ok (n, Closes) = next_is (n, Closes) None w.present.0 is.0 in
      let none : after_last is_close (done ++ (n, Closes) ∷ []) ≡ [] = after_last-yes is_close done (n, Closes) refl in (
        read,
        record {
          sound = sound_format.push done done (n, Closes) (n, Closes) w.sound read;
          blocks = w.blocks ++ lines ∷ [];
          cut = split-yes is_close done (n, Closes) refl ∙ ap (λ parts. parts ++ [] ∷ []) w.cut ∙ ap (λ last. w.blocks ++ lines ∷ [] ++ last ∷ []) (sym none);
          filled = filter-append is_filled w.blocks (lines ∷ []) ∙ rw (w.filled, filter_one lines w.present.0) refl;
          topics_are = rw (w.topics_are, is.1) (sym (map-append block_topic w.blocks (lines ∷ [])));
          present = none;
        },
      )
  end_step block w None is = next_is (n, Closes) (Some kinds.Tag) w.present.0 is

  -- a line where no block is open
  outside : (mark : LineKind) (w : AreReadAs done topics None) → mark ≢ Opens → ToldNext done (n, mark) (Err kinds.Tag)
  outside Opens w other = absurd (other refl)
  outside Closes w other = rw w.present refl
  outside (Numbers text) w other = rw w.present refl
  outside (Begins part text) w other = rw w.present refl
  outside Skips w other = rw w.present refl
  outside (Says text) w other = rw w.present refl

  inside : (block : Block) (mark : LineKind) (w : AreReadAs done topics (Some block)) → mark ≢ Closes → is_close (n, mark) ≡ false
      → ToldNext done (n, mark) (still_open topics (block_behind block (n, mark)))
  inside block mark w other is =
      inner_step block (n, mark) w is (block_behind block (n, mark)) (told block (after_last is_close done) (n, mark) w.present.1 other)

  -- one more line
  pub told_next : (open_ : Option Block) (mark : LineKind) → AreReadAs done topics open_ → ToldNext done (n, mark) (progress_behind topics open_ (n, mark))
  told_next None Opens w = begins_step None w w.present
  told_next None Closes w = outside Closes w (λ e. cc)
  told_next None (Numbers text) w = outside (Numbers text) w (λ e. cc)
  told_next None (Begins part text) w = outside (Begins part text) w (λ e. cc)
  told_next None Skips w = outside Skips w (λ e. cc)
  told_next None (Says text) w = outside (Says text) w (λ e. cc)
  told_next (Some block) Opens w = inside block Opens w (λ e. cc) refl
  told_next (Some block) Closes w = end_step block w (topic_at_end block) (ends block (after_last is_close done) n w.present.1)
  told_next (Some block) (Numbers text) w = inside block (Numbers text) w (λ e. cc) refl
  told_next (Some block) (Begins part text) w = inside block (Begins part text) w (λ e. cc) refl
  told_next (Some block) Skips w = inside block Skips w (λ e. cc) refl
  told_next (Some block) (Says text) w = inside block (Says text) w (λ e. cc) refl
