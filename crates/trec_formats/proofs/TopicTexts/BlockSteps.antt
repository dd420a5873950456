-- A block as its reader keeps it stands for the lines of the block.
use Rattle.std.proofs.Common.{◌≡◌, ◌≢◌, inl, inr, ℕ, Bool, true, false, cond, List, [], ◌∷◌, ◌++◌, refl, sym, ◌∙◌, ap, Option, Some, None, Ok, Err, Result, unwrap_or}
use Rattle.std.specs.Option.{is_some, option_map}
use Rattle.decimal_rank.proofs.Lists.{none_is}
use Rattle.trec_formats.specs.declared.topics.topic_blocks.Block.{Block}
use Rattle.trec_formats.specs.declared.topics.topic_lines.TopicField.{TopicField}
use Rattle.trec_formats.specs.declared.topics.topic_lines.TopicField.TheVariants.{Title, Desc, Narr}
use Rattle.trec_formats.specs.TopicsFormat.FieldTexts.{with_more_text}
use Rattle.trec_formats.specs.declared.faults.Kind.{Kind}
use Rattle.trec_formats.specs.declared.faults.Kind.TheVariants as kinds
use Rattle.trec_formats.specs.Lines.{is_filled}
use Rattle.trec_formats.specs.TopicsFormat.TopicLines.{Opens, Closes, Numbers, Begins, Skips, Says, TopicLine}
use Rattle.trec_formats.specs.Names.{is_name}
use Rattle.trec_formats.specs.TopicsFormat.TopicBlocks.{begun_in, block_behind, ended_at, is_long_in, part_in, said_at, said_in, topic_at_end, within_limits}
use Rattle.trec_formats.specs.TopicsFormat.Topics.{NumberedTopic, block_number, block_topic, has_part, inner_fault, is_long, length_fault, part_text, part_texts, same_part}
use Rattle.trec_formats.proofs.TopicTexts.BlockTexts.{is_says, starts, goes_on, goes_on_begun, goes_on_ends, goes_on_has, goes_on_more, joined, joined_push, number_kept, number_new, same_part-true, texts_begun, texts_kept, texts_more}

-- the kept text of a part with these texts, where it was begun
abbrev pub kept_text : List (List ℕ) → Option (List ℕ)
kept_text [] = None
kept_text (text ∷ texts) = Some (joined (text ∷ texts))

abbrev pub kept : TopicField → List TopicLine → Option (List ℕ)
kept part lines = kept_text (part_texts part lines)

abbrev pub is_at : TopicField → Option TopicField → Bool
is_at part None = false
is_at part (Some other) = same_part part other

-- what the reader keeps of a block with these lines
pub record IsBlockOf (block : Block) (lines : List TopicLine) : Type 0 where
  pub number : block.number ≡ block_number lines
  pub parts : (part : TopicField) → part_in part block ≡ kept part lines
  pub present : (part : TopicField) → is_at part block.present ≡ goes_on part lines

pub opened_block : (n : ℕ) → IsBlockOf (record { number = None; title = None; desc = None; narr = None; present = None }) ((n, Opens) ∷ [])
opened_block n = record {
  number = refl;
  parts = λ part. empty_part part;
  present = λ part. refl;
}
  where
    empty_part : (part : TopicField) → part_in part (record { number = None; title = None; desc = None; narr = None; present = None }) ≡ None
    empty_part Title = refl
    empty_part Desc = refl
    empty_part Narr = refl

kept_none : (texts : List (List ℕ)) → is_some (kept_text texts) ≡ false → texts ≡ []
kept_none [] none = refl
kept_none (text ∷ texts) none = cc none

kept_filled : (texts : List (List ℕ)) → is_some (kept_text texts) ≡ is_filled texts
kept_filled [] = refl
kept_filled (text ∷ texts) = refl

kept_or : (texts : List (List ℕ)) → unwrap_or (kept_text texts) [] ≡ joined texts
kept_or [] = refl
kept_or (text ∷ texts) = refl

kept_push : (texts : List (List ℕ)) (text : List ℕ) → is_filled texts ≡ true
    → kept_text (texts ++ text ∷ []) ≡ option_map (λ kept. with_more_text kept text) (kept_text texts)
kept_push [] text filled = cc filled
kept_push (first ∷ texts) text filled = ap (λ t. let o : Option (List ℕ) = Some t in o) (joined_push (first ∷ texts) text)

kept_first : (text : List ℕ) → kept_text (text ∷ []) ≡ Some (with_more_text [] text)
kept_first [] = refl
kept_first (b ∷ text) = refl

pub begun_part : (q p : TopicField) (block : Block) (text : List ℕ)
    → part_in q (begun_in block p text) ≡ cond (same_part q p) (Some (with_more_text [] text)) (part_in q block)
begun_part Title Title block text = refl
begun_part Title Desc block text = refl
begun_part Title Narr block text = refl
begun_part Desc Title block text = refl
begun_part Desc Desc block text = refl
begun_part Desc Narr block text = refl
begun_part Narr Title block text = refl
begun_part Narr Desc block text = refl
begun_part Narr Narr block text = refl

begun_present : (p : TopicField) (block : Block) (text : List ℕ) → (begun_in block p text).present ≡ Some p
begun_present Title block text = refl
begun_present Desc block text = refl
begun_present Narr block text = refl

pub begun_number : (p : TopicField) (block : Block) (text : List ℕ) → (begun_in block p text).number ≡ block.number
begun_number Title block text = refl
begun_number Desc block text = refl
begun_number Narr block text = refl

pub said_part : (q : TopicField) (at : Option TopicField) (block : Block) (text : List ℕ)
    → part_in q (said_at at block text) ≡ cond (is_at q at) (option_map (λ kept. with_more_text kept text) (part_in q block)) (part_in q block)
said_part Title None block text = refl
said_part Title (Some Title) block text = refl
said_part Title (Some Desc) block text = refl
said_part Title (Some Narr) block text = refl
said_part Desc None block text = refl
said_part Desc (Some Title) block text = refl
said_part Desc (Some Desc) block text = refl
said_part Desc (Some Narr) block text = refl
said_part Narr None block text = refl
said_part Narr (Some Title) block text = refl
said_part Narr (Some Desc) block text = refl
said_part Narr (Some Narr) block text = refl

said_present : (at : Option TopicField) (block : Block) (text : List ℕ) → (said_at at block text).present ≡ block.present
said_present None block text = refl
said_present (Some Title) block text = refl
said_present (Some Desc) block text = refl
said_present (Some Narr) block text = refl

pub said_number : (at : Option TopicField) (block : Block) (text : List ℕ) → (said_at at block text).number ≡ block.number
said_number None block text = refl
said_number (Some Title) block text = refl
said_number (Some Desc) block text = refl
said_number (Some Narr) block text = refl

module _ (block : Block) (lines : List TopicLine) (w : IsBlockOf block lines) (n : ℕ) where
  -- a part that the line neither begins nor goes on with
  stays : (part : TopicField) (line : TopicLine) → starts part line ≡ false → is_says line ≡ false → part_in part block ≡ kept part (lines ++ line ∷ [])
  stays part line new other = w.parts part ∙ ap kept_text (sym (texts_kept part lines line new (inr other)))

  numbered_parts : (part : TopicField) (text : List ℕ) → part_in part (record block { number = Some (n, text); present = None }) ≡ part_in part block
  numbered_parts Title text = refl
  numbered_parts Desc text = refl
  numbered_parts Narr text = refl

  block_numbered : (text : List ℕ) → is_some block.number ≡ false
      → IsBlockOf (record block { number = Some (n, text); present = None }) (lines ++ (n, Numbers text) ∷ [])
  block_numbered text none = record {
    number = sym (number_new lines n text (none_is (block_number lines) (rw (← w.number) none)));
    parts = λ part. numbered_parts part text ∙ stays part (n, Numbers text) refl refl;
    present = λ part. sym (goes_on_ends part lines (n, Numbers text) refl refl);
  }

  skipped_parts : (part : TopicField) → part_in part (record block { present = None }) ≡ part_in part block
  skipped_parts Title = refl
  skipped_parts Desc = refl
  skipped_parts Narr = refl

  block_skipped : IsBlockOf (record block { present = None }) (lines ++ (n, Skips) ∷ [])
  block_skipped = record {
    number = w.number ∙ sym (number_kept lines (n, Skips) refl);
    parts = λ part. skipped_parts part ∙ stays part (n, Skips) refl refl;
    present = λ part. sym (goes_on_ends part lines (n, Skips) refl refl);
  }

  begun_step : (q p : TopicField) (text : List ℕ) (t : Bool) → same_part q p ≡ t → part_texts p lines ≡ []
      → cond t (Some (with_more_text [] text)) (part_in q block) ≡ kept q (lines ++ (n, Begins p text) ∷ [])
  begun_step q p text true is none =
      let same : q ≡ p = same_part-true q p is in
      let texts : part_texts q (lines ++ (n, Begins p text) ∷ []) ≡ text ∷ [] = rw same (texts_begun p lines n text none) in
      sym (ap kept_text texts ∙ kept_first text)
  begun_step q p text false is none = stays q (n, Begins p text) is refl

  present_step : (q p : TopicField) (text : List ℕ) (t : Bool) → same_part q p ≡ t → part_texts p lines ≡ [] → t ≡ goes_on q (lines ++ (n, Begins p text) ∷ [])
  present_step q p text true is none =
      let same : q ≡ p = same_part-true q p is in
      rw same (sym (goes_on_begun p lines n text none))
  present_step q p text false is none = sym (goes_on_ends q lines (n, Begins p text) is refl)

  no_texts : (p : TopicField) → is_some (part_in p block) ≡ false → part_texts p lines ≡ []
  no_texts p none = kept_none (part_texts p lines) (rw (← w.parts p) none)

  block_begun : (p : TopicField) (text : List ℕ) → is_some (part_in p block) ≡ false → IsBlockOf (begun_in block p text) (lines ++ (n, Begins p text) ∷ [])
  block_begun p text none = record {
    number = begun_number p block text ∙ w.number ∙ sym (number_kept lines (n, Begins p text) refl);
    parts = λ q. begun_part q p block text ∙ begun_step q p text (same_part q p) refl (no_texts p none);
    present = λ q. ap (is_at q) (begun_present p block text) ∙ present_step q p text (same_part q p) refl (no_texts p none);
  }

  said_step : (q : TopicField) (text : List ℕ) (t : Bool) → goes_on q lines ≡ t
      → cond t (option_map (λ kept. with_more_text kept text) (part_in q block)) (part_in q block) ≡ kept q (lines ++ (n, Says text) ∷ [])
  said_step q text true on =
      ap (option_map (λ kept. with_more_text kept text)) (w.parts q)
      ∙ sym (ap kept_text (texts_more q lines n text on) ∙ kept_push (part_texts q lines) text (goes_on_has q lines on))
  said_step q text false on = w.parts q ∙ ap kept_text (sym (texts_kept q lines (n, Says text) refl (inl on)))

  block_said : (text : List ℕ) → IsBlockOf (said_in block text) (lines ++ (n, Says text) ∷ [])
  block_said text = record {
    number = said_number block.present block text ∙ w.number ∙ sym (number_kept lines (n, Says text) refl);
    parts = λ q. said_part q block.present block text ∙ said_step q text (is_at q block.present) (sym (w.present q));
    present = λ q. ap (is_at q) (said_present block.present block text) ∙ w.present q ∙ sym (goes_on_more q lines n text);
  }

module _ (block : Block) (lines : List TopicLine) (w : IsBlockOf block lines) where
  kept_is : (part : TopicField) → unwrap_or (part_in part block) [] ≡ part_text part lines
  kept_is part = ap (λ o. unwrap_or o []) (w.parts part) ∙ kept_or (part_texts part lines)

  long_is : is_long_in block ≡ is_long lines
  long_is =
      let title : unwrap_or block.title [] ≡ part_text Title lines = kept_is Title in
      let desc : unwrap_or block.desc [] ≡ part_text Desc lines = kept_is Desc in
      let narr : unwrap_or block.narr [] ≡ part_text Narr lines = kept_is Narr in
      rw (title, desc, narr) refl

  has_is : (part : TopicField) → is_some (part_in part block) ≡ has_part part lines
  has_is part = ap is_some (w.parts part) ∙ kept_filled (part_texts part lines)

-- what one more line of a block was read as: the block behind it, or what is wrong with it
abbrev pub Told : Result Block Kind → List TopicLine → TopicLine → Type 0
Told (Ok next) lines line = (inner_fault lines line ≡ None) × IsBlockOf next (lines ++ line ∷ [])
Told (Err kind) lines line = inner_fault lines line ≡ Some kind

limits_step : (next : Block) (lines : List TopicLine) (line : TopicLine) (t : Bool) → is_long_in next ≡ t → IsBlockOf next (lines ++ line ∷ [])
    → inner_fault lines line ≡ length_fault (lines ++ line ∷ []) → Told (let r : Result Block Kind = cond t (Err kinds.TooLong) (Ok next) in r) lines line
limits_step next lines line true is w fault =
    let long : is_long (lines ++ line ∷ []) ≡ true = sym (long_is next (lines ++ line ∷ []) w) ∙ is in
    rw (fault, long) refl
limits_step next lines line false is w fault =
    let long : is_long (lines ++ line ∷ []) ≡ false = sym (long_is next (lines ++ line ∷ []) w) ∙ is in
    (rw (fault, long) refl, w)

number_step : (block : Block) (lines : List TopicLine) (n : ℕ) (text : List ℕ) (w : IsBlockOf block lines) (t s : Bool) → is_some block.number ≡ t
    → is_name text ≡ s
    → Told (let r : Result Block Kind = cond t (Err kinds.Tag) (cond s (Ok (record block { number = Some (n, text); present = None })) (Err kinds.Topic)) in r)
    lines (n, Numbers text)
number_step block lines n text w true s there named =
    let is : is_some (block_number lines) ≡ true = rw (← w.number) there in
    rw is refl
number_step block lines n text w false true none named =
    let is : is_some (block_number lines) ≡ false = rw (← w.number) none in
    (rw (is, named) refl, block_numbered block lines w n text none)
number_step block lines n text w false false none named =
    let is : is_some (block_number lines) ≡ false = rw (← w.number) none in
    rw (is, named) refl

begins_step : (block : Block) (lines : List TopicLine) (n : ℕ) (part : TopicField) (text : List ℕ) (w : IsBlockOf block lines) (t : Bool)
    → is_some (part_in part block) ≡ t
    → Told (let r : Result Block Kind = cond t (Err kinds.Tag) (within_limits (begun_in block part text)) in r) lines (n, Begins part text)
begins_step block lines n part text w true there =
    let is : has_part part lines ≡ true = sym (has_is block lines w part) ∙ there in
    rw is refl
begins_step block lines n part text w false none =
    let is : has_part part lines ≡ false = sym (has_is block lines w part) ∙ none in
    limits_step (begun_in block part text) lines (n, Begins part text) (is_long_in (begun_in block part text)) refl
    (block_begun block lines w n part text none) (rw is refl)

-- one more line that doesn't end the block
pub told : (block : Block) (lines : List TopicLine) (line : TopicLine) → IsBlockOf block lines → line.1 ≢ Closes → Told (block_behind block line) lines line
told block lines (n, Opens) w open_ = refl
told block lines (n, Closes) w open_ = absurd (open_ refl)
told block lines (n, Numbers text) w open_ = number_step block lines n text w (is_some block.number) (is_name text) refl refl
told block lines (n, Begins part text) w open_ = begins_step block lines n part text w (is_some (part_in part block)) refl
told block lines (n, Skips) w open_ = (refl, block_skipped block lines w n)
told block lines (n, Says text) w open_ =
    limits_step (said_in block text) lines (n, Says text) (is_long_in (said_in block text)) refl (block_said block lines w n text) refl

-- what the end of a block is read as
abbrev pub Ends : Option NumberedTopic → List TopicLine → ℕ → Type 0
Ends (Some topic) lines n = (inner_fault lines (n, Closes) ≡ None) × (topic ≡ block_topic lines)
Ends None lines n = inner_fault lines (n, Closes) ≡ Some kinds.Tag

ends_step : (block : Block) (lines : List TopicLine) (n : ℕ) (w : IsBlockOf block lines) (number : Option (ℕ × List ℕ)) (title : Option (List ℕ))
    → block.number ≡ number → block.title ≡ title → Ends (ended_at number title block) lines n
ends_step block lines n w (Some (k, id)) (Some title) has_number has_title =
    let number : block_number lines ≡ Some (k, id) = sym w.number ∙ has_number in
    let there : has_part Title lines ≡ true = sym (has_is block lines w Title) ∙ ap is_some has_title in
    let text : title ≡ part_text Title lines = ap (λ o. unwrap_or o []) (sym has_title) ∙ kept_is block lines w Title in
    let desc : unwrap_or block.desc [] ≡ part_text Desc lines = kept_is block lines w Desc in
    let narr : unwrap_or block.narr [] ≡ part_text Narr lines = kept_is block lines w Narr in
    (rw (number, there) refl, rw (number, text, desc, narr) refl)
ends_step block lines n w (Some (k, id)) None has_number has_title =
    let number : block_number lines ≡ Some (k, id) = sym w.number ∙ has_number in
    let there : has_part Title lines ≡ false = sym (has_is block lines w Title) ∙ ap is_some has_title in
    rw (number, there) refl
ends_step block lines n w None title has_number has_title =
    let number : block_number lines ≡ None = sym w.number ∙ has_number in
    rw number refl

pub ends : (block : Block) (lines : List TopicLine) (n : ℕ) → IsBlockOf block lines → Ends (topic_at_end block) lines n
ends block lines n w = ends_step block lines n w block.number block.title refl refl
