-- The topics that are read, and the block that is open, keep within the limits of the format.
use Rattle.std.proofs.Common.{◌≡◌, ◌≢◌, ◌||◌, ◌+◌, ◌<◌, ◌≤◌, ℕ, Bool, true, false, cond, List, [], ◌∷◌, ◌++◌, length, map, take, drop, get_or, refl, sym, ◌∙◌, ap, arith, Option, Some, None, Ok, Err, Result, nat_le, nat_lt, unwrap_or, leb-true, le-leb, ltb-false}
use Rattle.std.specs.Prelude.{AllPairs}
use Rattle.std.specs.List.{list_all}
use Rattle.std.specs.Option.{is_some, option_map}
use Rattle.std.proofs.lemmas.List.{drop_more, get_or-map, get_or-take, length-map, length-take-le, length_push, take-append-drop}
use Rattle.std.proofs.lemmas.List.Folds.{list_all-append, list_any_at}
use Rattle.std.proofs.lemmas.Slice.Eq.{bytes_eq-Decides}
use Rattle.std.proofs.lemmas.Bool.{and_parts, or_parts}
use Rattle.trec_formats.specs.declared.faults.Kind.{Kind}
use Rattle.trec_formats.specs.declared.faults.Kind.TheVariants as kinds
use Rattle.trec_formats.specs.declared.topics.topic_blocks.Block.{Block}
use Rattle.trec_formats.specs.declared.topics.topic_lines.TopicField.{TopicField}
use Rattle.trec_formats.specs.declared.topics.topic_lines.TopicField.TheVariants.{Title, Desc, Narr}
use Rattle.trec_formats.specs.declared.topics.Topic.{Topic}
use Rattle.trec_formats.specs.Faults.{IsDistinct}
use Rattle.trec_formats.specs.TopicsFormat.FieldTexts.{with_more_text}
use Rattle.trec_formats.specs.Lines.{is_white_space}
use Rattle.trec_formats.specs.TopicsFormat.TopicLines.{Opens, Closes, Numbers, Begins, Skips, Says, TopicLine, shown_byte}
use Rattle.trec_formats.specs.Names.{is_between, is_name}
use Rattle.trec_formats.specs.TopicsFormat.SoundTopics.{AreSoundTopics, is_kept, is_sound_topic}
use Rattle.trec_formats.specs.TopicsFormat.TopicBlocks.{BlocksProgress, begun_in, behind_end, block_behind, ended_at, is_long_in, new_block, part_in, progress_behind, said_in, still_open, topic_at_end, within_limits}
use Rattle.trec_formats.specs.TopicsFormat.Topics.{NumberedTopic, same_id, same_part}
use Rattle.trec_formats.proofs.TopicTexts.BlockSteps.{begun_number, begun_part, is_at, said_number, said_part}
use Rattle.trec_formats.proofs.RepeatedDocuments.Repeats.{find_some}

abbrev pub is_shown : List ℕ → Bool
is_shown text = list_all (is_between 32 126) text

shown_step : (b : ℕ) (t s : Bool) → is_between 33 126 b ≡ s → (let n : ℕ = cond t 32 (cond s b 63) in is_between 32 126 n) ≡ true
shown_step b true s is = refl
shown_step b false true is =
    let p = and_parts (nat_le 33 b) (nat_le b 126) is in
    let low : nat_le 32 b ≡ true = le-leb _ _ (omega (arith, leb-true _ _ p.0)) in
    rw (low, p.1) refl
shown_step b false false is = refl

all_shown : (text : List ℕ) → is_shown (map shown_byte text) ≡ true
all_shown [] = refl
all_shown (b ∷ text) = rw (shown_step b (is_white_space b) (is_between 33 126 b) refl, all_shown text) refl

added_shown : (kept text : List ℕ) → is_shown kept ≡ true → is_shown (with_more_text kept text) ≡ true
added_shown kept [] is = is
added_shown [] (b ∷ text) is = all_shown (b ∷ text)
added_shown (k ∷ kept) (b ∷ text) is = list_all-append (is_between 32 126) (k ∷ kept) (32 ∷ map shown_byte (b ∷ text)) ∙ rw (is, all_shown (b ∷ text)) refl

abbrev is_named : Option (ℕ × List ℕ) → Bool
is_named None = true
is_named (Some (n, id)) = is_name id

-- the bytes of a block
pub record IsPlain (block : Block) : Type 0 where
  pub named : is_named block.number ≡ true
  pub shown : (part : TopicField) → is_shown (unwrap_or (part_in part block) []) ≡ true

abbrev pub IsGood : Block → Type 0
IsGood block = IsPlain block × (is_long_in block ≡ false)

abbrev GoodBlock : Result Block Kind → Type 0
GoodBlock (Ok block) = IsGood block
GoodBlock (Err kind) = Unit {0}

new_shown : (part : TopicField) → is_shown (unwrap_or (part_in part new_block) []) ≡ true
new_shown Title = refl
new_shown Desc = refl
new_shown Narr = refl

good_new : IsGood new_block
good_new = (record { named = refl; shown = new_shown }, refl)

module _ (block : Block) (w : IsPlain block) where
  same_shown : (other : Block) → other.title ≡ block.title → other.desc ≡ block.desc → other.narr ≡ block.narr
      → (part : TopicField) → is_shown (unwrap_or (part_in part other) []) ≡ true
  same_shown other title desc narr Title = rw title (w.shown Title)
  same_shown other title desc narr Desc = rw desc (w.shown Desc)
  same_shown other title desc narr Narr = rw narr (w.shown Narr)

  begun_shown : (q : TopicField) (text : List ℕ) (t : Bool)
      → is_shown (unwrap_or (let o : Option (List ℕ) = cond t (Some (with_more_text [] text)) (part_in q block) in o) []) ≡ true
  begun_shown q text true = added_shown [] text refl
  begun_shown q text false = w.shown q

  plain_begun : (p : TopicField) (text : List ℕ) → IsPlain (begun_in block p text)
  plain_begun p text = record {
    named = rw (begun_number p block text) w.named;
    shown = λ q. rw (begun_part q p block text) (begun_shown q text (same_part q p));
  }

  mapped_shown : (field : Option (List ℕ)) (text : List ℕ) → is_shown (unwrap_or field []) ≡ true
      → is_shown (unwrap_or (option_map (λ kept. with_more_text kept text) field) []) ≡ true
  mapped_shown None text is = refl
  mapped_shown (Some kept) text is = added_shown kept text is

  said_shown : (q : TopicField) (text : List ℕ) (t : Bool)
      → is_shown (unwrap_or (let o : Option (List ℕ) = cond t (option_map (λ kept. with_more_text kept text) (part_in q block)) (part_in q block) in o) [])
      ≡ true
  said_shown q text true = mapped_shown (part_in q block) text (w.shown q)
  said_shown q text false = w.shown q

  plain_said : (text : List ℕ) → IsPlain (said_in block text)
  plain_said text = record {
    named = rw (said_number block.present block text) w.named;
    shown = λ q. rw (said_part q block.present block text) (said_shown q text (is_at q block.present));
  }

good_limits : (block : Block) (t : Bool) → is_long_in block ≡ t → IsPlain block
    → GoodBlock (let r : Result Block Kind = cond t (Err kinds.TooLong) (Ok block) in r)
good_limits block true is w = tt
good_limits block false is w = (w, is)

good_number : (block : Block) (n : ℕ) (text : List ℕ) → IsGood block → (t s : Bool) → is_name text ≡ s
    → GoodBlock (let r : Result Block Kind =
    cond t (Err kinds.Tag) (cond s (Ok (record block { number = Some (n, text); present = None })) (Err kinds.Topic)) in r)
good_number block n text w true s is = tt
good_number block n text w false true is =
    (record { named = is; shown = same_shown block w.0 (record block { number = Some (n, text); present = None }) refl refl refl }, w.1)
good_number block n text w false false is = tt

good_part : (block : Block) (part : TopicField) (text : List ℕ) → IsGood block → (t : Bool)
    → GoodBlock (let r : Result Block Kind = cond t (Err kinds.Tag) (within_limits (begun_in block part text)) in r)
good_part block part text w true = tt
good_part block part text w false = good_limits (begun_in block part text) (is_long_in (begun_in block part text)) refl (plain_begun block w.0 part text)

good_line : (block : Block) (line : TopicLine) → IsGood block → GoodBlock (block_behind block line)
good_line block (n, Opens) w = tt
good_line block (n, Closes) w = tt
good_line block (n, Numbers text) w = good_number block n text w (is_some block.number) (is_name text) refl
good_line block (n, Begins part text) w = good_part block part text w (is_some (part_in part block))
good_line block (n, Skips) w = (record { named = w.0.named; shown = same_shown block w.0 (record block { present = None }) refl refl refl }, w.1)
good_line block (n, Says text) w = good_limits (said_in block text) (is_long_in (said_in block text)) refl (plain_said block w.0 text)

abbrev GoodEnd : Option NumberedTopic → Type 0
GoodEnd None = Unit {0}
GoodEnd (Some topic) = is_sound_topic topic.1 ≡ true

within : (most n : ℕ) → nat_lt most n ≡ false → nat_le n most ≡ true
within most n is = le-leb _ _ (ltb-false _ _ is)

kept_is : (most : ℕ) (text : List ℕ) → nat_lt most (length text) ≡ false → is_shown text ≡ true → is_kept most text ≡ true
kept_is most text short shown = rw (within most (length text) short, shown) refl

good_end_step : (block : Block) → IsGood block → (number : Option (ℕ × List ℕ)) (title : Option (List ℕ))
    → block.number ≡ number → block.title ≡ title → GoodEnd (ended_at number title block)
good_end_step block w (Some (k, id)) (Some title) has_number has_title =
    let named : is_name id ≡ true = rw has_number at w.0.named in
    let rest = or_parts (nat_lt 1000 (length (unwrap_or block.title [])) || nat_lt 8192 (length (unwrap_or block.desc [])))
    (nat_lt 8192 (length (unwrap_or block.narr []))) w.1 in
    let first = or_parts (nat_lt 1000 (length (unwrap_or block.title []))) (nat_lt 8192 (length (unwrap_or block.desc []))) rest.0 in
    let title_short : nat_lt 1000 (length title) ≡ false = rw has_title at first.0 in
    let title_shown : is_shown title ≡ true = rw has_title at w.0.shown Title in
    let title_kept : is_kept 1000 title ≡ true = kept_is 1000 title title_short title_shown in
    let desc : is_kept 8192 (unwrap_or block.desc []) ≡ true = kept_is 8192 (unwrap_or block.desc []) first.1 (w.0.shown Desc) in
    let narr : is_kept 8192 (unwrap_or block.narr []) ≡ true = kept_is 8192 (unwrap_or block.narr []) rest.1 (w.0.shown Narr) in
    rw (named, title_kept, desc, narr) refl
good_end_step block w (Some (k, id)) None has_number has_title = tt
good_end_step block w None title has_number has_title = tt

good_end : (block : Block) → IsGood block → GoodEnd (topic_at_end block)
good_end block w = good_end_step block w block.number block.title refl refl

abbrev pub IsGoodOpen : Option Block → Type 0
IsGoodOpen None = Unit {0}
IsGoodOpen (Some block) = IsGood block

abbrev pub are_sound : List NumberedTopic → Bool
are_sound topics = list_all (λ topic. is_sound_topic topic.1) topics

-- these topics and this block
pub record AreWithin (topics : List NumberedTopic) (present : Option Block) : Type 0 where
  pub each : are_sound topics ≡ true
  pub open_block : IsGoodOpen present

pub none_within : AreWithin [] None
none_within = record { each = refl; open_block = tt }

abbrev pub WithinNext : List NumberedTopic → Result BlocksProgress Kind → Type 0
WithinNext topics (Ok next) = AreWithin next.0 next.1 × (length next.0 ≤ length topics + 1)
WithinNext topics (Err kind) = Unit {0}

module _ (topics : List NumberedTopic) (each : are_sound topics ≡ true) where
  still_within : (r : Result Block Kind) → GoodBlock r → WithinNext topics (still_open topics r)
  still_within (Ok block) w = (record { each = each; open_block = w }, omega arith)
  still_within (Err kind) w = tt

  end_within : (o : Option NumberedTopic) → GoodEnd o → WithinNext topics (behind_end topics o)
  end_within None w = tt
  end_within (Some topic) w = (
    record { each = list_all-append (λ (t : NumberedTopic). is_sound_topic t.1) topics (topic ∷ []) ∙ rw (each, w) refl; open_block = tt },
    omega (arith, length_push topics topic),
  )

  -- one more line
  pub within_next : (present : Option Block) (line : TopicLine) → IsGoodOpen present → WithinNext topics (progress_behind topics present line)
  within_next None (n, Opens) w = (record { each = each; open_block = good_new }, omega arith)
  within_next None (n, Closes) w = tt
  within_next None (n, Numbers text) w = tt
  within_next None (n, Begins part text) w = tt
  within_next None (n, Skips) w = tt
  within_next None (n, Says text) w = tt
  within_next (Some block) (n, Opens) w = still_within (block_behind block (n, Opens)) (good_line block (n, Opens) w)
  within_next (Some block) (n, Closes) w = end_within (topic_at_end block) (good_end block w)
  within_next (Some block) (n, Numbers text) w = still_within (block_behind block (n, Numbers text)) (good_line block (n, Numbers text) w)
  within_next (Some block) (n, Begins part text) w = still_within (block_behind block (n, Begins part text)) (good_line block (n, Begins part text) w)
  within_next (Some block) (n, Skips) w = still_within (block_behind block (n, Skips)) (good_line block (n, Skips) w)
  within_next (Some block) (n, Says text) w = still_within (block_behind block (n, Says text)) (good_line block (n, Says text) w)

abbrev pub topic_in : NumberedTopic → Topic
topic_in topic = topic.1

ids_differ : (found : List NumberedTopic) → IsDistinct same_id found → AllPairs (λ (a b : Topic). a.id ≢ b.id) (map topic_in found)
ids_differ found distinct i j d below within same =
    let e : NumberedTopic = (0, d) in
    let long : length (map topic_in found) ≡ length found = length-map found topic_in in
    let again : NumberedTopic = get_or found j e in
    let first_id : (get_or (map topic_in found) i d).id ≡ (get_or found i e).1.id =
    ap (λ (t : Topic). t.id) (get_or-map topic_in found i e d (omega (arith, below, within, long))) in
    let again_id : (get_or (map topic_in found) j d).id ≡ again.1.id =
    ap (λ (t : Topic). t.id) (get_or-map topic_in found j e d (omega (arith, within, long))) in
    let ids : again.1.id ≡ (get_or found i e).1.id = sym again_id ∙ sym same ∙ first_id in
    let short : i < length (take j found) = omega (arith, below, within, long, length-take-le j found (omega (arith, within, long))) in
    let here : same_id again (get_or (take j found) i e) ≡ true = rw (get_or-take j found i e below) ((bytes_eq-Decides _ _).1 ids) in
    let first = find_some (same_id again) (take j found) (list_any_at (same_id again) (take j found) i e short here) in
    distinct first.0 again (record {
      before = take j found;
      after = drop (j + 1) found;
      cut = sym (take-append-drop j found) ∙ ap (λ rest. take j found ++ rest) (drop_more found j e (omega (arith, within, long)));
      earlier = first.1;
    })

each_sound : (found : List NumberedTopic) → are_sound found ≡ true → list_all is_sound_topic (map topic_in found) ≡ true
each_sound [] is = refl
each_sound (topic ∷ found) is = let p = and_parts (is_sound_topic topic.1) (are_sound found) is in rw (p.0, each_sound found p.1) refl

-- the topics without the lines of their numbers
pub sound_topics : (found : List NumberedTopic) → are_sound found ≡ true → IsDistinct same_id found → AreSoundTopics (map topic_in found)
sound_topics found each distinct = record { each = each_sound found each; differ = ids_differ found distinct }
