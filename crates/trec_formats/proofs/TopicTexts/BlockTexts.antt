-- The texts of a block with one more line.
use Rattle.std.proofs.Common.{◌≡◌, ◌⊎◌, inl, inr, ℕ, Bool, true, false, cond, List, [], ◌∷◌, ◌++◌, map, filter, refl, sym, ◌∙◌, ap, Some, None, append_assoc}
use Rattle.std.specs.List.{join_with_byte, list_all}
use Rattle.std.proofs.lemmas.List.{append-nil, map-append}
use Rattle.std.proofs.lemmas.List.Elements.{filter-append}
use Rattle.trec_formats.specs.declared.topics.topic_lines.TopicField.{TopicField}
use Rattle.trec_formats.specs.declared.topics.topic_lines.TopicField.TheVariants.{Title, Desc, Narr}
use Rattle.trec_formats.specs.TopicsFormat.FieldTexts.{with_more_text}
use Rattle.trec_formats.specs.Lines.{is_filled}
use Rattle.trec_formats.specs.TopicsFormat.TopicLines.{Opens, Closes, Numbers, Begins, Skips, Says, TopicLine, shown_byte}
use Rattle.trec_formats.specs.TopicsFormat.Topics.{block_number, has_part, part_texts, said, same_part}

abbrev pub is_says : TopicLine → Bool
is_says (n, Says text) = true
is_says _ = false

abbrev pub is_number : TopicLine → Bool
is_number (n, Numbers text) = true
is_number _ = false

-- whether a line begins this part
abbrev pub starts : TopicField → TopicLine → Bool
starts part (n, Begins other text) = same_part part other
starts part _ = false

abbrev pub all_say : List TopicLine → Bool
all_say [] = true
all_say ((n, Says text) ∷ block) = all_say block
all_say _ = false

-- whether a line without a tag goes on with this part
abbrev pub goes_on : TopicField → List TopicLine → Bool
goes_on part [] = false
goes_on part ((n, Begins other text) ∷ block) = cond (same_part part other) (all_say block) (goes_on part block)
goes_on part (_ ∷ block) = goes_on part block

pub same_part-refl : (part : TopicField) → same_part part part ≡ true
same_part-refl Title = refl
same_part-refl Desc = refl
same_part-refl Narr = refl

pub same_part-true : (a b : TopicField) → same_part a b ≡ true → a ≡ b
same_part-true Title Title is = refl
same_part-true Title Desc is = cc is
same_part-true Title Narr is = cc is
same_part-true Desc Title is = cc is
same_part-true Desc Desc is = refl
same_part-true Desc Narr is = cc is
same_part-true Narr Title is = cc is
same_part-true Narr Desc is = cc is
same_part-true Narr Narr is = refl

said_more : (block : List TopicLine) (n : ℕ) (text : List ℕ) → all_say block ≡ true → said (block ++ (n, Says text) ∷ []) ≡ said block ++ text ∷ []
said_more [] n text all = refl
said_more ((k, Says s) ∷ block) n text all = ap (λ l. s ∷ l) (said_more block n text all)
said_more ((k, _) ∷ block) n text all = cc all

said_stays : (block : List TopicLine) (line : TopicLine) → all_say block ≡ false → said (block ++ line ∷ []) ≡ said block
said_stays [] line all = cc all
said_stays ((k, Says s) ∷ block) line all = ap (λ l. s ∷ l) (said_stays block line all)
said_stays ((k, _) ∷ block) line all = refl

said_other : (block : List TopicLine) (line : TopicLine) → is_says line ≡ false → said (block ++ line ∷ []) ≡ said block
said_other [] (n, Says text) other = cc other
said_other [] (n, _) other = refl
said_other ((k, Says s) ∷ block) line other = ap (λ l. s ∷ l) (said_other block line other)
said_other ((k, _) ∷ block) line other = refl

texts_more_step : (part : TopicField) (block : List TopicLine) (n : ℕ) (text s : List ℕ) (t : Bool) → cond t (all_say block) (goes_on part block) ≡ true
    → (goes_on part block ≡ true → part_texts part (block ++ (n, Says text) ∷ []) ≡ part_texts part block ++ text ∷ [])
    → cond t (s ∷ said (block ++ (n, Says text) ∷ [])) (part_texts part (block ++ (n, Says text) ∷ []))
    ≡ cond t (s ∷ said block) (part_texts part block) ++ text ∷ []
texts_more_step part block n text s true on rest = ap (λ l. s ∷ l) (said_more block n text on)
texts_more_step part block n text s false on rest = rest on

-- a line that goes on with this part
pub texts_more : (part : TopicField) (block : List TopicLine) (n : ℕ) (text : List ℕ) → goes_on part block ≡ true
    → part_texts part (block ++ (n, Says text) ∷ []) ≡ part_texts part block ++ text ∷ []
texts_more part [] n text on = cc on
texts_more part ((k, Begins other s) ∷ block) n text on = texts_more_step part block n text s (same_part part other) on (texts_more part block n text)
texts_more part ((k, Opens) ∷ block) n text on = texts_more part block n text on
texts_more part ((k, Closes) ∷ block) n text on = texts_more part block n text on
texts_more part ((k, Numbers s) ∷ block) n text on = texts_more part block n text on
texts_more part ((k, Skips) ∷ block) n text on = texts_more part block n text on
texts_more part ((k, Says s) ∷ block) n text on = texts_more part block n text on

said_kept : (block : List TopicLine) (line : TopicLine) → (all_say block ≡ false) ⊎ (is_says line ≡ false) → said (block ++ line ∷ []) ≡ said block
said_kept block line (inl all) = said_stays block line all
said_kept block line (inr other) = said_other block line other

texts_kept_step : (part : TopicField) (block : List TopicLine) (line : TopicLine) (s : List ℕ) (t : Bool)
    → (cond t (all_say block) (goes_on part block) ≡ false) ⊎ (is_says line ≡ false)
    → ((goes_on part block ≡ false) ⊎ (is_says line ≡ false) → part_texts part (block ++ line ∷ []) ≡ part_texts part block)
    → cond t (s ∷ said (block ++ line ∷ [])) (part_texts part (block ++ line ∷ [])) ≡ cond t (s ∷ said block) (part_texts part block)
texts_kept_step part block line s true off rest = ap (λ l. s ∷ l) (said_kept block line off)
texts_kept_step part block line s false off rest = rest off

-- a line that neither begins this part nor goes on with it
pub texts_kept : (part : TopicField) (block : List TopicLine) (line : TopicLine) → starts part line ≡ false
    → (goes_on part block ≡ false) ⊎ (is_says line ≡ false) → part_texts part (block ++ line ∷ []) ≡ part_texts part block
texts_kept part [] (n, Begins other text) new off = rw new refl
texts_kept part [] (n, _) new off = refl
texts_kept part ((k, Begins other s) ∷ block) line new off = texts_kept_step part block line s (same_part part other) off (texts_kept part block line new)
texts_kept part ((k, Opens) ∷ block) line new off = texts_kept part block line new off
texts_kept part ((k, Closes) ∷ block) line new off = texts_kept part block line new off
texts_kept part ((k, Numbers s) ∷ block) line new off = texts_kept part block line new off
texts_kept part ((k, Skips) ∷ block) line new off = texts_kept part block line new off
texts_kept part ((k, Says s) ∷ block) line new off = texts_kept part block line new off

texts_begun_step : (part : TopicField) (block : List TopicLine) (n : ℕ) (text s : List ℕ) (t : Bool) → cond t (s ∷ said block) (part_texts part block) ≡ []
    → (part_texts part block ≡ [] → part_texts part (block ++ (n, Begins part text) ∷ []) ≡ text ∷ [])
    → cond t (s ∷ said (block ++ (n, Begins part text) ∷ [])) (part_texts part (block ++ (n, Begins part text) ∷ [])) ≡ text ∷ []
texts_begun_step part block n text s true none rest = cc none
texts_begun_step part block n text s false none rest = rest none

-- the line that begins this part
pub texts_begun : (part : TopicField) (block : List TopicLine) (n : ℕ) (text : List ℕ) → part_texts part block ≡ []
    → part_texts part (block ++ (n, Begins part text) ∷ []) ≡ text ∷ []
texts_begun part [] n text none = rw (same_part-refl part) refl
texts_begun part ((k, Begins other s) ∷ block) n text none = texts_begun_step part block n text s (same_part part other) none (texts_begun part block n text)
texts_begun part ((k, Opens) ∷ block) n text none = texts_begun part block n text none
texts_begun part ((k, Closes) ∷ block) n text none = texts_begun part block n text none
texts_begun part ((k, Numbers s) ∷ block) n text none = texts_begun part block n text none
texts_begun part ((k, Skips) ∷ block) n text none = texts_begun part block n text none
texts_begun part ((k, Says s) ∷ block) n text none = texts_begun part block n text none

all_say_more : (block : List TopicLine) (n : ℕ) (text : List ℕ) → all_say (block ++ (n, Says text) ∷ []) ≡ all_say block
all_say_more [] n text = refl
all_say_more ((k, Says s) ∷ block) n text = all_say_more block n text
all_say_more ((k, _) ∷ block) n text = refl

all_say_other : (block : List TopicLine) (line : TopicLine) → is_says line ≡ false → all_say (block ++ line ∷ []) ≡ false
all_say_other [] (n, Says text) other = cc other
all_say_other [] (n, _) other = refl
all_say_other ((k, Says s) ∷ block) line other = all_say_other block line other
all_say_other ((k, _) ∷ block) line other = refl

goes_on_more_step : (t a b c d : Bool) → a ≡ c → b ≡ d → cond t a b ≡ cond t c d
goes_on_more_step true a b c d here there = here
goes_on_more_step false a b c d here there = there

pub goes_on_more : (part : TopicField) (block : List TopicLine) (n : ℕ) (text : List ℕ) → goes_on part (block ++ (n, Says text) ∷ []) ≡ goes_on part block
goes_on_more part [] n text = refl
goes_on_more part ((k, Begins other s) ∷ block) n text =
    goes_on_more_step (same_part part other) _ _ _ _ (all_say_more block n text) (goes_on_more part block n text)
goes_on_more part ((k, Opens) ∷ block) n text = goes_on_more part block n text
goes_on_more part ((k, Closes) ∷ block) n text = goes_on_more part block n text
goes_on_more part ((k, Numbers s) ∷ block) n text = goes_on_more part block n text
goes_on_more part ((k, Skips) ∷ block) n text = goes_on_more part block n text
goes_on_more part ((k, Says s) ∷ block) n text = goes_on_more part block n text

both_false : (t a b : Bool) → a ≡ false → b ≡ false → cond t a b ≡ false
both_false true a b here there = here
both_false false a b here there = there

-- a line with a tag that isn't this part's
pub goes_on_ends : (part : TopicField) (block : List TopicLine) (line : TopicLine) → starts part line ≡ false
    → is_says line ≡ false → goes_on part (block ++ line ∷ []) ≡ false
goes_on_ends part [] (n, Begins other text) new off = rw new refl
goes_on_ends part [] (n, _) new off = refl
goes_on_ends part ((k, Begins other s) ∷ block) line new off =
    both_false (same_part part other) _ _ (all_say_other block line off) (goes_on_ends part block line new off)
goes_on_ends part ((k, Opens) ∷ block) line new off = goes_on_ends part block line new off
goes_on_ends part ((k, Closes) ∷ block) line new off = goes_on_ends part block line new off
goes_on_ends part ((k, Numbers s) ∷ block) line new off = goes_on_ends part block line new off
goes_on_ends part ((k, Skips) ∷ block) line new off = goes_on_ends part block line new off
goes_on_ends part ((k, Says s) ∷ block) line new off = goes_on_ends part block line new off

goes_on_begun_step : (part : TopicField) (block : List TopicLine) (n : ℕ) (text s : List ℕ) (t : Bool) → cond t (s ∷ said block) (part_texts part block) ≡ []
    → (part_texts part block ≡ [] → goes_on part (block ++ (n, Begins part text) ∷ []) ≡ true)
    → cond t (all_say (block ++ (n, Begins part text) ∷ [])) (goes_on part (block ++ (n, Begins part text) ∷ [])) ≡ true
goes_on_begun_step part block n text s true none rest = cc none
goes_on_begun_step part block n text s false none rest = rest none

pub goes_on_begun : (part : TopicField) (block : List TopicLine) (n : ℕ) (text : List ℕ) → part_texts part block ≡ []
    → goes_on part (block ++ (n, Begins part text) ∷ []) ≡ true
goes_on_begun part [] n text none = rw (same_part-refl part) refl
goes_on_begun part ((k, Begins other s) ∷ block) n text none =
    goes_on_begun_step part block n text s (same_part part other) none (goes_on_begun part block n text)
goes_on_begun part ((k, Opens) ∷ block) n text none = goes_on_begun part block n text none
goes_on_begun part ((k, Closes) ∷ block) n text none = goes_on_begun part block n text none
goes_on_begun part ((k, Numbers s) ∷ block) n text none = goes_on_begun part block n text none
goes_on_begun part ((k, Skips) ∷ block) n text none = goes_on_begun part block n text none
goes_on_begun part ((k, Says s) ∷ block) n text none = goes_on_begun part block n text none

goes_on_has_step : (part : TopicField) (block : List TopicLine) (s : List ℕ) (t : Bool) → cond t (all_say block) (goes_on part block) ≡ true
    → (goes_on part block ≡ true → has_part part block ≡ true) → is_filled (cond t (s ∷ said block) (part_texts part block)) ≡ true
goes_on_has_step part block s true on rest = refl
goes_on_has_step part block s false on rest = rest on

-- a part that a line goes on with was begun
pub goes_on_has : (part : TopicField) (block : List TopicLine) → goes_on part block ≡ true → has_part part block ≡ true
goes_on_has part [] on = cc on
goes_on_has part ((k, Begins other s) ∷ block) on = goes_on_has_step part block s (same_part part other) on (goes_on_has part block)
goes_on_has part ((k, Opens) ∷ block) on = goes_on_has part block on
goes_on_has part ((k, Closes) ∷ block) on = goes_on_has part block on
goes_on_has part ((k, Numbers s) ∷ block) on = goes_on_has part block on
goes_on_has part ((k, Skips) ∷ block) on = goes_on_has part block on
goes_on_has part ((k, Says s) ∷ block) on = goes_on_has part block on

pub number_kept : (block : List TopicLine) (line : TopicLine) → is_number line ≡ false → block_number (block ++ line ∷ []) ≡ block_number block
number_kept [] (n, Numbers text) other = cc other
number_kept [] (n, _) other = refl
number_kept ((k, Numbers s) ∷ block) line other = refl
number_kept ((k, _) ∷ block) line other = number_kept block line other

pub number_new : (block : List TopicLine) (n : ℕ) (text : List ℕ) → block_number block ≡ None → block_number (block ++ (n, Numbers text) ∷ []) ≡ Some (n, text)
number_new [] n text none = refl
number_new ((k, Numbers s) ∷ block) n text none = cc none
number_new ((k, _) ∷ block) n text none = number_new block n text none

join_push : (f : List ℕ) (texts : List (List ℕ)) (text : List ℕ) → join_with_byte 32 ((f ∷ texts) ++ text ∷ []) ≡ join_with_byte 32 (f ∷ texts) ++ 32 ∷ text
join_push f [] text = refl
join_push f (g ∷ texts) text = ap (λ l. f ++ 32 ∷ l) (join_push g texts text) ∙ sym (append_assoc f (32 ∷ join_with_byte 32 (g ∷ texts)) (32 ∷ text))

added_filled : (kept : List ℕ) (b : ℕ) (text : List ℕ) → is_filled kept ≡ true → with_more_text kept (b ∷ text) ≡ kept ++ 32 ∷ map shown_byte (b ∷ text)
added_filled [] b text filled = cc filled
added_filled (k ∷ kept) b text filled = refl

join_filled : (c : ℕ) (f : List ℕ) (texts : List (List ℕ)) → is_filled (map shown_byte (join_with_byte 32 ((c ∷ f) ∷ texts))) ≡ true
join_filled c f [] = refl
join_filled c f (g ∷ texts) = refl

joined_more : (texts : List (List ℕ)) (b : ℕ) (text : List ℕ) → list_all is_filled texts ≡ true
    → map shown_byte (join_with_byte 32 (texts ++ (b ∷ text) ∷ [])) ≡ with_more_text (map shown_byte (join_with_byte 32 texts)) (b ∷ text)
joined_more [] b text all = refl
joined_more ([] ∷ texts) b text all = cc all
joined_more ((c ∷ f) ∷ texts) b text all =
    ap (map shown_byte) (join_push (c ∷ f) texts (b ∷ text)) ∙ map-append shown_byte (join_with_byte 32 ((c ∷ f) ∷ texts)) (32 ∷ b ∷ text)
    ∙ sym (added_filled (map shown_byte (join_with_byte 32 ((c ∷ f) ∷ texts))) b text (join_filled c f texts))

all_filled : (texts : List (List ℕ)) → list_all is_filled (filter is_filled texts) ≡ true
all_filled [] = refl
all_filled ([] ∷ texts) = all_filled texts
all_filled ((b ∷ text) ∷ texts) = all_filled texts

-- the texts as they are kept, joined
abbrev pub joined : List (List ℕ) → List ℕ
joined texts = map shown_byte (join_with_byte 32 (filter is_filled texts))

-- one more text
pub joined_push : (texts : List (List ℕ)) (text : List ℕ) → joined (texts ++ text ∷ []) ≡ with_more_text (joined texts) text
joined_push texts [] =
    ap (λ l. map shown_byte (join_with_byte 32 l)) (filter-append is_filled texts ([] ∷ []) ∙ append-nil (filter is_filled texts))
joined_push texts (b ∷ text) =
    ap (λ l. map shown_byte (join_with_byte 32 l)) (filter-append is_filled texts ((b ∷ text) ∷ []))
    ∙ joined_more (filter is_filled texts) b text (all_filled texts)
