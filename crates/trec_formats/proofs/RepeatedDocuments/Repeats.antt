-- The documents of the lines that were looked at, in the buckets of their keys.
use Rattle.std.proofs.Common.{◌≡◌, ◌<◌, ◌≤◌, ◌+◌, ◌%◌, ℕ, Bool, true, false, List, [], ◌∷◌, ◌++◌, length, map, take, drop, get_or, find, refl, sym, ◌∙◌, ap, Some, None, bytes_eq}
use Rattle.std.specs.List.{list_any, slice_get}
use Rattle.std.specs.Option.{option_map}
use Rattle.std.proofs.lemmas.List.{take-append-drop, drop_more, take_more, take_all, length-map, map-append}
use Rattle.std.proofs.lemmas.Option.{slice_get-map}
use Rattle.std.proofs.lemmas.Slice.Eq.{bytes_eq-Decides}
use Rattle.std.proofs.lemmas.Bool.{and_parts}
use Rattle.decimal_rank.specs.Tables.Buckets.{Buckets, with_item}
use Rattle.trec_formats.specs.declared.documents.document_keys.DocumentKeys.{DocumentKeys}
use Rattle.trec_formats.specs.declared.faults.Kind.TheVariants.{Twice}
use Rattle.trec_formats.specs.Documents.{names, same_by, document_key, AreByDocument}
use Rattle.decimal_rank.specs.Tables.Searches.{AreUnder}
use Rattle.trec_formats.specs.Faults.{IsDistinct, IsTwice}
use Rattle.trec_formats.proofs.LineTexts.Readings.{distinct_push, distinct_nil}

find_some_step : {X : Type 0} (p : X → Bool) (x : X) (xs : List X) (t : Bool) → p x ≡ t → list_any p (x ∷ xs) ≡ true
    → (list_any p xs ≡ true → (y : X) × (find p xs ≡ Some y)) → (y : X) × (find p (x ∷ xs) ≡ Some y)
find_some_step p x xs true is some rest = (x, rw is refl)
find_some_step p x xs false is some rest = let y = rest (rw is at some) in (y.0, rw is y.1)

pub find_some : {X : Type 0} (p : X → Bool) (xs : List X) → list_any p xs ≡ true → (y : X) × (find p xs ≡ Some y)
find_some p [] some = cc
find_some p (x ∷ xs) some = find_some_step p x xs (p x) refl some (find_some p xs)

module _ {L : Type 0} (topic doc : L → List ℕ) (number : L → ℕ) where
  abbrev same : L → L → Bool
  same = same_by topic doc

  abbrev is_of : List ℕ → List ℕ → L → Bool
  is_of = names topic doc

  abbrev bucket : DocumentKeys → ℕ → L → ℕ
  bucket keys room line = document_key keys (topic line) (doc line) % room

  -- these lines are distinct, and each is in the bucket of its document
  pub record HaveSeen (keys : DocumentKeys) (table : Buckets) (lines : List L) : Type 0 where
    pub items_are : AreByDocument topic doc keys table lines
    pub distinct : IsDistinct same lines

  pub seen_none : (keys : DocumentKeys) (table : Buckets) → table.items ≡ [] → HaveSeen keys table []
  seen_none keys table empty = record { items_are = empty; distinct = distinct_nil same number }

  -- lines of a document are in the bucket of its key
  pub seen_under : (keys : DocumentKeys) (table : Buckets) (lines : List L) (t d : List ℕ) (key : ℕ)
      → AreByDocument topic doc keys table lines → key ≡ document_key keys t d → AreUnder (is_of t d) table lines key
  seen_under keys table lines t d key items_are keyed = record {
    sized = ap length items_are ∙ length-map lines (bucket keys table.room);
    each = λ i line got yes.
        let parts = and_parts (bytes_eq t (topic line)) (bytes_eq d (doc line)) yes in
        let topics : topic line ≡ t = sym ((bytes_eq-Decides _ _).0 parts.0) in
        let docs : doc line ≡ d = sym ((bytes_eq-Decides _ _).0 parts.1) in
        let same_key : document_key keys (topic line) (doc line) ≡ key =
        ap (λ a. document_key keys a (doc line)) topics ∙ ap (λ b. document_key keys t b) docs ∙ sym keyed in
        ap (λ items. slice_get items i) items_are
        ∙ slice_get-map (bucket keys table.room) lines i
        ∙ ap (option_map (bucket keys table.room)) got
        ∙ ap (λ k. Some (k % table.room)) same_key;
  }

  -- a line, and the document that it names
  pub record Names (line : L) (t d : List ℕ) : Type 0 where
    pub topic_is : t ≡ topic line
    pub doc_is : d ≡ doc line

  found_by : (line : L) (t d : List ℕ) (lines : List L) → Names line t d → find (same line) lines ≡ find (is_of t d) lines
  found_by line t d lines names = ap (λ a. find (is_of a (doc line)) lines) (sym names.topic_is) ∙ ap (λ b. find (is_of t b) lines) (sym names.doc_is)

  seen_push : (keys : DocumentKeys) (table : Buckets) (lines : List L) (line : L) (t d : List ℕ) (key : ℕ) → HaveSeen keys table lines
      → Names line t d → key ≡ document_key keys t d → find (is_of t d) lines ≡ None → HaveSeen keys (with_item table key) (lines ++ line ∷ [])
  seen_push keys table lines line t d key w names keyed none =
      let same_key : key ≡ document_key keys (topic line) (doc line) =
      keyed ∙ ap (λ a. document_key keys a d) names.topic_is ∙ ap (document_key keys (topic line)) names.doc_is in
      record {
        items_are =
            ap (λ items. items ++ key % table.room ∷ []) w.items_are
            ∙ ap (λ k. map (bucket keys table.room) lines ++ k % table.room ∷ []) same_key
            ∙ sym (map-append (bucket keys table.room) lines (line ∷ []));
        distinct = distinct_push same number lines line (found_by line t d lines names ∙ none) w.distinct;
      }

  pub seen_next : (keys : DocumentKeys) (table more : Buckets) (lines : List L) (i : ℕ) (line : L) (t d : List ℕ) (key : ℕ) → i < length lines
      → line ≡ get_or lines i line → HaveSeen keys table (take i lines) → Names line t d → key ≡ document_key keys t d
      → find (is_of t d) (take i lines) ≡ None → more ≡ with_item table key → HaveSeen keys more (take (i + 1) lines)
  seen_next keys table more lines i line t d key within item w names keyed none more_is =
      rw (more_is, take_more lines i line within, ← item) (seen_push keys table (take i lines) line t d key w names keyed none)

  pub seen_twice : (keys : DocumentKeys) (table : Buckets) (lines : List L) (i : ℕ) (line first : L) (t d : List ℕ) → i < length lines
      → line ≡ get_or lines i line → HaveSeen keys table (take i lines) → Names line t d → find (is_of t d) (take i lines) ≡ Some first
      → IsTwice same number lines (record { line = number line; kind = Twice (number first) })
  seen_twice keys table lines i line first t d within item w names there = record {
    before = take i lines;
    again = line;
    after = drop (i + 1) lines;
    first = first;
    cut = sym (take-append-drop i lines) ∙ ap (λ rest. take i lines ++ rest) (drop_more lines i line within ∙ ap (λ l. l ∷ drop (i + 1) lines) (sym item));
    earlier = found_by line t d (take i lines) names ∙ there;
    distinct = w.distinct;
    line = refl;
    kind = refl;
  }

  pub seen_all : (keys : DocumentKeys) (table : Buckets) (lines : List L) (i : ℕ) → length lines ≤ i
      → HaveSeen keys table (take i lines) → HaveSeen keys table lines
  seen_all keys table lines i all w = rw (← take_all i lines all) w
