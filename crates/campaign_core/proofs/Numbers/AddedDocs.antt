-- Documents that are numbered one after another while their docnos join the others, and those of one list among them.
use Rattle.std.proofs.Common.{◌≡◌, ◌+◌, ◌≤◌, ℕ, Bool, true, false, cond, List, [], ◌∷◌, ◌++◌, Option, Some, length, take, drop, min, refl, sym, ap, ◌∙◌, arith, subst}
use Rattle.std.specs.Prelude.{if◌then◌else◌, unwrap_or}
use Rattle.std.specs.List.{find, fold, list_any}
use Rattle.std.specs.Option.{option_map_or}
use Rattle.std.specs.Str.{bytes_eq}
use Rattle.std.proofs.lemmas.Grind.{flat_map-append}
use Rattle.std.proofs.Math.Seq.{drop-append_seam, take-append_seam, take-length}
use Rattle.std.proofs.lemmas.List.{append_assoc, length-append, length-map, length-take, map-append, take-take}
use Rattle.std.proofs.lemmas.List.Sums.{fold-append, sum_by-cons}
use Rattle.decimal_rank.specs.Names.{number_of, with_name}
use Rattle.decimal_rank.specs.declared.naming.DocId.{DocId}
use Rattle.trec_formats.specs.declared.TopicList.{TopicList}
use Rattle.rulebook.specs.Campaign.{docnos, docs_on, line_count}
use Rattle.rulebook.specs.Words.{Text, contains_text}
use Rattle.rulebook.proofs.Elements.TextLists.{new-among}
use Rattle.campaign_core.specs.Growth.{BeginsWith}
use Rattle.campaign_core.specs.Numbering.Numbers.{AreAdded, are_named, doc_in, docs_in}
use Rattle.campaign_core.proofs.Numbers.DocNumbers.{all_named, docs-kept, number-some}

-- those of one list and then those of another
pub added-all : (docs more names now later : List Text) (before middle after : List DocId) → AreAdded docs names now before middle
    → BeginsWith now later → AreAdded more now later middle after
    → AreAdded (docs ++ more) names later before after
added-all docs more names now later before middle after first grown next = record {
  names_are = next.names_are ∙ ap (λ ns. fold with_name ns more) first.names_are ∙ sym (fold-append with_name names docs more);
  numbers_are = next.numbers_are ∙ ap (λ numbers. numbers ++ docs_in later more) (first.numbers_are ∙ ap (λ numbers. before ++ numbers) (sym kept))
      ∙ append_assoc before (docs_in later docs) (docs_in later more) ∙ ap (λ numbers. before ++ numbers) (sym (map-append (doc_in later) docs more));
}
  where
    kept : docs_in later docs ≡ docs_in now docs
    kept = docs-kept now later docs grown (subst (λ ns. are_named ns docs ≡ true) (sym first.names_are) (all_named names docs))

-- one more
pub added-one : (names later : List Text) (doc : Text) (number : DocId) (before : List DocId)
    → later ≡ with_name names doc → number_of later doc ≡ Some number.0
    → AreAdded (doc ∷ []) names later before (before ++ number ∷ [])
added-one names later doc number before later_is number_is = record {
  names_are = later_is;
  numbers_are = ap (λ (n : ℕ). let d : DocId = record { 0 = n } in before ++ d ∷ []) same;
}
  where
    same : number.0 ≡ (doc_in later doc).0
    same = ap (λ (found : Option ℕ). unwrap_or found 0)
        (sym number_is ∙ number-some later doc (subst (λ ns. contains_text ns doc ≡ true) (sym later_is) (new-among names doc)))

pub length-docnos : (lists : List TopicList) → length (docnos lists) ≡ line_count lists
length-docnos [] = refl
length-docnos (list ∷ lists) = length-append list.docs (docnos lists) ∙ ap (λ n. length list.docs + n) (length-docnos lists)
    ∙ sym (sum_by-cons (λ (l : TopicList). length l.docs) list lists)

-- the numbers of a list's documents stand behind those of the lists before it
pub numbers-within : (names : List Text) (before after : List TopicList) (list : TopicList) (numbers : List DocId)
    → numbers ≡ docs_in names (docnos (before ++ list ∷ after))
    → take (length list.docs) (drop (line_count before) numbers) ≡ docs_in names list.docs
numbers-within names before after list numbers are =
    ap (λ ds. take (length list.docs) (drop (line_count before) ds)) (are ∙ parts)
    ∙ ap (λ n. take (length list.docs) (drop n (docs_in names (docnos before) ++ rest)))
    (sym (length-docnos before) ∙ sym (length-map (docnos before) (doc_in names)))
    ∙ ap (take (length list.docs)) (drop-append_seam (docs_in names (docnos before)) rest)
    ∙ ap (λ n. take n rest) (sym (length-map list.docs (doc_in names)))
    ∙ take-append_seam (docs_in names list.docs) (docs_in names (docnos after))
  where
    rest : List DocId
    rest = docs_in names list.docs ++ docs_in names (docnos after)

    parts : docs_in names (docnos (before ++ list ∷ after)) ≡ docs_in names (docnos before) ++ rest
    parts = ap (docs_in names) (flat_map-append (λ (l : TopicList). l.docs) before (list ∷ after))
        ∙ map-append (doc_in names) (docnos before) (list.docs ++ docnos after)
        ∙ ap (λ ds. docs_in names (docnos before) ++ ds) (map-append (doc_in names) list.docs (docnos after))

pub begins-added : (names : List Text) (name : Text) → BeginsWith names (with_name names name)
begins-added names name = step (list_any (bytes_eq name) names)
  where
    step : (t : Bool) → BeginsWith names (if t then names else names ++ name ∷ [])
    step true = take-length names
    step false = take-append_seam names (name ∷ [])

pub length-added : (names : List Text) (name : Text) → length (with_name names name) ≤ length names + 1
length-added names name = step (list_any (bytes_eq name) names)
  where
    step : (t : Bool) → length (if t then names else names ++ name ∷ []) ≤ length names + 1
    step true = omega arith
    step false = omega (arith, length-append names (name ∷ []))

pub begins-later : (first now later : List Text) → BeginsWith first now → BeginsWith now later → BeginsWith first later
begins-later first now later begins grown =
    let least : min (length first) (length now) ≡ length first = sym (length-take (length first) now) ∙ ap length begins in
    sym (take-take (length first) (length now) later (omega (arith, least))) ∙ ap (take (length first)) grown ∙ begins

-- a list on the topic that stands first
pub docs-first : (list : TopicList) (lists : List TopicList) (topic : Text) → bytes_eq list.topic topic ≡ true → docs_on (list ∷ lists) topic ≡ list.docs
docs-first list lists topic is = ap (λ t. option_map_or (λ (l : TopicList). l.docs) (cond t (Some list) (find (λ l. bytes_eq l.topic topic) lists)) []) is
