use Rattle.std.proofs.Common.{◌≡◌, ◌<◌, ◌/◌, ℕ, Bool, List, length, ap, ◌∙◌, sym, set, get_or, arith, false}
use Rattle.rank_trees.specs.Words.{places_in}
use Rattle.rank_trees.proofs.Words.{place-on, places-length, places-put}
use Rattle.rank_trees.proofs.place_words.PlaceWords.put.Goals as goal

within_words : (words : List ℕ) (on : List Bool) (index : ℕ) → places_in 64 words ≡ on → index < length on → index / 64 < length words
within_words words on index view within = omega (arith, within, ap length view, places-length 64 words)

pub word_of-word-requires : goal.word_of-word-requires
word_of-word-requires g c =
    omega (arith, within_words c.self.inside.words.items c.args.self.now c.args.index c.self.view_is c.requires, ap length c.deref.ensures.value)

pub index_mut-requires : goal.index_mut-requires
index_mut-requires g c = omega (arith, within_words c.self.inside.words.items c.args.self.now c.args.index c.self.view_is c.requires, c.self.inside.words.ok)

pub returns-clause-places : goal.returns-clause-places
returns-clause-places g c =
    let within = within_words c.self.inside.words.items c.args.self.now c.args.index c.self.view_is c.requires in
    let word = c.word_of-word.ensures.word ∙ ap (λ (words : List ℕ). get_or words (c.args.index / 64) 0) c.deref.ensures.value in
    places-put c.self.inside.words.items c.args.index c.word_of-word.result c.with_place.result c.args.on within
    (sym word) (c.with_place.ensures 64 (omega arith))
    ∙ ap (λ (on : List Bool). set on c.args.index c.args.on) c.self.view_is

pub returns-clause-was : goal.returns-clause-was
returns-clause-was g c =
    let within = within_words c.self.inside.words.items c.args.self.now c.args.index c.self.view_is c.requires in
    let word = c.word_of-word.ensures.word ∙ ap (λ (words : List ℕ). get_or words (c.args.index / 64) 0) c.deref.ensures.value in
    c.is_on.ensures ∙ sym (place-on c.self.inside.words.items c.args.index c.word_of-word.result within (sym word))
    ∙ ap (λ (on : List Bool). get_or on c.args.index false) c.self.view_is
