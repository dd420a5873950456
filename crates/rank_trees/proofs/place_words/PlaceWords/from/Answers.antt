use Rattle.std.proofs.Common.{◌≡◌, ◌<◌, ◌-◌, ◌/◌, ◌%◌, ℕ, Bool, List, length, ap, ◌∙◌, sym, take, drop, get_or, arith}
use Rattle.rank_trees.specs.Words.{number_of_bits, places_in}
use Rattle.rank_trees.proofs.Words.{places-from, places-length}
use Rattle.rank_trees.proofs.place_words.PlaceWords.from.Goals as goal

within_words : (words : List ℕ) (on : List Bool) (index : ℕ) → places_in 64 words ≡ on → index < length on → index / 64 < length words
within_words words on index view within = omega (arith, within, ap length view, places-length 64 words)

pub word_of-requires : goal.word_of-requires
word_of-requires g c =
    omega (arith, within_words c.self.inside.words.items c.args.self.now c.args.index c.self.view_is c.requires, ap length c.deref.ensures.value)

pub returns-clause-places : goal.returns-clause-places
returns-clause-places g c =
    let within = within_words c.self.inside.words.items c.args.self.now c.args.index c.self.view_is c.requires in
    let word = c.word_of.ensures.word ∙ ap (λ (words : List ℕ). get_or words (c.args.index / 64) 0) c.deref.ensures.value in
    sym (places-from c.self.inside.words.items c.args.index c.word_of.result within (sym word) (omega arith))
    ∙ ap (λ (on : List Bool). number_of_bits (take (64 - c.args.index % 64) (drop c.args.index on))) c.self.view_is
