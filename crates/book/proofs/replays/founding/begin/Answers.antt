-- What a first record founds.
use Rattle.std.proofs.Common.{◌≡◌, ◌≤◌, [], ◌∷◌, List, length, rules, arith}
use Rattle.record_codec.specs.Payloads.{IsPayload}
use Rattle.rulebook.specs.declared.entry.EntryCore.{EntryCore}
use Rattle.book.proofs.Founders.{begins, never_bundled, never_empty, never_founded, never_unread, one_alone}
use Rattle.book.proofs.replays.founding.begin.Goals.{In-Some}
use Rattle.book.proofs.replays.founding.begin.Goals as goal

pub returns-in-Err-NoEntry : goal.returns-in-Err-NoEntry
returns-in-Err-NoEntry c =
    let none : (cores : List EntryCore) → IsPayload c.args.first.now cores → ⊥ = search rules in
    never_unread c.requires.laws c.args.first.now none

pub returns-then-len-gt1 : goal.returns-then-len-gt1
returns-then-len-gt1 c =
    never_bundled c.requires.laws c.args.first.now c.in-Ok.cores.items c.in-Ok.ensures.entries (omega (arith, c.if-len-gt1.true, c.len.ensures))

pub returns-in_default : goal.returns-in_default
returns-in_default c = never_empty c.requires.laws c.args.first.now c.in-Ok.cores.items c.in-Ok.ensures.entries
    (λ some. c.in_default.ensures.variant.1 (omega (arith, some, c.in-Ok.cores.ok.0)))

alone : (c : In-Some) → c.in-Ok.cores.items ≡ c.in-Some.core ∷ []
alone c =
    let few : length c.in-Ok.cores.items ≤ 1 = omega (arith, c.if-len-gt1.false, c.len.ensures) in
    one_alone c.in-Ok.cores.items c.pop.new.self.items c.in-Some.core c.in-Some.ensures.items few

pub returns-in_default-rules_founded : goal.returns-in_default-rules_founded
returns-in_default-rules_founded c =
    never_founded c.requires.laws c.args.first.now c.in-Some.core c.in-Ok.cores.items c.in-Ok.ensures.entries
    (alone (goal.at.returns-in_default-rules_founded c).In-Some)
    c.in_default-rules_founded.ensures

pub found-requires : goal.found-requires
found-requires c =
    (begins c.args.first.now c.in-Some.core c.in-Some-rules_founded.rules c.in-Ok.cores.items c.in-Ok.ensures.entries (alone (goal.at.found-requires c).In-Some)
    c.in-Some-rules_founded.ensures).0

pub returns : goal.returns
returns c =
    let (plain, is) =
    begins c.args.first.now c.in-Some.core c.in-Some-rules_founded.rules c.in-Ok.cores.items c.in-Ok.ensures.entries (alone (goal.at.returns c).In-Some)
    c.in-Some-rules_founded.ensures in
    (c.in-Some-rules_founded.rules, plain, is, c.in_ok-found.ensures)
