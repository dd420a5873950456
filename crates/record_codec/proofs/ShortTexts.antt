-- Names, docnos and printable texts are short enough for the bytes of their length.
use Rattle.std.proofs.Common.{◌≡◌, ℕ, ◌<◌, ◌≤◌, true, length, arith}
use Rattle.std.specs.Prelude.{nat_le}
use Rattle.std.specs.List.{list_all}
use Rattle.std.proofs.lemmas.Bool.{and_parts, leb-true}
use Rattle.trec_formats.specs.Names.{is_between, is_docno, is_name, is_name_byte}
use Rattle.rulebook.specs.Spelling.{is_printable}
use Rattle.rulebook.specs.Words.{Text}

pub between_most : (low high n : ℕ) → is_between low high n ≡ true → n ≤ high
between_most low high n is = leb-true n high ((and_parts (nat_le low n) (nat_le n high) is).1)

pub name_short : (text : Text) → is_name text ≡ true → length text < 256
unfolding is_name
name_short text is =
    let most = between_most 1 32 (length text)
    ((and_parts (is_between 1 32 (length text)) (list_all is_name_byte text) is).0) in omega arith

pub docno_short : (text : Text) → is_docno text ≡ true → length text < 256
unfolding is_docno
docno_short text is =
    let most = between_most 1 64 (length text)
    ((and_parts (is_between 1 64 (length text)) (list_all (is_between 33 126) text) is).0) in omega arith

pub printable_short : (most : ℕ) (text : Text) → is_printable most text ≡ true → length text ≤ most
printable_short most text is =
    leb-true (length text) most ((and_parts (nat_le (length text) most) (list_all (is_between 32 126) text) is).0)
