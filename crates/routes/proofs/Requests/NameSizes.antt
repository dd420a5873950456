-- Names and docnos are short.
use Rattle.std.proofs.Common.{◌≡◌, ◌≤◌, ℕ, List, true, length}
use Rattle.std.specs.Prelude.{nat_le}
use Rattle.std.specs.List.{list_all}
use Rattle.std.proofs.lemmas.Bool.{and_parts, leb-true}
use Rattle.trec_formats.specs.Names.{is_name, is_docno, is_between, is_name_byte}

pub name_short : (name : List ℕ) → is_name name ≡ true → length name ≤ 32
unfolding is_name
name_short name is =
    let parts = and_parts (nat_le 1 (length name)) (nat_le (length name) 32) (and_parts (is_between 1 32 (length name)) (list_all is_name_byte name) is).0 in
    leb-true (length name) 32 parts.1

pub docno_short : (doc : List ℕ) → is_docno doc ≡ true → length doc ≤ 64
unfolding is_docno
docno_short doc is =
    let parts = and_parts (nat_le 1 (length doc)) (nat_le (length doc) 64) (and_parts (is_between 1 64 (length doc)) (list_all (is_between 33 126) doc) is).0 in
    leb-true (length doc) 64 parts.1
