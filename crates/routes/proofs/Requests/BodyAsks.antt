-- What the parameter of a path and a body give to an ask.
use Rattle.std.proofs.Common.{◌≡◌, ℕ, ◌^◌, ◌&&◌, List, [], ◌∷◌, Option, Some, None, Ok, Err, true, length, refl, ap, arith, subst}
use Rattle.std.specs.Prelude.{Result, codes, nat_le, nat_lt, option_and_then}
use Rattle.std.specs.Option.{option_map}
use Rattle.std.specs.Str.Parse.{digits_value}
use Rattle.std.proofs.lemmas.Bool.{and_parts, cond_both, leb-true, lt-ltb}
use Rattle.decimal_rank.specs.Decimals.DecimalText.{are_digits}
use Rattle.trec_formats.specs.Names.{is_docno}
use Rattle.rulebook.specs.Requests.Limits.{max_top_grade}
use Rattle.rulebook.specs.declared.ask.Ask.{Ask}
use Rattle.serde_json.specs.Data.{Data}
use Rattle.serde_json.specs.Find.{as_number, as_u64, get}
use Rattle.routes.specs.declared.faults.RouteFault.{RouteFault}
use Rattle.routes.specs.declared.faults.RouteFault.TheVariants as faults
use Rattle.routes.specs.Faults.{or_fault}
use Rattle.routes.specs.Json.Bodies.{json_of, Judgement, a_docno, doc_at, grade_at, grade_in, has_members, judgement_of, judgement_in, number_up_to}
use Rattle.routes.specs.Limits.{most_path_digits, most_path_number}
use Rattle.routes.specs.PathTable.RouteTable.{is_path_number, with_nothing}

ok_not_err : {ask : Ask} {cause : RouteFault} → ◌≡◌ {A = Result Ask RouteFault} (Ok ask) (Err cause) → ⊥
ok_not_err is = cc

pub nothing_given : (body : List ℕ) (a ask : Ask) → Ok ask ≡ with_nothing body a → a ≡ ask
nothing_given [] a ask is = cc
nothing_given (b ∷ body) a ask is = absurd (ok_not_err is)

pub some_given : {X : Type 0} (o : Option X) (f : X → Ask) (ask : Ask) → Ok ask ≡ or_fault faults.Body (option_map f o) → (x : X) × (o ≡ Some x) × (f x ≡ ask)
some_given None f ask is = absurd (ok_not_err is)
some_given (Some x) f ask is = let same : f x ≡ ask = cc in (x, refl, same)

then_some : {X Y : Type 0} (f : X → Option Y) (o : Option X) (y : Y) → option_and_then f o ≡ Some y → (x : X) × (f x ≡ Some y)
then_some f None y is = cc
then_some f (Some x) y is = (x, is)

none_not_some : {X : Type 0} {x : X} → ◌≡◌ {A = Option X} None (Some x) → ⊥
none_not_some is = cc

judged_doc : (doc : Option (List ℕ)) (grade : Option ℕ) (j : Judgement) → judgement_of doc grade ≡ Some j → doc ≡ Some j.doc
judged_doc (Some doc) (Some grade) j is = let same : record { doc = doc; grade = grade } ≡ j = cc in ap (λ (given : Judgement). Some given.doc) same
judged_doc (Some doc) None j is = absurd (none_not_some is)
judged_doc None grade j is = absurd (none_not_some is)

judged_grade : (doc : Option (List ℕ)) (grade : Option ℕ) (j : Judgement) → judgement_of doc grade ≡ Some j → grade ≡ Some j.grade
judged_grade (Some doc) (Some grade) j is = let same : record { doc = doc; grade = grade } ≡ j = cc in ap (λ (given : Judgement). Some given.grade) same
judged_grade (Some doc) None j is = absurd (none_not_some is)
judged_grade None grade j is = absurd (none_not_some is)

below_256 : (n grade : ℕ) → number_up_to max_top_grade n ≡ Some grade → nat_lt grade 256 ≡ true
below_256 n grade is =
    cond_both (nat_le n max_top_grade) (Some n) None (λ (found : Option ℕ). found ≡ Some grade → nat_lt grade 256 ≡ true)
    (λ few same. let equal : n ≡ grade = cc in subst (λ g. nat_lt g 256 ≡ true) equal (lt-ltb n 256 (omega (arith, leb-true n max_top_grade few))))
    (λ other wrong. absurd (none_not_some wrong)) is

grade_given : (value : Data) (grade : ℕ) → grade_at value ≡ Some grade → nat_lt grade 256 ≡ true
grade_given value grade is =
    let found = then_some (number_up_to max_top_grade) (option_and_then (λ v. option_and_then as_u64 (as_number v)) (get (codes "grade") value)) grade is in
    below_256 found.0 grade found.1

pub grade_alone : (body : List ℕ) (grade : ℕ) → option_and_then grade_in (json_of body) ≡ Some grade → nat_lt grade 256 ≡ true
grade_alone body grade is =
    let found = then_some grade_in (json_of body) grade is in
    cond_both (has_members 1 found.0) (grade_at found.0) None (λ (o : Option ℕ). o ≡ Some grade → nat_lt grade 256 ≡ true)
    (λ one given. grade_given found.0 grade given) (λ other wrong. absurd (none_not_some wrong)) found.1

pub judgement_grade : (body : List ℕ) (j : Judgement) → option_and_then judgement_in (json_of body) ≡ Some j → nat_lt j.grade 256 ≡ true
judgement_grade body j is =
    let found = then_some judgement_in (json_of body) j is in
    cond_both (has_members 2 found.0) (judgement_of (doc_at found.0) (grade_at found.0)) None (λ (o : Option Judgement). o ≡ Some j → nat_lt j.grade 256 ≡ true)
    (λ two given. grade_given found.0 j.grade (judged_grade (doc_at found.0) (grade_at found.0) j given))
    (λ other wrong. absurd (none_not_some wrong)) found.1

pub lease_given : (text : List ℕ) → is_path_number text ≡ true → nat_lt (digits_value 10 text) (2 ^ 32) ≡ true
lease_given text is =
    let most = and_parts (are_digits text && nat_le (length text) most_path_digits) (nat_le (digits_value 10 text) most_path_number) is in
    lt-ltb (digits_value 10 text) (2 ^ 32) (omega (arith, leb-true (digits_value 10 text) most_path_number most.1))

docno_given : (text doc : List ℕ) → a_docno text ≡ Some doc → is_docno doc ≡ true
docno_given text doc is =
    cond_both (is_docno text) (Some text) None (λ (found : Option (List ℕ)). found ≡ Some doc → is_docno doc ≡ true)
    (λ here same. let equal : text ≡ doc = cc in subst (λ t. is_docno t ≡ true) equal here)
    (λ other wrong. absurd (none_not_some wrong)) is

pub judgement_doc : (body : List ℕ) (j : Judgement) → option_and_then judgement_in (json_of body) ≡ Some j → is_docno j.doc ≡ true
judgement_doc body j is =
    let found = then_some judgement_in (json_of body) j is in
    let value = found.0 in
    cond_both (has_members 2 value) (judgement_of (doc_at value) (grade_at value)) None (λ (o : Option Judgement). o ≡ Some j → is_docno j.doc ≡ true)
    (λ two given.
    let text = then_some a_docno _ j.doc (judged_doc (doc_at value) (grade_at value) j given) in
    docno_given text.0 j.doc text.1)
    (λ other wrong. absurd (none_not_some wrong)) found.1
