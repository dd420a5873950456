-- What a body says that is a JSON object (RFC 8259).
use Rattle.std.specs.Prelude.{ℕ, suc, Bool, false, ◌==◌, List, Option, Some, None, codes, nat_le, option_and_then, if◌then◌else◌}
use Rattle.std.specs.Option.{option_map_or}
use Rattle.std.specs.Str.{is_utf8}
use Rattle.serde_json.specs.Data.{Data, Members, no_members, member}
use Rattle.serde_json.specs.Find.{get, as_number, as_u64, as_str, as_object}
use Rattle.serde_json.specs.Read.{read}
use Rattle.trec_formats.specs.Names.{is_docno}
use Rattle.rulebook.specs.Requests.Limits.{max_top_grade}

-- the value of a JSON text, as `serde_json` reads it
abbrev pub json_of : List ℕ → Option Data
json_of body = if is_utf8 body then read body else None

abbrev pub member_count : Members → ℕ
member_count no_members = 0
member_count (member key value members) = suc (member_count members)

-- an object with so many members
abbrev pub has_members : ℕ → Data → Bool
has_members count value = option_map_or (λ members. member_count members == count) (as_object value) false

abbrev pub number_up_to : ℕ → ℕ → Option ℕ
number_up_to most n = if nat_le n most then Some n else None

-- a whole number from 0 to the greatest grade that rules may have, written in digits alone, at the key "grade"
abbrev pub grade_at : Data → Option ℕ
grade_at value = option_and_then (number_up_to max_top_grade) (option_and_then (λ v. option_and_then as_u64 (as_number v)) (get (codes "grade") value))

abbrev pub a_docno : List ℕ → Option (List ℕ)
a_docno text = if is_docno text then Some text else None

-- a docno at the key "doc"
abbrev pub doc_at : Data → Option (List ℕ)
doc_at value = option_and_then a_docno (option_and_then as_str (get (codes "doc") value))

-- the grade of an object with it alone
abbrev pub grade_in : Data → Option ℕ
grade_in value = if has_members 1 value then grade_at value else None

-- a document and its grade
pub record Judgement : Type 0 where
  pub doc : List ℕ
  pub grade : ℕ

abbrev pub judgement_of : Option (List ℕ) → Option ℕ → Option Judgement
judgement_of (Some doc) (Some grade) = Some (record { doc = doc; grade = grade })
judgement_of (Some doc) None = None
judgement_of None grade = None

-- the document and the grade of an object with these alone
abbrev pub judgement_in : Data → Option Judgement
judgement_in value = if has_members 2 value then judgement_of (doc_at value) (grade_at value) else None
