-- The data of TOML texts.
use Rattle.std.proofs.Common.{◌≡◌, ℕ, List, Some, None, ap, sym, ◌∙◌, cond, BTreeMap, Global, String, option_map}
use Rattle.std.specs.Str.{IsUtf8, is_utf8}
use Rattle.std.proofs.lemmas.Bool.{false_from_ne_true}
use Rattle.std.proofs.lemmas.Str.{IsUtf8-from_is_utf8, is_utf8-from_IsUtf8}
use Rattle.toml.specs.Data.{table}
use Rattle.toml.specs.Parse.{parse_document}
use Rattle.toml.specs.View.{view, table_view}
use Rattle.toml.specs.declared.value.Value.{Value, Table}
use Rattle.toml.proofs.Views.{view-Table}
use Rattle.campaign_settings.specs.TomlTables.{data_of}

text_data : (text : List ℕ) → IsUtf8 text → data_of text ≡ option_map table (parse_document text)
text_data text is = ap (λ t. option_map table (cond t (parse_document text) None)) (is_utf8-from_IsUtf8 text is)

pub table_read : (text : List ℕ) (t : BTreeMap (String Global) Value) → IsUtf8 text
    → parse_document text ≡ Some (table_view t) → Some (view (Table t)) ≡ data_of text
table_read text t is read = ap Some (view-Table t) ∙ sym (text_data text is ∙ ap (option_map table) read)

pub no_table : (text : List ℕ) → IsUtf8 text → parse_document text ≡ None → None ≡ data_of text
no_table text is none = sym (text_data text is ∙ ap (option_map table) none)

pub no_text : (text : List ℕ) → ¬ (IsUtf8 text) → None ≡ data_of text
no_text text is_not =
    sym (ap (λ t. option_map table (cond t (parse_document text) None)) (false_from_ne_true (is_utf8 text) (λ is. is_not (IsUtf8-from_is_utf8 text is))))
