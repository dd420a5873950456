-- Lines that name documents of topics, and the keys of documents.
use Rattle.std.specs.Prelude.{◌≡◌, ℕ, ◌+◌, ◌%◌, ◌^◌, ◌&&◌, Bool, List, map, bytes_eq}
use Rattle.decimal_rank.specs.Tables.Buckets.{Buckets}
use Rattle.decimal_rank.specs.Tables.TextKeys.{text_key}
use Rattle.trec_formats.specs.declared.documents.document_keys.DocumentKeys.{DocumentKeys}
use Rattle.trec_formats.specs.DocnoKeys.{docno_key}

-- whether a line names a document
abbrev pub names : {L : Type 0} → (L → List ℕ) → (L → List ℕ) → List ℕ → List ℕ → L → Bool
names topic doc t d line = bytes_eq t (topic line) && bytes_eq d (doc line)

-- whether two lines name one document
abbrev pub same_by : {L : Type 0} → (L → List ℕ) → (L → List ℕ) → L → L → Bool
same_by topic doc a b = names topic doc (topic a) (doc a) b

-- the key of a document, by those of its texts
abbrev pub document_key : DocumentKeys → List ℕ → List ℕ → ℕ
document_key keys topic doc = (text_key keys.secret topic + docno_key keys doc) % 2 ^ 64

-- each of these lines is in the bucket of the document that it names
abbrev pub AreByDocument : {L : Type 0} → (L → List ℕ) → (L → List ℕ) → DocumentKeys → Buckets → List L → Type 0
AreByDocument topic doc keys table lines = table.items ≡ map (λ line. document_key keys (topic line) (doc line) % table.room) lines
