-- A look at the bytes: what the code keeps of a head, and what it finds.
use Rattle.std.specs.Prelude.{◌≡◌, ℕ, ◌+◌, ◌<◌, ◌≤◌, List, ◌++◌, length, take, drop, Option, Result, Ok, Err}
use Rattle.std.specs.Option.{option_map}
use Rattle.httparse.specs.declared.spans.HeaderSpan.{HeaderSpan}
use Rattle.httparse.specs.Grammar.{RequestHead}
use Rattle.httparse.specs.Spans.{span_bytes}
use Rattle.http_wire.specs.declared.fronts.Found.{Found}
use Rattle.http_wire.specs.declared.fronts.Found.TheVariants as found
use Rattle.http_wire.specs.declared.fronts.Look.{Look}
use Rattle.http_wire.specs.declared.heads.Head.{Head}
use Rattle.http_wire.specs.declared.messages.HttpField.{HttpField}
use Rattle.http_wire.specs.declared.messages.HttpHead.{HttpHead}
use Rattle.http_wire.specs.declared.messages.WireFault.{WireFault}
use Rattle.http_wire.specs.Heads.{head_fields, head_length, is_last}
use Rattle.http_wire.specs.Messages.{AtMessage, Heads, Faults, Needs}
use Rattle.http_wire.specs.Pieces.{WireState}

-- the field whose name and value stand at these spans
abbrev pub field_at : List ℕ → HeaderSpan → HttpField
field_at text span = record { name = span_bytes text span.name; value = span_bytes text span.value }

-- what is kept of a head is what it says
pub record SaysHead (said : Head) (head : RequestHead) : Type 0 where
  pub method : said.method ≡ head.method
  pub path : said.path ≡ head.target
  pub fields : said.fields ≡ head_fields head
  pub close : said.close ≡ is_last head.minor (head_fields head)

abbrev pub head_with : Head → ℕ → HttpHead
head_with said size = record { method = said.method; path = said.path; fields = said.fields; length = size; close = said.close }

-- what is found with a head of n bytes, by the length of its body or its fault
abbrev pub found_with : Head → ℕ → Result ℕ WireFault → Found
found_with said n (Err fault) = found.Faulty fault
found_with said n (Ok size) = found.Whole (head_with said size) n

-- no head of the message ends at a byte before this place, whatever follows
pub record IsSearched (message : List ℕ) (place : ℕ) : Type 0 where
  pub inside : place ≤ length (take 8192 message)
  pub ends : (more : List ℕ) → head_length (take 8192 (message ++ more)) ≡ option_map (λ n. n + place) (head_length (drop place (take 8192 (message ++ more))))

-- this is what stands at the front of a message
abbrev pub IsFound : List ℕ → Found → Type 0
IsFound message (found.Whole head n) = AtMessage message (Heads head (drop n message)) × (0 < n) × (n ≤ length message) × (head.length ≤ 16777216)
IsFound message (found.Faulty fault) = AtMessage message (Faults fault)
IsFound message (found.Unfinished searched) = AtMessage message Needs × IsSearched message searched

abbrev pub wire_at : List ℕ → Option ℕ → WireState
wire_at bytes left = record { bytes = bytes; left = left }

-- what a look leaves of the bytes
abbrev pub behind_look : List ℕ → Look → WireState
behind_look bytes look = wire_at (drop look.taken bytes) look.left
