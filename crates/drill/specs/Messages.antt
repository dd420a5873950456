-- The callers and the rules of a generated campaign, and the messages that its callers send.
use Rattle.std.specs.Prelude.{◌≡◌, ◌<◌, ◌≤◌, ◌^◌, ℕ, Bool, true, ◌&&◌, List, [], ◌∷◌, ◌++◌, codes, decimal, length, nat_lt}
use Rattle.std.specs.List.{list_all}
use Rattle.routes.specs.declared.keys.KeyRow.{KeyRow}
use Rattle.routes.specs.Limits.{most_body}
use Rattle.rulebook.specs.declared.rules.Role.TheVariants.{Organiser, Group, Assessor}
use Rattle.rulebook.specs.declared.rules.Rules.{Rules}
use Rattle.drill.specs.declared.numbers.DrillNumbers.{DrillNumbers}
use Rattle.drill.specs.Figures.{run_name, topic_name}
use Rattle.drill.specs.Texts.{run_text, topics_text}

abbrev pub rules : Rules
rules = record { depth = 10; term = 600; hold = 1; level = 1; top_grade = 3; doubles = []; levels = [] }

abbrev pub organiser_key : List ℕ
organiser_key = codes "ORGANISERORGAN01"

abbrev pub group_key : List ℕ
group_key = codes "GROUPGROUPGROUP1"

abbrev pub assessor_key : List ℕ
assessor_key = codes "ASSESSORASSESS01"

abbrev pub callers : List KeyRow
callers =
    record { name = codes "org"; role = Organiser; key = organiser_key }
    ∷ record { name = codes "grp"; role = Group; key = group_key }
    ∷ record { name = codes "asr"; role = Assessor; key = assessor_key } ∷ []

-- a message: its caller's key, its number among those of this caller, its path and its body
pub record Message : Type 0 where
  pub key : List ℕ
  pub number : ℕ
  pub path : List ℕ
  pub body : List ℕ

abbrev pub message_text : Message → List ℕ
message_text message =
    codes "POST " ++ message.path
    ++ codes " HTTP/1.1\r\nX-Campaign-Key: " ++ message.key
    ++ codes "\r\nX-Request-Number: " ++ decimal message.number
    ++ codes "\r\nContent-Length: " ++ decimal (length message.body)
    ++ codes "\r\n\r\n" ++ message.body

-- a byte of visible ASCII
abbrev pub is_visible : ℕ → Bool
is_visible b = nat_lt 32 b && nat_lt b 127

-- the most bytes of a key or a path
abbrev pub most_word : ℕ
most_word = 100

-- visible bytes, few of them
pub record IsWord (text : List ℕ) : Type 0 where
  pub some : 0 < length text
  pub few : length text ≤ most_word
  pub visible : list_all is_visible text ≡ true

-- a message that a connection takes: its head is one, and its body isn't too long
pub record IsSendable (message : Message) : Type 0 where
  pub key : IsWord message.key
  pub path : IsWord message.path
  pub number : message.number < 2 ^ 32
  pub body : length message.body ≤ most_body

-- the text of such a message
abbrev pub IsMessage : List ℕ → Type 0
IsMessage text = (message : Message) × IsSendable message × (text ≡ message_text message)

abbrev pub topics_message : DrillNumbers → Message
topics_message numbers = record { key = organiser_key; number = 1; path = codes "/topics"; body = topics_text numbers }

abbrev pub run_message : DrillNumbers → ℕ → Message
run_message numbers r = record { key = group_key; number = r; path = codes "/runs/" ++ run_name r; body = run_text numbers r }

abbrev pub open_message : Message
open_message = record { key = organiser_key; number = 2; path = codes "/open"; body = [] }

abbrev pub lease_message : ℕ → ℕ → Message
lease_message t number = record { key = assessor_key; number = number; path = codes "/topics/" ++ topic_name t ++ codes "/lease"; body = [] }

abbrev pub grade_message : ℕ → ℕ → ℕ → Message
grade_message lease number grade =
    record {
      key = assessor_key;
      number = number;
      path = codes "/leases/" ++ decimal lease
          ++ codes "/grade";
      body = codes "{\"grade\":" ++ decimal grade ++ codes "}";
    }

abbrev pub publish_message : Message
publish_message = record { key = organiser_key; number = 3; path = codes "/publish"; body = [] }
