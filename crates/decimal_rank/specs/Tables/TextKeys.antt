-- The keys of texts in a table of a secret: equal texts have equal keys.
use Rattle.std.specs.Prelude.{ℕ, List}
use Rattle.std.specs.Hash.DefaultHasher as sip
use Rattle.decimal_rank.specs.declared.tables.secrets.Secret.{Secret}

-- the secret of these bytes
abbrev pub secret_of : List ℕ → Secret
secret_of bytes = record { seeded = sip.write sip.initial bytes }

-- the hash of the text behind the secret
abbrev pub text_key : Secret → List ℕ → ℕ
text_key secret text = sip.finish (sip.write secret.seeded text)
