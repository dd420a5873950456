-- Bundles: several entries as one payload, with a table of their callers and one of their texts.
use Rattle.std.specs.Prelude.{◌≡◌, ℕ, ◌+◌, ◌-◌, ◌&&◌, Bool, true, List, [], ◌∷◌, ◌++◌, length, Option, Some, None, is_some, unwrap_or, nat_le, bytes_eq, IsTrue}
use Rattle.std.specs.List.{list_all, flat_map}
use Rattle.std.specs.Option.{option_map, option_map_or}
use Rattle.trec_formats.specs.Names.{is_between}
use Rattle.rulebook.specs.declared.rules.Caller.{Caller}
use Rattle.rulebook.specs.declared.ask.Command.{Command}
use Rattle.rulebook.specs.declared.ask.Command.TheVariants.{Found, Topics, Submit, Open, Lease, Grade, Release, Amend, Rule, Withdraw, Publish}
use Rattle.rulebook.specs.declared.entry.EntryCore.{EntryCore}
use Rattle.rulebook.specs.Spelling.{short, role_byte, has_spelling}
use Rattle.rulebook.specs.Words.{Text}
use Rattle.record_codec.specs.declared.bundles.bundle_items.Brief.{Brief}
use Rattle.record_codec.specs.declared.bundles.bundle_items.Brief.TheVariants as brief
use Rattle.record_codec.specs.declared.bundles.bundle_items.BundleItem.{BundleItem}
use Rattle.record_codec.specs.Varints.{varint}
use Rattle.record_codec.specs.Tables.{callers_of, index_of, same_caller, table_of}

-- The parts of a bundle, and their bytes

pub record BundleParts : Type 0 where
  pub callers : List Caller
  pub texts : List Text
  pub items : List BundleItem

-- the kind and the fields of a command
abbrev pub brief_bytes : Brief → Text
brief_bytes brief.Open = 4 ∷ []
brief_bytes (brief.Lease topic) = 5 ∷ varint topic
brief_bytes (brief.Grade lease grade) = 6 ∷ varint lease ++ grade ∷ []
brief_bytes (brief.Release lease) = 7 ∷ varint lease
brief_bytes (brief.Amend topic doc grade) = 8 ∷ varint topic ++ (varint doc ++ grade ∷ [])
brief_bytes (brief.Rule topic doc grade) = 9 ∷ varint topic ++ (varint doc ++ grade ∷ [])
brief_bytes (brief.Withdraw run) = 10 ∷ varint run
brief_bytes brief.Publish = 11 ∷ []

abbrev pub item_bytes : BundleItem → Text
item_bytes i = varint i.caller ++ (varint i.number ++ (varint i.passed ++ brief_bytes i.command))

abbrev pub caller_bytes : Caller → Text
caller_bytes c = short c.name ++ role_byte c.role ∷ []

-- a count, and so many items
abbrev pub counted_items : {X : Type 0} → (X → Text) → List X → Text
counted_items spell items = varint (length items) ++ flat_map spell items

abbrev pub parts_bytes : BundleParts → Text
parts_bytes p = 0 ∷ (counted_items caller_bytes p.callers ++ (counted_items short p.texts ++ counted_items item_bytes p.items))

-- The parts of entries

-- what a bundle has of a command: the texts that it uses, a topic before a document, and the command with their indices
pub record BundledCommand : Type 0 where
  pub texts : List Text
  -- given what the index of a text is
  pub indexed : (Text → ℕ) → Brief

-- of a command that a bundle may have
abbrev pub bundled_command : Command → Option BundledCommand
bundled_command (Found rules) = None
bundled_command (Topics topics) = None
bundled_command (Submit run lists) = None
bundled_command Open = Some (record { texts = []; indexed = λ index. brief.Open })
bundled_command (Lease topic) = Some (record { texts = topic ∷ []; indexed = λ index. brief.Lease (index topic) })
bundled_command (Grade lease grade) = Some (record { texts = []; indexed = λ index. brief.Grade lease grade })
bundled_command (Release lease) = Some (record { texts = []; indexed = λ index. brief.Release lease })
bundled_command (Amend topic doc grade) =
    Some (record { texts = topic ∷ doc ∷ []; indexed = λ index. brief.Amend (index topic) (index doc) grade })
bundled_command (Rule topic doc grade) =
    Some (record { texts = topic ∷ doc ∷ []; indexed = λ index. brief.Rule (index topic) (index doc) grade })
bundled_command (Withdraw run) = Some (record { texts = run ∷ []; indexed = λ index. brief.Withdraw (index run) })
bundled_command Publish = Some (record { texts = []; indexed = λ index. brief.Publish })

abbrev pub texts_in : Command → List Text
texts_in c = option_map_or (λ told. told.texts) (bundled_command c) []

abbrev pub texts_of : List EntryCore → List Text
texts_of cores = table_of bytes_eq (flat_map (λ c. texts_in c.command) cores)

module _ (texts : List Text) where
  abbrev pub index_in : Text → ℕ
  index_in text = index_of bytes_eq texts text

  -- a command that a bundle may have, with indices in place of its texts
  abbrev pub brief_in : Command → Option Brief
  brief_in c = option_map (λ told. told.indexed index_in) (bundled_command c)

  -- what no bundle may have is of no account
  abbrev pub brief_of : Command → Brief
  brief_of c = unwrap_or (brief_in c) brief.Open

-- 0, or the number and 1
abbrev pub number_code : Option ℕ → ℕ
number_code None = 0
number_code (Some n) = n + 1

module _ (callers : List Caller) (texts : List Text) where
  -- an entry, the moment before it being given
  abbrev pub item_of : ℕ → EntryCore → BundleItem
  item_of earlier core =
      record {
        caller = index_of same_caller callers core.caller;
        number = number_code core.number;
        passed = core.moment - earlier;
        command = brief_of texts core.command;
      }

  abbrev pub items_of : ℕ → List EntryCore → List BundleItem
  items_of earlier [] = []
  items_of earlier (core ∷ cores) = item_of earlier core ∷ items_of core.moment cores

abbrev pub parts_of : List EntryCore → BundleParts
parts_of cores = record { callers = callers_of cores; texts = texts_of cores; items = items_of (callers_of cores) (texts_of cores) 0 cores }

abbrev pub bundle_bytes : List EntryCore → Text
bundle_bytes cores = parts_bytes (parts_of cores)

-- The entries that a bundle may have

-- a command of the kinds 4 to 11
abbrev pub is_brief : Command → Bool
is_brief c = is_some (bundled_command c)

abbrev pub is_packable : EntryCore → Bool
is_packable core = has_spelling core && is_brief core.command

-- no moment is less than the one before it
abbrev pub are_rising : ℕ → List EntryCore → Bool
are_rising earlier [] = true
are_rising earlier (core ∷ cores) = nat_le earlier core.moment && are_rising core.moment cores

-- the most entries of a bundle
abbrev pub most_bundled : ℕ
most_bundled = 4096

-- entries that may stand in one bundle
abbrev pub have_bundle : List EntryCore → Bool
have_bundle cores = is_between 1 most_bundled (length cores) && list_all is_packable cores && are_rising 0 cores

-- the bytes are the entries' bundle
abbrev pub IsBundle : Text → List EntryCore → Type 0
IsBundle bytes cores = IsTrue (have_bundle cores) × (bytes ≡ bundle_bytes cores)
