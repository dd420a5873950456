-- Entries and their bytes determine each other.
use Rattle.std.specs.Prelude.{◌≡◌, ◌↔◌, ◌≤◌, ◌^◌, List, [], ◌∷◌, None, Some, IsTrue, codes, length}
use Rattle.rulebook.specs.declared.ask.Command.TheVariants.{Open, Lease, Grade}
use Rattle.rulebook.specs.declared.rules.Role.TheVariants.{Organiser, Assessor}
use Rattle.rulebook.specs.declared.entry.EntryCore.{EntryCore}
use Rattle.rulebook.specs.Spelling.{IsSpelling, entry_bytes}
use Rattle.rulebook.specs.Words.{Text}
use Rattle.record_codec.specs.Bundles.{IsBundle, bundle_bytes, have_bundle, is_packable}
use Rattle.record_codec.specs.Payloads.{IsPayload}

-- no entry has two spellings, and no two entries share one
abbrev pub OneSpelling : Type 0
OneSpelling = (bytes other : Text) (core more : EntryCore) → IsSpelling bytes core → IsSpelling other more
    → (bytes ≡ other) ↔ (core ≡ more)

-- no list of entries has two bundles, and no two lists share one
abbrev pub OneBundle : Type 0
OneBundle = (bytes other : Text) (cores more : List EntryCore) → IsBundle bytes cores → IsBundle other more
    → (bytes ≡ other) ↔ (cores ≡ more)

-- bytes are the payload of one list of entries alone
abbrev pub OnePayload : Type 0
OnePayload = (bytes : Text) (cores more : List EntryCore) → IsPayload bytes cores → IsPayload bytes more → cores ≡ more

-- a bundle is no longer than a record may be
abbrev pub BundlesFit : Type 0
BundlesFit = (cores : List EntryCore) → IsTrue (have_bundle cores) → length (bundle_bytes cores) ≤ 2 ^ 25

-- nor is the spelling of an entry that may stand in a bundle
abbrev pub BriefsFit : Type 0
BriefsFit = (core : EntryCore) → IsTrue (is_packable core) → length (entry_bytes core) ≤ 2 ^ 25

-- org's Open, p's Lease on topic 1, and p's Grade of lease 1 with 2 and number 7, all at 1000
abbrev pub three_entries : List EntryCore
three_entries =
    record { caller = record { name = codes "org"; role = Organiser }; number = None; moment = 1000; command = Open }
    ∷ record { caller = record { name = codes "p"; role = Assessor }; number = None; moment = 1000; command = Lease (codes "1") }
    ∷ record { caller = record { name = codes "p"; role = Assessor }; number = Some 7; moment = 1000; command = Grade 1 2 } ∷ []

-- their bundle: the callers org and p, the text 1, and the three entries
abbrev pub ThreeEntriesBundled : Type 0
ThreeEntriesBundled = bundle_bytes three_entries ≡
    0 ∷ 2 ∷ 3 ∷ 111 ∷ 114 ∷ 103 ∷ 1 ∷ 1 ∷ 112 ∷ 3 ∷ 1 ∷ 1 ∷ 49
    ∷ 3 ∷ 0 ∷ 0 ∷ 232 ∷ 7 ∷ 4 ∷ 1 ∷ 0 ∷ 0 ∷ 5 ∷ 0 ∷ 1 ∷ 8 ∷ 0 ∷ 6 ∷ 1 ∷ 2 ∷ []
