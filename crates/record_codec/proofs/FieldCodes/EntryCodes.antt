-- The laws of commands and entries: what is read is an entry's spelling, and each spelling is read.
use Rattle.std.proofs.Common.{◌≡◌, ℕ, ◌-◌, ◌^◌, ◌<◌, ◌&&◌, Bool, true, cond, eqb, List, [], ◌∷◌, ◌++◌, length, Some, None, Result, Ok, Err, refl, sym, ap, subst, ◌∙◌, append_assoc, arith}
use Rattle.std.specs.Prelude.{IfErr, IfOk, IsTrue, nat_le, nat_lt}
use Rattle.std.specs.List.{list_all}
use Rattle.std.specs.Int.{w32, w64, to_le_bytes}
use Rattle.std.proofs.lemmas.Bool.{and_from, and_parts, eqb-true, lt-ltb, ltb-true}
use Rattle.std.proofs.lemmas.List.{append-nil, nil_from_length}
use Rattle.std.proofs.lemmas.Option.{same_Some, cond_some}
use Rattle.trec_formats.specs.declared.TopicList.{TopicList}
use Rattle.trec_formats.specs.Names.{is_between, is_docno, is_name}
use Rattle.rulebook.specs.Requests.Limits.{max_moment}
use Rattle.rulebook.specs.declared.ask.Command.{Command}
use Rattle.rulebook.specs.declared.ask.Command.TheVariants as command
use Rattle.rulebook.specs.declared.entry.EntryCore.{EntryCore}
use Rattle.rulebook.specs.declared.rules.Rules.{Rules}
use Rattle.rulebook.specs.declared.rules.TopicLevel.{TopicLevel}
use Rattle.rulebook.specs.Spelling.{IsSpelling, are_levels, are_rules, are_settings, command_bytes, entry_bytes, found_bytes, level_bytes, rules_bytes, has_spelling, is_number, is_plain, is_plain_list, list_bytes, spelled_list, number_bytes, role_byte, short}
use Rattle.rulebook.specs.Words.{Text}
use Rattle.record_codec.specs.declared.faults.CodecFault.{CodecFault}
use Rattle.record_codec.specs.declared.faults.CodecFault.TheVariants as fault
use Rattle.record_codec.specs.Laws.{OneSpelling}
use Rattle.record_codec.specs.Outcomes.{FindsWhole, OnNoEntry}
use Rattle.record_codec.specs.Readings.{Read, amend_of, byte_read, command_of, command_read, core_of_parts, entry_of, entry_read, grade_of_parts, graded_doc_read, graded_lease_read, leveled_read, rule_of, run_read, submit_of, topics_ascend, value_by}
use Rattle.record_codec.proofs.FieldCodes.Codes.{Codes, IsBytes, IsBytes-behind, bind_some, both, byte_codes, changed, four_texts, like, map_some, number_codes, wide32}
use Rattle.record_codec.proofs.FieldCodes.TextCodes.{caller_bytes, caller_codes, docno_codes, moment_codes, name_codes, pick, request_codes}
use Rattle.record_codec.proofs.FieldCodes.ListCodes.{are_lists, leveled_codes, lists_codes, rules_codes, topics_codes}

-- The fields of commands

lease_codes : Codes (λ p. to_le_bytes w32 p.0 ++ p.1 ∷ []) (λ p. (p.0 < 2 ^ 32) × (p.1 < 256)) graded_lease_read
unfolding graded_lease_read
lease_codes = both (number_codes w32 (2 ^ 32) wide32) byte_codes

abbrev doc_bytes : Text × (Text × ℕ) → Text
doc_bytes p = short p.0 ++ (short p.1.0 ++ p.1.1 ∷ [])

doc_codes : Codes doc_bytes (λ p. IsTrue (is_name p.0) × (IsTrue (is_docno p.1.0) × (p.1.1 < 256))) graded_doc_read
unfolding graded_doc_read
doc_codes = both name_codes (both docno_codes byte_codes)

run_codes : Codes (λ p. short p.0 ++ spelled_list list_bytes p.1) (λ p. IsTrue (is_name p.0) × IsTrue (are_lists p.1)) run_read
unfolding run_read
run_codes = both name_codes lists_codes

nothing_codes : Codes (λ (u : Unit {0}). []) (λ u. Unit {0}) (λ bytes. Some (tt, bytes))
nothing_codes = record {
  takes = λ bytes p fits is.
      let read : Unit {0} × Text =
      (tt, bytes) in subst (λ (q : Unit {0} × Text). Unit {0} × (bytes ≡ [] ++ q.1)) (same_Some read p is)
      (tt, refl);
  again = λ u rest fits. refl;
}

-- Which commands are plain

submit_plain : (p : Text × List TopicList) → IsTrue (is_name p.0) × IsTrue (are_lists p.1)
    → IsTrue (is_plain (submit_of p))
submit_plain (run, lists) fits =
    let some = is_between 1 (2 ^ 32 - 1) (length lists) in
    let a = and_parts (some && list_all is_plain_list lists) (topics_ascend lists) fits.1 in
    let b = and_parts some (list_all is_plain_list lists) a.0 in
    and_from (is_name run && some && list_all is_plain_list lists) (topics_ascend lists)
    (and_from (is_name run && some) (list_all is_plain_list lists) (and_from (is_name run) some fits.0 b.0) b.1) a.1

submit_fits : (run : Text) (lists : List TopicList) → IsTrue (is_plain (command.Submit run lists))
    → IsTrue (is_name run) × IsTrue (are_lists lists)
submit_fits run lists plain =
    let some = is_between 1 (2 ^ 32 - 1) (length lists) in
    let a = and_parts (is_name run && some && list_all is_plain_list lists) (topics_ascend lists) plain in
    let b = and_parts (is_name run && some) (list_all is_plain_list lists) a.0 in
    let c = and_parts (is_name run) some b.0 in (
      c.0,
      and_from (some && list_all is_plain_list lists) (topics_ascend lists)
          (and_from some (list_all is_plain_list lists) c.1 b.1) a.1,
    )

-- a name, a docno and a grade
abbrev is_graded_doc : Text → Text → ℕ → Bool
is_graded_doc topic doc grade = is_name topic && is_docno doc && nat_lt grade 256

doc_plain : (topic doc : Text) (grade : ℕ) → IsTrue (is_name topic) → IsTrue (is_docno doc) → grade < 256
    → IsTrue (is_graded_doc topic doc grade)
doc_plain topic doc grade name docno below =
    and_from (is_name topic && is_docno doc) (nat_lt grade 256) (and_from (is_name topic) (is_docno doc) name docno)
    (lt-ltb grade 256 below)

doc_fits : (topic doc : Text) (grade : ℕ) → IsTrue (is_graded_doc topic doc grade)
    → IsTrue (is_name topic) × (IsTrue (is_docno doc) × (grade < 256))
doc_fits topic doc grade plain =
    let a = and_parts (is_name topic && is_docno doc) (nat_lt grade 256) plain in
    let b = and_parts (is_name topic) (is_docno doc) a.0 in
    (b.0, (b.1, ltb-true grade 256 a.1))

lease_fits : (lease grade : ℕ) → IsTrue (is_plain (command.Grade lease grade)) → (lease < 2 ^ 32) × (grade < 256)
lease_fits lease grade plain =
    let a = and_parts (nat_lt lease (2 ^ 32)) (nat_lt grade 256) plain in (ltb-true _ _ a.0, ltb-true _ _ a.1)

-- Commands

abbrev IsCommand : Text → Command × Text → Type 0
IsCommand bytes p = IsTrue (is_plain p.0) × (bytes ≡ command_bytes p.0 ++ p.1)

-- what is read behind a kind is a command of this kind
module _ {X : Type 0} {spell : X → Text} {Fits : X → Type 0} {at : Text → Read X} (c : Codes spell Fits at)
    (f : X → Command) (kind : ℕ)
    (same : (x : X) → Fits x → kind ∷ spell x ≡ command_bytes (f x)) (plain : (x : X) → Fits x → IsTrue (is_plain (f x))) where
  kind_takes : (bytes : Text) (b : ℕ) (rest : Text) (p : Command × Text) → IsBytes bytes → bytes ≡ b ∷ rest
      → eqb b kind ≡ true → value_by f (at rest) ≡ Some p → IsCommand bytes p
  kind_takes bytes b rest p fits parts test is =
      let u = map_some (at rest) (λ x. (f x.0, x.1)) p is in
      let first = c.takes rest u.0 (IsBytes-behind bytes (b ∷ []) rest fits parts) u.1 in
      let spelled : bytes ≡ command_bytes (f u.0.0) ++ u.0.1 =
      parts ∙ ap (λ (n : ℕ). n ∷ rest) (eqb-true b kind test) ∙ ap (λ (r : Text). kind ∷ r) first.1
      ∙ ap (λ (t : Text). t ++ u.0.1) (same u.0.0 first.0) in
      subst (IsCommand bytes) u.2 (plain u.0.0 first.0, spelled)

-- one choice of a kind
module _ (bytes : Text) (b : ℕ) (p : Command × Text) where
  choose : (kind : ℕ) (here others : Read Command) → cond (eqb b kind) here others ≡ Some p
      → (eqb b kind ≡ true → here ≡ Some p → IsCommand bytes p)
      → (others ≡ Some p → IsCommand bytes p) → IsCommand bytes p
  choose kind here others is first second = pick (eqb b kind) here others p (IsCommand bytes p) is first second

abbrev doc_text : (kind : ℕ) (p : Text × (Text × ℕ))
    → kind ∷ doc_bytes p ≡ (kind ∷ short p.0) ++ short p.1.0 ++ p.1.1 ∷ []
doc_text kind p = ap (λ (t : Text). kind ∷ t) (sym (append_assoc (short p.0) (short p.1.0) (p.1.1 ∷ [])))

leveled_bytes : (rules : Rules) (levels : List TopicLevel) → 0 < length levels
    → 12 ∷ (rules_bytes rules ++ spelled_list level_bytes levels) ≡ found_bytes rules levels
leveled_bytes rules [] some = absurd (omega (arith, some))
leveled_bytes rules (own ∷ levels) some = refl

kinds : (bytes : Text) (b : ℕ) (rest : Text) (p : Command × Text) → IsBytes bytes → bytes ≡ b ∷ rest
    → command_of b rest ≡ Some p → IsCommand bytes p
unfolding command_of
kinds bytes b rest p fits parts is =
    choose bytes b p 1 _ _ is (kind_takes rules_codes command.Found 1 (λ rules holds. ap (found_bytes rules) (sym holds.1))
    (λ rules holds. and_from (are_settings rules) (are_levels rules) holds.0 (rw holds.1 refl)) bytes b rest p fits parts)
    (λ is. choose bytes b p 2 _ _ is (kind_takes topics_codes command.Topics 2 (λ topics holds. refl)
    (λ topics holds. holds) bytes b rest p fits parts)
    (λ is. choose bytes b p 3 _ _ is (kind_takes run_codes submit_of 3
    (λ q holds. refl) submit_plain bytes b rest p fits parts)
    (λ is. choose bytes b p 4 _ _ is (kind_takes nothing_codes (λ u. command.Open) 4 (λ u holds. refl)
    (λ u holds. refl) bytes b rest p fits parts)
    (λ is. choose bytes b p 5 _ _ is (kind_takes name_codes command.Lease 5 (λ topic holds. refl)
    (λ topic holds. holds) bytes b rest p fits parts)
    (λ is. choose bytes b p 6 _ _ is
    (kind_takes lease_codes grade_of_parts 6 (λ q holds. refl)
    (λ q holds. and_from (nat_lt q.0 (2 ^ 32)) (nat_lt q.1 256) (lt-ltb _ _ holds.0)
    (lt-ltb _ _ holds.1)) bytes b rest p fits parts)
    (λ is. choose bytes b p 7 _ _ is
    (kind_takes (number_codes w32 (2 ^ 32) wide32) command.Release 7 (λ lease holds. refl)
    (λ lease holds. lt-ltb lease (2 ^ 32) holds) bytes b rest p fits parts)
    (λ is. choose bytes b p 8 _ _ is (kind_takes doc_codes amend_of 8 (λ q holds. doc_text 8 q)
    (λ q holds. doc_plain q.0 q.1.0 q.1.1 holds.0 holds.1.0 holds.1.1) bytes b rest p fits parts)
    (λ is. choose bytes b p 9 _ _ is (kind_takes doc_codes rule_of 9 (λ q holds. doc_text 9 q)
    (λ q holds. doc_plain q.0 q.1.0 q.1.1 holds.0 holds.1.0 holds.1.1) bytes b rest p fits parts)
    (λ is. choose bytes b p 10 _ _ is (kind_takes name_codes command.Withdraw 10 (λ run holds. refl)
    (λ run holds. holds) bytes b rest p fits parts)
    (λ is. choose bytes b p 11 _ _ is (kind_takes nothing_codes (λ u. command.Publish) 11 (λ u holds. refl)
    (λ u holds. refl) bytes b rest p fits parts)
    (λ is. choose bytes b p 12 _ _ is (kind_takes leveled_codes command.Found 12 (λ rules holds. leveled_bytes rules rules.levels holds.1)
    (λ rules holds. holds.0) bytes b rest p fits parts)
    (λ none. absurd cc))))))))))))

command_takes : (bytes : Text) (p : Command × Text) → IsBytes bytes → command_read bytes ≡ Some p → IsCommand bytes p
unfolding command_read
command_takes bytes p fits is =
    let u = bind_some (byte_read bytes) (λ kind. command_of kind.0 kind.1) p is in
    kinds bytes u.0.0 u.0.1 p fits (byte_codes.takes bytes u.0 fits u.1).1 u.2

found_again : (rules : Rules) (levels : List TopicLevel) (rest : Text) → rules.levels ≡ levels → IsTrue (are_rules rules)
    → command_read (found_bytes rules levels ++ rest) ≡ Some (command.Found rules, rest)
unfolding command_read command_of
found_again rules [] rest none are =
    ap (value_by command.Found) (rules_codes.again rules rest ((and_parts (are_settings rules) (are_levels rules) are).0, none))
found_again rules (own ∷ levels) rest some are =
    ap (λ (ls : List TopicLevel). value_by command.Found (leveled_read ((rules_bytes rules ++ spelled_list level_bytes ls) ++ rest))) (sym some)
    ∙ ap (value_by command.Found) (leveled_codes.again rules rest (are, rw some (omega arith)))

command_again : (c : Command) (rest : Text) → IsTrue (is_plain c)
    → command_read (command_bytes c ++ rest) ≡ Some (c, rest)
unfolding command_read command_of
command_again (command.Found rules) rest plain = found_again rules rules.levels rest refl plain
command_again (command.Topics topics) rest plain = ap (value_by command.Topics) (topics_codes.again topics rest plain)
command_again (command.Submit run lists) rest plain =
    ap (value_by submit_of) (run_codes.again (run, lists) rest (submit_fits run lists plain))
command_again command.Open rest plain = refl
command_again (command.Lease topic) rest plain = ap (value_by command.Lease) (name_codes.again topic rest plain)
command_again (command.Grade lease grade) rest plain =
    ap (value_by grade_of_parts) (lease_codes.again (lease, grade) rest (lease_fits lease grade plain))
command_again (command.Release lease) rest plain =
    ap (value_by command.Release) ((number_codes w32 (2 ^ 32) wide32).again lease rest (ltb-true lease (2 ^ 32) plain))
command_again (command.Amend topic doc grade) rest plain =
    ap (λ (t : Text). command_read (t ++ rest)) (sym (doc_text 8 (topic, (doc, grade))))
    ∙ ap (value_by amend_of) (doc_codes.again (topic, (doc, grade)) rest (doc_fits topic doc grade plain))
command_again (command.Rule topic doc grade) rest plain =
    ap (λ (t : Text). command_read (t ++ rest)) (sym (doc_text 9 (topic, (doc, grade))))
    ∙ ap (value_by rule_of) (doc_codes.again (topic, (doc, grade)) rest (doc_fits topic doc grade plain))
command_again (command.Withdraw run) rest plain = ap (value_by command.Withdraw) (name_codes.again run rest plain)
command_again command.Publish rest plain = refl

command_codes : Codes command_bytes (λ c. IsTrue (is_plain c)) command_read
command_codes = record { takes = command_takes; again = command_again }

-- Entries

entry_codes : Codes entry_bytes (λ core. IsTrue (has_spelling core)) entry_read
unfolding entry_read
entry_codes =
    like (changed (both caller_codes (both request_codes (both moment_codes command_codes)))
    core_of_parts (λ core. (core.caller, (core.number, (core.moment, core.command)))) (λ core. refl) (λ p. refl))
    entry_bytes (λ core. IsTrue (has_spelling core))
    (λ core.
    four_texts (caller_bytes core.caller) (number_bytes core.number) (to_le_bytes w64 core.moment)
    (command_bytes core.command)
    ∙ ap (λ (t : Text). t ++ to_le_bytes w64 core.moment ++ command_bytes core.command)
    (append_assoc (short core.caller.name) (role_byte core.caller.role ∷ []) (number_bytes core.number)))
    (λ core fits.
    and_from (is_name core.caller.name && is_number core.number && nat_le core.moment max_moment)
    (is_plain core.command)
    (and_from (is_name core.caller.name && is_number core.number) (nat_le core.moment max_moment)
    (and_from (is_name core.caller.name) (is_number core.number) fits.0 fits.1.0) fits.1.1.0) fits.1.1.1)
    (λ core is.
    let a = and_parts (is_name core.caller.name && is_number core.number && nat_le core.moment max_moment)
    (is_plain core.command) is in
    let b = and_parts (is_name core.caller.name && is_number core.number) (nat_le core.moment max_moment) a.0 in
    let c = and_parts (is_name core.caller.name) (is_number core.number) b.0 in
    (c.0, (c.1, (b.1, a.1))))

-- what is read of bytes is what they spell
pub spells : (bytes : Text) (core : EntryCore) → IsBytes bytes → entry_of bytes ≡ Some core → IsSpelling bytes core
unfolding entry_of
spells bytes core fits is =
    let u = bind_some (entry_read bytes) (λ x. cond (eqb (length x.1) 0) (Some x.0) None) core is in
    let t = cond_some (eqb (length u.0.1) 0) u.0.0 core u.2 in
    let first = entry_codes.takes bytes u.0 fits u.1 in
    let nothing : u.0.1 ≡ [] = nil_from_length u.0.1 (eqb-true _ _ t.0) in
    let parts : bytes ≡ entry_bytes u.0.0 =
    first.1 ∙ ap (λ (rest : Text). entry_bytes u.0.0 ++ rest) nothing ∙ append-nil (entry_bytes u.0.0) in
    subst (IsSpelling bytes) t.1 (first.0, parts)

-- what bytes spell is read of them
pub spelled_again : (bytes : Text) (core : EntryCore) → IsSpelling bytes core → entry_of bytes ≡ Some core
unfolding entry_of
spelled_again bytes core spelled =
    let read : entry_read (entry_bytes core) ≡ Some (core, []) =
    ap entry_read (sym (append-nil (entry_bytes core))) ∙ entry_codes.again core [] spelled.0 in
    ap entry_of spelled.1 ∙ rw read refl

-- What a reader answers

pub is_spelling : (bytes : Text) (r : Result EntryCore CodecFault) → IsBytes bytes → FindsWhole r (entry_of bytes)
    → IfOk r (λ core. IsSpelling bytes core)
is_spelling bytes (Ok core) fits found = spells bytes core fits found
is_spelling bytes (Err f) fits found = tt

none_spelled : (bytes : Text) (f : CodecFault) → OnNoEntry f (entry_of bytes ≡ None)
    → OnNoEntry f ((core : EntryCore) → IsSpelling bytes core → ⊥)
none_spelled bytes fault.NoEntry none =
    λ core spelled. let some : Some core ≡ None = sym (spelled_again bytes core spelled) ∙ none in cc
none_spelled bytes fault.Memory none = tt

pub is_no_spelling : (bytes : Text) (r : Result EntryCore CodecFault) → FindsWhole r (entry_of bytes)
    → IfErr r (λ f. OnNoEntry f ((core : EntryCore) → IsSpelling bytes core → ⊥))
is_no_spelling bytes (Ok core) found = tt
is_no_spelling bytes (Err f) found = none_spelled bytes f found

-- The law

pub one_spelling_holds : OneSpelling
one_spelling_holds bytes other core more first second =
    let there : bytes ≡ other → core ≡ more = λ same.
    let both : Some core ≡ Some more =
    sym (spelled_again bytes core first) ∙ ap entry_of same ∙ spelled_again other more second in cc in
    let back : core ≡ more → bytes ≡ other = λ same. first.1 ∙ ap entry_bytes same ∙ sym second.1 in
    (there, back)
