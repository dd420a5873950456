-- No record, one more, and all of them.
use Rattle.std.proofs.Common.{rules, ◌≡◌, ◌≤◌, ◌<◌, ◌+◌, ◌^◌, ◌∷◌, ◌++◌, [], ℕ, List, Vec, length, take, get_or, ap, ◌∙◌, sym, subst, arith}
use Rattle.std.specs.declared.alloc.Global.{Global}
use Rattle.std.proofs.lemmas.List.{map-append, take_all, take_more}
use Rattle.journal.specs.Format.{record_of}
use Rattle.journal.specs.KeptRecords.{AreRecords, payloads as payloads_of}
use Rattle.journal.proofs.RecordBytes.{no_records, records_push}
use Rattle.journal.proofs.replacing.areas.records_of.Goals as goal

pub loop-payload-init : goal.loop-payload-init
loop-payload-init c = subst (λ (bytes : List ℕ). AreRecords bytes []) (sym c.new-run.ensures.items) no_records

pub loop-payload-preserved : goal.loop-payload-preserved
loop-payload-preserved c =
    let xs = c.args.payloads.now in
    let i = c.loop-payload.payload-index in
    let payload = c.payload-item.result in
    let within : i < length xs = search rules in
    let short : length payload.items ≤ 2 ^ 25 = search rules in
    let same : c.deref.result.now ≡ payload.items = c.deref.ensures.value in
    let one_more : payloads_of (take i xs) ++ payload.items ∷ [] ≡ payloads_of (take (i + 1) xs) =
    ap (λ (p : Vec ℕ Global). payloads_of (take i xs) ++ p.items ∷ []) c.payload-item.is
    ∙ sym (map-append (λ (p : Vec ℕ Global). p.items) (take i xs) (get_or xs i payload ∷ []))
    ∙ ap (λ (ps : List (Vec ℕ Global)). payloads_of ps) (sym (take_more xs i payload within)) in
    let grown : c.loop-payload.run.items ++ record_of payload.items ≡ c.put_record.new.out.items =
    ap (λ (bytes : List ℕ). c.loop-payload.run.items ++ record_of bytes) (sym same) ∙ sym c.in_ok-put_record.ensures in
    subst (λ (all : List (List ℕ)). AreRecords c.put_record.new.out.items all) one_more
    (subst (λ (bytes : List ℕ). AreRecords bytes (payloads_of (take i xs) ++ payload.items ∷ [])) grown
    (records_push payload.items (omega (arith, short)) c.loop-payload.run.items (payloads_of (take i xs)) c.loop-payload.invariant))

pub returns : goal.returns
returns c =
    let xs = c.args.payloads.now in
    let all : take c.loop-payload.payload-index xs ≡ xs = take_all c.loop-payload.payload-index xs (search rules) in
    record {
      run = c.loop-payload.run.items;
      holds = subst (λ (ps : List (Vec ℕ Global)). AreRecords c.loop-payload.run.items (payloads_of ps)) all c.loop-payload.invariant;
      ended = c.in_ok-push.ensures.items;
    }
