-- A run read piece by piece.
use Rattle.std.proofs.Common.{◌≡◌, ◌≤◌, ◌+◌, ◌-◌, ℕ, List, ◌++◌, length, take, drop, sym, ◌∙◌, ap, arith, Ok, Err, Result, append_assoc}
use Rattle.std.specs.Prelude.{IfOk}
use Rattle.std.proofs.Math.Seq.{take-add}
use Rattle.std.proofs.lemmas.List.{length-drop, take_all, take-append-drop}
use Rattle.trec_formats.specs.declared.runs.run_reader.RunProgress.{RunProgress}
use Rattle.trec_formats.specs.declared.runs.run_reader.RunProgress.TheVariants.{Reads, Faulty, Failed}
use Rattle.trec_formats.specs.RunFormat.RunStates.{held_at, IsRunHeld}

-- what is left of a piece
rest_is : (at : ℕ) (piece : List ℕ) → take (length piece - at) (drop at piece) ≡ drop at piece
rest_is at piece = take_all _ (drop at piece) (omega (arith, length-drop at piece))

-- a stretch behind the front of a piece
pub piece_more : (text piece : List ℕ) (at taken : ℕ)
    → (text ++ take at piece) ++ take taken (take (length piece - at) (drop at piece)) ≡ text ++ take (at + taken) piece
piece_more text piece at taken =
    append_assoc text (take at piece) _ ∙ ap (λ rest. text ++ (take at piece ++ take taken rest)) (rest_is at piece)
    ∙ ap (λ part. text ++ part) (sym (take-add at taken piece))

-- a piece in two parts
pub piece_whole : (text piece : List ℕ) (at : ℕ) → (text ++ take at piece) ++ take (length piece - at) (drop at piece) ≡ text ++ piece
piece_whole text piece at =
    append_assoc text (take at piece) _ ∙ ap (λ rest. text ++ (take at piece ++ rest)) (rest_is at piece)
    ∙ ap (λ part. text ++ part) (take-append-drop at piece)

pub held_few : (fed : ℕ) (progress : RunProgress) → IsRunHeld fed progress → held_at progress ≤ 401
held_few fed (Reads reading) w = w.0.held
held_few fed (Faulty fault) w = omega arith
held_few fed Failed w = omega arith

pub if_ok_at : {X E : Type 0} {P Q : X → Type 0} (r : Result X E) → ((x : X) → P x → Q x) → IfOk r P → IfOk r Q
if_ok_at (Ok x) f p = f x p
if_ok_at (Err e) f p = tt
