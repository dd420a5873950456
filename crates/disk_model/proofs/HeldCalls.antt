-- One call more among those that a disk in memory holds.
use Rattle.std.proofs.Common.{◌≡◌, ◌∙◌, ◌≤◌, List, ℕ, [], ◌∷◌, ◌++◌, length, sym, ap, subst}
use Rattle.disk_model.specs.declared.disk_calls.DiskCall.{DiskCall}
use Rattle.disk_model.specs.Calls.{LeavesContent, content_after, content_by}
use Rattle.disk_model.specs.MemoryDisks.{HeldContent, content_of, with_call}
use Rattle.disk_model.proofs.Images.{content_left, content_push}

abbrev pub held_as : List ℕ → List DiskCall → HeldContent
held_as start calls = record { start = start; calls = calls }

-- a call that leaves the content
pub quiet_content : (held : HeldContent) (call : DiskCall) → LeavesContent call → content_of (with_call held call) ≡ content_of held
quiet_content held call is_quiet = content_push held.calls call held.start ∙ sym (content_left call is_quiet (content_of held))

-- Bytes that are what calls made of a start, behind a step.
module _ (start content : List ℕ) (calls : List DiskCall) (held : HeldContent)
    (replayed : content ≡ content_after calls start) (is : held_as start calls ≡ held) where
  pub bytes_are : content ≡ content_of held
  bytes_are = replayed ∙ ap (λ (other : HeldContent). content_of other) is

  -- what is within the content is within the bytes
  pub within_bytes : (place : ℕ) → place ≤ length (content_of held) → place ≤ length content
  within_bytes place within = subst (λ (bytes : List ℕ). place ≤ length bytes) (sym bytes_are) within

  module _ (start' content' : List ℕ) (calls' : List DiskCall) (start_is : start' ≡ start) where
    -- no call joined
    pub still_replayed : calls' ≡ calls → content' ≡ content → content' ≡ content_after calls' start'
    still_replayed calls_are content_is = content_is ∙ replayed ∙ ap (λ (cs : List DiskCall). content_after cs start) (sym calls_are)
        ∙ ap (content_after calls') (sym start_is)

    pub still_held : calls' ≡ calls → held_as start' calls' ≡ held
    still_held calls_are = ap (λ (s : List ℕ). held_as s calls') start_is ∙ ap (held_as start) calls_are ∙ is

    -- a call joined
    module _ (call : DiskCall) (calls_are : calls' ≡ calls ++ call ∷ []) where
      pub replayed_with : content' ≡ content_by call content → content' ≡ content_after calls' start'
      replayed_with content_is = content_is ∙ ap (content_by call) replayed ∙ sym (content_push calls call start)
          ∙ ap (λ (cs : List DiskCall). content_after cs start) (sym calls_are) ∙ ap (content_after calls') (sym start_is)

      pub held_with : held_as start' calls' ≡ with_call held call
      held_with = ap (λ (s : List ℕ). held_as s calls') start_is ∙ ap (held_as start) calls_are ∙ ap (λ (other : HeldContent). with_call other call) is
