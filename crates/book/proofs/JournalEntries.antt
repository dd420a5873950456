-- What a journal keeps, said of a book's entries.
use Rattle.std.proofs.Common.{◌≡◌, ◌≢◌, ◌⊎◌, ◌≤◌, inl, inr, ⊎_elim, ℕ, ◌+◌, List, [], ◌∷◌, ◌++◌, Option, None, Some, Bool, true, false, length, refl, sym, ap, subst, ◌∙◌, arith}
use Rattle.std.specs.Prelude.{Err, Ok, Result}
use Rattle.std.proofs.lemmas.List.{append-nil, map-append}
use Rattle.std.proofs.lemmas.List.Sums.{sum_by_push}
use Rattle.decimal_rank.specs.Causes.{Rose}
use Rattle.disk_model.specs.Disks.{DiskState, EachMoment, OnlyNow}
use Rattle.journal.specs.declared.dues.Due.{Due}
use Rattle.journal.specs.declared.dues.Due.TheVariants.{Nothing, Cut, Gate}
use Rattle.journal.specs.Format.{place_behind}
use Rattle.journal.specs.Journals.{JournalState, KeepsRecords}
use Rattle.journal.specs.KeptRecords.{HoldsRecords, HoldsRecordsOfOne, Keeps, KeepsSome, Settled, StillKeeps}
use Rattle.journal.specs.Moments.{joined, started, weaker}
use Rattle.rulebook.specs.declared.entry.Entry.{Entry}
use Rattle.rulebook.specs.Campaign.{History}
use Rattle.rulebook.specs.Histories.Legal.{IsAccepted, IsLegal}
use Rattle.rulebook.specs.Spelling.{entry_bytes}
use Rattle.rulebook.specs.Words.{Text}
use Rattle.book.specs.Images.{HoldsEntries, HoldsOneOf, HoldsWith, ImagesHold}
use Rattle.book.specs.JournaledEntries.{EndsWithin, KeepsBook, KeepsEntry, spelled}
use Rattle.book.specs.Stories.{IsStory, spellings}
use Rattle.book.proofs.Histories.{legal_push}
use Rattle.book.proofs.Payloads.UnfoldedPayloads.{story_push}

spellings_push : (H : History) (e : Entry) → spellings (H ++ e ∷ []) ≡ spellings H ++ entry_bytes e.core ∷ []
spellings_push H e = map-append (λ (e : Entry). entry_bytes e.core) H (e ∷ [])

place_push : (H : History) (e : Entry) → place_behind (spellings (H ++ e ∷ [])) ≡ place_behind (spellings H) + (length (entry_bytes e.core) + 5)
place_push H e =
    let longer : place_behind (spellings (H ++ e ∷ [])) ≡ place_behind (spellings H ++ entry_bytes e.core ∷ []) =
    ap (λ (all : List Text). place_behind all) (spellings_push H e) in
    let sums = sum_by_push (λ (payload : Text). length payload + 5) (spellings H) (entry_bytes e.core) in
    omega (arith, longer, sums)

-- one record more
pub within_push : (place after : ℕ) (H : History) (e : Entry) → after ≡ place + 5 + length (entry_bytes e.core)
    → EndsWithin place H → EndsWithin after (H ++ e ∷ [])
within_push place after H e is within = omega (arith, within, is, place_push H e)

pub holds_alone : (H : History) (pending : Option Entry) (image : List ℕ) → HoldsEntries H image → HoldsWith H pending image
holds_alone H None image is = is
holds_alone H (Some e) image is = inl is

holds_none : (payloads : List Text) (H : History) (pending : Option Entry) (image : List ℕ) → IsStory payloads H
    → HoldsRecords payloads [] image → HoldsWith H pending image
holds_none payloads H pending image story (inl is) = holds_alone H pending image (payloads, is, story)
holds_none payloads H pending image story (inr is) = holds_alone H pending image (payloads, is ∙ ap Some (append-nil payloads), story)

-- an image of the records, with some of what is pending
holds_with : (payloads : List Text) (H : History) (pending : Option Entry) (image : List ℕ) → IsLegal H
    → ((e : Entry) → pending ≡ Some e → IsAccepted H e) → IsStory payloads H
    → HoldsRecords payloads (spelled pending) image → HoldsWith H pending image
holds_with payloads H None image legal accepted story stands = holds_none payloads H None image story stands
holds_with payloads H (Some e) image legal accepted story (inl is) = inl (payloads, is, story)
holds_with payloads H (Some e) image legal accepted story (inr is) =
    inr (payloads ++ entry_bytes e.core ∷ [], is, story_push payloads H e legal (accepted e refl) story)

none_accepted : (H : History) (e : Entry) → None ≡ Some e → IsAccepted H e
none_accepted H e is = absurd (cc is)

pub keeps_settled : (images : List ℕ → Type 0) (place : ℕ) (due : Due) (all : List (List ℕ)) → due ≡ Nothing
    → Settled images place all → Keeps images place due all []
keeps_settled images place due all is settled = subst (λ (d : Due). Keeps images place d all []) (sym is) (settled, refl)

keeps_nothing : (images : List ℕ → Type 0) (place : ℕ) (due : Due) (all pending : List (List ℕ)) → due ≡ Nothing
    → Keeps images place due all pending → Keeps images place due all []
keeps_nothing images place due all pending is keeps =
    let there : Keeps images place Nothing all pending = subst (λ (d : Due). Keeps images place d all pending) is keeps in
    keeps_settled images place due all is there.0

-- what a test of what is due says
pub nothing_due : (due : Due) (is_due : Bool) → (due ≢ Nothing → is_due ≡ true) → is_due ≡ false → due ≡ Nothing
nothing_due Nothing is_due tells not_due = refl
nothing_due Cut is_due tells not_due = let wrong : false ≡ true = sym not_due ∙ tells (λ is. cc) in cc
nothing_due Gate is_due tells not_due = let wrong : false ≡ true = sym not_due ∙ tells (λ is. cc) in cc

pub settled_keeps : {D : Type 0} (seen : D → DiskState) (journal : JournalState D) (payloads : List Text) (H : History)
    → IsLegal H → IsStory payloads H → journal.due ≡ Nothing
    → Settled (seen journal.disk).images journal.place payloads → KeepsBook seen journal H None
settled_keeps seen journal payloads H legal story is settled = record {
  legal = legal;
  accepted = none_accepted H;
  payloads = payloads;
  story = story;
  keeps = inl (keeps_settled (seen journal.disk).images journal.place journal.due payloads is settled);
}

-- What is known of whatever a journal keeps is known of the book's entries.
module _ {D : Type 0} (seen : D → DiskState) (old : JournalState D) (H : History) (pending : Option Entry) (keeps : KeepsBook seen old H pending) where
  abbrev kept : List Text
  kept = keeps.payloads

  held : (image : List ℕ) → HoldsRecords kept (spelled pending) image → HoldsWith H pending image
  held image = holds_with kept H pending image keeps.legal keeps.accepted keeps.story

  pub book_holds : ((all more : List (List ℕ)) → KeepsRecords seen old all more → (image : List ℕ) → (seen old.disk).images image → HoldsRecords all more image)
      → ImagesHold (seen old.disk).images H pending
  book_holds stands image here =
      ⊎_elim (λ (none : KeepsRecords seen old kept []). holds_none kept H pending image keeps.story (stands kept [] none image here))
      (λ (some : KeepsRecords seen old kept (spelled pending)). held image (stands kept (spelled pending) some image here)) keeps.keeps

  -- nothing is due
  pub still_keeps : old.due ≡ Nothing → KeepsBook seen old H None
  still_keeps is = record {
    legal = keeps.legal;
    accepted = none_accepted H;
    payloads = kept;
    story = keeps.story;
    keeps = ⊎_elim (λ (none : KeepsRecords seen old kept []). inl none)
        (λ (some : KeepsRecords seen old kept (spelled pending)). inl (keeps_nothing (seen old.disk).images old.place old.due kept (spelled pending) is some))
        keeps.keeps;
  }

  pub still_moments : ImagesHold (seen old.disk).images H pending → OnlyNow (seen old.disk) → EachMoment seen old.disk old.disk (HoldsWith H pending)
  still_moments stands only_now = started seen old.disk (HoldsWith H pending) (λ image left. stands image (only_now image left))

  module _ (new : JournalState D) where
    -- a mend, done or failed
    pub mend_keeps : ((all more : List (List ℕ)) → KeepsRecords seen old all more → KeepsSome (seen new.disk).images new.place new.due all more)
        → KeepsBook seen new H pending
    mend_keeps still = record {
      legal = keeps.legal;
      accepted = keeps.accepted;
      payloads = kept;
      story = keeps.story;
      keeps = ⊎_elim (λ (none : KeepsRecords seen old kept []).
          ⊎_elim (λ (a : KeepsRecords seen new kept []). inl a) (λ (a : KeepsRecords seen new kept []). inl a) (still kept [] none))
          (λ (some : KeepsRecords seen old kept (spelled pending)). still kept (spelled pending) some) keeps.keeps;
    }

    pub mend_done : ((all more : List (List ℕ)) → KeepsRecords seen old all more → Settled (seen new.disk).images new.place all)
        → new.due ≡ Nothing → KeepsBook seen new H None
    mend_done mended is =
        settled_keeps seen new kept H keeps.legal keeps.story is
        (⊎_elim (λ (none : KeepsRecords seen old kept []). mended kept [] none)
        (λ (some : KeepsRecords seen old kept (spelled pending)). mended kept (spelled pending) some) keeps.keeps)

    pub mend_moments : ((all more : List (List ℕ)) → KeepsRecords seen old all more → EachMoment seen old.disk new.disk (HoldsRecords all more))
        → EachMoment seen old.disk new.disk (HoldsWith H pending)
    mend_moments run =
        ⊎_elim (λ (none : KeepsRecords seen old kept []). weaker seen old.disk new.disk (HoldsRecords kept [])
        (HoldsWith H pending) (λ image. holds_none kept H pending image keeps.story) (run kept [] none))
        (λ (some : KeepsRecords seen old kept (spelled pending)). weaker seen old.disk new.disk (HoldsRecords kept (spelled pending))
        (HoldsWith H pending) held (run kept (spelled pending) some)) keeps.keeps

-- an append of an accepted entry where nothing is pending
module _ {D : Type 0} (seen : D → DiskState) (old new : JournalState D) (H : History) (e : Entry) (accepted : IsAccepted H e)
    (payload : List ℕ) (spells : payload ≡ entry_bytes e.core) (keeps : KeepsBook seen old H None) where
  alone : KeepsRecords seen old keeps.payloads []
  alone = ⊎_elim (λ (none : KeepsRecords seen old keeps.payloads []). none) (λ (none : KeepsRecords seen old keeps.payloads []). none) keeps.keeps

  longer : IsStory (keeps.payloads ++ payload ∷ []) (H ++ e ∷ [])
  longer = subst (λ (bytes : List ℕ). IsStory (keeps.payloads ++ bytes ∷ []) (H ++ e ∷ [])) (sym spells)
      (story_push keeps.payloads H e keeps.legal accepted keeps.story)

  pub append_done : ((all more : List (List ℕ)) → KeepsRecords seen old all more → Settled (seen new.disk).images new.place (all ++ payload ∷ []))
      → new.due ≡ Nothing → KeepsBook seen new (H ++ e ∷ []) None
  append_done added is =
      settled_keeps seen new (keeps.payloads ++ payload ∷ []) (H ++ e ∷ []) (legal_push H e keeps.legal accepted) longer is (added keeps.payloads [] alone)

  one_accepted : (x : Entry) → Some e ≡ Some x → IsAccepted H x
  one_accepted x is =
      let same : e ≡ x = cc is in
      subst (IsAccepted H) same accepted

  pub append_failed : ((all more : List (List ℕ)) → KeepsRecords seen old all more → StillKeeps (seen new.disk).images new.place new.due all more payload)
      → KeepsBook seen new H (Some e)
  append_failed kept = record {
    legal = keeps.legal;
    accepted = one_accepted;
    payloads = keeps.payloads;
    story = keeps.story;
    keeps = ⊎_elim (λ (some : KeepsSome (seen new.disk).images new.place new.due keeps.payloads []).
        ⊎_elim (λ (a : KeepsRecords seen new keeps.payloads []). inl a) (λ (a : KeepsRecords seen new keeps.payloads []). inl a) some)
        (λ (it : KeepsRecords seen new keeps.payloads (payload ∷ [])). inr
        (subst (λ (bytes : List ℕ). KeepsRecords seen new keeps.payloads (bytes ∷ [])) spells it))
        (kept keeps.payloads [] alone);
  }

  holds_one : (image : List ℕ) → HoldsRecordsOfOne keeps.payloads [] payload image → HoldsWith H (Some e) image
  holds_one image (inl none) = holds_none keeps.payloads H (Some e) image keeps.story none
  holds_one image (inr (inl is)) = inl (keeps.payloads, is, keeps.story)
  holds_one image (inr (inr is)) = inr (keeps.payloads ++ payload ∷ [], is, longer)

  pub append_moments : ((all more : List (List ℕ)) → KeepsRecords seen old all more → EachMoment seen old.disk new.disk (HoldsRecordsOfOne all more payload))
      → EachMoment seen old.disk new.disk (HoldsWith H (Some e))
  append_moments run =
      weaker seen old.disk new.disk (HoldsRecordsOfOne keeps.payloads [] payload) (HoldsWith H (Some e)) holds_one (run keeps.payloads [] alone)

-- what is pending or added
pub one_pending : (H : History) (pending : Option Entry) (e : Entry) (image : List ℕ) → HoldsWith H pending image → HoldsOneOf H pending (e ∷ []) image
one_pending H pending e image holds = inl holds

pub one_added : (H : History) (pending : Option Entry) (e : Entry) (image : List ℕ) → HoldsWith H (Some e) image → HoldsOneOf H pending (e ∷ []) image
one_added H pending e image (inl alone) = inl (holds_alone H pending image alone)
one_added H pending e image (inr both) = inr (e, refl, both)

-- a mend and an append
pub both_moments : {D : Type 0} (seen : D → DiskState) (old mid new : D) (H : History) (pending : Option Entry) (e : Entry)
    → EachMoment seen old mid (HoldsWith H pending) → EachMoment seen mid new (HoldsWith H (Some e)) → EachMoment seen old new (HoldsOneOf H pending (e ∷ []))
both_moments seen old mid new H pending e first second =
    joined seen old mid new (HoldsOneOf H pending (e ∷ []))
    (weaker seen old mid (HoldsWith H pending) (HoldsOneOf H pending (e ∷ [])) (one_pending H pending e) first)
    (weaker seen mid new (HoldsWith H (Some e)) (HoldsOneOf H pending (e ∷ [])) (one_added H pending e) second)

pub mend_only_moments : {D : Type 0} (seen : D → DiskState) (old new : D) (H : History) (pending : Option Entry) (e : Entry)
    → EachMoment seen old new (HoldsWith H pending) → EachMoment seen old new (HoldsOneOf H pending (e ∷ []))
mend_only_moments seen old new H pending e = weaker seen old new (HoldsWith H pending) (HoldsOneOf H pending (e ∷ [])) (one_pending H pending e)

-- where the mend failed
pub keep_failed : {D T E : Type 0} (seen : D → DiskState) (old new : JournalState D) (pending pending' : Option Entry) (e : Entry)
    (result : Result T E) (error : E) → result ≡ Err error → new.place ≡ old.place
    → ((H : History) → IsAccepted H e → KeepsBook seen old H pending → KeepsBook seen new H pending')
    → (pending' ≡ pending) ⊎ (pending' ≡ Some e)
    → ((H : History) → IsAccepted H e → KeepsBook seen old H pending → EachMoment seen old.disk new.disk (HoldsOneOf H pending (e ∷ [])))
    → (seen old.disk).faults ≤ (seen new.disk).faults → Rose (seen old.disk).faults (seen new.disk).faults
    → KeepsEntry seen old new pending pending' e result
keep_failed seen old new pending pending' e (Ok value) error is place kept same moments later rose = absurd (cc is)
keep_failed seen old new pending pending' e (Err other) error is place kept same moments later rose = record {
  added = tt;
  none = tt;
  place = tt;
  place_err = place;
  kept = kept;
  pending_is = same;
  any_moment = moments;
  cause = record { later = later; failed = rose };
}
