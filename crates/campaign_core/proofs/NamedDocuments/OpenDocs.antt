-- No document that is done for an assessor is open to the assessor.
use Rattle.std.proofs.Common.{◌≡◌, ◌<◌, ◌≤◌, ◌+◌, ◌&&◌, ◌||◌, ℕ, zero, suc, Bool, true, false, cond, drop, not, List, [], ◌∷◌, Some, find, length, nat_le, nat_lt, sym, ap, refl, ◌∙◌, arith, leb-true, slice_get, take}
use Rattle.std.specs.Option.{is_some}
use Rattle.std.proofs.lemmas.Bool.{false≢true}
use Rattle.std.proofs.lemmas.Bool.Decides.{nat_tests}
use Rattle.std.proofs.lemmas.List.{drop_more}
use Rattle.std.proofs.lemmas.List.Elements.{All-head, All-tail}
use Rattle.std.proofs.lemmas.Option.{get_or_from_slice_get}
use Rattle.assessment.specs.Fronts.{AreDone, is_done}
use Rattle.decimal_rank.specs.declared.naming.DocId.{DocId}
use Rattle.labels.specs.DocumentLabels.{has_label}
use Rattle.labels.specs.LabelledDocuments.{LabelledDocument, effective_at, given_at}
use Rattle.lease_desk.specs.Leases.{has_live, live_on}
use Rattle.lease_desk.specs.declared.leases.Lease.{Lease as DeskLease}
use Rattle.rulebook.specs.Words.{Text}
use Rattle.campaign_core.specs.Assessments.DeskLeases.{is_open_in}

none-of-all : (a b c : Bool) → (a && b && c && false) ≡ false
none-of-all true true true = refl
none-of-all true true false = refl
none-of-all true false c = refl
none-of-all false b c = refl

closed : (t u v w x : Bool) → (t || u || v) ≡ true → (t ≡ true → x ≡ false) → (not u && not v && not w && x) ≡ false
closed true u v w x done full = ap (λ y. not u && not v && not w && y) (full refl) ∙ none-of-all (not u) (not v) (not w)
closed false true v w x done full = refl
closed false false true w x done full = refl
closed false false false w x done full = absurd (false≢true done)

enough : (need labels leases : ℕ) → need ≤ labels → nat_lt (labels + leases) need ≡ false
enough need labels leases within = grind (arith, nat_tests)

pub done-closed : (need : ℕ) (marked : List LabelledDocument) (desk : List DeskLease) (topic now : ℕ) (assessor : Text) (doc : DocId)
    → is_done need marked assessor doc ≡ true → is_open_in need marked desk topic now assessor doc ≡ false
done-closed need marked desk topic now assessor doc done =
    closed (nat_le need (length (given_at marked doc))) (is_some (effective_at need marked doc))
    (has_label assessor (given_at marked doc)) (has_live desk assessor topic doc now)
    (nat_lt (length (given_at marked doc) + live_on desk topic doc now) need) done
    (λ many. enough need (length (given_at marked doc)) (live_on desk topic doc now) (leb-true need (length (given_at marked doc)) many))

-- so the first open one is behind those
pub find-behind : (is_open : DocId → Bool) (need : ℕ) (marked : List LabelledDocument) (assessor : Text) (front : ℕ) (docs : List DocId)
    → ((doc : DocId) → is_done need marked assessor doc ≡ true → is_open doc ≡ false)
    → AreDone need marked assessor (take front docs) → find is_open (drop front docs) ≡ find is_open docs
find-behind is_open need marked assessor zero docs closed done = refl
find-behind is_open need marked assessor (suc front) [] closed done = refl
find-behind is_open need marked assessor (suc front) (doc ∷ docs) closed done =
    find-behind is_open need marked assessor front docs closed (All-tail (λ one. is_done need marked assessor one ≡ true) doc (take front docs) done)
    ∙ sym (ap (λ t. cond t (Some doc) (find is_open docs)) (closed doc (All-head (λ one. is_done need marked assessor one ≡ true) doc (take front docs) done)))

-- what is found from a place on
pub find-more : (is_open : DocId → Bool) (docs : List DocId) (place : ℕ) (doc : DocId) → place < length docs → slice_get docs place ≡ Some doc
    → find is_open (drop place docs) ≡ cond (is_open doc) (Some doc) (find is_open (drop (place + 1) docs))
find-more is_open docs place doc within is =
    ap (find is_open) (drop_more docs place doc within)
    ∙ ap (λ (one : DocId). cond (is_open one) (Some one) (find is_open (drop (place + 1) docs))) (get_or_from_slice_get docs place doc doc is)
