-- How runs of a book go on: none at all is one, and two are one.
use Rattle.std.specs.Prelude.{ℕ, List, [], ◌∷◌, ◌++◌, Option, None, Some}
use Rattle.std.proofs.Common.{◌≡◌, inl, inr, refl, sym, ap, ◌∙◌, arith}
use Rattle.std.proofs.lemmas.List.{append-nil, append_assoc}
use Rattle.disk_model.specs.Disks.{DiskState, OnlyNow}
use Rattle.journal.specs.Moments.{joined, started, weaker}
use Rattle.rulebook.specs.declared.entry.Entry.{Entry}
use Rattle.rulebook.specs.Campaign.{History}
use Rattle.rulebook.specs.Histories.Legal.{IsAccepted}
use Rattle.rulebook.specs.Histories.Stories.{StartsWith}
use Rattle.book.specs.Books.{BookView, IsSound, Runs}
use Rattle.book.specs.Images.{HoldsOneOf, HoldsWith, IsBetween}

pub starts_itself : (H : History) → StartsWith H H
starts_itself H = ([], sym (append-nil H))

pub starts_on : (whole mid part : History) → StartsWith whole mid → StartsWith mid part → StartsWith whole part
starts_on whole mid part (later, is) (rest, there) = (rest ++ later, is ∙ ap (λ h. h ++ later) there ∙ append_assoc part rest later)

-- an image of the entries with the pending one is a run's
with_between : (H later : History) (pending : Option Entry) (image : List ℕ) → StartsWith later H
    → ((e : Entry) → pending ≡ Some e → IsAccepted H e) → HoldsWith H pending image → IsBetween H later image
with_between H later None image longer accepted holds = record { part = H; no_shorter = starts_itself H; no_longer = longer; held = inl holds }
with_between H later (Some e) image longer accepted (inl holds) = record { part = H; no_shorter = starts_itself H; no_longer = longer; held = inl holds }
with_between H later (Some e) image longer accepted
    (inr holds) = record { part = H; no_shorter = starts_itself H; no_longer = longer; held = inr (e, accepted e refl, holds) }

-- and so is one of the entries with the one that is added
pub between_of : (H later : History) (pending : Option Entry) (added : History) (image : List ℕ)
    → StartsWith later H → ((e : Entry) → pending ≡ Some e → IsAccepted H e)
    → ((e : Entry) → added ≡ e ∷ [] → IsAccepted H e) → HoldsOneOf H pending added image → IsBetween H later image
between_of H later pending added image longer accepted next (inl holds) = with_between H later pending image longer accepted holds
between_of H later pending added image longer accepted next (inr (e, is, holds)) =
    record { part = H; no_shorter = starts_itself H; no_longer = longer; held = inr (e, next e is, holds) }

module _ {D : Type 0} (seen : D → DiskState) where
  -- where nothing was done
  pub no_run : ((disk : D) → OnlyNow (seen disk)) → (book : BookView D) → IsSound seen book → Runs seen book book
  no_run only_now book sound = record {
    grown = starts_itself book.history;
    moments = started seen book.disk (IsBetween book.history book.history)
        (λ image left. with_between book.history book.history book.pending image (starts_itself book.history) sound.accepted
        (sound.stands image (only_now book.disk image left)));
    later = omega arith;
    opening = refl;
  }

  pub join_runs : (a b c : BookView D) → Runs seen a b → Runs seen b c → Runs seen a c
  join_runs a b c first second = record {
    grown = starts_on c.history b.history a.history second.grown first.grown;
    moments = joined seen a.disk b.disk c.disk (IsBetween a.history c.history)
        (weaker seen a.disk b.disk (IsBetween a.history b.history) (IsBetween a.history c.history)
        (λ image is. record {
          part = is.part;
          no_shorter = is.no_shorter;
          no_longer = starts_on c.history b.history is.part second.grown is.no_longer;
          held = is.held;
        }) first.moments)
        (weaker seen b.disk c.disk (IsBetween b.history c.history) (IsBetween a.history c.history)
        (λ image is. record {
          part = is.part;
          no_shorter = starts_on is.part b.history a.history is.no_shorter first.grown;
          no_longer = is.no_longer;
          held = is.held;
        }) second.moments);
    later = omega (arith, first.later, second.later);
    opening = second.opening ∙ first.opening;
  }
