-- The moments of a legal list don't fall.
use Rattle.std.proofs.Common.{◌≡◌, ℕ, ◌≤◌, [], ◌∷◌, ◌++◌, refl, sym, ap, subst, arith}
use Rattle.rulebook.specs.declared.entry.Entry.{Entry}
use Rattle.rulebook.specs.declared.entry.EntryCore.{EntryCore}
use Rattle.rulebook.specs.Histories.Additions.{MomentsRise, Rise}
use Rattle.rulebook.specs.Answers.{moment_after}
use Rattle.rulebook.specs.Campaign.{History}
use Rattle.rulebook.specs.Histories.Legal.{IsAccepted, IsFounding, IsLegal}
use Rattle.rulebook.proofs.LegalHistories.LegalWalk.{accepted_of, legal_induction}
use Rattle.rulebook.proofs.LegalHistories.AddedEntries.{moment_pushed}

rise_more : (earlier : ℕ) (front : History) (e f : Entry) → Rise earlier (front ++ e ∷ [])
    → e.core.moment ≤ f.core.moment → Rise earlier (front ++ e ∷ [] ++ f ∷ [])
rise_more earlier [] e f rises le = (rises.0, (le, tt))
rise_more earlier (x ∷ front) e f rises le = (rises.0, rise_more x.core.moment front e f rises.1 le)

-- a list that rises, with its last entry
record RisesTo (H : History) : Type 0 where
  front : History
  last : Entry
  is : H ≡ front ++ last ∷ []
  rises : Rise 0 H

pub moments_rise : MomentsRise
moments_rise H legal = (legal_induction RisesTo more first H legal).rises
  where
    more : (before : History) (e : Entry) → IsLegal before → RisesTo before → IsAccepted before e → RisesTo (before ++ e ∷ [])
    more before e legal so accepted =
        let at : e.core.moment ≡ moment_after before e.core.moment = ap (λ (c : EntryCore). c.moment) (accepted_of before e accepted).core_is in
        let there : moment_after before e.core.moment ≡ moment_after (so.front ++ so.last ∷ []) e.core.moment =
        ap (λ (H : History). moment_after H e.core.moment) so.is in
        let pushed = moment_pushed so.front so.last e.core.moment in
        let le : so.last.core.moment ≤ e.core.moment = omega (arith, at, there, pushed) in
        record {
          front = before;
          last = e;
          is = refl;
          rises = subst (λ (H : History). Rise 0 (H ++ e ∷ [])) (sym so.is)
              (rise_more 0 so.front so.last e (subst (λ (H : History). Rise 0 H) so.is so.rises) le);
        }

    first : (x : Entry) → IsFounding x → RisesTo (x ∷ [])
    first x founds = record { front = []; last = x; is = refl; rises = (omega arith, tt) }
