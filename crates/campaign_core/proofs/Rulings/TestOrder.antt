-- Tests in their order: that of the phase, and those in front of others.
use Rattle.std.proofs.Common.{◌≡◌, true, false, not, List, [], ◌∷◌, ◌++◌, Option, Some, None, Err, refl, sym, ap, ◌∙◌}
use Rattle.rulebook.specs.declared.reply.Refusal.{Refusal}
use Rattle.rulebook.specs.declared.reply.Refusal.TheVariants as refusal
use Rattle.rulebook.specs.declared.rules.Phase.{Phase}
use Rattle.rulebook.specs.declared.rules.Phase.TheVariants.{Judging}
use Rattle.rulebook.specs.Campaign.{History, phase}
use Rattle.rulebook.specs.Requests.Refusals.{Outcome, ◌when◌, is_phase, unless, wrong_phase_unless, wrong_phase_where}
use Rattle.campaign_core.specs.Assessments.DeskLeases.{first_refusal}

pub in-phase : (H : History) (p : Phase) (tests : List (Option Refusal)) (ruling : Outcome) → p ≡ phase H → true ≡ is_phase Judging p
    → unless (wrong_phase_unless Judging H ∷ tests) ruling ≡ unless tests ruling
in-phase H p tests ruling phase_is judging =
    ap (λ t. unless ((refusal.WrongPhase (phase H) when not t) ∷ tests) ruling) (ap (is_phase Judging) (sym phase_is) ∙ sym judging)

pub out-of-phase : (H : History) (wanted p : Phase) (tests : List (Option Refusal)) (ruling : Outcome) → p ≡ phase H → false ≡ is_phase wanted p
    → unless (wrong_phase_unless wanted H ∷ tests) ruling ≡ Err (refusal.WrongPhase p)
out-of-phase H wanted p tests ruling phase_is other =
    ap (λ t. unless ((refusal.WrongPhase (phase H) when not t) ∷ tests) ruling) (ap (is_phase wanted) (sym phase_is) ∙ sym other)
    ∙ ap (λ (q : Phase). let told : Outcome = Err (refusal.WrongPhase q) in told) (sym phase_is)

pub barred-phase : (H : History) (wanted p : Phase) (tests : List (Option Refusal)) (ruling : Outcome) → p ≡ phase H → true ≡ is_phase wanted p
    → unless (wrong_phase_where wanted H ∷ tests) ruling ≡ Err (refusal.WrongPhase p)
barred-phase H wanted p tests ruling phase_is there =
    ap (λ t. unless ((refusal.WrongPhase (phase H) when t) ∷ tests) ruling) (ap (is_phase wanted) (sym phase_is) ∙ sym there)
    ∙ ap (λ (q : Phase). let told : Outcome = Err (refusal.WrongPhase q) in told) (sym phase_is)

pub refused : (tests more : List (Option Refusal)) (r : Refusal) (ruling : Outcome) → first_refusal tests ≡ Some r → unless (tests ++ more) ruling ≡ Err r
refused [] more r ruling is = cc is
refused (None ∷ tests) more r ruling is = refused tests more r ruling is
refused (Some s ∷ tests) more r ruling is = let same : s ≡ r = cc is in ap (λ (t : Refusal). let told : Outcome = Err t in told) same

pub passed : (tests more : List (Option Refusal)) (ruling : Outcome) → first_refusal tests ≡ None → unless (tests ++ more) ruling ≡ unless more ruling
passed [] more ruling is = refl
passed (None ∷ tests) more ruling is = passed tests more ruling is
passed (Some s ∷ tests) more ruling is = cc is
