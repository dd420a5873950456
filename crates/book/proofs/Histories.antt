-- Entries that can come about, by their cores.
use Rattle.std.proofs.Common.{◌≡◌, List, [], ◌∷◌, ◌++◌, refl, sym, ap, subst, ◌∙◌}
use Rattle.std.proofs.lemmas.List.{append-nil, append_assoc, map-append}
use Rattle.campaign_core.specs.Commands.Replays.{added_again}
use Rattle.rulebook.specs.declared.entry.Entry.{Entry}
use Rattle.rulebook.specs.declared.entry.EntryCore.{EntryCore}
use Rattle.rulebook.specs.declared.reply.Reply.TheVariants.{Done}
use Rattle.rulebook.specs.Campaign.{History}
use Rattle.rulebook.specs.Histories.Legal.{AreAccepted, IsAccepted, IsFounding, IsLegal}
use Rattle.book.specs.Stories.{AreCores, HasHistory, cores_of}

-- One entry more

accepted_more : (front later : History) (e : Entry) → AreAccepted front later → IsAccepted (front ++ later) e → AreAccepted front (later ++ e ∷ [])
accepted_more front [] e all here = (subst (λ (H : History). IsAccepted H e) (append-nil front) here, tt)
accepted_more front (x ∷ later) e all here =
    (all.0, accepted_more (front ++ x ∷ []) later e all.1 (subst (λ (H : History). IsAccepted H e) (sym (append_assoc front (x ∷ []) later)) here))

pub legal_push : (H : History) (e : Entry) → IsLegal H → IsAccepted H e → IsLegal (H ++ e ∷ [])
legal_push [] e legal accepted = absurd legal
legal_push (x ∷ later) e legal accepted = (legal.0, accepted_more (x ∷ []) later e legal.1 accepted)

accepted_split : (before later : History) (e : Entry) → AreAccepted before (later ++ e ∷ []) → AreAccepted before later × IsAccepted (before ++ later) e
accepted_split before [] e all = (tt, subst (λ (H : History). IsAccepted H e) (sym (append-nil before)) all.0)
accepted_split before (x ∷ later) e all =
    let (rest, last) = accepted_split (before ++ x ∷ []) later e all.1 in
    ((all.0, rest), subst (λ (H : History). IsAccepted H e) (append_assoc before (x ∷ []) later) last)

pub cores_push : (H : History) (e : Entry) → cores_of (H ++ e ∷ []) ≡ cores_of H ++ e.core ∷ []
cores_push H e = map-append (λ (e : Entry). e.core) H (e ∷ [])

-- what can come about is the history of its own cores
pub are_own : (H : History) (cores : List EntryCore) → IsLegal H → cores_of H ≡ cores → AreCores cores H
are_own [] cores legal is = absurd legal
are_own (e ∷ later) [] legal is = cc is
are_own (e ∷ later) (core ∷ cores) legal is = (legal, is)

pub cores_are : (cores : List EntryCore) (H : History) → IsLegal H → AreCores cores H → cores_of H ≡ cores
cores_are [] H legal are = absurd (subst IsLegal are legal)
cores_are (x ∷ cores) H legal are = are.1

-- Cores determine entries

one_added : (before : History) (e f : Entry) → IsAccepted before e → IsAccepted before f → e.core ≡ f.core → e ≡ f
one_added before e f first second same =
    let both : e ∷ [] ≡ f ∷ [] = sym first.added ∙ ap (added_again before) same ∙ second.added in
    cc both

same_later : (before later others : History) → AreAccepted before later → AreAccepted before others → cores_of later ≡ cores_of others → later ≡ others
same_later before [] [] all more same = refl
same_later before [] (f ∷ others) all more same = cc same
same_later before (e ∷ later) [] all more same = cc same
same_later before (e ∷ later) (f ∷ others) all more same =
    let heads : e.core ≡ f.core = cc same in
    let tails : cores_of later ≡ cores_of others = cc same in
    let one : e ≡ f = one_added before e f all.0 more.0 heads in
    let rest = same_later (before ++ e ∷ []) later others all.1 (subst (λ (x : Entry). AreAccepted (before ++ x ∷ []) others) (sym one) more.1) tails in
    ap (λ (x : Entry). x ∷ later) one ∙ ap (λ (xs : History). f ∷ xs) rest

abbrev done_with : EntryCore → Entry
done_with core = record { core = core; reply = Done }

founding_is : (e : Entry) → IsFounding e → e ≡ done_with e.core
founding_is e (rules, ok, is) = is ∙ ap (λ (x : Entry). done_with x.core) (sym is)

pub one_history : (H K : History) → IsLegal H → IsLegal K → cores_of H ≡ cores_of K → H ≡ K
one_history [] K legal other same = absurd legal
one_history (e ∷ later) [] legal other same = absurd other
one_history (e ∷ later) (f ∷ others) legal other same =
    let heads : e.core ≡ f.core = cc same in
    let tails : cores_of later ≡ cores_of others = cc same in
    let one : e ≡ f = founding_is e legal.0 ∙ ap done_with heads ∙ sym (founding_is f other.0) in
    let rest = same_later (e ∷ []) later others legal.1 (subst (λ (x : Entry). AreAccepted (x ∷ []) others) (sym one) other.1) tails in
    ap (λ (x : Entry). x ∷ later) one ∙ ap (λ (xs : History). f ∷ xs) rest

-- Nothing is accepted next

-- the last of the cores is that of the last entry
record LastOf (H : History) (front : List EntryCore) (last : EntryCore) : Type 0 where
  before : History
  e : Entry
  is : H ≡ before ++ e ∷ []
  front_is : cores_of before ≡ front
  last_is : e.core ≡ last

last_of : (H : History) (front : List EntryCore) (last : EntryCore) → cores_of H ≡ front ++ last ∷ [] → LastOf H front last
last_of [] [] last is = cc is
last_of [] (x ∷ front) last is = cc is
last_of (e ∷ []) [] last is =
    let here : e.core ≡ last = cc is in
    record { before = []; e = e; is = refl; front_is = refl; last_is = here }
last_of (e ∷ next ∷ H) [] last is = cc is
last_of (e ∷ H) (x ∷ front) last is =
    let rest : cores_of H ≡ front ++ last ∷ [] = cc is in
    let head : e.core ≡ x = cc is in
    let w = last_of H front last rest in
    record {
      before = e ∷ w.before;
      e = w.e;
      is = ap (λ (H : History). e ∷ H) w.is;
      front_is = ap (λ (x : EntryCore). x ∷ cores_of w.before) head ∙ ap (λ (xs : List EntryCore). x ∷ xs) w.front_is;
      last_is = w.last_is;
    }

legal_cores : (cores : List EntryCore) (core : EntryCore) (K : History) → AreCores (cores ++ core ∷ []) K → IsLegal K × (cores_of K ≡ cores ++ core ∷ [])
legal_cores [] core K are = are
legal_cores (x ∷ cores) core K are = are

legal_split : (H before : History) (e : Entry) → IsLegal H → cores_of before ≡ cores_of H → IsLegal (before ++ e ∷ []) → IsLegal before × IsAccepted before e
legal_split [] before e legal same both = absurd legal
legal_split (x ∷ H) [] e legal same both = cc same
legal_split (x ∷ H) (y ∷ later) e legal same both =
    let (rest, accepted) = accepted_split (y ∷ []) later e both.1 in
    ((both.0, rest), accepted)

-- where no entry of a core is accepted next, the cores have no history with it
pub ends : (H : History) (core : EntryCore) → IsLegal H → ((e : Entry) → IsAccepted H e → e.core ≡ core → ⊥) → HasHistory (cores_of H ++ core ∷ []) → ⊥
ends H core legal none (K, are) =
    let here = legal_cores (cores_of H) core K are in
    let w = last_of K (cores_of H) core here.1 in
    let split = legal_split H w.before w.e legal w.front_is (subst IsLegal w.is here.0) in
    let one : w.before ≡ H = one_history w.before H split.0 legal w.front_is in
    none w.e (subst (λ (H : History). IsAccepted H w.e) one split.1) w.last_is
