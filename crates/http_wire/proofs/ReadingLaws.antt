-- Bytes are read in one way at most.
use Rattle.std.proofs.Common.{◌≡◌, ℕ, List, [], ◌∷◌, Bool, true, false, refl, sym, ap, ◌∙◌, subst}
use Rattle.std.specs.Prelude.{MatchBool}
use Rattle.http_wire.specs.declared.messages.HttpRequest.{HttpRequest}
use Rattle.http_wire.specs.Heads.{behind_line_ends, is_filled}
use Rattle.http_wire.specs.Messages.{Whole, Faulty, Unfinished, IsFront, End, Closed, Refused, Clean, Cut, IsEnd, Messages}
use Rattle.http_wire.proofs.FrontLaws.{front_is_one}

-- where bytes end, no request stands
ends_here : (bytes : List ℕ) (end : End) (request : HttpRequest) (rest : List ℕ) → IsEnd bytes end → IsFront bytes (Whole request rest) → ⊥
ends_here bytes Closed request rest ends front = ends
ends_here bytes (Refused cause) request rest ends front = let wrong = front_is_one bytes (Whole request rest) (Faulty cause) front ends in cc
ends_here bytes Clean request rest ends front = let wrong = front_is_one bytes (Whole request rest) Unfinished front ends.0 in cc
ends_here bytes Cut request rest ends front = let wrong = front_is_one bytes (Whole request rest) Unfinished front ends.0 in cc

clean_or_cut : (message : List ℕ) → message ≡ [] → is_filled message ≡ true → ⊥
clean_or_cut [] none some = cc
clean_or_cut (b ∷ message) none some = cc

one_end : (bytes : List ℕ) (end other : End) → IsEnd bytes end → IsEnd bytes other → end ≡ other
one_end bytes Closed other first second = absurd first
one_end bytes (Refused cause) Closed first second = absurd second
one_end bytes (Refused cause) (Refused other) first second =
    let same = front_is_one bytes (Faulty cause) (Faulty other) first second in
    let equal : cause ≡ other = cc in ap (λ c. Refused c) equal
one_end bytes (Refused cause) Clean first second = let wrong = front_is_one bytes (Faulty cause) Unfinished first second.0 in cc
one_end bytes (Refused cause) Cut first second = let wrong = front_is_one bytes (Faulty cause) Unfinished first second.0 in cc
one_end bytes Clean Closed first second = absurd second
one_end bytes Clean (Refused cause) first second = let wrong = front_is_one bytes Unfinished (Faulty cause) first.0 second in cc
one_end bytes Clean Clean first second = refl
one_end bytes Clean Cut first second = absurd (clean_or_cut (behind_line_ends bytes) first.1 second.1)
one_end bytes Cut Closed first second = absurd second
one_end bytes Cut (Refused cause) first second = let wrong = front_is_one bytes Unfinished (Faulty cause) first.0 second in cc
one_end bytes Cut Clean first second = absurd (clean_or_cut (behind_line_ends bytes) second.1 first.1)
one_end bytes Cut Cut first second = refl

-- what follows a request is one thing where the rest is read in one way
one_after : (close : Bool) (rest : List ℕ) (requests others : List HttpRequest) (end other : End)
    → (Messages rest requests end → Messages rest others other → (requests ≡ others) × (end ≡ other))
    → MatchBool close ((requests ≡ []) × (end ≡ Closed)) (Messages rest requests end)
    → MatchBool close ((others ≡ []) × (other ≡ Closed)) (Messages rest others other) → (requests ≡ others) × (end ≡ other)
one_after true rest requests others end other behind first second = (first.0 ∙ sym second.0, first.1 ∙ sym second.1)
one_after false rest requests others end other behind first second = behind first second

pub reading_is_one : (bytes : List ℕ) (requests others : List HttpRequest) (end other : End) → Messages bytes requests end
    → Messages bytes others other → (requests ≡ others) × (end ≡ other)
reading_is_one bytes [] [] end other first second = (refl, one_end bytes end other first second)
reading_is_one bytes [] (request ∷ others) end other first (rest, front, later) = absurd (ends_here bytes end request rest first front)
reading_is_one bytes (request ∷ requests) [] end other (rest, front, later) second = absurd (ends_here bytes other request rest second front)
reading_is_one bytes (request ∷ requests) (second ∷ others) end other (rest, front, later) (behind, there, after) =
    let same = front_is_one bytes (Whole request rest) (Whole second behind) front there in
    let equal : second ≡ request = cc in
    let joined : behind ≡ rest = cc in
    let moved = subst (λ r. MatchBool r.close ((others ≡ []) × (other ≡ Closed)) (Messages behind others other)) equal after in
    let aligned = subst (λ b. MatchBool request.close ((others ≡ []) × (other ≡ Closed)) (Messages b others other)) joined moved in
    let both = one_after request.close rest requests others end other (reading_is_one rest requests others end other) later aligned in
    (ap (λ r. r ∷ requests) (sym equal) ∙ ap (λ rs. second ∷ rs) both.0, both.1)
