-- What is said over a link at moment 0, without a fault of the disk and want of memory, is what the rules answer.
use Rattle.std.proofs.Common.{◌≡◌, ℕ, Bool, true, false, not, List, [], ◌∷◌, ◌++◌, Option, Some, codes, decimal, is_some, length, refl, sym, ap, subst, arith, append_assoc, ◌∙◌}
use Rattle.std.specs.Prelude.{IfSome}
use Rattle.std.proofs.lemmas.Bool.{and_parts}
use Rattle.std.proofs.lemmas.Fmt.{decimal-digits_of}
use Rattle.std.proofs.lemmas.List.{append-nil}
use Rattle.http_wire.specs.Answers.{closing, reason_of, type_of}
use Rattle.routes.specs.Answers.{body_of, is_json, status_of, text_of}
use Rattle.rulebook.specs.Campaign.{History}
use Rattle.rulebook.specs.Histories.Stories.{StartsWith}
use Rattle.campaign_server.specs.Conversations.Chains.{Said, answer_texts, text_said}
use Rattle.campaign_server.specs.Links.{Clock, moment_at}
use Rattle.campaign_server.specs.Conversations.Talks.{SaysByRules, Talk, Ticked}
use Rattle.drill.specs.Answers.{are_met, behind_part}
use Rattle.drill.specs.Exchanges.{AreTold, IsMet}
use Rattle.drill.specs.Messages.{callers}
use Rattle.drill.proofs.TextParts.{found}

abbrev pub Each : (Said → Type 0) → List Said → Type 0
Each P [] = Unit {0}
Each P (x ∷ said) = P x × Each P said

-- each moment is 0
pub moments-zero : (clock later : Clock) (said : List Said) → clock.moments ≡ Some [] → Ticked clock later said → Each (λ x. x.moment ≡ 0) said
moments-zero clock later [] none ticked = tt
moments-zero clock later (x ∷ said) none (next, tick, others) =
    let told : x.moment ≡ moment_at [] clock.asked =
    subst (λ (o : Option (List ℕ)). IfSome o (λ moments. x.moment ≡ moment_at moments clock.asked)) none tick.told in
    (told, moments-zero next later said (tick.same ∙ none) others)

-- Lists that go on.

front-same : {X : Type 0} (xs ys more others : List X) → xs ++ more ≡ ys ++ others → length xs ≡ length ys → xs ≡ ys
front-same [] [] more others same long = refl
front-same [] (y ∷ ys) more others same long = cc long
front-same (x ∷ xs) [] more others same long = cc long
front-same (x ∷ xs) (y ∷ ys) more others same long =
    let head : x ≡ y = cc same in
    let tail : xs ++ more ≡ ys ++ others = cc same in
    let rest : xs ≡ ys = front-same xs ys more others tail (omega (arith, long)) in
    ap (λ z. z ∷ xs) head ∙ ap (λ zs. y ∷ zs) rest

-- the answers are the rules' behind the entries so far
pub talk-told : (n c last : ℕ) (places : List ℕ) (said : List Said) (H S : History) → length H ≡ n → StartsWith S H
    → Each (λ x. x.moment ≡ 0) said → Each (λ x. IsMet x.answer) said
    → Talk true callers n c S last places said → AreTold H said S
talk-told n c last places [] H S long (rest, is) zero met (few, least, none) =
    front-same S H [] rest (append-nil S ∙ is) (few ∙ sym long)
talk-told n c last places (x ∷ said) H S long (rest, is) (zero, zeros) (met, mets) (K, more, d, others, stands, are, talk) =
    let goes_on = stands.stands in
    let same : K ≡ H = front-same K H (more ++ goes_on.0) rest (sym (append_assoc K more goes_on.0) ∙ sym goes_on.1 ∙ is) (stands.after ∙ sym long) in
    let says : SaysByRules callers H x.request 0 x.answer more =
    subst (λ (m : ℕ). SaysByRules callers H x.request m x.answer more) zero
    (subst (λ (L : History). SaysByRules callers L x.request x.moment x.answer more) same stands.says) in
    let now : K ++ more ≡ H ++ more = ap (λ (L : History). L ++ more) same in
    let starts : StartsWith S (H ++ more) = (goes_on.0, goes_on.1 ∙ ap (λ (L : History). L ++ goes_on.0) now) in
    (more, says, met, talk-told (length (K ++ more)) d last others said (H ++ more) S (ap length (sym now)) starts zeros mets talk)

-- The statuses of the answers that were written.

-- what stands behind the status in an answer's lines
abbrev lines_behind : Said → ℕ → List ℕ
lines_behind x status = reason_of status
    ++ (codes "\r\nContent-Type: "
    ++ (type_of (is_json x.answer)
    ++ (codes "\r\nContent-Length: " ++ (decimal (length (body_of x.answer)) ++ (codes "\r\n" ++ (closing x.request.close ++ (codes "\r\n" ++ [])))))))

abbrev whole_text : Said → ℕ → List ℕ
whole_text x status = (codes "HTTP/1.1 " ++ (decimal status ++ (codes " " ++ lines_behind x status))) ++ body_of x.answer

text-whole : (x : Said) → text_said x ≡ whole_text x (status_of x.answer)
unfolding text_of
text-whole x = refl

-- the text of an answer begins with its status
pub status-first : (x : Said) (status : ℕ) → status_of x.answer ≡ status
    → (rest : List ℕ) × (text_said x ≡ (codes "HTTP/1.1 " ++ (decimal status ++ codes " ")) ++ rest)
status-first x status is = (rest, same)
  where
    body : List ℕ
    body = body_of x.answer

    lines : List ℕ
    lines = lines_behind x status

    rest : List ℕ
    rest = lines ++ body

    same : text_said x ≡ (codes "HTTP/1.1 " ++ (decimal status ++ codes " ")) ++ rest
    same = text-whole x ∙ ap (whole_text x) is
        ∙ append_assoc (codes "HTTP/1.1 ") (decimal status ++ (codes " " ++ lines)) body
        ∙ ap (λ text. codes "HTTP/1.1 " ++ text) (append_assoc (decimal status) (codes " " ++ lines) body)
        ∙ ap (λ text. codes "HTTP/1.1 " ++ (decimal status ++ text)) (append_assoc (codes " ") lines body)
        ∙ sym (append_assoc (codes "HTTP/1.1 ") (decimal status ++ codes " ") rest
        ∙ ap (λ text. codes "HTTP/1.1 " ++ text) (append_assoc (decimal status) (codes " ") rest))

not_found : (t : Bool) → not t ≡ true → t ≡ true → ⊥
not_found true none there = cc none
not_found false none there = cc there

status-there : (part : List ℕ) (b : ℕ) (more front tail : List ℕ) (x : Said) (status : ℕ) → part ≡ b ∷ more
    → part ≡ codes "HTTP/1.1 " ++ (decimal status ++ codes " ")
    → status_of x.answer ≡ status → is_some (behind_part part (front ++ (text_said x ++ tail))) ≡ true
status-there part b more front tail x status is reads has =
    let at = status-first x status has in
    let text : text_said x ++ tail ≡ (b ∷ more) ++ (at.0 ++ tail) =
    ap (λ text. text ++ tail) (at.1 ∙ ap (λ p. p ++ at.0) (sym reads ∙ is)) ∙ append_assoc (b ∷ more) at.0 tail in
    ap (λ p. is_some (behind_part p (front ++ (text_said x ++ tail)))) is
    ∙ ap (λ text. is_some (behind_part (b ∷ more) (front ++ text))) text
    ∙ found b more front (at.0 ++ tail)

decimal-503 : codes "HTTP/1.1 503 " ≡ codes "HTTP/1.1 " ++ (decimal 503 ++ codes " ")
decimal-503 = ap (λ digits. codes "HTTP/1.1 " ++ (digits ++ codes " ")) (sym (decimal-digits_of 503 (omega arith) (omega arith)))

decimal-507 : codes "HTTP/1.1 507 " ≡ codes "HTTP/1.1 " ++ (decimal 507 ++ codes " ")
decimal-507 = ap (λ digits. codes "HTTP/1.1 " ++ (digits ++ codes " ")) (sym (decimal-digits_of 507 (omega arith) (omega arith)))

pub mets : (front : List ℕ) (said : List Said) (tail : List ℕ) → are_met (front ++ (answer_texts said ++ tail)) ≡ true → Each (λ x. IsMet x.answer) said
mets front [] tail met = tt
mets front (x ∷ said) tail met =
    let later : List ℕ = answer_texts said ++ tail in
    let text : front ++ (answer_texts (x ∷ said) ++ tail) ≡ front ++ (text_said x ++ later) =
    ap (λ text. front ++ text) (append_assoc (text_said x) (answer_texts said) tail) in
    let here : are_met (front ++ (text_said x ++ later)) ≡ true = ap are_met (sym text) ∙ met in
    let parts = and_parts (not (is_some (behind_part (codes "HTTP/1.1 503 ") (front ++ (text_said x ++ later)))))
    (not (is_some (behind_part (codes "HTTP/1.1 507 ") (front ++ (text_said x ++ later))))) here in (
      record {
        no_disk_fault = λ is. not_found _ parts.0 (status-there (codes "HTTP/1.1 503 ") 72 (codes "TTP/1.1 503 ") front later x 503 refl decimal-503 is);
        no_want = λ is. not_found _ parts.1 (status-there (codes "HTTP/1.1 507 ") 72 (codes "TTP/1.1 507 ") front later x 507 refl decimal-507 is);
      },
      mets (front ++ text_said x) said tail (ap are_met (append_assoc front (text_said x) later) ∙ here),
    )
