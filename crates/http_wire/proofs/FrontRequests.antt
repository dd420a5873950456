-- The requests at the front of bytes go on with what is fed and what is given.
use Rattle.std.proofs.Common.{◌≡◌, ℕ, List, [], ◌∷◌, ◌++◌, Bool, true, false, refl, sym, ap, ◌∙◌, subst}
use Rattle.std.specs.Prelude.{MatchBool, ◌==◌, ◌||◌, if◌then◌else◌}
use Rattle.http_wire.specs.declared.messages.HttpRequest.{HttpRequest}
use Rattle.http_wire.specs.Heads.{behind_line_ends}
use Rattle.http_wire.specs.Messages.{Front, Whole, AtMessage, IsFront, End, Closed, Refused, Clean, Cut, IsEnd, Messages, Behind, ReadsOn}
use Rattle.http_wire.proofs.HeadLengths.{passed_again}
use Rattle.http_wire.proofs.FrontLaws.{front_stays}

first_step : (is_end : Bool) (b : ℕ) (bytes more : List ℕ) → (b == 10 || b == 13) ≡ is_end
    → behind_line_ends (bytes ++ more) ≡ behind_line_ends (behind_line_ends bytes ++ more)
    → (if is_end then behind_line_ends (bytes ++ more) else b ∷ (bytes ++ more))
    ≡ behind_line_ends ((if is_end then behind_line_ends bytes else b ∷ bytes) ++ more)
first_step true b bytes more is behind = behind
first_step false b bytes more is behind = rw is refl

passed_first : (bytes more : List ℕ) → behind_line_ends (bytes ++ more) ≡ behind_line_ends (behind_line_ends bytes ++ more)
passed_first [] more = refl
passed_first (b ∷ bytes) more = first_step (b == 10 || b == 13) b bytes more refl (passed_first bytes more)

-- what is passed over is passed over where more bytes come
passed_more : (bytes rest more : List ℕ) → behind_line_ends bytes ≡ behind_line_ends rest → behind_line_ends (bytes ++ more) ≡ behind_line_ends (rest ++ more)
passed_more bytes rest more is = passed_first bytes more ∙ ap (λ message. behind_line_ends (message ++ more)) is ∙ sym (passed_first rest more)

behind_fed : (bytes : List ℕ) (requests : List HttpRequest) (rest more : List ℕ) → Behind bytes requests rest → Behind (bytes ++ more) requests (rest ++ more)
behind_fed bytes [] rest more is = passed_more bytes rest more is
behind_fed bytes (request ∷ requests) rest more (next, front, goes_on, behind) =
    (next ++ more, (front_stays bytes more).whole request next front, goes_on, behind_fed next requests rest more behind)

behind_waits : (bytes : List ℕ) (requests : List HttpRequest) (rest new : List ℕ) → behind_line_ends rest ≡ behind_line_ends new
    → Behind bytes requests rest → Behind bytes requests new
behind_waits bytes [] rest new same is = is ∙ same
behind_waits bytes (request ∷ requests) rest new same (next, front, goes_on, behind) = (next, front, goes_on, behind_waits next requests rest new same behind)

-- the same stands at the front of bytes that are the same but for what is passed over
front_of_same : (bytes rest : List ℕ) (front : Front) → behind_line_ends bytes ≡ behind_line_ends rest → IsFront rest front → IsFront bytes front
front_of_same bytes rest front same (upto, at, is) = (upto, subst (λ message. AtMessage message upto) (sym same) at, is)

behind_more : (bytes : List ℕ) (requests : List HttpRequest) (rest : List ℕ) (request : HttpRequest) (next : List ℕ) → Behind bytes requests rest
    → IsFront rest (Whole request next) → request.close ≡ false → Behind bytes (requests ++ request ∷ []) next
behind_more bytes [] rest request next is front open_ = (next, front_of_same bytes rest (Whole request next) is front, open_, refl)
behind_more bytes (first ∷ requests) rest request next (mid, here, goes_on, behind) front open_ =
    (mid, here, goes_on, behind_more mid requests rest request next behind front open_)

end_of_same : (bytes rest : List ℕ) (end : End) → behind_line_ends bytes ≡ behind_line_ends rest → IsEnd rest end → IsEnd bytes end
end_of_same bytes rest Closed same ends = ends
end_of_same bytes rest (Refused cause) same ends = front_of_same bytes rest _ same ends
end_of_same bytes rest Clean same ends = (front_of_same bytes rest _ same ends.0, same ∙ ends.1)
end_of_same bytes rest Cut same ends = rw same ends

messages_of_same : (bytes rest : List ℕ) (requests : List HttpRequest) (end : End) → behind_line_ends bytes ≡ behind_line_ends rest
    → Messages rest requests end → Messages bytes requests end
messages_of_same bytes rest [] end same ends = end_of_same bytes rest end same ends
messages_of_same bytes rest (request ∷ requests) end same (next, front, later) = (next, front_of_same bytes rest _ same front, later)

behind_ends : (bytes : List ℕ) (requests : List HttpRequest) (rest : List ℕ) (others : List HttpRequest) (end : End) → Behind bytes requests rest
    → Messages rest others end → Messages bytes (requests ++ others) end
behind_ends bytes [] rest others end same ends = messages_of_same bytes rest others end same ends
behind_ends bytes (request ∷ requests) rest others end (next, front, goes_on, behind) ends = (
  next,
  front,
  subst (λ close. MatchBool close ((requests ++ others ≡ []) × (end ≡ Closed)) (Messages next (requests ++ others) end)) (sym goes_on)
      (behind_ends next requests rest others end behind ends),
)

pub reads_on : (bytes : List ℕ) (requests : List HttpRequest) (old new more : List ℕ) → ReadsOn bytes requests old new more
reads_on bytes requests old new more = record {
  fed = behind_fed bytes requests old more;
  waits = λ behind. behind_waits bytes requests old (behind_line_ends old) (sym (passed_again old)) behind;
  request = λ request behind front open_. behind_more bytes requests old request new behind front open_;
  ends = λ others end behind messages. behind_ends bytes requests old others end behind messages;
}
