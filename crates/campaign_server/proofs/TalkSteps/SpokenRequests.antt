-- What is said on a connection goes on by one request, and ends.
use Rattle.std.proofs.Common.{◌≡◌, ℕ, ◌≤◌, List, [], ◌∷◌, ◌++◌, Bool, true, false, take, refl, sym, ap, ◌∙◌, arith, subst, append-nil, append_assoc}
use Rattle.std.specs.Prelude.{Result, Ok, Err}
use Rattle.std.specs.Io.KnownBytes.{Appends}
use Rattle.std.proofs.KnownBytes.{Appends-trans}
use Rattle.decimal_rank.specs.Causes.{Rose}
use Rattle.decimal_rank.specs.Outputs.KnownBytes.{AppendsPart}
use Rattle.http_wire.specs.declared.messages.HttpRequest.{HttpRequest}
use Rattle.http_wire.specs.declared.messages.WireFault.{WireFault}
use Rattle.http_wire.specs.Heads.{behind_line_ends}
use Rattle.http_wire.specs.Messages.{Behind, Faulty, FrontGoesOn, IsFront, Messages, ReadsOn, Waits, Closed, Refused}
use Rattle.routes.specs.declared.answers.Answered.{Answered}
use Rattle.routes.specs.declared.faults.RouteFault.{RouteFault}
use Rattle.routes.specs.declared.keys.KeyRow.{KeyRow}
use Rattle.routes.specs.Answers.{text_of}
use Rattle.routes.specs.Asks.{Asked}
use Rattle.rulebook.specs.declared.answer.Answer.{Answer}
use Rattle.rulebook.specs.declared.ask.Addressed.{Addressed}
use Rattle.campaign_server.specs.ConnectionLoop.RequestAnswers.{IsRequestAnswered}
use Rattle.campaign_server.specs.ConnectionLoop.FedRequests.{IsRequest}
use Rattle.campaign_server.specs.Conversations.Chains.{Said, requests_of, text_said, answer_texts, last_text, Answers, Chain}
use Rattle.campaign_server.specs.Connections.{at_pause, Spoke, SpokeAll, SpokeCut, SpokePart}
use Rattle.campaign_server.specs.Links.{LinkState, Clock, Ticks}
use Rattle.campaign_server.specs.ConnectionLoop.LoopParts.{IsAtPause}
use Rattle.decimal_rank.specs.declared.failures.Failed.{Failed}

requests_more : (said : List Said) (x : Said) → requests_of (said ++ x ∷ []) ≡ requests_of said ++ x.request ∷ []
requests_more [] x = refl
requests_more (y ∷ said) x = ap (λ rs. y.request ∷ rs) (requests_more said x)

texts_more : (said : List Said) (x : Said) → answer_texts (said ++ x ∷ []) ≡ answer_texts said ++ text_said x
texts_more [] x = append-nil (text_said x)
texts_more (y ∷ said) x = ap (λ t. text_said y ++ t) (texts_more said x) ∙ sym (append_assoc (text_said y) (answer_texts said) (text_said x))

nothing_more : (clean : Bool) → last_text (at_pause clean) ≡ []
nothing_more true = refl
nothing_more false = refl

pub rose_later : (old mid new : ℕ) → old ≤ mid → Rose mid new → Rose old new
rose_later old mid new later rose = grind arith

module _ {S : Type 0} (tells : S → Addressed → Answer → S → Type 0) (keys : List KeyRow) where
  chain_more : (old : S) (clock : Clock) (mid : S) (now : Clock) (said : List Said) (x : Said) (new : S) (later : Clock)
      → Chain tells keys old clock mid now said
      → Ticks now later x.moment → Answers tells keys mid x.request x.moment x.answer new → Chain tells keys old clock new later (said ++ x ∷ [])
  chain_more old clock mid now [] x new later chain ticks answers = (
    new,
    later,
    subst (λ c. Ticks c later x.moment) chain.1 ticks,
    subst (λ s. Answers tells keys s x.request x.moment x.answer new) chain.0 answers,
    (refl, refl),
  )
  chain_more old clock mid now (y ∷ said) x new later (between, then_, first, said_first, chain) ticks answers =
      (between, then_, first, said_first, chain_more between then_ mid now said x new later chain ticks answers)

  module _ (laws : (bytes : List ℕ) (requests : List HttpRequest) (old new more : List ℕ) → ReadsOn bytes requests old new more)
      (wire : (old new more : List ℕ) → FrontGoesOn old new more) (old : S) (was : LinkState) (bytes rest : List ℕ) (mid : S) (now : LinkState)
      (spoke : Spoke (Chain tells keys old was.clock mid now.clock) was bytes rest now) where
    -- a request that is answered, and the talk with it
    said_talk : (x : Said) (new : S) (is : LinkState) → Ticks now.clock is.clock x.moment → Answers tells keys mid x.request x.moment x.answer new
        → Chain tells keys old was.clock new is.clock (spoke.said ++ x ∷ [])
    said_talk x new is ticks answers = chain_more old was.clock mid now.clock spoke.said x new is.clock spoke.talk ticks answers

    said_written : (x : Said) (is : LinkState) → Appends now.writing.written is.writing.written (text_said x)
        → Appends was.writing.written is.writing.written (answer_texts (spoke.said ++ x ∷ []))
    said_written x is wrote =
        subst (Appends was.writing.written is.writing.written) (sym (texts_more spoke.said x))
        (Appends-trans was.writing.written now.writing.written is.writing.written (answer_texts spoke.said) (text_said x) spoke.written wrote)

    refused_messages : (cause : WireFault) → IsFront rest (Faulty cause) → Messages bytes (requests_of spoke.said) (Refused cause)
    refused_messages cause front =
        let here : Messages rest [] (Refused cause) = subst (λ b. Messages b [] (Refused cause)) (append-nil rest) ((wire rest rest []).refused cause front) in
        subst (λ rs. Messages bytes rs (Refused cause)) (append-nil (requests_of spoke.said))
        ((laws bytes (requests_of spoke.said) rest rest []).ends [] (Refused cause) spoke.split here)

    pub spoke_refused : (cause : WireFault) (is : LinkState) → IsFront rest (Faulty cause) → is.clock ≡ now.clock
        → Appends now.writing.written is.writing.written (last_text (Refused cause))
        → SpokeAll (Chain tells keys old was.clock mid is.clock) was bytes is (Refused cause)
    spoke_refused cause is front same wrote = record {
      said = spoke.said;
      are_messages = refused_messages cause front;
      talk = subst (λ c. Chain tells keys old was.clock mid c spoke.said) (sym same) spoke.talk;
      written = Appends-trans was.writing.written now.writing.written is.writing.written
          (answer_texts spoke.said) (last_text (Refused cause)) spoke.written wrote;
    }

    pub spoke_cut : (cause : WireFault) (is : LinkState) → IsFront rest (Faulty cause) → is.clock ≡ now.clock
        → AppendsPart now.writing.written is.writing.written (last_text (Refused cause)) → Rose now.writing.faults is.writing.faults
        → SpokeCut (Chain tells keys old was.clock mid is.clock) was bytes is
    spoke_cut cause is front same (count, few, wrote) rose = record {
      said = spoke.said;
      cause = cause;
      count = count;
      are_messages = refused_messages cause front;
      talk = subst (λ c. Chain tells keys old was.clock mid c spoke.said) (sym same) spoke.talk;
      few = few;
      written = Appends-trans was.writing.written now.writing.written is.writing.written (answer_texts spoke.said)
          (take count (last_text (Refused cause))) spoke.written wrote;
      fault = rose_later was.writing.faults now.writing.faults is.writing.faults spoke.later rose;
    }

    pub spoke_pause : (clean : Bool) → Waits rest clean → IsAtPause (Chain tells keys old was.clock mid now.clock) was bytes (behind_line_ends rest) now clean
    spoke_pause clean waits =
        let ends : Messages bytes (requests_of spoke.said ++ []) (at_pause clean) =
        (laws bytes (requests_of spoke.said) rest rest []).ends [] (at_pause clean) spoke.split ((wire rest rest []).ends clean waits) in
        record {
          spoke = record {
            said = spoke.said;
            split = (laws bytes (requests_of spoke.said) rest rest []).waits spoke.split;
            talk = spoke.talk;
            written = spoke.written;
            later = spoke.later;
          };
          all = record {
            said = spoke.said;
            are_messages = subst (λ rs. Messages bytes rs (at_pause clean)) (append-nil (requests_of spoke.said)) ends;
            talk = spoke.talk;
            written = subst (Appends was.writing.written now.writing.written)
                (sym (ap (λ t. answer_texts spoke.said ++ t) (nothing_more clean) ∙ append-nil (answer_texts spoke.said))) spoke.written;
          };
        }

    -- A request with its turn

    asked_text : (reading : Result Asked RouteFault) (close : Bool) (next : List ℕ) (asked : IsRequest keys rest reading close next) (told : Answered)
        → text_of told close ≡ text_of told asked.request.close
    asked_text reading close next asked told = ap (λ c. text_of told c) asked.is_reading.close_is

    pub turn_more : (reading : Result Asked RouteFault) (close : Bool) (next : List ℕ) (new : S) (is : LinkState) (u : Unit {0})
        → IsRequest keys rest reading close next
        → IsRequestAnswered tells {T = Unit {0}} {E = Failed} mid now reading close (Ok u) new is → now.writing.faults ≤ is.writing.faults → close ≡ false
        → Spoke (Chain tells keys old was.clock new is.clock) was bytes next is
    turn_more reading close next new is u asked turn later open_ =
        let x : Said = record { request = asked.request; moment = turn.moment; answer = turn.told } in
        record {
          said = spoke.said ++ x ∷ [];
          split =
              subst (λ rs. Behind bytes rs next) (sym (requests_more spoke.said x))
              ((laws bytes (requests_of spoke.said) rest next []).request x.request spoke.split asked.front (sym asked.is_reading.close_is ∙ open_));
          talk = said_talk x new is turn.ticks (turn.answers keys asked.request asked.is_reading);
          written = said_written x is (subst (Appends now.writing.written is.writing.written) (asked_text reading close next asked turn.told) turn.whole);
          later = omega (arith, spoke.later, later);
        }

    pub turn_closes : (reading : Result Asked RouteFault) (close : Bool) (next : List ℕ) (new : S) (is : LinkState) (u : Unit {0})
        → IsRequest keys rest reading close next
        → IsRequestAnswered tells {T = Unit {0}} {E = Failed} mid now reading close (Ok u) new is → close ≡ true
        → SpokeAll (Chain tells keys old was.clock new is.clock) was bytes is Closed
    turn_closes reading close next new is u asked turn closes =
        let x : Said = record { request = asked.request; moment = turn.moment; answer = turn.told } in
        let last : Messages rest (x.request ∷ []) Closed =
        subst (λ b. Messages b (x.request ∷ []) Closed) (append-nil rest)
        ((wire rest next []).last x.request asked.front (sym asked.is_reading.close_is ∙ closes)) in
        record {
          said = spoke.said ++ x ∷ [];
          are_messages =
              subst (λ rs. Messages bytes rs Closed) (sym (requests_more spoke.said x))
              ((laws bytes (requests_of spoke.said) rest next []).ends (x.request ∷ []) Closed spoke.split last);
          talk = said_talk x new is turn.ticks (turn.answers keys asked.request asked.is_reading);
          written =
              subst (Appends was.writing.written is.writing.written) (sym (append-nil (answer_texts (spoke.said ++ x ∷ []))))
              (said_written x is (subst (Appends now.writing.written is.writing.written) (asked_text reading close next asked turn.told) turn.whole));
        }

    pub turn_part : (reading : Result Asked RouteFault) (close : Bool) (next : List ℕ) (new : S) (is : LinkState) (e : Failed)
        → IsRequest keys rest reading close next
        → IsRequestAnswered tells {T = Unit {0}} {E = Failed} mid now reading close (Err e) new is → Rose now.writing.faults is.writing.faults
        → SpokePart (Chain tells keys old was.clock new is.clock) was bytes is
    turn_part reading close next new is e asked turn rose =
        let x : Said = record { request = asked.request; moment = turn.moment; answer = turn.told } in
        let (count, few, wrote) = subst (AppendsPart now.writing.written is.writing.written) (asked_text reading close next asked turn.told) turn.part in
        record {
          said = spoke.said;
          last = x;
          rest = rest;
          next = next;
          count = count;
          split = spoke.split;
          front = asked.front;
          talk = said_talk x new is turn.ticks (turn.answers keys asked.request asked.is_reading);
          few = few;
          written =
              Appends-trans was.writing.written now.writing.written is.writing.written (answer_texts spoke.said) (take count (text_said x)) spoke.written
              wrote;
          fault = rose_later was.writing.faults now.writing.faults is.writing.faults spoke.later rose;
        }
