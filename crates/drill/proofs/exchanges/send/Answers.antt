use Rattle.std.proofs.Common.{◌≡◌, ◌≤◌, ℕ, true, List, [], ◌∷◌, ◌++◌, Option, Result, Ok, Err, length, sym, subst}
use Rattle.std.specs.Prelude.{IfOk}
use Rattle.http_wire.specs.Messages.{Clean, Messages}
use Rattle.decimal_rank.specs.declared.storage.Memory.{Memory}
use Rattle.rulebook.specs.Campaign.{History}
use Rattle.campaign_server.specs.declared.ends.End.{End}
use Rattle.campaign_server.specs.declared.ends.End.TheVariants.{Ended}
use Rattle.drill.specs.Answers.{are_met, leased_doc}
use Rattle.drill.specs.Exchanges.{IsExchange}
use Rattle.drill.specs.Messages.{message_text}
use Rattle.drill.proofs.Conversations.Connections.{exchanged, whole-end}
use Rattle.drill.proofs.OwnMessages.OwnRequests.{sent-twice, sent_request, short-text}
use Rattle.drill.proofs.exchanges.send.Goals as goal

sent : (H : History) (text : List ℕ) (S : History) (written : List ℕ) (end : End) (result : Result (Option ℕ) Memory)
    → IfOk result (λ doc. (end ≡ Ended) × (are_met written ≡ true) × (doc ≡ leased_doc written))
    → (end ≡ Ended → are_met written ≡ true → IsExchange H text S written)
    → IfOk result (λ doc. (answers : List ℕ) × IsExchange H text S answers × (doc ≡ leased_doc answers))
sent H text S written end (Ok doc) (is, met, told) make = (written, make is met, told)
sent H text S written end (Err none) told make = tt

pub read_answers-requires : goal.read_answers-requires
read_answers-requires g c =
    let its = c.requires.message in
    let text : List ℕ = c.args.text.items in
    let reads = subst (λ (t : List ℕ). Messages (t ++ t) (sent_request its.0 ∷ sent_request its.0 ∷ []) Clean) (sym its.2)
    (sent-twice its.0 its.1 (c.fronts_stay.ensures (message_text its.0) (message_text its.0))) in
    let short : length text ≤ 16785408 = subst (λ (t : List ℕ). length t ≤ 16785408) (sym its.2) (short-text its.0 its.1) in
    whole-end _ c.args.book.now c.session-end.new.book text c.in_ok-link.link c.session-end.new.link
    c.in_ok-link.ensures c.fronts_stay.ensures c.one_reading.ensures
    (sent_request its.0 ∷ sent_request its.0 ∷ []) reads short c.session-end.result (rw c.requires.keys at c.session-end.ensures.ends)

pub returns : goal.returns
returns g c =
    sent c.args.book.now.history c.args.text.items c.session-end.new.book.history c.session-end.new.link.written
    c.session-end.result c.read_answers.result c.read_answers.ensures.told
    (λ is met.
    exchanged _ c.args.book.now c.session-end.new.book c.args.text.items c.in_ok-link.link c.session-end.new.link
    c.in_ok-link.ensures c.session-end.ensures.runs.grown met
    c.fronts_stay.ensures (rw (is, c.requires.keys) at c.session-end.ensures.ends))
