-- The assessor's messages are counted, so that none has the number of an earlier one.
use Rattle.std.proofs.Common.{◌≡◌, ◌+◌, ◌<◌, ◌≤◌, ◌==◌, ℕ, zero, suc, false, IsTrue, List, [], ◌∷◌, Some, codes, length, refl, sym, ap, subst, arith, ne_eqb, ◌∙◌}
use Rattle.std.specs.Str.{bytes_eq}
use Rattle.std.proofs.lemmas.Bool.{and_left, and_right}
use Rattle.http_wire.specs.Messages.{Stays}
use Rattle.routes.specs.Keys.{caller_with}
use Rattle.routes.specs.declared.keys.KeyRow.{KeyRow}
use Rattle.rulebook.specs.Campaign.{History}
use Rattle.rulebook.specs.Histories.Legal.{founding}
use Rattle.rulebook.specs.declared.rules.Role.TheVariants.{Assessor, Group, Organiser}
use Rattle.drill.specs.Exchanges.{IsExchange, IsSent, OneReading}
use Rattle.drill.specs.Figures.{are_numbers, drill_grade, most_runs}
use Rattle.drill.specs.Messages.{IsSendable, Message, assessor_key, callers, grade_message, group_key, lease_message, message_text, open_message, organiser_key, rules, run_message, topics_message}
use Rattle.drill.specs.Plays.{After, IsBeforeLastMessage, IsGraded, IsNumberedTo, IsRefused, Judging, before_judging, most_messages}
use Rattle.drill.specs.declared.numbers.DrillNumbers.{DrillNumbers}
use Rattle.drill.proofs.Conversations.EntryNumbers.{exchange-grows, exchange-unnumbered, told-longer}
use Rattle.drill.proofs.Conversations.OwnEntries.{unused}
use Rattle.drill.proofs.Ranges.{few-runs}
use Rattle.drill.proofs.OwnMessages.SentMessages.{grade-sendable, lease-sendable, open-sendable, run-sendable, topics-sendable}

abbrev organiser : KeyRow
organiser = record { name = codes "org"; role = Organiser; key = organiser_key }

abbrev group : KeyRow
group = record { name = codes "grp"; role = Group; key = group_key }

abbrev assessor : KeyRow
assessor = record { name = codes "asr"; role = Assessor; key = assessor_key }

module _ (stays : (bytes more : List ℕ) → Stays bytes more) (one : OneReading) where
  -- a message of another caller
  sent-unnumbered : (message : Message) → IsSendable message → (row : KeyRow) → caller_with callers message.key ≡ Some row
      → bytes_eq row.name (codes "asr") ≡ false
      → (H S : History) → IsSent H message S → IsNumberedTo 0 H → IsNumberedTo 0 S
  sent-unnumbered message is row row_is not_its H S (answers, exchange) numbered k above =
      exchange-unnumbered message is row row_is stays one H S answers exchange k (and_left (bytes_eq row.name (codes "asr"))
      (message.number == k) not_its) (numbered k above)

  -- a message of the assessor, with the next number
  next-numbered : (message : Message) → IsSendable message → message.key ≡ assessor_key → (n : ℕ) → message.number ≡ n + 1 → (H S : History) (answers : List ℕ)
      → IsExchange H (message_text message) S answers → IsNumberedTo n H → IsNumberedTo (n + 1) S
  next-numbered message is key_is n number_is H S answers exchange numbered k above =
      exchange-unnumbered message is assessor (ap (caller_with callers) key_is) stays one H S answers exchange k
      (and_right (bytes_eq (codes "asr") (codes "asr")) (message.number == k) (ne_eqb message.number k (λ same. omega (arith, same, number_is, above))))
      (numbered k (omega (arith, above)))

  runs-unnumbered : (numbers : DrillNumbers) → IsTrue (are_numbers numbers) → (count : ℕ) → count ≤ most_runs → (H S : History)
      → After (λ r old new. IsSent old (run_message numbers r) new) count H S → IsNumberedTo 0 H → IsNumberedTo 0 S
  runs-unnumbered numbers are zero few H S same numbered = subst (IsNumberedTo 0) (sym same) numbered
  runs-unnumbered numbers are (suc count) few H S (mid, before, sent) numbered =
      sent-unnumbered (run_message numbers (suc count)) (run-sendable numbers are (suc count) few) group refl refl mid S sent
      (runs-unnumbered numbers are count (omega (arith, few)) H mid before numbered)

  -- before the first lease the assessor has no entry
  pub opened-unnumbered : (numbers : DrillNumbers) → IsTrue (are_numbers numbers) → (with_topics with_runs opened : History)
      → IsSent (founding rules ∷ []) (topics_message numbers) with_topics
      → After (λ r old new. IsSent old (run_message numbers r) new) numbers.runs with_topics with_runs → IsSent with_runs open_message opened
      → IsNumberedTo 0 opened
  opened-unnumbered numbers are with_topics with_runs opened topics runs open_ =
      sent-unnumbered open_message open-sendable organiser refl refl with_runs opened open_
      (runs-unnumbered numbers are numbers.runs (few-runs numbers are) with_topics with_runs runs
      (sent-unnumbered (topics_message numbers) (topics-sendable numbers are) organiser refl refl (founding rules ∷ []) with_topics topics (λ k above. refl)))

  pub graded-counted : (numbers : DrillNumbers) (t : ℕ) (old new : Judging) → old.number ≤ most_messages → old.leases ≤ most_messages
      → IsBeforeLastMessage t old → IsGraded numbers t old new
      → IsBeforeLastMessage t new × (length old.history < length new.history)
  graded-counted numbers t old new few few_leases counted graded =
      let number : ℕ = old.number in
      let lease = lease_message t (number + 1) in
      let lease-is = lease-sendable t (number + 1) (omega (arith, few)) in
      let grade = grade_message (old.leases + 1) (number + 2) (drill_grade numbers t graded.doc) in
      let grade-is = grade-sendable numbers t graded.doc (old.leases + 1) (number + 2) (omega (arith, few_leases)) (omega (arith, few)) in
      let fresh = unused old.history (codes "asr") (number + 1) (counted.numbered (number + 1) (omega arith)) in
      let grows = exchange-grows lease lease-is assessor refl stays one old.history graded.leased graded.answers graded.lease graded.doc graded.doc_is fresh in
      let leased = next-numbered lease lease-is refl number refl old.history graded.leased graded.answers graded.lease counted.numbered in
      let two : number + 2 ≡ number + 1 + 1 = omega arith in
      let done = next-numbered grade grade-is refl (number + 1) two graded.leased new.history graded.grade.0 graded.grade.1 leased in
      let longer = told-longer graded.grade.1.said graded.leased new.history graded.grade.1.told in
      let now : new.number ≡ number + 1 + 1 = graded.number_is ∙ two in (
        record {
          numbered = subst (λ n. IsNumberedTo n new.history) (sym now) done;
          messages = omega (arith, graded.number_is, graded.leases_are, counted.messages);
          entries = omega (arith, graded.leases_are, counted.entries, grows, longer);
        },
        omega (arith, grows, longer),
      )

  pub refused-counted : (t : ℕ) (old new : Judging) → old.number ≤ most_messages → IsBeforeLastMessage t old → IsRefused t old new
      → IsBeforeLastMessage (t + 1) new
  refused-counted t old new few counted refused =
      let number : ℕ = old.number in
      let lease = lease_message t (number + 1) in
      let numbered = next-numbered lease (lease-sendable t (number + 1) (omega (arith, few))) refl number refl old.history new.history refused.answers
      refused.lease counted.numbered in
      record {
        numbered = subst (λ n. IsNumberedTo n new.history) (sym refused.number_is) numbered;
        messages = omega (arith, refused.number_is, refused.leases_are, counted.messages);
        entries = omega (arith, refused.leases_are, counted.entries, told-longer refused.lease.said old.history new.history refused.lease.told);
      }

-- before the first lease
pub uncounted : (H : History) → IsNumberedTo 0 H → IsBeforeLastMessage 1 (before_judging H)
uncounted H numbered = record { numbered = numbered; messages = omega arith; entries = omega arith }
