-- What an answer adds is accepted: its moment is in time, its spelling as long as the request's, and there was room.
use Rattle.std.proofs.Common.{◌≡◌, ℕ, ◌+◌, ◌-◌, ◌≤◌, Bool, true, false, [], ◌∷◌, ◌++◌, Option, Some, Ok, Err, length, max, refl, sym, ap, ◌∙◌, arith, length-append, leb-true, le-leb}
use Rattle.std.specs.Prelude.{◌&&◌, ◌==◌, if◌then◌else◌, nat_le, slice_get}
use Rattle.std.specs.Option.{option_map_or}
use Rattle.std.proofs.lemmas.Bool.{and_from}
use Rattle.decimal_rank.proofs.Lists.{eight_bytes}
use Rattle.decimal_rank.proofs.TruthValues.{first_of_both, second_of_both}
use Rattle.trec_formats.specs.Names.{is_name}
use Rattle.rulebook.specs.Requests.Limits.{max_entries, max_entry_bytes, max_moment}
use Rattle.rulebook.specs.declared.rules.Caller.{Caller}
use Rattle.rulebook.specs.declared.ask.Ask.{Ask}
use Rattle.rulebook.specs.declared.ask.Ask.TheVariants.{Act, See}
use Rattle.rulebook.specs.declared.ask.Command.{Command}
use Rattle.rulebook.specs.declared.entry.Entry.{Entry}
use Rattle.rulebook.specs.declared.entry.EntryCore.{EntryCore}
use Rattle.rulebook.specs.declared.reply.Quantity.TheVariants as quantity
use Rattle.rulebook.specs.declared.reply.Refusal.TheVariants as refusal
use Rattle.rulebook.specs.declared.reply.Reply.TheVariants as reply
use Rattle.rulebook.specs.Histories.Additions.{IsAdded}
use Rattle.rulebook.specs.Answers.{Answer, adding_nothing, answer, answer_of_outcome, command_answer, command_outcome, moment_after}
use Rattle.rulebook.specs.Campaign.{History, may_give}
use Rattle.rulebook.specs.Histories.Legal.{IsAccepted, IsFounding, IsLegal, core_of, is_well_addressed}
use Rattle.rulebook.specs.Requests.Refusals.{Outcome}
use Rattle.rulebook.specs.Spelling.{command_bytes, entry_bytes, has_spelling, is_number, is_plain, number_bytes}
use Rattle.rulebook.proofs.LegalHistories.LegalWalk.{IsUnused, legal_induction, legal_more, unused_of}

-- Moments

last_pushed : (H : History) (e : Entry) → slice_get (H ++ e ∷ []) (length (H ++ e ∷ []) - 1) ≡ Some e
last_pushed H e =
    let place : length (H ++ e ∷ []) - 1 ≡ length H = omega (arith, length-append H (e ∷ [])) in
    rw place (there H)
  where
    there : (H : History) → slice_get (H ++ e ∷ []) (length H) ≡ Some e
    there [] = refl
    there (x ∷ H) = there H

-- one more entry is the last one
pub moment_pushed : (H : History) (e : Entry) (moment : ℕ) → moment_after (H ++ e ∷ []) moment ≡ max moment e.core.moment
moment_pushed H e moment = ap (λ last. max moment (option_map_or (λ (x : Entry). x.core.moment) last 0)) (last_pushed H e)

-- the parts of a well addressed command
pub record IsGiven (who : Caller) (number : Option ℕ) (c : Command) (moment : ℕ) : Type 0 where
  pub allowed : may_give who.role c ≡ true
  pub named : (is_name who.name && is_number number) ≡ true
  pub in_time : moment ≤ max_moment
  pub plain : is_plain c ≡ true
  pub short : length (entry_bytes (core_of who number moment c)) ≤ max_entry_bytes

pub given_of : (who : Caller) (number : Option ℕ) (c : Command) (moment : ℕ) → is_well_addressed who number (Act c) moment ≡ true → IsGiven who number c moment
given_of who number c moment addressed =
    let core : EntryCore = core_of who number moment c in
    let size : Bool = nat_le (length (entry_bytes core)) max_entry_bytes in
    let front = first_of_both (may_give who.role c && has_spelling core) size addressed in
    let spelled = second_of_both (may_give who.role c) (has_spelling core) front in
    let timed = first_of_both (is_name who.name && is_number number && nat_le moment max_moment) (is_plain c) spelled in
    record {
      allowed = first_of_both (may_give who.role c) (has_spelling core) front;
      named = first_of_both (is_name who.name && is_number number) (nat_le moment max_moment) timed;
      in_time = leb-true moment max_moment (second_of_both (is_name who.name && is_number number) (nat_le moment max_moment) timed);
      plain = second_of_both (is_name who.name && is_number number && nat_le moment max_moment) (is_plain c) spelled;
      short = leb-true (length (entry_bytes core)) max_entry_bytes (second_of_both (may_give who.role c && has_spelling core) size addressed);
    }

pub addressed_by : (who : Caller) (number : Option ℕ) (c : Command) (moment : ℕ) → IsGiven who number c moment
    → is_well_addressed who number (Act c) moment ≡ true
addressed_by who number c moment is =
    let core : EntryCore = core_of who number moment c in
    let timed = and_from (is_name who.name && is_number number) (nat_le moment max_moment) is.named (le-leb moment max_moment is.in_time) in
    let spelled = and_from (is_name who.name && is_number number && nat_le moment max_moment) (is_plain c) timed is.plain in
    and_from (may_give who.role c && has_spelling core) (nat_le (length (entry_bytes core)) max_entry_bytes)
    (and_from (may_give who.role c) (has_spelling core) is.allowed spelled) (le-leb _ max_entry_bytes is.short)

founding_in_time : (first : Entry) → IsFounding first → moment_after (first ∷ []) 0 ≤ max_moment
founding_in_time first is = rw (is.2) (omega arith)

pub moments_in_time : (H : History) → IsLegal H → moment_after H 0 ≤ max_moment
moments_in_time =
    legal_induction (λ H. moment_after H 0 ≤ max_moment)
    (λ before e legal in_time accepted.
    let given = given_of e.core.caller e.core.number e.core.command e.core.moment accepted.addressed in
    rw (moment_pushed before e 0) (omega (arith, given.in_time)))
    founding_in_time

-- Sizes

pub entry_size : (e : EntryCore) → length (entry_bytes e) ≡ length e.caller.name + length (number_bytes e.number) + length (command_bytes e.command) + 10
entry_size e = simp (length-append, eight_bytes) (omega arith)

-- a request at a later moment that is in time
later_given : (who : Caller) (number : Option ℕ) (c : Command) (moment later : ℕ) → later ≤ max_moment
    → IsGiven who number c moment → IsGiven who number c later
later_given who number c moment later in_time is = record {
  allowed = is.allowed;
  named = is.named;
  in_time = in_time;
  plain = is.plain;
  short = omega (arith, is.short, entry_size (core_of who number moment c), entry_size (core_of who number later c));
}

-- What is added

-- what is added has the core that was made, and the answer's reply, and there was room
record IsMade (H : History) (core : EntryCore) (e : Entry) : Type 0 where
  core_is : e.core ≡ core
  reply_is : (command_answer H core).reply ≡ e.reply
  outcome_is : command_outcome H core.caller core.moment core.command ≡ Ok e.reply
  room : (length H == max_entries) ≡ false

made_of : (H : History) (core : EntryCore) (e : Entry) → (command_answer H core).added ≡ e ∷ [] → IsMade H core e
made_of H core e added = step (length H == max_entries) (command_outcome H core.caller core.moment core.command) refl refl added
  where
    step : (full : Bool) (outcome : Outcome) → (length H == max_entries) ≡ full → command_outcome H core.caller core.moment core.command ≡ outcome
        → (if full then adding_nothing (reply.Refused (refusal.Limit quantity.Entries)) else answer_of_outcome core outcome).added ≡ e ∷ [] → IsMade H core e
    step true outcome room is added = cc added
    step false (Err r) room is added = cc added
    step false (Ok r) room is added =
        let made : Entry = record { core = core; reply = r } in
        let same : made ≡ e = cc added in
        record {
          core_is = ap (λ (e : Entry). e.core) (sym same);
          reply_is = rw (room, is) (ap (λ (e : Entry). e.reply) same);
          outcome_is = is ∙ ap (λ (e : Entry). Ok e.reply) same;
          room = room;
        }

latest_twice : (H : History) (moment : ℕ) → moment_after H (moment_after H moment) ≡ moment_after H moment
latest_twice H moment = omega arith

pub added_accepted : (H : History) (who : Caller) (number : Option ℕ) (ask : Ask) (moment : ℕ) (e : Entry) → IsLegal H
    → is_well_addressed who number ask moment ≡ true → (answer H who number ask moment).added ≡ e ∷ [] → IsAdded H who number ask moment e
added_accepted H who number (See q) moment e legal addressed added = cc added
added_accepted H who number (Act c) moment e legal addressed added =
    record { accepted = accepted; legal = legal_more H e legal accepted; reply = ap (λ (a : Answer). a.reply) unused.acted_is ∙ made.reply_is; core = core }
  where
    now : ℕ
    now = moment_after H moment

    unused : IsUnused H who number c moment
    unused = unused_of H who number c moment e added

    made : IsMade H (core_of who number now c) e
    made = made_of H (core_of who number now c) e (ap (λ (a : Answer). a.added) (sym unused.acted_is) ∙ added)

    in_time : now ≤ max_moment
    in_time = omega (arith, (given_of who number c moment addressed).in_time, moments_in_time H legal)

    -- by its own core: the moment is the latest already
    accepted : IsAccepted H e
    accepted = record {
      addressed = rw made.core_is (addressed_by who number c now (later_given who number c moment now in_time (given_of who number c moment addressed)));
      added = rw (made.core_is, latest_twice H moment) (added ∙ ap (λ (core : EntryCore). record { core = core; reply = e.reply } ∷ []) made.core_is);
    }

    core : (other : Command) → Act c ≡ Act other → e.core ≡ core_of who number e.core.moment other
    core other same =
        let is : c ≡ other = cc same in
        made.core_is ∙ ap (λ (moment : ℕ). core_of who number moment c) (ap (λ (core : EntryCore). core.moment) (sym made.core_is))
        ∙ ap (core_of who number e.core.moment) is

-- an accepted entry had room
pub accepted_room : (H : History) (e : Entry) → IsAccepted H e → (length H == max_entries) ≡ false
accepted_room H e accepted =
    let unused = unused_of H e.core.caller e.core.number e.core.command e.core.moment e accepted.added in
    let added = ap (λ (a : Answer). a.added) (sym unused.acted_is) ∙ accepted.added in
    (made_of H (core_of e.core.caller e.core.number (moment_after H e.core.moment) e.core.command) e added).room

-- and has the answer's reply
pub accepted_reply : (H : History) (e : Entry) → IsAccepted H e → (answer H e.core.caller e.core.number (Act e.core.command) e.core.moment).reply ≡ e.reply
accepted_reply H e accepted =
    let core = core_of e.core.caller e.core.number (moment_after H e.core.moment) e.core.command in
    let unused = unused_of H e.core.caller e.core.number e.core.command e.core.moment e accepted.added in
    let added = ap (λ (a : Answer). a.added) (sym unused.acted_is) ∙ accepted.added in
    ap (λ (a : Answer). a.reply) unused.acted_is ∙ (made_of H core e added).reply_is
