-- What a server leaves of its door.
use Rattle.std.proofs.Common.{◌≡◌, ◌≢◌, ◌⊎◌, ℕ, ◌+◌, ◌-◌, ◌*◌, ◌^◌, ◌≤◌, false, List, [], ◌∷◌, ◌++◌, None, Some, IfSome, length, refl, sym, ap, ◌∙◌, arith, subst, inl, inr, append_assoc, length-append}
use Rattle.std.specs.Prelude.{Option}
use Rattle.decimal_rank.specs.Causes.{Rose}
use Rattle.hall.specs.Places.{Apart}
use Rattle.routes.specs.declared.keys.KeyRow.{KeyRow}
use Rattle.rulebook.specs.Campaign.{History}
use Rattle.rulebook.specs.Histories.Stories.{IsPartOf, Story}
use Rattle.book.specs.Halls.{seen_as}
use Rattle.campaign_server.specs.declared.ends.ServeEnd.{ServeEnd}
use Rattle.campaign_server.specs.declared.ends.ServeEnd.TheVariants as serve_end
use Rattle.campaign_server.specs.declared.numbers.ServerNumbers.{ServerNumbers}
use Rattle.campaign_server.specs.Doors.{DoorState, EndedLink, IsShut, Opens, Told}
use Rattle.campaign_server.specs.Crews.Acceptors.{Closes, IsAcceptor}
use Rattle.campaign_server.specs.Crews.Records.{AreServed, NoneShort}
use Rattle.campaign_server.specs.Servers.{ServerLeaves, IsServed, SettlesRecords}
use Rattle.campaign_server.specs.Crews.Workers.{WorkState, Works}
use Rattle.campaign_server.proofs.ServerEnds.WorkerPlaces.{front_apart}
use Rattle.campaign_server.proofs.ServerEnds.JoinedWorkers.{licensed_later, most_on, most_same, served_later}

abbrev Unopened : Told → Type 0
Unopened t = (t.port ≡ None) × (t.accepted ≡ 0) × (t.served ≡ [])

-- what holds of a door behind its opening
opened_so : (Q : Told → Type 0) (port : ℕ) (was is : Option Told) → ((t : Told) → Unopened t → Q (record t { port = Some port })) → IfSome was Unopened
    → Opens was port is → IfSome is Q
opened_so Q port (Some t) (Some u) holds shut e = subst Q (sym e) (holds t shut)
opened_so Q port (Some t) None holds shut e = absurd e
opened_so Q port None (Some u) holds shut e = absurd e
opened_so Q port None None holds shut e = e

-- a door that was just opened
pub accepts_on : (port opening limit : ℕ) (was is : DoorState) → IsShut was → Opens was.told port is.told → opening ≤ is.faults
    → IsAcceptor port opening limit (record { door = is; accepted = 0; ended = false; failed = false })
accepts_on port opening limit was is shut opens later = record {
  open_on = opened_so (λ t. t.port ≡ Some port) port was.told is.told (λ t none. refl) shut opens;
  counted = opened_so (λ t. t.accepted ≡ 0) port was.told is.told (λ t none. none.1) shut opens;
  none_served = opened_so (λ t. t.served ≡ []) port was.told is.told (λ t none. none.2) shut opens;
  none_left = λ wrong. cc wrong;
  few = omega arith;
  later = later;
  fault = λ wrong. cc wrong;
}

-- a door through which nothing came
leaves_shut : (keys : List KeyRow) (numbers : ServerNumbers) (start after : Story) (how : ServeEnd) (told : Option Told) → how ≢ serve_end.Ended
    → IfSome told Unopened → IfSome told (λ t. ServerLeaves keys numbers start after how t)
leaves_shut keys numbers start after how None other shut = shut
leaves_shut keys numbers start after how (Some t) other shut = record {
  opened = inr (shut.0, other);
  few = omega (arith, shut.1);
  none_made_up = let none = ap length shut.2 in omega (arith, none, shut.1);
  all = λ e. ap length shut.2 ∙ sym shut.1;
  none_short = λ e. subst NoneShort (sym shut.2) tt;
  faults = 0;
  places = [];
  served = subst (λ records. AreServed keys (length start.list) start.faults after.list after.faults records 0 []) (sym shut.2) (refl, refl);
  licensed = inl (omega arith);
  ended = λ e. absurd (other e);
}

-- a server that took no link: its door tells what it told
pub serves_shut : (keys : List KeyRow) (numbers : ServerNumbers) (start after : Story) (old new : DoorState) (how : ServeEnd)
    → how ≢ serve_end.Ended → IsPartOf start after → IsShut old
    → new.told ≡ old.told → (how ≡ serve_end.DoorFault → Rose old.faults new.faults) → old.faults ≤ new.faults → IsServed keys numbers start after old new how
serves_shut keys numbers start after old new how other grown shut same fault later = record {
  grown = grown;
  leaves = leaves_shut keys numbers start after how new.told other (subst (λ told. IfSome told Unopened) (sym same) shut);
  fault = fault;
  later = later;
}

-- one for which there was no memory
pub serves_none : (keys : List KeyRow) (numbers : ServerNumbers) (start after : Story) (door : DoorState) → after ≡ start → IsShut door
    → IsServed keys numbers start after door door serve_end.Memory
serves_none keys numbers start after door same shut =
    serves_shut keys numbers start after door door serve_end.Memory (λ wrong. cc wrong)
    (most_same start after same) shut refl (λ wrong. absurd (cc wrong)) (omega arith)

served_front : (keys : List KeyRow) (n c : ℕ) (S : History) (last : ℕ) (part rest : List EndedLink) (told : ℕ) (places : List ℕ)
    → AreServed keys n c S last (part ++ rest) told places
    → (fewer : ℕ) × (few : List ℕ) × (more : List ℕ) × AreServed keys n c S last part fewer few × (fewer ≤ told) × (places ≡ few ++ more)
served_front keys n c S last [] rest told places served = (0, [], places, (refl, refl), omega arith, refl)
served_front keys n c S last (first ∷ part) rest told places (here, there, own, others, one, are, is, all, apart) =
    let (fewer, few, more, served, less, split) = served_front keys n c S last part rest there others are in (
      here + fewer,
      own ++ few,
      more,
      (here, fewer, own, few, one, served, refl, refl, front_apart own few more (subst (Apart own) split apart)),
      omega (arith, is, less),
      all ∙ ap (λ ps. own ++ ps) split ∙ sym (append_assoc own few more),
    )

module _ (keys : List KeyRow) (numbers : ServerNumbers) (start after : Story) (opening accepted : ℕ) (door : DoorState) (end how : ServeEnd) (work : WorkState)
    (closes : Closes numbers.port opening numbers.connections door accepted end) (all_counted : accepted ≡ length work.records)
    (worked : Works keys start numbers.workers work)
    (most : IsPartOf (seen_as work.pass.seen) after) where
  served_there : AreServed keys (length start.list) start.faults after.list after.faults work.records worked.told worked.places
  served_there = served_later keys (length start.list) start.faults (seen_as work.pass.seen) after work.records worked.told worked.places most worked.served

  licensed_there : (worked.told ≤ numbers.workers * (after.faults - start.faults)) ⊎ (2 ^ 64 - 1 ≤ after.faults)
  licensed_there = licensed_later numbers.workers start.faults work.pass.seen.faults after.faults worked.told most.later worked.licensed

  -- what is known of a door that told
  record Known (t : Told) : Type 0 where
    port_is : t.port ≡ Some numbers.port
    counted : t.accepted ≡ accepted
    none : t.served ≡ []
    ended : end ≡ serve_end.Ended → (t.left ≡ []) ⊎ (accepted ≡ numbers.connections)

  leaves_all : (t u : Told) → Known t → work.short ≡ false → how ≡ end → u ≡ record t { served = t.served ++ work.records }
      → ServerLeaves keys numbers start after how u
  leaves_all t u known not_short same is =
      let served : u.served ≡ work.records = ap (λ (x : Told). x.served) is ∙ ap (λ before. before ++ work.records) known.none in
      let accepted_is : u.accepted ≡ accepted = ap (λ (x : Told). x.accepted) is ∙ known.counted in
      let many : length u.served ≡ u.accepted = ap length served ∙ sym all_counted ∙ sym accepted_is in
      record {
        opened = inl (ap (λ (x : Told). x.port) is ∙ known.port_is);
        few = let few = closes.few in omega (arith, accepted_is, few);
        none_made_up = omega (arith, many);
        all = λ e. many;
        none_short = λ e. subst NoneShort (sym served) (worked.none_short not_short);
        faults = worked.told;
        places = worked.places;
        served = subst (λ rs. AreServed keys (length start.list) start.faults after.list after.faults rs worked.told worked.places) (sym served) served_there;
        licensed = licensed_there;
        ended = λ e. ended_so (ap (λ (x : Told). x.left) is) accepted_is (known.ended (sym same ∙ e));
      }
    where
      ended_so : u.left ≡ t.left → u.accepted ≡ accepted → (t.left ≡ []) ⊎ (accepted ≡ numbers.connections) → (u.left ≡ []) ⊎ (u.accepted ≡ numbers.connections)
      ended_so left_is accepted_is (inl none) = inl (left_is ∙ none)
      ended_so left_is accepted_is (inr full) = inr (accepted_is ∙ full)

  leaves_part : (t u : Told) → Known t → how ≡ serve_end.Memory → (part rest : List EndedLink) → work.records ≡ part ++ rest
      → u ≡ record t { served = t.served ++ part }
      → ServerLeaves keys numbers start after how u
  leaves_part t u known memory part rest split is =
      let served : u.served ≡ part = ap (λ (x : Told). x.served) is ∙ ap (λ before. before ++ part) known.none in
      let accepted_is : u.accepted ≡ accepted = ap (λ (x : Told). x.accepted) is ∙ known.counted in
      let (fewer, few, more, front, less, places_split) =
      served_front keys (length start.list) start.faults after.list after.faults part rest worked.told worked.places
      (subst (λ rs. AreServed keys (length start.list) start.faults after.list after.faults rs worked.told worked.places) split served_there) in
      record {
        opened = inl (ap (λ (x : Told). x.port) is ∙ known.port_is);
        few = let few = closes.few in omega (arith, accepted_is, few);
        none_made_up = let several = ap length served in let total = ap length split ∙ length-append part rest in
            omega (arith, several, total, all_counted, accepted_is);
        all = λ e. absurd (e memory);
        none_short = λ e. absurd (e memory);
        faults = fewer;
        places = few;
        served = subst (λ rs. AreServed keys (length start.list) start.faults after.list after.faults rs fewer few) (sym served) front;
        licensed = fewer_licensed less licensed_there;
        ended = λ e. absurd (let wrong : serve_end.Memory ≡ serve_end.Ended = sym memory ∙ e in cc wrong);
      }
    where
      fewer_licensed : {few many most : ℕ} → few ≤ many → (many ≤ most) ⊎ (2 ^ 64 - 1 ≤ after.faults) → (few ≤ most) ⊎ (2 ^ 64 - 1 ≤ after.faults)
      fewer_licensed least (inl within) = inl (omega (arith, least, within))
      fewer_licensed least (inr great) = inr great

  leaves_by : (was new : Option Told) → IfSome was Known → SettlesRecords was work.records work.short end new how
      → IfSome new (λ u. ServerLeaves keys numbers start after how u)
  leaves_by was None known settles = tt
  leaves_by None (Some u) known (inl (not_short, same, handed)) = absurd handed
  leaves_by None (Some u) known (inr (memory, (part, rest, split, handed))) = absurd handed
  leaves_by (Some t) (Some u) known (inl (not_short, same, handed)) = leaves_all t u known not_short same handed
  leaves_by (Some t) (Some u) known (inr (memory, (part, rest, split, handed))) = leaves_part t u known memory part rest split handed

  known_of : (was : Option Told) → IfSome was (λ t. t.port ≡ Some numbers.port) → IfSome was (λ t. t.accepted ≡ accepted) → IfSome was (λ t. t.served ≡ [])
      → (end ≡ serve_end.Ended → IfSome was (λ t. t.left ≡ []) ⊎ (accepted ≡ numbers.connections)) → IfSome was Known
  known_of None port_is counted none ended = tt
  known_of (Some t) port_is counted none ended = record { port_is = port_is; counted = counted; none = none; ended = ended }

  -- a door through which links came, behind its last record
  leaves_closed : (new : Option Told) → SettlesRecords door.told work.records work.short end new how
      → IfSome new (λ u. ServerLeaves keys numbers start after how u)
  leaves_closed new settles = leaves_by door.told new (known_of door.told closes.open_on closes.counted closes.none_served closes.ended) settles

  -- it ends with a fault of the door only where one is counted
  fault_counted : (new : Option Told) (faults : ℕ) → SettlesRecords door.told work.records work.short end new how
      → faults ≡ door.faults → how ≡ serve_end.DoorFault
      → Rose opening faults
  fault_counted new faults (inl (not_short, same, handed)) is e = subst (Rose opening) (sym is) (closes.fault (sym same ∙ e))
  fault_counted new faults (inr (memory, handed)) is e = absurd (let wrong : serve_end.Memory ≡ serve_end.DoorFault = sym memory ∙ e in cc wrong)

  -- what a server comes to that opened its door
  pub serves_closed : (old new : DoorState) → opening ≡ old.faults → SettlesRecords door.told work.records work.short end new.told how
      → new.faults ≡ door.faults → IsServed keys numbers start after old new how
  serves_closed old new is settles same = record {
    grown = most_on start (seen_as work.pass.seen) after worked.grown most;
    leaves = leaves_closed new.told settles;
    fault = λ e. subst (λ faults. Rose faults new.faults) is (fault_counted new.told new.faults settles same e);
    later = let later = closes.later in omega (arith, later, is, same);
  }
