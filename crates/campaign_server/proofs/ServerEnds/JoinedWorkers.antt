-- What workers did, put together.
use Rattle.std.proofs.Common.{◌≡◌, ◌≢◌, ◌⊎◌, ℕ, ◌+◌, ◌-◌, ◌*◌, ◌^◌, ◌≤◌, Bool, true, false, ◌||◌, List, [], ◌∷◌, ◌++◌, length, refl, sym, ap, ◌∙◌, arith, subst, inl, inr, append-nil, append_assoc, length-append, IfSome, Option}
use Rattle.std.proofs.Math.Nat.{mul-le-mul_left}
use Rattle.std.proofs.lemmas.List.{map-append}
use Rattle.atomic_table.specs.Seated.{TableId}
use Rattle.hall.specs.Places.{Apart, Rises}
use Rattle.routes.specs.declared.keys.KeyRow.{KeyRow}
use Rattle.book.specs.Halls.{seen_as}
use Rattle.rulebook.specs.Campaign.{History}
use Rattle.rulebook.specs.Histories.Stories.{IsPartOf, Story}
use Rattle.campaign_server.specs.declared.ends.End.{End}
use Rattle.campaign_server.specs.declared.ends.End.TheVariants as end
use Rattle.campaign_server.specs.Conversations.Chains.{Said}
use Rattle.campaign_server.specs.Connections.{ConnectionEnds}
use Rattle.campaign_server.specs.Doors.{EndedLink, IsNew}
use Rattle.campaign_server.specs.Links.{Clock, LinkState}
use Rattle.campaign_server.specs.HallConnections.{IsTalkAmong, Licensed, Serves}
use Rattle.campaign_server.specs.Crews.Records.{AreServed, IsLinkRecord, NoneShort, ended_of}
use Rattle.campaign_server.specs.Crews.Workers.{AreOwn, GatheredState, HasGatheredNothing, HasServed, IsFreshWorker, TakesIn, WorkState, WorkerGoesOn, Works}
use Rattle.campaign_server.proofs.ServerEnds.WorkerPlaces.{both_apart, gained_apart, none_apart, own_apart, own_both, own_more, own_none, rest_apart}
use Rattle.campaign_server.proofs.TalkSteps.KnownTalks.{ends_known}
use Rattle.campaign_server.proofs.TalkSteps.LongerTalks.{talk_on}

-- what is said on a connection, over a longer list and from an earlier start
among_on : (keys : List KeyRow) (n c m b : ℕ) (clock : Clock) (S more : History) (last then_ : ℕ)
    (later : Clock) (places : List ℕ) (told : ℕ) (said : List Said)
    → m ≤ n → b ≤ c → last ≤ then_ → IsTalkAmong keys n c clock S last later places told said
    → IsTalkAmong keys m b clock (S ++ more) then_ later places told said
among_on keys n c m b clock S more last then_ later places told said fewer less least among = record {
  talk = record {
    talk = talk_on false keys n c S last places said m b more then_ fewer less least among.talk.talk;
    moments = among.talk.moments;
  };
  told_is = among.told_is;
}

ends_on : (keys : List KeyRow) (n c m b : ℕ) (S more : History) (last then_ : ℕ) (places : List ℕ) (told : ℕ) (was is : LinkState) (how : End)
    → m ≤ n → b ≤ c → last ≤ then_ → ConnectionEnds (IsTalkAmong keys n c was.clock S last is.clock places told) was is how
    → ConnectionEnds (IsTalkAmong keys m b was.clock (S ++ more) then_ is.clock places told) was is how
ends_on keys n c m b S more last then_ places told was is how fewer less least ends =
    (ends_known {I = Unit {0}} (IsTalkAmong keys n c was.clock S last is.clock places told)
    (λ one. IsTalkAmong keys m b was.clock (S ++ more) then_ is.clock places told)
    (λ said among. (tt, among_on keys n c m b was.clock S more last then_ is.clock places told said fewer less least among)) was is how ends).1

served_on : (keys : List KeyRow) (n c m b : ℕ) (S more : History) (last then_ : ℕ) (ended : EndedLink) (told : ℕ) (places : List ℕ)
    → m ≤ n → b ≤ c → last ≤ then_
    → IsLinkRecord keys n c S last ended told places → IsLinkRecord keys m b (S ++ more) then_ ended told places
served_on keys n c m b S more last then_ ended told places fewer less least served = record {
  was = served.was;
  is = served.is;
  new = served.new;
  alike = served.alike;
  tells = served.tells;
  ends = ends_on keys n c m b S more last then_ places told served.was served.is ended.1 fewer less least served.ends;
}

all_on : (keys : List KeyRow) (n c : ℕ) (S more : History) (last then_ : ℕ) (records : List EndedLink) (told : ℕ) (places : List ℕ)
    → last ≤ then_ → AreServed keys n c S last records told places
    → AreServed keys n c (S ++ more) then_ records told places
all_on keys n c S more last then_ [] told places least none = none
all_on keys n c S more last then_ (first ∷ others) told places least (here, there, own, rest, served, are, is, all, apart) = (
  here,
  there,
  own,
  rest,
  served_on keys n c n c S more last then_ first here own (omega arith) (omega arith) least served,
  all_on keys n c S more last then_ others there rest least are,
  is,
  all,
  apart,
)

-- the same over a later state
pub served_later : (keys : List KeyRow) (n c : ℕ) (seen later : Story) (records : List EndedLink) (told : ℕ) (places : List ℕ) → IsPartOf seen later
    → AreServed keys n c seen.list seen.faults records told places → AreServed keys n c later.list later.faults records told places
served_later keys n c seen later records told places most served =
    let (more, is) = most.longer in
    subst (λ S. AreServed keys n c S later.faults records told places) (sym is)
    (all_on keys n c seen.list more seen.faults later.faults records told places most.later served)

-- records of which no two added one entry
pub served_both : (keys : List KeyRow) (n c : ℕ) (S : History) (last : ℕ) (first second : List EndedLink) (told more : ℕ) (xs ys : List ℕ)
    → AreServed keys n c S last first told xs
    → AreServed keys n c S last second more ys → Apart xs ys → AreServed keys n c S last (first ++ second) (told + more) (xs ++ ys)
served_both keys n c S last [] second told more xs ys none served apart =
    subst (λ ps. AreServed keys n c S last second (told + more) (ps ++ ys)) (sym none.1)
    (subst (λ t. AreServed keys n c S last second t ys) (omega (arith, none.0)) served)
served_both keys n c S last (r ∷ first) second told more xs ys (here, there, own, rest, one, are, is, all, alone) served apart = (
  here,
  there + more,
  own,
  rest ++ ys,
  one,
  served_both keys n c S last first second there more rest ys are served (rest_apart own rest ys xs all apart),
  omega (arith, is),
  ap (λ ps. ps ++ ys) all ∙ append_assoc own rest ys,
  own_apart own rest ys xs all apart alone,
)

pub most_on : (a b d : Story) → IsPartOf a b → IsPartOf b d → IsPartOf a d
most_on a b d first second =
    let (x, x_is) = first.longer in
    let (y, y_is) = second.longer in
    record {
      longer = (x ++ y, y_is ∙ ap (λ l. l ++ y) x_is ∙ append_assoc a.list x y);
      later = omega (arith, first.later, second.later);
      opening = first.opening ∙ second.opening;
    }

none_both : (first second : List EndedLink) → NoneShort first → NoneShort second → NoneShort (first ++ second)
none_both [] second none others = others
none_both (r ∷ first) second none others = (none.0, none_both first second none.1 others)

licensed_more : (start seen later told more : ℕ) → start ≤ seen → seen ≤ later → (told ≤ 1 * (seen - start)) ⊎ (2 ^ 64 - 1 ≤ seen) → Licensed more seen later
    → (told + more ≤ 1 * (later - start)) ⊎ (2 ^ 64 - 1 ≤ later)
licensed_more start seen later told more first second (inl few) (inl others) = inl (omega (arith, first, second, few, others))
licensed_more start seen later told more first second (inl few) (inr great) = inr great
licensed_more start seen later told more first second (inr great) others = inr (omega (arith, great, second))

-- a record behind the others
pub ended_more : {R : Type 0} (kept : R → Option LinkState) (records : List (R × End)) (r : R) (how : End)
    → ended_of kept (records ++ (r, how) ∷ []) ≡ ended_of kept records ++ (kept r, how) ∷ []
ended_more kept records r how = map-append (λ (one : _ × End). (kept one.0, one.1)) records ((r, how) ∷ [])

-- nothing was done
pub goes_still : (keys : List KeyRow) (work : WorkState) → WorkerGoesOn keys work work
goes_still keys work = record { of = refl; part = refl; on = λ start worked. worked }

pub goes_short : (keys : List KeyRow) (work : WorkState) → WorkerGoesOn keys work (record work { short = true })
goes_short keys work = record {
  of = refl;
  part = refl;
  on = λ start worked. record {
    grown = worked.grown;
    told = worked.told;
    places = worked.places;
    served = worked.served;
    own = worked.own;
    licensed = worked.licensed;
    none_short = λ wrong. cc;
  };
}

pub goes_both : (keys : List KeyRow) (a b c : WorkState) → WorkerGoesOn keys a b → WorkerGoesOn keys b c → WorkerGoesOn keys a c
goes_both keys a b c first second =
    record { of = second.of ∙ first.of; part = second.part ∙ first.part; on = λ start worked. second.on start (first.on start worked) }

-- one link more was served, and its record kept
pub goes_more : (keys : List KeyRow) (work later : WorkState) (kept : Option LinkState) (how : End) (was is : LinkState)
    → later.pass.hall ≡ work.pass.hall → later.parts ≡ work.parts
    → later.records ≡ work.records ++ (kept, how) ∷ [] → IsNew was → IfSome kept (λ state. state ≡ is) → Serves keys work.pass later.pass was is how
    → Rises 0 later.pass.mine (length later.pass.seen.list) → work.short ≡ false → (later.short ≡ false → how ≢ end.Memory) → WorkerGoesOn keys work later
goes_more keys work later kept how was is hall parts records new tells serves rises not_short known = record { of = hall; part = parts; on = more }
  where
    more : (start : Story) → Works keys start 1 work → Works keys start 1 later
    more start worked =
        let (rest, longer) = worked.grown.longer in
        let n = length start.list in
        let c = start.faults in
        let S = later.pass.seen.list in
        let last = later.pass.seen.faults in
        let fewer : n ≤ length work.pass.seen.list = omega (arith, ap length longer, length-append start.list rest) in
        let told_there =
        ends_on keys (length work.pass.seen.list) work.pass.seen.faults n c S [] last last serves.places serves.told was is how fewer
        worked.grown.later (omega arith) serves.ends in
        let one : IsLinkRecord keys n c S last (kept, how) serves.told serves.places = record {
          was = was;
          is = is;
          new = new;
          alike = serves.alike;
          tells = tells;
          ends = subst (λ list. ConnectionEnds (IsTalkAmong keys n c was.clock list last is.clock serves.places serves.told) was is how)
              (append-nil S) told_there;
        } in
        record {
          grown = most_on start (seen_as work.pass.seen) (seen_as later.pass.seen) worked.grown serves.grown;
          told = worked.told + serves.told;
          places = worked.places ++ serves.places;
          served =
              subst (λ all. AreServed keys n c S last all (worked.told + serves.told) (worked.places ++ serves.places)) (sym records)
              (served_both keys n c S last work.records ((kept, how) ∷ []) worked.told serves.told worked.places serves.places
              (served_later keys n c (seen_as work.pass.seen) (seen_as later.pass.seen) work.records worked.told worked.places serves.grown worked.served)
              (serves.told, 0, serves.places, [], one, (refl, refl), omega arith, sym (append-nil serves.places), none_apart serves.places)
              (gained_apart work.pass.mine worked.places serves.places (length S) worked.own (subst (λ ps. Rises 0 ps (length S)) serves.gained rises)));
          own = subst (λ ps. AreOwn ps (worked.places ++ serves.places)) (sym serves.gained) (own_more work.pass.mine worked.places serves.places worked.own);
          licensed = licensed_more c work.pass.seen.faults last worked.told serves.told worked.grown.later serves.grown.later worked.licensed serves.licensed;
          none_short = λ e. subst NoneShort (sym records) (none_both work.records ((kept, how) ∷ []) (worked.none_short not_short) (known e, tt));
        }

minus_le : (start seen later : ℕ) → seen ≤ later → seen - start ≤ later - start
minus_le start seen later least = omega (arith, least)

-- so many disk faults for each worker, over a later count
pub licensed_later : (n start seen later told : ℕ) → seen ≤ later → (told ≤ n * (seen - start)) ⊎ (2 ^ 64 - 1 ≤ seen)
    → (told ≤ n * (later - start)) ⊎ (2 ^ 64 - 1 ≤ later)
licensed_later n start seen later told least (inl few) = inl (let more = mul-le-mul_left n (minus_le start seen later least) in omega (arith, few, more))
licensed_later n start seen later told least (inr great) = inr (omega (arith, great, least))

pub most_same : (a b : Story) → b ≡ a → IsPartOf a b
most_same a b same = record {
  longer = ([], ap (λ (s : Story). s.list) same ∙ sym (append-nil a.list));
  later = omega (arith, ap (λ (s : Story). s.faults) same);
  opening = ap (λ (s : Story). s.opening) (sym same);
}

-- workers that did nothing yet
nothing_done : (keys : List KeyRow) (start : Story) (workers : ℕ) (work : WorkState) → seen_as work.pass.seen ≡ start → work.records ≡ []
    → Works keys start workers work
nothing_done keys start workers work seen none = record {
  grown = most_same start (seen_as work.pass.seen) seen;
  told = 0;
  places = [];
  served = subst (λ records. AreServed keys (length start.list) start.faults work.pass.seen.list work.pass.seen.faults records 0 []) (sym none) (refl, refl);
  own = own_none work.pass.mine;
  licensed = inl (omega arith);
  none_short = λ e. subst NoneShort (sym none) tt;
}

-- a worker that did nothing yet, and went on
pub has_served : (keys : List KeyRow) (hall : TableId) (start : Story) (work later : WorkState) → IsFreshWorker hall start work
    → WorkerGoesOn keys work later → HasServed keys hall start later
has_served keys hall start work later fresh goes = record {
  of = goes.of ∙ fresh.of;
  part = goes.part ∙ fresh.part;
  worked = goes.on start (nothing_done keys start 1 work fresh.seen fresh.no_records);
}

pub works_empty : (keys : List KeyRow) (hall : TableId) (workers : ℕ) (work : WorkState)
    → HasGatheredNothing hall work → Works keys (seen_as work.pass.seen) workers work
works_empty keys hall workers work empty = nothing_done keys (seen_as work.pass.seen) workers work refl empty.no_records

-- the same of what is seen of both
pub as_seen : {all seen later : GatheredState} {work known : WorkState} → seen ≡ all → known ≡ work → TakesIn seen known later → TakesIn all work later
as_seen {seen = seen} {later = later} {work = work} all_is work_is takes =
    subst (λ a. TakesIn a work later) all_is (subst (λ w. TakesIn seen w later) work_is takes)

-- one worker more, each of which has a part of the ledger
pub works_in : (keys : List KeyRow) (hall : TableId) (start : Story) (all : GatheredState) (work : WorkState) (later : GatheredState)
    → TakesIn all work later → Works keys start all.done.parts all.done → HasServed keys hall start work → Works keys start later.done.parts later.done
works_in keys hall start all work later takes worked served =
    let one = served.worked in
    let n = length start.list in
    let c = start.faults in
    let seen = seen_as later.done.pass.seen in
    let here : IsPartOf (seen_as all.done.pass.seen) seen = record { longer = takes.grown.0; later = takes.grown.1; opening = takes.grown.2 } in
    let there : IsPartOf (seen_as work.pass.seen) seen = record { longer = takes.other.0; later = takes.other.1; opening = takes.other.2 } in
    let parts : later.done.parts ≡ all.done.parts + 1 = takes.parts ∙ ap (λ p. all.done.parts + p) served.part in
    let rise = seen.faults - c in
    record {
      grown = most_on start (seen_as all.done.pass.seen) seen worked.grown here;
      told = worked.told + one.told;
      places = worked.places ++ one.places;
      served =
          subst (λ records. AreServed keys n c seen.list seen.faults records (worked.told + one.told) (worked.places ++ one.places)) (sym takes.records)
          (served_both keys n c seen.list seen.faults all.done.records work.records worked.told one.told worked.places one.places
          (served_later keys n c (seen_as all.done.pass.seen) seen all.done.records worked.told worked.places here worked.served)
          (served_later keys n c (seen_as work.pass.seen) seen work.records one.told one.places there one.served)
          (both_apart all.done.pass.mine work.pass.mine worked.places one.places takes.apart worked.own one.own));
      own =
          subst (λ mine. AreOwn mine (worked.places ++ one.places)) (sym takes.mine)
          (own_both all.done.pass.mine work.pass.mine worked.places one.places worked.own one.own);
      licensed =
          subst (λ several. (worked.told + one.told ≤ several * rise) ⊎ (2 ^ 64 - 1 ≤ seen.faults)) (sym parts)
          (both all.done.parts rise (licensed_later all.done.parts c all.done.pass.seen.faults seen.faults worked.told here.later worked.licensed)
          (licensed_later 1 c work.pass.seen.faults seen.faults one.told there.later one.licensed));
      none_short = λ e. subst NoneShort (sym takes.records) (none all.done.short work.short worked.none_short one.none_short (sym takes.short ∙ e));
    }
  where
    both : (workers rise : ℕ) {told most : ℕ} → (told ≤ workers * rise) ⊎ (2 ^ 64 - 1 ≤ later.done.pass.seen.faults)
        → (most ≤ 1 * rise) ⊎ (2 ^ 64 - 1 ≤ later.done.pass.seen.faults)
        → (told + most ≤ (workers + 1) * rise) ⊎ (2 ^ 64 - 1 ≤ later.done.pass.seen.faults)
    both workers rise (inl few) (inl one) = inl (omega (arith, few, one))
    both workers rise (inl few) (inr great) = inr great
    both workers rise (inr great) one = inr great

    none : (s t : Bool) → (s ≡ false → NoneShort all.done.records) → (t ≡ false → NoneShort work.records) → (s || t) ≡ false
        → NoneShort (all.done.records ++ work.records)
    none false false here there e = none_both all.done.records work.records (here refl) (there refl)
    none false true here there e = absurd (cc e)
    none true t here there e = absurd (cc e)
