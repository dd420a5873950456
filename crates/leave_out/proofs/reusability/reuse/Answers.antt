use Rattle.std.proofs.Common.{◌≡◌, ◌<◌, ◌≤◌, ◌++◌, ◌∷◌, ◌∙◌, ℕ, List, [], ap, arith, get_or, length, map, subst, sym, take, take_all, true, rules, vec_len}
use Rattle.std.specs.List.{list_all}
use Rattle.std.proofs.lemmas.List.{get_or-map, length-map, map_more}
use Rattle.depth_pool.specs.declared.runs.RunId.{RunId}
use Rattle.rulebook.specs.declared.systems.System.{System}
use Rattle.rulebook.specs.Campaign.{History, Run, numbered_runs}
use Rattle.rulebook.specs.Histories.Legal.{IsLegal}
use Rattle.rulebook.specs.Requests.PlainReplies.{EntriesArePlain}
use Rattle.rulebook.specs.Reports.Systems.{are_sound_systems, is_mean, systems}
use Rattle.leave_out.specs.ReducedJudgements.{IsLive}
use Rattle.leave_out.specs.Reuse.{are_reused_means, reuse_of}
use Rattle.leave_out.specs.declared.reusability.Reused.{Reused}
use Rattle.leave_out.proofs.Elements.{all-push}
use Rattle.leave_out.proofs.Reductions.GroupPlaces.{place-group, place-reduced, place-within}
use Rattle.leave_out.proofs.LiveRuns.NamedRuns.{each-live}
use Rattle.leave_out.proofs.LiveRuns.NumberedRuns.{each-at}
use Rattle.leave_out.proofs.LiveRuns.NumberedSystems.{system_at, systems-numbered}
use Rattle.leave_out.proofs.LiveRuns.SoundSystems.{sound-mean}
use Rattle.leave_out.proofs.reusability.reuse.Goals as goal

abbrev no_run : ℕ × Run
no_run = (0, record { name = []; lists = [] })

abbrev no_id : RunId
no_id = record { 0 = 0 }

-- a live run, and the number and the system that are at its place
record IsAt (H : History) (place : ℕ) (number : RunId) (system : System) (one : ℕ × Run) : Type 0 where
  live : IsLive H number one
  system_is : system ≡ system_at H one

abbrev number : RunId → ℕ
number run = run.0

abbrev first : ℕ × Run → ℕ
first one = one.0

at-place : (H : History) → EntriesArePlain → IsLegal H → (live : List RunId) (all : List System) (i : ℕ) (system : System)
    → map number live ≡ map first (numbered_runs H) → all ≡ systems H → i < length all
    → system ≡ get_or all i system → (i < length live) × IsAt H i (get_or live i no_id) system (get_or (numbered_runs H) i no_run)
at-place H plain legal live all i system live_are all_are within is =
    let pairs : List (ℕ × Run) = numbered_runs H in
    let systems_are : all ≡ map (system_at H) pairs = all_are ∙ systems-numbered H in
    let among : i < length pairs = omega (arith, within, ap (λ (ss : List System). length ss) systems_are, length-map pairs (system_at H)) in
    let there : i < length live = omega (arith, among, ap (λ (ns : List ℕ). length ns) live_are, length-map live number, length-map pairs first) in
    let one : ℕ × Run = get_or pairs i no_run in
    let number_is : (get_or live i no_id).0 ≡ one.0 =
    sym (get_or-map number live i no_id 0 there) ∙ ap (λ (ns : List ℕ). get_or ns i 0) live_are ∙ get_or-map first pairs i no_run 0 among in
    let at : IsLive H (record { 0 = one.0 }) one = each-at (λ one. IsLive H (record { 0 = one.0 }) one) pairs i no_run among (each-live H plain legal) in (
      there,
      record {
        live = subst (λ (n : ℕ). IsLive H (record { 0 = n }) one) (sym number_is) at;
        system_is = is ∙ ap (λ (ss : List System). get_or ss i system) systems_are ∙ get_or-map (system_at H) pairs i no_run system among;
      },
    )

pub bounds-live-place : goal.bounds-live-place
bounds-live-place c =
    (at-place c.args.state.now.history c.entries_are_plain.ensures c.entries-entries.ensures.legal c.live-live.result.now
    c.items-system-items.result.now c.loop-place.place c.system-item.result c.live-live.ensures
    (c.items-system-items.ensures ∙ c.in_ok-systems.ensures.systems) c.loop-place-test.true c.system-item.is).0

pub row_of-requires-clause-topics : goal.row_of-requires-clause-topics
row_of-requires-clause-topics c = c.board-board.ensures.board.knows.topics_fit

pub row_of-requires-clause-live : goal.row_of-requires-clause-live
row_of-requires-clause-live c =
    let H = c.args.state.now.history in
    let at = (at-place H c.entries_are_plain.ensures c.entries-entries.ensures.legal c.live-live.result.now
    c.items-system-items.result.now c.loop-place.place c.system-item.result c.live-live.ensures
    (c.items-system-items.ensures ∙ c.in_ok-systems.ensures.systems) c.loop-place-test.true c.system-item.is).1 in
    (get_or (numbered_runs H) c.loop-place.place no_run, at.live, at.system_is)

pub row_of-requires-clause-mean : goal.row_of-requires-clause-mean
row_of-requires-clause-mean c =
    let all = c.items-system-items.result.now in
    let sound : are_sound_systems all ≡ true = ap are_sound_systems c.items-system-items.ensures ∙ c.in_ok-systems.ensures.sound in
    ap (λ (s : System). is_mean s.summary.map) c.system-item.is ∙ sound-mean all c.loop-place.place c.system-item.result sound c.loop-place-test.true

pub index-requires : goal.index-requires
index-requires c =
    let within = place-within c.args.state.now.history c.place_of.new.groups.items c.in_ok-group.group c.bytes.result.now c.in_ok-group.ensures.place in
    let counted : length c.place_of.new.groups.items ≡ vec_len c.place_of.new.groups = search rules in
    omega (arith, within, counted)

pub row_of-requires-clause-group : goal.row_of-requires-clause-group
row_of-requires-clause-group c =
    place-group c.args.state.now.history c.place_of.new.groups.items c.in_ok-group.group c.bytes.result.now c.in_ok-group.ensures.place
    c.index.result.now c.index.ensures ∙ c.bytes.ensures

pub row_of-requires-clause-reduced : goal.row_of-requires-clause-reduced
row_of-requires-clause-reduced c =
    place-reduced c.args.state.now.history c.place_of.new.groups.items c.in_ok-group.group c.bytes.result.now c.in_ok-group.ensures.place
    c.index.result.now c.index.ensures c.in_ok-group.ensures.reduced

pub loop-place-preserved : goal.loop-place-preserved
loop-place-preserved c =
    let H = c.args.state.now.history in
    let pairs : List (ℕ × Run) = numbered_runs H in
    let i = c.loop-place.place in
    let all = c.items-system-items.result.now in
    let all_are : all ≡ systems H = c.items-system-items.ensures ∙ c.in_ok-systems.ensures.systems in
    let within : i < length pairs =
    omega (arith, c.loop-place-test.true, ap (λ (ss : List System). length ss) (all_are ∙ systems-numbered H), length-map pairs (system_at H)) in
    let at = (at-place H c.entries_are_plain.ensures c.entries-entries.ensures.legal c.live-live.result.now all i
    c.system-item.result c.live-live.ensures all_are c.loop-place-test.true c.system-item.is).1 in
    let one : ℕ × Run = get_or pairs i no_run in
    let row = c.in_ok-row.row in
    record {
      rows =
          c.in_ok-push.ensures.items
          ∙ ap (λ (rows : List Reused). rows ++ row ∷ []) c.loop-place.invariant.rows
          ∙ ap (λ (row : Reused). map (reuse_of H) (take i pairs) ++ row ∷ []) (c.in_ok-row.ensures.reused one at.live at.system_is)
          ∙ sym (map_more (reuse_of H) pairs i no_run within);
      means = ap (list_all are_reused_means) c.in_ok-push.ensures.items
          ∙ all-push are_reused_means c.loop-place.rows.items row c.loop-place.invariant.means c.in_ok-row.ensures.means;
      reduced = c.in_ok-group.ensures.reduced;
    }

pub returns-clause-reused : goal.returns-clause-reused
returns-clause-reused c =
    let H = c.args.state.now.history in
    let pairs : List (ℕ × Run) = numbered_runs H in
    let all_are : c.items-system-items.result.now ≡ map (system_at H) pairs =
    c.items-system-items.ensures ∙ c.in_ok-systems.ensures.systems ∙ systems-numbered H in
    let past : length pairs ≤ c.loop-place.place =
    omega (arith, c.loop-place-test.false, ap (λ (ss : List System). length ss) all_are, length-map pairs (system_at H)) in
    c.loop-place.invariant.rows ∙ ap (map (reuse_of H)) (take_all c.loop-place.place pairs past)
