use Rattle.std.proofs.Common.{◌≡◌, ◌+◌, [], map, drop, length, ap, arith, subst}
use Rattle.std.proofs.lemmas.List.{drop_all, length-drop}
use Rattle.trec_formats.specs.RunFormat.PackedRuns.{line_in, lines_in}
use Rattle.trec_formats.proofs.RankedLists.GroupLists.{IsListedTo, Cuts, cuts, listed_next, listed_all, group_differs, group_some, group_within, after_group}
use Rattle.trec_formats.proofs.runs.lists.lists_of.Goals as goal

pub group_list-requires-clause-some : goal.group_list-requires-clause-some
group_list-requires-clause-some c =
    let f = line_in c.args.bytes.now in
    let order = lines_in c.args.bytes.now c.args.lines.items in
    let rest = c.loop-start.rest.items in
    let start = c.loop-start.start in
    let group = c.group_at-group.result.now in
    let cut : Cuts order (map f (drop start rest)) (map f group) =
    cuts order (map f (drop start rest)) c.loop-start.lists.items (map f group) c.loop-start.invariant.listed c.requires.ascending
    (rw c.as_slice.ensures.value at c.group_at-group.ensures) in
    group_some f order rest start group cut

pub group_list-requires-clause-differ : goal.group_list-requires-clause-differ
group_list-requires-clause-differ c =
    let f = line_in c.args.bytes.now in
    let order = lines_in c.args.bytes.now c.args.lines.items in
    let rest = c.loop-start.rest.items in
    let start = c.loop-start.start in
    let group = c.group_at-group.result.now in
    let cut : Cuts order (map f (drop start rest)) (map f group) =
    cuts order (map f (drop start rest)) c.loop-start.lists.items (map f group) c.loop-start.invariant.listed c.requires.ascending
    (rw c.as_slice.ensures.value at c.group_at-group.ensures) in
    group_differs order (map f (drop start rest)) (map f group) cut c.requires.distinct

pub drop_done-start-requires : goal.drop_done-start-requires
drop_done-start-requires c =
    let f = line_in c.args.bytes.now in
    let order = lines_in c.args.bytes.now c.args.lines.items in
    let rest = c.loop-start.rest.items in
    let start = c.loop-start.start in
    let group = c.group_at-group.result.now in
    let cut : Cuts order (map f (drop start rest)) (map f group) =
    cuts order (map f (drop start rest)) c.loop-start.lists.items (map f group) c.loop-start.invariant.listed c.requires.ascending
    (rw c.as_slice.ensures.value at c.group_at-group.ensures) in
    group_within f order rest start group cut c.loop-start.invariant.within

pub loop-start-smaller : goal.loop-start-smaller
loop-start-smaller c =
    let f = line_in c.args.bytes.now in
    let order = lines_in c.args.bytes.now c.args.lines.items in
    let rest = c.loop-start.rest.items in
    let start = c.loop-start.start in
    let group = c.group_at-group.result.now in
    let cut : Cuts order (map f (drop start rest)) (map f group) =
    cuts order (map f (drop start rest)) c.loop-start.lists.items (map f group) c.loop-start.invariant.listed c.requires.ascending
    (rw c.as_slice.ensures.value at c.group_at-group.ensures) in
    let left : drop c.drop_done-start.result c.drop_done-start.new.lines.items ≡ drop (start + length group) rest = c.drop_done-start.ensures.left in
    omega (
      arith,
      ap length left,
      length-drop c.drop_done-start.result c.drop_done-start.new.lines.items,
      length-drop (start + length group) rest,
      group_some f order rest start group cut,
      group_within f order rest start group cut c.loop-start.invariant.within,
    )

pub loop-start-preserved : goal.loop-start-preserved
loop-start-preserved c =
    let f = line_in c.args.bytes.now in
    let order = lines_in c.args.bytes.now c.args.lines.items in
    let rest = c.loop-start.rest.items in
    let start = c.loop-start.start in
    let group = c.group_at-group.result.now in
    let cut : Cuts order (map f (drop start rest)) (map f group) =
    cuts order (map f (drop start rest)) c.loop-start.lists.items (map f group) c.loop-start.invariant.listed c.requires.ascending
    (rw c.as_slice.ensures.value at c.group_at-group.ensures) in
    let left : drop c.drop_done-start.result c.drop_done-start.new.lines.items ≡ drop (start + length group) rest = c.drop_done-start.ensures.left in
    let listed =
    listed_next order (map f (drop start rest)) c.loop-start.lists.items
    (map f group) c.in_ok-group_list.field-0 c.loop-start.invariant.listed cut c.in_ok-group_list.ensures in
    record {
      within = c.drop_done-start.ensures.within;
      listed = subst (λ behind. IsListedTo order behind c.push.new.self.items)
          (after_group f order rest start group cut c.drop_done-start.new.lines.items c.drop_done-start.result left) (rw c.in_ok-push.ensures.items listed);
    }

pub returns : goal.returns
returns c =
    let none : drop c.loop-start.start c.loop-start.rest.items ≡ [] =
    drop_all c.loop-start.start c.loop-start.rest.items (omega (arith, c.loop-start-test.false, c.len.ensures, c.loop-start.rest.ok.0)) in
    listed_all _ _ (rw none at c.loop-start.invariant.listed)
