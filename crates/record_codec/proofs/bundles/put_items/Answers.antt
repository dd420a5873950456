-- One entry more, and none left.
use Rattle.std.proofs.Common.{rules, ◌<◌, ◌≤◌, ◌+◌, ◌++◌, ◌∙◌, ap, drop, length}
use Rattle.std.specs.List.{flat_map}
use Rattle.std.proofs.lemmas.List.{drop_all}
use Rattle.rulebook.specs.Words.{Text}
use Rattle.record_codec.specs.declared.bundles.bundle_items.BundleItem.{BundleItem}
use Rattle.record_codec.specs.Bundles.{item_bytes, items_of}
use Rattle.record_codec.proofs.BundleCodes.ItemSteps.{item_next, items_end, left_is, rising_next}
use Rattle.record_codec.proofs.bundles.put_items.Goals as goal

pub loop-core-preserved : goal.loop-core-preserved
loop-core-preserved c =
    let core = c.core-item.result in
    let whole = drop c.loop-core.core-index c.args.cores.now in
    let rest = drop (c.loop-core.core-index + 1) c.args.cores.now in
    let within : c.loop-core.core-index < length c.args.cores.now = search rules in
    let here = left_is c.args.cores.now c.loop-core.core-index core within c.core-item.is in (
      λ table is.
          ap (λ (out : Text). out ++ flat_map item_bytes (items_of table c.args.texts.now core.moment rest))
          (c.in_ok-put_item.ensures ∙ ap (λ (item : BundleItem). c.loop-core.out.items ++ item_bytes item) (c.in_ok-item.ensures table is))
          ∙ item_next table c.args.texts.now c.loop-core.out.items _ c.loop-core.earlier core whole rest here (c.loop-core.invariant.0 table is),
      (rising_next c.loop-core.earlier core whole rest here c.loop-core.invariant.1).1,
    )

pub returns : goal.returns
returns c =
    let past : length c.args.cores.now ≤ c.loop-core.core-index = search rules in
    λ table is.
    items_end table c.args.texts.now c.args.out.now.items c.loop-core.out.items c.loop-core.earlier c.args.cores.now
    (drop c.loop-core.core-index c.args.cores.now) (drop_all c.loop-core.core-index c.args.cores.now past) (c.loop-core.invariant.0 table is)
