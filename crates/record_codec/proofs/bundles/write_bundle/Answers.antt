-- The tables are short, and what is appended is the bundle.
use Rattle.std.proofs.Common.{◌<◌, List, length, subst, sym}
use Rattle.std.specs.List.{All}
use Rattle.std.proofs.lemmas.Result.{on_ok_weaker}
use Rattle.rulebook.specs.Words.{Text}
use Rattle.record_codec.specs.Tables.{callers_of}
use Rattle.record_codec.proofs.BundleCodes.BundleSizes.{bundled, texts_short}
use Rattle.record_codec.proofs.BundleCodes.ItemSteps.{bundle_is, texts_counted}
use Rattle.record_codec.proofs.bundles.write_bundle.Goals as goal

pub callers_in-requires-clause-few : goal.callers_in-requires-clause-few
callers_in-requires-clause-few c = (bundled c.args.cores.now c.requires).few

pub callers_in-requires-clause-packable : goal.callers_in-requires-clause-packable
callers_in-requires-clause-packable c = (bundled c.args.cores.now c.requires).packable

pub texts_in-requires : goal.texts_in-requires
texts_in-requires c = (bundled c.args.cores.now c.requires).few

pub put_texts-requires : goal.put_texts-requires
put_texts-requires c =
    subst (λ (texts : List Text). All (λ text. length text < 256) texts) (sym c.in_ok-texts.ensures)
    (texts_counted _ (texts_short c.args.cores.now (bundled c.args.cores.now c.requires).packable))

pub put_items-requires-clause-packable : goal.put_items-requires-clause-packable
put_items-requires-clause-packable c = (bundled c.args.cores.now c.requires).packable

pub put_items-requires-clause-rising : goal.put_items-requires-clause-rising
put_items-requires-clause-rising c = (bundled c.args.cores.now c.requires).rising

pub returns : goal.returns
returns c =
    on_ok_weaker c.put_items.result
    (λ written. bundle_is c.args.cores.now _ _ c.args.out.now.items _ _ _ _ c.in_ok-callers.ensures c.in_ok-texts.ensures
    c.in_ok-push.ensures.items c.in_ok-put_callers.ensures c.in_ok-put_texts.ensures written)
    (c.put_items.ensures (callers_of c.args.cores.now) c.in_ok-callers.ensures)
