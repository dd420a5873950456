use Rattle.std.proofs.Common.{◌≡◌, ◌∙◌, ap, ◌<◌, ◌%◌, List, Option, ℕ, None, Some, arith, get_or, length, slice_set, ◌+◌, ◌^◌}
use Rattle.std.proofs.lemmas.List.{length-map, get_or_default}
use Rattle.decimal_rank.specs.Tables.BucketChains.{AreLinked}
use Rattle.decimal_rank.specs.declared.tables.chains.Link.{Link}
use Rattle.decimal_rank.proofs.BucketTables.LinkedItems.{linked-push}
use Rattle.decimal_rank.proofs.tables.chains.Chains.push.Goals as goal

pub invariant_of-self-2 : goal.invariant_of-self-2
invariant_of-self-2 c =
    let newest : List (Option ℕ) = c.self.inside.newest.items in
    let links : List Link = c.self.inside.links.items in
    let bucket : ℕ = c.args.key % c.len.result in
    let link : Link = record { bucket = bucket; earlier = c.index.result.now } in
    let within : bucket < length newest = grind (arith, c.len.ensures, c.self.invariant.some) in
    let read : link.earlier ≡ get_or newest bucket None = c.index.ensures ∙ get_or_default newest bucket c.index.result.now None within in
    let few : length links + 1 < 2 ^ 32 = omega (arith, c.requires, ap (λ t. length t.items) c.self.view_is, length-map links (λ l. l.bucket)) in
    let pushed : AreLinked (slice_set newest bucket (Some (length links))) c.push.new.self.items =
    rw c.in_ok-push.ensures.items (linked-push newest links link c.self.invariant within few read) in
    let counted : c.len-item.result ≡ length links = grind (arith, c.len-item.ensures) in
    rw counted pushed
