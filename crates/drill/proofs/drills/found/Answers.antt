-- An empty disk holds nothing that could be refused.
use Rattle.std.proofs.Common.{ℕ, List, Option, Some, ap, ◌∙◌}
use Rattle.drill.proofs.FoundedBooks.{refused_empty}
use Rattle.drill.proofs.drills.found.Goals as goal

pub want_of-requires : goal.want_of-requires
want_of-requires c =
    let empty = c.new-disk.ensures.content ∙ ap (λ (items : List ℕ). let o : Option (List ℕ) = Some items in o) c.new.ensures.items in
    refused_empty _ _ c.new-disk.result c.in-Err.disk empty c.in-Err.fault c.in-Err.ensures.refused
