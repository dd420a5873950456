-- A page is asked for by the campaign's own name, and asking for it adds nothing.
use Rattle.std.proofs.lemmas.Bool.{and_parts}
use Rattle.trec_formats.specs.Names.{is_name}
use Rattle.rulebook.specs.declared.rules.Role.TheVariants.{Organiser}
use Rattle.rulebook.specs.Histories.Legal.{is_named}
use Rattle.rulebook.specs.Requests.Roles.{may_see}
use Rattle.campaign_cli.proofs.pages.page_of.Goals as goal

pub act-requires : goal.act-requires
unfolding is_name
act-requires g c =
    let parts = and_parts (may_see Organiser c.args.query) (is_named c.args.query) c.requires.asked in
    rw (c.in_ok-name.ensures.text, parts.0, parts.1)

pub unreachable-requires : goal.unreachable-requires
unreachable-requires g c = let leaves = rw c.in-DiskFault.is at c.act.ensures.leaves in cc leaves.1
