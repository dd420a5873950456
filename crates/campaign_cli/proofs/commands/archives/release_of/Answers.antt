-- What a published campaign is asked for is the page of its qrels.
use Rattle.std.proofs.Common.{refl}
use Rattle.rulebook.specs.Reports.Pages.{qrels_page}
use Rattle.campaign_cli.proofs.commands.archives.release_of.Goals as goal

pub page_of-requires-clause-paged : goal.page_of-requires-clause-paged
page_of-requires-clause-paged g c = (qrels_page c.args.book.now.history, λ who now. rw c.requires.published refl)

pub returns-clause-kept : goal.returns-clause-kept
returns-clause-kept g c =
    let page = c.in_ok-qrels.ensures.page (qrels_page c.args.book.now.history) (λ who now. rw c.requires.published refl) in
    rw (c.in_ok-name.ensures.text, page, c.in_ok-systems.ensures.systems, c.in_ok-qrels.ensures.same) refl
