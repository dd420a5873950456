-- The release of a published campaign is put into the archive, and a campaign in another phase isn't.
use Rattle.std.proofs.Common.{inl, inr, refl, sym}
use Rattle.campaign_cli.specs.Ends.ArchiveEnds.{not_published, short}
use Rattle.campaign_cli.specs.Causes.{ending_of}
use Rattle.campaign_cli.proofs.CommandWays.{put_campaign}
use Rattle.campaign_cli.proofs.commands.archives.archive_book.Goals as goal

pub returns-in-Ok-clause-archiving : goal.returns-in-Ok-clause-archiving
returns-in-Ok-clause-archiving g c =
    put_campaign c.args.name.now c.args.book.history (g.K.Keeper.seen c.args.keeper.now) (g.K.Keeper.seen c.put.new.keeper) (ending_of c.put.result)
    (sym (rw c.in-Published.is at c.phase.ensures)) c.in-Ok.kept c.in-Ok.ensures.kept c.put.ensures.puts

pub returns-in-Err-clause-archiving : goal.returns-in-Err-clause-archiving
returns-in-Err-clause-archiving g c = record { way = short refl; told = refl }

pub returns-in-Collecting-clause-archiving : goal.returns-in-Collecting-clause-archiving
returns-in-Collecting-clause-archiving g c = record {
  way = not_published (λ published. elim c.in-Collecting.is [ inl e ↦ cc (e, c.phase.ensures, published) | inr e ↦ cc (e, c.phase.ensures, published) ]) refl;
  told = refl;
}
