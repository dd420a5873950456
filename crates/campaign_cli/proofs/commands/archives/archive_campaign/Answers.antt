-- The campaign that was opened is archived, or why there is none.
use Rattle.std.proofs.Common.{refl}
use Rattle.campaign_cli.specs.Ends.BookEnds.{unopened, worked}
use Rattle.campaign_cli.proofs.commands.archives.archive_campaign.Goals as goal

pub returns-in-Ok-clause-ends : goal.returns-in-Ok-clause-ends
returns-in-Ok-clause-ends g c =
    let opened = c.in-Ok.ensures.opened in
    record {
      way = worked (
        opened.text,
        opened.settings,
        opened.given,
        opened.read,
        record {
          book = c.in-Ok.book;
          shows = record { opens = opened.opened; closes = c.archive_book.ensures.disk };
          comes = c.archive_book.ensures.archiving.way;
        },
      );
      told = c.archive_book.ensures.archiving.told;
      follows = c.in-Ok.ensures.follows;
    }

pub returns-in-Err-clause-ends : goal.returns-in-Err-clause-ends
returns-in-Err-clause-ends g c =
    record { way = unopened c.in-Err.ensures.unopened.way refl; told = c.in-Err.ensures.unopened.told; follows = c.in-Err.ensures.follows }
