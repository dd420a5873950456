-- The laws of the rules and of the records on which a book rests.
use Rattle.record_codec.specs.Laws.{BriefsFit, BundlesFit, OnePayload}
use Rattle.rulebook.specs.Histories.Additions.{AddedAreAccepted, EntriesAreFew, EntriesAreSpelled, FoundingFits, LegalFit, MomentsRise}

pub record Laws : Type 0 where
  pub added : AddedAreAccepted
  pub few : EntriesAreFew
  pub founding : FoundingFits
  pub fit : LegalFit
  pub rising : MomentsRise
  pub spelled : EntriesAreSpelled
  pub one : OnePayload
  pub bundles : BundlesFit
  pub briefs : BriefsFit
