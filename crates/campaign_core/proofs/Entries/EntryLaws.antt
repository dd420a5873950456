-- The laws of the crates below, by which one more entry is carried out.
use Rattle.std.proofs.Common.{◌≡◌, ◌<◌, List, ◌++◌, ◌∷◌, []}
use Rattle.std.specs.Prelude.{All}
use Rattle.depth_pool.specs.Holdings.{Held, with_run}
use Rattle.rulebook.specs.Histories.Entries.{LabelsJoin, QuietEntriesKeepGrades, RulingsJoin}
use Rattle.rulebook.specs.Judgements.LeaseEntries.{EndsAreThere, LeasesAreEntries}
use Rattle.campaign_core.proofs.Entries.Judgements.LabelSteps.{GivenFollow, GivenStay, RulingsFollow, RulingsStay}

pub record Laws : Type 0 where
  pub goes_last : (new : Held) (hs : List Held) → All (λ h. h.run.0 < new.run.0) hs → with_run new hs ≡ hs ++ new ∷ []
  pub quiet_entries : QuietEntriesKeepGrades
  pub labels_join : LabelsJoin
  pub given_follow : GivenFollow
  pub rulings_stay : RulingsStay
  pub rulings_join : RulingsJoin
  pub rulings_follow : RulingsFollow
  pub given_stay : GivenStay
  pub ends_there : EndsAreThere
  pub lease_entries : LeasesAreEntries
