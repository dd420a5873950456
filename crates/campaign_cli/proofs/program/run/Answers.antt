-- What each command comes to, and what it leaves.
use Rattle.std.proofs.Common.{refl}
use Rattle.campaign_cli.proofs.program.run.Goals as goal

pub returns-in-Eval-clause-ends : goal.returns-in-Eval-clause-ends
returns-in-Eval-clause-ends g c before after = rw c.in-Eval.is (record {
  way = c.score_files.ensures.0.way;
  told = c.score_files.ensures.0.told;
  leaves = record { files = c.score_files.ensures.1; own = refl; door = refl; archive = refl; disk = refl };
})

pub returns-in-Session-clause-ends : goal.returns-in-Session-clause-ends
returns-in-Session-clause-ends g c before after = rw c.in-Session.is (record {
  way = c.hold_session.ensures.way;
  told = c.hold_session.ensures.told;
  leaves = record { files = c.hold_session.ensures.follows; own = tt; door = refl; archive = refl; disk = tt };
})

pub returns-in-Serve-clause-ends : goal.returns-in-Serve-clause-ends
returns-in-Serve-clause-ends g c before after = rw c.in-Serve.is (record {
  way = c.run_server.ensures.way;
  told = c.run_server.ensures.told;
  leaves = record { files = c.run_server.ensures.follows; own = refl; door = tt; archive = refl; disk = tt };
})

pub returns-in-Drill-clause-ends : goal.returns-in-Drill-clause-ends
returns-in-Drill-clause-ends g c before after = rw c.in-Drill.is (record {
  way = c.run_drill.ensures.way;
  told = c.run_drill.ensures.told;
  leaves = record { files = refl; own = refl; door = refl; archive = refl; disk = refl };
})

pub returns-in-Show-clause-ends : goal.returns-in-Show-clause-ends
returns-in-Show-clause-ends g c before after = rw c.in-Show.is (record {
  way = c.show_campaign.ensures.way;
  told = c.show_campaign.ensures.told;
  leaves = record { files = c.show_campaign.ensures.follows; own = refl; door = refl; archive = refl; disk = tt };
})

pub returns-in-Compact-clause-ends : goal.returns-in-Compact-clause-ends
returns-in-Compact-clause-ends g c before after = rw c.in-Compact.is (record {
  way = c.compact_campaign.ensures.way;
  told = c.compact_campaign.ensures.told;
  leaves = record { files = c.compact_campaign.ensures.follows; own = refl; door = refl; archive = refl; disk = tt };
})

pub returns-in-Archive-clause-ends : goal.returns-in-Archive-clause-ends
returns-in-Archive-clause-ends g c before after = rw c.in-Archive.is (record {
  way = c.archive_campaign.ensures.ends.way;
  told = c.archive_campaign.ensures.ends.told;
  leaves = record { files = c.archive_campaign.ensures.ends.follows; own = refl; door = refl; archive = c.archive_campaign.ensures.later; disk = tt };
})

pub returns-in-RunHistory-clause-ends : goal.returns-in-RunHistory-clause-ends
returns-in-RunHistory-clause-ends g c before after = rw c.in-RunHistory.is (record {
  way = c.tell_history.ensures.way;
  told = c.tell_history.ensures.told;
  leaves = record { files = refl; own = refl; door = refl; archive = c.tell_history.ensures.archive; disk = refl };
})

pub returns-in-Compare-clause-ends : goal.returns-in-Compare-clause-ends
returns-in-Compare-clause-ends g c before after = rw c.in-Compare.is (record {
  way = c.compare_releases.ensures.way;
  told = c.compare_releases.ensures.told;
  leaves = record { files = refl; own = refl; door = refl; archive = c.compare_releases.ensures.archive; disk = refl };
})

pub returns-in-Export-clause-ends : goal.returns-in-Export-clause-ends
returns-in-Export-clause-ends g c before after = rw c.in-Export.is (record {
  way = c.export_releases.ensures.way;
  told = c.export_releases.ensures.told;
  leaves = record { files = refl; own = refl; door = refl; archive = c.export_releases.ensures.archive; disk = refl };
})

pub returns-in-Usage-clause-ends : goal.returns-in-Usage-clause-ends
returns-in-Usage-clause-ends g c before after = rw c.in-Usage.is (record {
  way = tt;
  told = refl;
  leaves = record { files = refl; own = refl; door = refl; archive = refl; disk = refl };
})

pub run_server-requires-clause-workers : goal.run_server-requires-clause-workers
run_server-requires-clause-workers g c κs within = let range = rw c.in-Serve.is at c.requires.in_range in (range.0, range.1)

pub run_server-requires-clause-connections : goal.run_server-requires-clause-connections
run_server-requires-clause-connections g c κs within = let range = rw c.in-Serve.is at c.requires.in_range in range.2

pub run_drill-requires : goal.run_drill-requires
run_drill-requires g c = rw c.in-Drill.is at c.requires.in_range

pub archive_campaign-requires : goal.archive_campaign-requires
archive_campaign-requires g c = rw c.in-Archive.is at c.requires.in_range
