use Rattle.std.proofs.Common.{rules, ◌≡◌, ◌+◌, ◌<◌, ◌∙◌, ap, arith, refl, subst, sym, vec_capacity, vec_len}
use Rattle.campaign_server.specs.Crews.Records.{ended_all}
use Rattle.campaign_server.specs.Crews.Workers.{GatheredState}
use Rattle.campaign_server.proofs.ServerEnds.HandedRecords.{all_more}
use Rattle.campaign_server.proofs.ServerEnds.JoinedWorkers.{as_seen}
use Rattle.campaign_server.proofs.servers.teams.take_in.Goals as goal

pub returns : goal.returns
returns g c =
    let kept = g.R.Door.kept in
    let before = c.all.inside.records in
    let longer : vec_len c.push_reserved.new.self ≡ vec_len before + 1 = search rules in
    let same : vec_capacity c.push_reserved.new.self ≡ vec_capacity before = search rules in
    let some = subst (λ (all : GatheredState). 0 < all.room) (sym c.all.view_is) c.requires.room in
    as_seen c.all.view_is c.work.view_is (record {
      of = c.join.ensures.hall;
      grown = c.join.ensures.grown.0;
      other = c.join.ensures.grown.1;
      apart = c.join.ensures.mine.0;
      mine = c.join.ensures.mine.1;
      parts = c.merge.ensures.parts;
      records = ap (ended_all (λ v. v.items) kept) c.push_reserved.ensures.items ∙ all_more (λ v. v.items) kept before.items c.work.inside.records;
      short = refl;
      room = omega (arith, longer, same, some);
    })
