use Rattle.std.proofs.Common.{◌≡◌, ◌∙◌, ◌++◌, ◌∷◌, [], ap, subst, sym, true}
use Rattle.campaign_server.specs.Crews.Records.{ended_of}
use Rattle.campaign_server.specs.Crews.Workers.{WorkState, WorkerGoesOn}
use Rattle.campaign_server.proofs.ServerEnds.JoinedWorkers.{ended_more, goes_more, goes_short}
use Rattle.campaign_server.proofs.servers.workers.serve_next.Goals as goal

pub returns-then-is_err-clause-goes_on : goal.returns-then-is_err-clause-goes_on
returns-then-is_err-clause-goes_on g c =
    let keys = c.args.crew.now.keys.now in
    let seen = ended_of g.R.Door.kept in
    let inside = c.work.inside in
    let work : WorkState = record { pass = inside.pass; parts = inside.share.parts; records = seen inside.records.items; short = inside.short } in
    let later : WorkState = record { pass = inside.pass; parts = inside.share.parts; records = seen c.reserve.new.self.items; short = true } in
    subst (λ was. WorkerGoesOn keys was later) c.work.view_is
    (subst (λ more. WorkerGoesOn keys work (record { pass = inside.pass; parts = inside.share.parts; records = more; short = true }))
    (sym (ap seen c.reserve.ensures.items)) (goes_short keys work))

pub returns-clause-goes_on : goal.returns-clause-goes_on
returns-clause-goes_on g c =
    let kept = g.R.Door.kept in
    let seen = g.R.Line.Link.seen in
    let end = c.serve_link-end.result in
    let before = c.work.inside.records.items in
    let work : WorkState =
    record { pass = c.work.inside.pass; parts = c.work.inside.share.parts; records = ended_of kept before; short = c.work.inside.short } in
    let later : WorkState = record {
      pass = c.serve_link-end.new.pass;
      parts = c.next-next.new.mine.parts;
      records = ended_of kept c.push_reserved.new.self.items;
      short = c.is_memory-short.result;
    } in
    let records : later.records ≡ work.records ++ (kept c.finish.result, end) ∷ [] =
    ap (ended_of kept) (c.push_reserved.ensures.items ∙ ap (λ items. items ++ (c.finish.result, end) ∷ []) c.reserve.ensures.items)
    ∙ ended_more kept before c.finish.result end in
    subst (λ was. WorkerGoesOn c.args.crew.now.keys.now was later) c.work.view_is
    (goes_more c.args.crew.now.keys.now work later (kept c.finish.result) end (seen c.in-Some.line) (seen c.serve_link-end.new.link)
    c.serve_link-end.ensures.hall c.next-next.ensures.parts records
    c.in-Some.ensures.some.0 c.finish.ensures c.serve_link-end.ensures.serves c.places_rise.ensures
    (ap (λ (w : WorkState). w.short) c.work.view_is ∙ c.requires.not_short) c.is_memory-short.ensures)
