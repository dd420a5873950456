use Rattle.routes.proofs.ask_reader.read_on.Goals as goal

pub returns-in-Ok-clause-ok : goal.returns-in-Ok-clause-ok
returns-in-Ok-clause-ok c = λ opening path body at_body.
    let (found, is, opened) = rw c.in-Reads.is at at_body in (
      found,
      is,
      record {
        who = opened.who;
        number = opened.number;
        place = opened.place;
        text = opened.text;
        body_is = c.in-Ok.ensures.kept body opened.body_is;
      },
    )

pub returns-in-Ok-clause-held : goal.returns-in-Ok-clause-held
returns-in-Ok-clause-held c = λ fed held.
    let w = rw c.in-Reads.is at held in
    let is = w.0 in (
      record {
        named = is.named;
        number = is.number;
        role = is.role;
        known = is.known;
        fitting = is.fitting;
        suits = c.in-Ok.ensures.suits c.in-Reads.opened.place is.suits;
      },
      c.in-Ok.ensures.few fed w.1,
    )
