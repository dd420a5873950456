use Rattle.http_wire.proofs.answers.write_head.Goals as goal

pub returns-clause-ok : goal.returns-clause-ok
returns-clause-ok c =
    rw (
      c.as_bytes.ensures.value,
      c.format.ensures.text,
      c.reason_of.ensures,
      c.type_of.ensures,
      c.as_bytes-2.ensures.value,
      c.format-2.ensures.text,
      c.closing.ensures,
    ) at c.append_all.ensures.text_added
