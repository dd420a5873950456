use Rattle.campaign_core.proofs.replays.enter_next.Goals as goal

pub prepared-requires-clause-new : goal.prepared-requires-clause-new
prepared-requires-clause-new c = record {
  asked = record { known = c.requires.replayed.known; addressed = c.requires.addressed };
  names_are = c.requires.replayed.docnos_are;
  numbers_are = c.requires.replayed.numbers_are;
  unused = c.requires.next.unused;
  latest = c.requires.next.latest;
  entries_fit = c.requires.next.entries_fit;
}
