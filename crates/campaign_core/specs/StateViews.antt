-- What clauses see of a state.
use Rattle.std.specs.Prelude.{Option}
use Rattle.rulebook.specs.declared.entry.Entry.{Entry}
use Rattle.rulebook.specs.Campaign.{History}

-- the accepted entries, and the entry that is prepared, if one is
pub record StateView : Type 0 where
  pub history : History
  pub prepared : Option Entry
