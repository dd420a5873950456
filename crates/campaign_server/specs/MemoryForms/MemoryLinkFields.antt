-- What a link in memory keeps true of its fields.
use Rattle.std.specs.Prelude.{IsTrue}
use Rattle.campaign_server.specs.declared.memory_forms.memory_link.MemoryLink.TheInside.{Inside}
use Rattle.campaign_server.specs.ConnectionLoop.Pieces.{are_filled, IsPlace}
use Rattle.campaign_server.specs.MemoryForms.MemoryLinks.{are_moments}

pub record IsKept (link : Inside) : Type 0 where
  pub filled : IsTrue (are_filled link.pieces.items)
  pub place : IsPlace link.pieces.items link.at link.within
  pub moments : IsTrue (are_moments link.moments.items)
