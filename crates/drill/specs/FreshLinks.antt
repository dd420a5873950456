-- The link over which a message is sent.
use Rattle.std.specs.Prelude.{◌≡◌, ℕ, List, []}
use Rattle.campaign_server.specs.MemoryForms.MemoryLinks.{MemoryLinkState}

-- it gives these bytes at moment 0, and nothing was written on it
pub record IsFresh (bytes : List ℕ) (link : MemoryLinkState) : Type 0 where
  pub left_is : link.left ≡ bytes
  pub written_is : link.written ≡ []
  pub moments_are : link.moments ≡ []
