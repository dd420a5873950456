-- What contracts see of a desk, and what it keeps beside.
use Rattle.std.specs.Prelude.{ℕ, ◌<◌, ◌^◌, List, Option, eqb, length}
use Rattle.decimal_rank.specs.Tables.TextKeys.{text_key}
use Rattle.decimal_rank.specs.declared.tables.secrets.Secret.{Secret}
use Rattle.lease_desk.specs.Series.{AreInSeries, document_of, same_document}
use Rattle.lease_desk.specs.Leases.{AreNumbered}
use Rattle.lease_desk.specs.declared.series.Link.{Link}
use Rattle.lease_desk.specs.declared.leases.Lease.{Lease}

-- the leases in the order of their numbers, and the room for more of them
pub record DeskView : Type 0 where
  pub leases : List Lease
  pub spare : ℕ

-- the leases are numbered, and in series by the hash of the assessor, by document and by topic
pub record IsKept (secret : Secret) (leases : List Lease) (assessor_links document_links topic_links : List Link)
    (assessors : ℕ → Option ℕ) (documents : ℕ × ℕ → Option ℕ) (topics : ℕ → Option ℕ) : Type 0 where
  pub few : length leases < 2 ^ 32
  pub numbered : AreNumbered leases
  pub by_assessor : AreInSeries eqb (λ lease. text_key secret lease.assessor) leases assessor_links assessors
  pub by_document : AreInSeries same_document document_of leases document_links documents
  pub by_topic : AreInSeries eqb (λ lease. lease.topic) leases topic_links topics
