use Rattle.depth_pool.proofs.Holders.{put_last}
use Rattle.depth_pool.proofs.laws.greatest_run_goes_last.Goals as goal

pub returns : goal.returns
returns c = put_last
