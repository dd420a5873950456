-- What sinks tell.
use Rattle.std.specs.Prelude.{Some}
use Rattle.campaign_server.specs.MemoryForms.MemoryWritten.{Written}
use Rattle.decimal_rank.specs.Outputs.Writings.{Writing}

-- a sink in memory tells its bytes and how many writes failed
abbrev pub told_by : Written → Writing
told_by sink = record { written = Some sink.written; faults = sink.faults }
