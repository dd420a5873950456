-- How faults are named where they are printed.
use Rattle.std.specs.Prelude.{ℕ, List, codes}
use Rattle.decimal_rank.specs.declared.decimals.DecimalFault.{DecimalFault}
use Rattle.decimal_rank.specs.declared.decimals.DecimalFault.TheVariants as cause
use Rattle.trec_formats.specs.declared.faults.Kind.{Kind}
use Rattle.trec_formats.specs.declared.faults.Kind.TheVariants as kind

abbrev pub cause_name : DecimalFault → List ℕ
cause_name cause.Shape = codes "shape"
cause_name cause.Digits = codes "digits"
cause_name cause.Exponent = codes "exponent"

abbrev pub kind_name : Kind → List ℕ
kind_name kind.Fields = codes "fields"
kind_name kind.Topic = codes "topic"
kind_name kind.Docno = codes "docno"
kind_name (kind.Score cause) = codes "score"
kind_name kind.Grade = codes "grade"
kind_name kind.Empty = codes "empty"
kind_name kind.TooLong = codes "too-long"
kind_name kind.Tag = codes "tag"
kind_name (kind.Twice first) = codes "twice"
