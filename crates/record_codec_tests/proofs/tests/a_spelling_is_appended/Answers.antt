use Rattle.std.proofs.Common.{refl}
use Rattle.trec_formats.specs.Names.{is_name}
use Rattle.record_codec_tests.proofs.tests.a_spelling_is_appended.Goals as goal

pub write_entry-requires : goal.write_entry-requires
unfolding is_name
write_entry-requires g c = rw c.in_ok-from_slice.ensures.text refl
