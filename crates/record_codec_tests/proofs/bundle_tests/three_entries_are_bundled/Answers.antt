use Rattle.std.proofs.Common.{refl}
use Rattle.trec_formats.specs.Names.{is_name}
use Rattle.record_codec_tests.proofs.bundle_tests.three_entries_are_bundled.Goals as goal

pub write_bundle-requires : goal.write_bundle-requires
unfolding is_name
write_bundle-requires g c =
    rw (c.in_ok-from_slice.ensures.text, c.in_ok-from_slice-2.ensures.text, c.in_ok-from_slice-3.ensures.text, c.in_ok-from_slice-4.ensures.text) refl
