-- The laws of bytes that are written to Blobs.
use Rattle.std.proofs.Common.{refl, arith}
use Rattle.ov_disk.proofs.Writing.{put_length, put_outside, put_there}
use Rattle.ov_blocks.specs.Laws.{PutsStandThere, PutsChangeTheirRange}

pub puts_stand_there : PutsStandThere
puts_stand_there at bytes i le = put_there at bytes i.blobs le

pub puts_change_their_range : PutsChangeTheirRange
puts_change_their_range at bytes i le = record {
  book = refl;
  no_shorter = omega (arith, put_length at bytes i.blobs le);
  outside = λ p lt out. put_outside at bytes i.blobs le p out;
}
