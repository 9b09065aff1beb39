use Rattle.std.proofs.Common.{◌≡◌, ◌++◌, vec_items}
use Rattle.std.specs.Slice.Iter.{chunks_rest}
use Rattle.drive.specs.Words.{hex_of}
use Rattle.drive.proofs.command.words.hex_pairs.Given as goal

abbrev pub invariant-loop-pair : goal.invariant-loop-pair
invariant-loop-pair l = hex_of (vec_items l.bytes) ++ chunks_rest l.pair-iterator ≡ l.digits
