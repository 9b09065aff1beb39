use Rattle.std.proofs.Common.{◌≡◌, drop}
use Rattle.checks.specs.Crc.{after_bytes, ones}
use Rattle.checks.proofs.crc.Crc32cCheck.checksum.Given as goal

abbrev pub invariant-loop-b : goal.invariant-loop-b
invariant-loop-b l = after_bytes l.register (drop l.b-index l.bytes) ≡ after_bytes ones l.bytes
