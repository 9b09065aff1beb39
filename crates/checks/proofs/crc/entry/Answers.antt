use Rattle.std.proofs.Common.{◌<◌, rules}
use Rattle.checks.specs.Crc.{after_bits}
use Rattle.checks.proofs.Table.{entry_is}
use Rattle.checks.proofs.crc.entry.Goals as goal

pub returns : goal.returns
returns c = let h : c.args.i < 256 = search rules in entry_is (after_bits 8 0) 256 c.args.i h
