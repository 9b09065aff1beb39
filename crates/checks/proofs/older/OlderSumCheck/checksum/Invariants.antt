use Rattle.std.proofs.Common.{◌≡◌, ◌+◌, ◌%◌, ◌^◌, ◌<◌, drop}
use Rattle.checks.specs.Older.{weigh}
use Rattle.checks.proofs.older.OlderSumCheck.checksum.Given as goal

abbrev pub invariant-loop-i : goal.invariant-loop-i
invariant-loop-i l =
    ((l.total + weigh l.i (drop l.i l.bytes)) % 2 ^ 32 ≡ weigh 0 l.bytes % 2 ^ 32) × (l.total < 2 ^ 32)
