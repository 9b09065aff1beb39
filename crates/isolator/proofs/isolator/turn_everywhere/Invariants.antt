use Rattle.isolator.specs.Turns.{Turns}
use Rattle.isolator.proofs.isolator.turn_everywhere.Given as goal

abbrev pub invariant-loop-cut : goal.invariant-loop-cut
invariant-loop-cut l = Turns l.pattern l.shift l.cut l.count
