use Rattle.std.proofs.Common.{◌≡◌, subst, rules}
use Rattle.isolator.specs.Trials.{no_cuts}
use Rattle.isolator.specs.Turns.{Turns, none}
use Rattle.isolator.proofs.Turning.{cut_more}
use Rattle.isolator.proofs.isolator.turn_everywhere.Goals as goal

pub loop-cut-init : goal.loop-cut-init
loop-cut-init c = let e : no_cuts ≡ c.default-count.result = search rules in subst (Turns c.args.pattern.now c.args.shift.now 0) e none

pub loop-cut-preserved : goal.loop-cut-preserved
loop-cut-preserved c =
    cut_more _ _ c.loop-cut.cut _ _ _ c.in-Some.outcome c.loop-cut.invariant c.in_ok-outcome.ensures c.in-Some.is c.with-count.ensures
