use Rattle.std.proofs.Common.{◌≡◌, ℕ, ◌<◌, ◌≤◌, cond, length, get_or}
use Rattle.kinds.specs.Picks.{from_settled}
use Rattle.kinds.proofs.areas.Area.pick.Given as goal

abbrev pub invariant-loop-k : goal.invariant-loop-k
invariant-loop-k l =
    ((j : ℕ) → j < l.k
    → get_or l.byte-items j 0 ≡ cond (from_settled l.pick.pattern.now l.pick.working (length l.pick.settled.now) j) (get_or l.pick.settled.now j 0) (get_or l.initial.byte-items j 0))
    × ((j : ℕ) → l.k ≤ j → get_or l.byte-items j 0 ≡ get_or l.initial.byte-items j 0)
