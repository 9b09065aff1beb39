-- What a report says of a list of lifts.
use Rattle.std.specs.Prelude.{ℕ, ◌+◌, ◌-◌, ◌^◌, min, max, List, fold}
use Rattle.lifts.specs.declared.lift.Lift.{Lift}
use Rattle.lifts.specs.declared.report.Summary.{Summary}

-- a sum that stops at the largest number of 64 bits
abbrev pub capped : ℕ → ℕ → ℕ
capped a b = min (a + b) (2 ^ 64 - 1)

abbrev pub nothing : Summary
nothing = record { lifts = 0; seconds = 0; heaviest = 0 }

-- one lift more
abbrev pub counted : Summary → Lift → Summary
counted s l =
    record { lifts = capped s.lifts 1; seconds = capped s.seconds l.seconds; heaviest = max s.heaviest l.load }

abbrev pub summary_of : List Lift → Summary
summary_of ls = fold counted nothing ls
