-- How much of its design life a hoist has used.
use Rattle.std.specs.Prelude.{ℕ, ◌+◌, ◌*◌, ◌/◌, ◌%◌, ◌^◌, min}
use Rattle.isolator.specs.declared.life.Use.{Use}
use Rattle.lifts.specs.declared.lift.Lift.{Lift}

-- what a lift strains the hoist: the cube of its load, times its hoisting time
abbrev pub strain : Lift → ℕ
strain l = l.load * l.load * l.load * l.seconds

-- the rated load in kilograms, and the hours at that load that the hoist is built for
abbrev pub rated : ℕ
rated = 4000

abbrev pub life_hours : ℕ
life_hours = 1600

-- those that were used before the log began
abbrev pub earlier_hours : ℕ
earlier_hours = 611

-- a quotient, rounded up
abbrev pub rounded_up : ℕ → ℕ → ℕ
rounded_up a b = a / b + min 1 (a % b)

-- the seconds at the rated load that strain the hoist as much: the sum over the lifts of (load / rated load)³ × time
abbrev pub full_load_seconds : ℕ → ℕ
full_load_seconds s = rounded_up s (rated ^ 3)

-- the used share of the design life, in hundredths of a percent
abbrev pub share_of : ℕ → ℕ
share_of seconds = rounded_up ((earlier_hours * 3600 + seconds) * 10000) (life_hours * 3600)

abbrev pub use_of : ℕ → Use
use_of s = record { seconds = full_load_seconds s; share = share_of (full_load_seconds s) }

-- the filled columns of a bar of 40, rounded down; all of them from 100 percent on
abbrev pub columns_of : ℕ → ℕ
columns_of share = min share 10000 * 40 / 10000
