-- The number of a string by the check that a script has chosen.
use Rattle.std.specs.Prelude.{ℕ, List}
use Rattle.std.proofs.Common.{arith}
use Rattle.checks.specs.Check.{FitsFour, TellsOne}
use Rattle.checks.specs.Crc.{crc32c}
use Rattle.checks.specs.Older.{older_sum}
use Rattle.checks.specs.Register
use Rattle.checks.specs.Weights
use Rattle.drive.specs.declared.any_check.AnyCheck.{AnyCheck}
use Rattle.drive.specs.declared.any_check.AnyCheck.TheVariants.{Crc, Sum}

abbrev pub chosen_sum : AnyCheck → List ℕ → ℕ
chosen_sum Crc = crc32c
chosen_sum Sum = older_sum

-- what is true of each check is true of the chosen one
pub fits : (c : AnyCheck) → FitsFour (chosen_sum c)
fits Crc = Register.fits
fits Sum = λ s p. omega arith

pub tells : (c : AnyCheck) → TellsOne (chosen_sum c)
tells Crc = Register.tells
tells Sum = Weights.tells
