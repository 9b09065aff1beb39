-- The lifts by their load.
use Rattle.std.specs.Prelude.{ℕ, ◌/◌, min, List, count_by, nat_eq}
use Rattle.lifts.specs.declared.lift.Lift.{Lift}

-- the band of a load: 500 kg to a band, and the band 8 has all from 4000 kg on
abbrev pub band_of : ℕ → ℕ
band_of load = min (load / 500) 8

-- how many lifts a band has
abbrev pub in_band : ℕ → List Lift → ℕ
in_band b ls = count_by (λ l. nat_eq (band_of l.load) b) ls
