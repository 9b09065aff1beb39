-- How long the tip buffer is that an opening gets.
use Rattle.std.specs.Prelude.{ℕ, ◌+◌, ◌-◌, ◌*◌, ◌/◌, max, cond, ◌||◌, ◌==◌, nat_lt}

-- capacity + p - 1 bytes, where the capacity is the wish rounded up to a multiple of p, and at least two pages; one byte where p or the wish is refused anyway
abbrev pub tip_room : ℕ → ℕ → ℕ
tip_room p wish = cond (p == 0 || nat_lt 1048576 wish) 1 (max ((wish + p - 1) / p * p) (2 * p) + p - 1)
