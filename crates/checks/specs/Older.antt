-- The sum of the older units.
use Rattle.std.specs.Prelude.{ℕ, ◌+◌, ◌*◌, ◌%◌, ◌^◌, List, [], ◌∷◌}

-- (place + 1) × (byte + 1) over all places, the first of which is i
abbrev pub weigh : ℕ → List ℕ → ℕ
weigh i [] = 0
weigh i (b ∷ bs) = (i + 1) * (b + 1) + weigh (i + 1) bs

-- the check of a string: the weights from the place 0 on, modulo 4,294,967,296
abbrev pub older_sum : List ℕ → ℕ
older_sum s = weigh 0 s % 2 ^ 32
