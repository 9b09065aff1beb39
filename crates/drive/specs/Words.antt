-- What the words of a script stand for.
use Rattle.std.specs.Prelude.{ℕ, ◌+◌, ◌-◌, ◌/◌, ◌%◌, cond, ◌&&◌, List, [], ◌∷◌, ◌++◌, Some, None, fold, Option, nat_le, nat_lt}

-- a digit of lowercase hex: 0 to 9 have the codes from 48 on, a to f those from 97 on
abbrev pub hex_digit : ℕ → Option ℕ
hex_digit c = cond (nat_le 48 c && nat_le c 57) (Some (c - 48)) (cond (nat_le 97 c && nat_le c 102) (Some (c - 87)) None)

-- the code of the digit for a number below 16
abbrev pub digit_code : ℕ → ℕ
digit_code d = cond (nat_lt d 10) (d + 48) (d + 87)

-- the two digits of a byte, and those of bytes, one after another
abbrev pub hex_pair : ℕ → List ℕ
hex_pair b = digit_code (b / 16) ∷ digit_code (b % 16) ∷ []

abbrev pub hex_of : List ℕ → List ℕ
hex_of bs = fold (λ s b. s ++ hex_pair b) [] bs
