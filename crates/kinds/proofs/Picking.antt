-- What a restart leaves, over the strings alone.
use Rattle.std.proofs.Common.{◌≡◌, ℕ, ◌<◌, cond, List, length, get_or, arith}
use Rattle.std.proofs.lemmas.Bool.Decides.{nat_tests}
use Rattle.kinds.specs.Picks.{picked_length, from_settled, Picked}

-- c was made of the working string a, which was resized to r first, and the settled string b
pub picked : (p a r b c : List ℕ) → length c ≡ picked_length p (length a) (length b) → ((k : ℕ) → k < length c → k < length a → get_or r k 0 ≡ get_or a k 0)
    → ((k : ℕ) → k < length c → get_or c k 0 ≡ cond (from_settled p (length a) (length b) k) (get_or b k 0) (get_or r k 0))
    → Picked p a b c
picked p a r b c long kept each = record { long = long; bytes = λ k h. grind (arith, nat_tests, kept k, each k) }
