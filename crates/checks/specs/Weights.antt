-- The older units' sum: its products modulo a number, and that it tells apart strings that differ at one place.
use Rattle.std.specs.Prelude.{◌≡◌, ℕ, zero, suc, ◌+◌, ◌*◌, ◌/◌, ◌%◌, ◌<◌, ◌≤◌, List, [], ◌∷◌, length, ◌≢◌, slice_index, slice_index_or}
use Rattle.std.proofs.Common.{sym, ap, ◌∙◌, ⊎_elim, mul-add, add-mul, mul_assoc, add-zero, le_of_suc-le-suc, not-suc-le-zero, arith}
use Rattle.std.proofs.Math.Nat.{mod-add-div, add-mul-mod_self_left}
use Rattle.std.proofs.lemmas.Nat.{mul-le}
use Rattle.std.proofs.lemmas.List.{ext_get_or}
use Rattle.std.proofs.lemmas.Bool.{cases_order}
use Rattle.checks.specs.Check.{TellsOne}
use Rattle.checks.specs.Older.{weigh, older_sum}

pub mod_mul_mod : (a b m : ℕ) → (a % m) * b % m ≡ a * b % m
mod_mul_mod a b m =
    sym (add-mul-mod_self_left ((a % m) * b) m (a / m * b))
    ∙ ap (λ n. ((a % m) * b + n) % m) (sym (mul_assoc m (a / m) b))
    ∙ ap (λ n. n % m) (sym (add-mul (a % m) (m * (a / m)) b) ∙ ap (λ n. n * b) (mod-add-div a m))

-- with the bytes at the place p exchanged, the two sums are equal
swapped : (x y : List ℕ) (i p : ℕ) → length x ≡ length y → p < length x → ((k : ℕ) → (k ≢ p) → slice_index x k ≡ slice_index y k)
    → weigh i x + (i + p + 1) * slice_index y p ≡ weigh i y + (i + p + 1) * slice_index x p
swapped [] y i p e h same = absurd (not-suc-le-zero h)
swapped (a ∷ x) [] i p e h same = absurd (omega (arith, e))
swapped (a ∷ x) (b ∷ y) i zero e h same =
    let t : x ≡ y = ext_get_or 0 x y (omega (arith, e)) (λ k _. same (suc k) (λ z. omega (arith, z))) in
    let w : weigh (i + 1) x ≡ weigh (i + 1) y = ap (weigh (i + 1)) t in
    omega (arith, w, mul-add (i + 1) a 1, mul-add (i + 1) b 1, add-zero i)
swapped (a ∷ x) (b ∷ y) i (suc p) e h same =
    let r = swapped x y (i + 1) p (omega (arith, e)) (le_of_suc-le-suc h) (λ k n. same (suc k) (λ z. n (omega (arith, z)))) in
    let f : a ≡ b = same zero (λ z. omega (arith, z)) in
    let g : i + suc p + 1 ≡ i + 1 + p + 1 = omega arith in
    rw (f, g) (omega (arith, r))

pub tells : TellsOne older_sum
tells x y s t o e =
    let p = o.place in
    let w = swapped x y 0 p o.long o.inside o.same in
    let bx : slice_index_or x p 0 < 256 = s.bytes p in
    let by : slice_index_or y p 0 < 256 = t.bytes p in
    let few : p + 1 ≤ 65535 = omega (arith, s.few, o.inside) in
    let lx = mul-le (0 + p + 1) (slice_index x p) 65535 255 (omega arith) (omega arith) in
    let ly = mul-le (0 + p + 1) (slice_index y p) 65535 255 (omega arith) (omega arith) in
    ⊎_elim o.differ (⊎_elim
    (λ lt. omega (arith, e, w, lx, ly, mul-le (0 + p + 1) (slice_index x p + 1) (0 + p + 1) (slice_index y p) (omega arith) (omega (arith, lt)), mul-add (0 + p + 1) (slice_index x p) 1))
    (λ gt. omega (arith, e, w, lx, ly, mul-le (0 + p + 1) (slice_index y p + 1) (0 + p + 1) (slice_index x p) (omega arith) (omega (arith, gt)), mul-add (0 + p + 1) (slice_index y p) 1)))
    (cases_order (slice_index x p) (slice_index y p))
