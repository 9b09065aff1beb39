-- The register of CRC-32C: a byte's eight bits act by addition, so a table serves; and each step keeps different registers different.
use Rattle.std.specs.Prelude.{◌≡◌, ℕ, zero, suc, ◌+◌, ◌*◌, ◌/◌, ◌%◌, ◌^◌, ◌<◌, Bool, true, false, cond, List, [], ◌∷◌, length, ◌==◌, ◌≢◌, bit_xor, slice_index, refl}
use Rattle.std.proofs.Common.{sym, ap, ◌∙◌, le_of_suc-le-suc, not-suc-le-zero, add-one, one-add, arith}
use Rattle.std.specs.Int.Bits.{xor_assoc, xor_self, xor_zero_r, xor_zero_l}
use Rattle.std.proofs.lemmas.Nat.{mod-pow-add, shr-shr, xor_lt, xor_shr, xor_mod, xor_comm}
use Rattle.std.proofs.lemmas.List.{ext_get_or}
use Rattle.checks.specs.Check.{FitsFour, TellsOne}
use Rattle.checks.specs.Crc.{generator, leaving, after_bit, after_bits, after_bytes, ones, crc32c}

undo : (a c : ℕ) → bit_xor (bit_xor a c) c ≡ a
undo a c = xor_assoc a c c ∙ ap (bit_xor a) (xor_self c) ∙ xor_zero_r a

xor_inj : (a b c : ℕ) → bit_xor a c ≡ bit_xor b c → a ≡ b
xor_inj a b c e = sym (undo a c) ∙ ap (λ n. bit_xor n c) e ∙ undo b c

regroup : (a b c d : ℕ) → bit_xor (bit_xor a b) (bit_xor c d) ≡ bit_xor (bit_xor a c) (bit_xor b d)
regroup a b c d =
    xor_assoc a b (bit_xor c d) ∙ ap (bit_xor a) (sym (xor_assoc b c d) ∙ ap (λ n. bit_xor n d) (xor_comm b c) ∙ xor_assoc c b d) ∙ sym (xor_assoc a c (bit_xor b d))

-- what is added as the bit x leaves
abbrev added : ℕ → ℕ
added x = cond (x == 1) generator 0

added_or_not : (b : Bool) (x : ℕ) → cond b (bit_xor x generator) x ≡ bit_xor x (cond b generator 0)
added_or_not true x = refl
added_or_not false x = sym (xor_zero_r x)

bit_is : (s d : ℕ) → after_bit s d ≡ bit_xor (s / 2) (added (leaving s d))
bit_is s d = added_or_not (leaving s d == 1) (s / 2)

-- a law of bits, by its four cases
added_xor : (x y : ℕ) → x < 2 → y < 2 → added (bit_xor x y) ≡ bit_xor (added x) (added y)
added_xor zero zero h k = refl
added_xor zero (suc zero) h k = refl
added_xor (suc zero) zero h k = refl
added_xor (suc zero) (suc zero) h k = refl
added_xor zero (suc (suc y)) h k = absurd (omega arith)
added_xor (suc zero) (suc (suc y)) h k = absurd (omega arith)
added_xor (suc (suc x)) y h k = absurd (omega arith)

leaving_linear : (s t d e : ℕ) → leaving (bit_xor s t) (bit_xor d e) ≡ bit_xor (leaving s d) (leaving t e)
leaving_linear s t d e = ap (λ n. n % 2) (regroup s t d e) ∙ xor_mod (bit_xor s d) (bit_xor t e) 1

bit_linear : (s t d e : ℕ) → after_bit (bit_xor s t) (bit_xor d e) ≡ bit_xor (after_bit s d) (after_bit t e)
bit_linear s t d e =
    let a : added (leaving (bit_xor s t) (bit_xor d e)) ≡ bit_xor (added (leaving s d)) (added (leaving t e)) =
    ap added (leaving_linear s t d e) ∙ added_xor (leaving s d) (leaving t e) (omega arith) (omega arith) in
    bit_is (bit_xor s t) (bit_xor d e)
    ∙ ap (bit_xor (bit_xor s t / 2)) a
    ∙ ap (λ n. bit_xor n (bit_xor (added (leaving s d)) (added (leaving t e)))) (xor_shr s t 1)
    ∙ regroup (s / 2) (t / 2) (added (leaving s d)) (added (leaving t e))
    ∙ ap (λ n. bit_xor n (bit_xor (t / 2) (added (leaving t e)))) (sym (bit_is s d))
    ∙ ap (bit_xor (after_bit s d)) (sym (bit_is t e))

bits_linear : (n s t d e : ℕ) → after_bits n (bit_xor s t) (bit_xor d e) ≡ bit_xor (after_bits n s d) (after_bits n t e)
bits_linear zero s t d e = refl
bits_linear (suc n) s t d e =
    ap (λ x. after_bits n x (bit_xor d e / 2)) (bit_linear s t d e)
    ∙ ap (after_bits n (bit_xor (after_bit s d) (after_bit t e))) (xor_shr d e 1)
    ∙ bits_linear n (after_bit s d) (after_bit t e) (d / 2) (e / 2)

-- bits that equal the register's own shift it out unchanged
bit_own : (s : ℕ) → after_bit s s ≡ s / 2
bit_own s = ap (λ n. cond (n % 2 == 1) (bit_xor (s / 2) generator) (s / 2)) (xor_self s)

bits_own : (n s : ℕ) → after_bits n s s ≡ s / 2 ^ n
bits_own zero s = omega arith
bits_own (suc n) s = ap (λ x. after_bits n x (s / 2)) (bit_own s) ∙ bits_own n (s / 2) ∙ shr-shr s 1 n ∙ ap (λ k. s / 2 ^ k) (one-add n)

-- n bits are read, and no more
bits_low : (n s b : ℕ) → after_bits n s (b % 2 ^ n) ≡ after_bits n s b
bits_low zero s b = refl
bits_low (suc n) s b =
    let e : b % 2 ^ suc n ≡ (b / 2 % 2 ^ n) * 2 + b % 2 = ap (λ k. b % 2 ^ k) (sym (add-one n)) ∙ mod-pow-add b n 1 in
    let half : b % 2 ^ suc n / 2 ≡ b / 2 % 2 ^ n = omega (arith, e) in
    let low : b % 2 ^ suc n % 2 ≡ b % 2 = omega (arith, e) in
    let l : leaving s (b % 2 ^ suc n) ≡ leaving s b = xor_mod s (b % 2 ^ suc n) 1 ∙ ap (bit_xor (s % 2)) low ∙ sym (xor_mod s b 1) in
    ap (λ x. after_bits n (cond (x == 1) (bit_xor (s / 2) generator) (s / 2)) (b % 2 ^ suc n / 2)) l
    ∙ ap (after_bits n (after_bit s b)) half
    ∙ bits_low n (after_bit s b) (b / 2)

-- the step by a table whose entry at i is after_bits 8 0 i
pub byte_by_table : (s b : ℕ) → bit_xor (after_bits 8 0 (bit_xor s b % 2 ^ 8)) (s / 2 ^ 8) ≡ after_bits 8 s b
byte_by_table s b =
    ap (λ n. bit_xor n (s / 2 ^ 8)) (bits_low 8 0 (bit_xor s b))
    ∙ ap (bit_xor (after_bits 8 0 (bit_xor s b))) (sym (bits_own 8 s))
    ∙ sym (bits_linear 8 0 s (bit_xor s b) s)
    ∙ ap (λ n. after_bits 8 n (bit_xor (bit_xor s b) s)) (xor_zero_l s)
    ∙ ap (after_bits 8 s) (ap (λ n. bit_xor n s) (xor_comm s b) ∙ undo b s)

added_lt : (x : ℕ) → x < 2 → added x < 2 ^ 32
added_lt zero h = omega arith
added_lt (suc zero) h = omega arith
added_lt (suc (suc x)) h = absurd (omega arith)

bit_lt : (s d : ℕ) → s < 2 ^ 32 → after_bit s d < 2 ^ 32
bit_lt s d h = rw (bit_is s d) (xor_lt 32 (s / 2) (added (leaving s d)) (omega arith) (added_lt (leaving s d) (omega arith)))

bits_lt : (n s b : ℕ) → s < 2 ^ 32 → after_bits n s b < 2 ^ 32
bits_lt zero s b h = h
bits_lt (suc n) s b h = bits_lt n (after_bit s b) (b / 2) (bit_lt s b h)

bytes_lt : (x : List ℕ) (s : ℕ) → s < 2 ^ 32 → after_bytes s x < 2 ^ 32
bytes_lt [] s h = h
bytes_lt (b ∷ x) s h = bytes_lt x (after_bits 8 s b) (bits_lt 8 s b h)

pub fits : FitsFour crc32c
fits x p = xor_lt 32 (after_bytes ones x) ones (bytes_lt x ones (omega arith)) (omega arith)

-- the highest bit tells which bit left
added_top : (x : ℕ) → x < 2 → added x / 2 ^ 31 ≡ x
added_top zero h = refl
added_top (suc zero) h = refl
added_top (suc (suc x)) h = absurd (omega arith)

bit_top : (s d : ℕ) → s < 2 ^ 32 → after_bit s d / 2 ^ 31 ≡ leaving s d
bit_top s d h =
    let z : s / 2 / 2 ^ 31 ≡ 0 = omega arith in
    ap (λ n. n / 2 ^ 31) (bit_is s d)
    ∙ xor_shr (s / 2) (added (leaving s d)) 31
    ∙ ap (λ n. bit_xor n (added (leaving s d) / 2 ^ 31)) z
    ∙ xor_zero_l (added (leaving s d) / 2 ^ 31)
    ∙ added_top (leaving s d) (omega arith)

bit_inj : (s t d : ℕ) → s < 2 ^ 32 → t < 2 ^ 32 → after_bit s d ≡ after_bit t d → s ≡ t
bit_inj s t d h k q =
    let l : leaving s d ≡ leaving t d = sym (bit_top s d h) ∙ ap (λ n. n / 2 ^ 31) q ∙ bit_top t d k in
    let high = xor_inj (s / 2) (t / 2) (added (leaving t d)) (ap (λ n. bit_xor (s / 2) (added n)) (sym l) ∙ sym (bit_is s d) ∙ q ∙ bit_is t d) in
    let low = xor_inj (s % 2) (t % 2) (d % 2) (sym (xor_mod s d 1) ∙ l ∙ xor_mod t d 1) in
    omega (arith, high, low)

bits_inj : (n s t b : ℕ) → s < 2 ^ 32 → t < 2 ^ 32 → after_bits n s b ≡ after_bits n t b → s ≡ t
bits_inj zero s t b h k q = q
bits_inj (suc n) s t b h k q =
    bit_inj s t b h k (bits_inj n (after_bit s b) (after_bit t b) (b / 2) (bit_lt s b h) (bit_lt t b k) q)

-- a byte may be added to the register before eight steps, in place of bit by bit
byte_first : (s b : ℕ) → b < 2 ^ 8 → after_bits 8 (bit_xor s b) 0 ≡ after_bits 8 s b
byte_first s b h =
    let z : b / 2 ^ 8 ≡ 0 = omega arith in
    ap (after_bits 8 (bit_xor s b)) (sym (xor_self b))
    ∙ bits_linear 8 s b b b
    ∙ ap (bit_xor (after_bits 8 s b)) (bits_own 8 b ∙ z)
    ∙ xor_zero_r (after_bits 8 s b)

byte_tells : (s a b : ℕ) → s < 2 ^ 32 → a < 2 ^ 8 → b < 2 ^ 8 → after_bits 8 s a ≡ after_bits 8 s b → a ≡ b
byte_tells s a b h j k q =
    let r = bits_inj 8 (bit_xor s a) (bit_xor s b) 0 (xor_lt 32 s a h (omega arith)) (xor_lt 32 s b h (omega arith))
    (byte_first s a j ∙ q ∙ sym (byte_first s b k)) in
    xor_inj a b s (xor_comm a s ∙ r ∙ xor_comm s b)

bytes_inj : (x : List ℕ) (s t : ℕ) → s < 2 ^ 32 → t < 2 ^ 32 → after_bytes s x ≡ after_bytes t x → s ≡ t
bytes_inj [] s t h k q = q
bytes_inj (b ∷ x) s t h k q =
    bits_inj 8 s t b h k (bytes_inj x (after_bits 8 s b) (after_bits 8 t b) (bits_lt 8 s b h) (bits_lt 8 t b k) q)

one_place : (x y : List ℕ) (s p : ℕ) → s < 2 ^ 32 → slice_index x p < 256 → slice_index y p < 256 → length x ≡ length y → p < length x
    → ((k : ℕ) → (k ≢ p) → slice_index x k ≡ slice_index y k) → after_bytes s x ≡ after_bytes s y → slice_index x p ≡ slice_index y p
one_place [] y s p h bx by e i same q = absurd (not-suc-le-zero i)
one_place (a ∷ x) [] s p h bx by e i same q = absurd (omega (arith, e))
one_place (a ∷ x) (b ∷ y) s zero h bx by e i same q =
    let t : y ≡ x = ext_get_or 0 y x (omega (arith, e)) (λ k _. sym (same (suc k) (λ z. omega (arith, z)))) in
    byte_tells s a b h bx by (bytes_inj x (after_bits 8 s a) (after_bits 8 s b) (bits_lt 8 s a h) (bits_lt 8 s b h) (q ∙ ap (after_bytes (after_bits 8 s b)) t))
one_place (a ∷ x) (b ∷ y) s (suc p) h bx by e i same q =
    let f : b ≡ a = sym (same zero (λ z. omega (arith, z))) in
    one_place x y (after_bits 8 s a) p (bits_lt 8 s a h) bx by (omega (arith, e)) (le_of_suc-le-suc i)
    (λ k n. same (suc k) (λ z. n (omega (arith, z)))) (q ∙ ap (λ n. after_bytes (after_bits 8 s n) y) f)

pub tells : TellsOne crc32c
tells x y s t o e =
    o.differ (one_place x y ones o.place (omega arith) (s.bytes o.place) (t.bytes o.place) o.long o.inside o.same
    (xor_inj (after_bytes ones x) (after_bytes ones y) ones e))
