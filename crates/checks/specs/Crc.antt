-- CRC-32C of RFC 3720, bit by bit. Bits are added without carry, by bit_xor.
use Rattle.std.specs.Prelude.{◌≡◌, ℕ, zero, suc, ◌+◌, ◌*◌, ◌/◌, ◌%◌, ◌^◌, cond, List, [], ◌∷◌, ◌==◌, bit_xor}

-- the n lowest bits of x in reverse order
abbrev pub reversed : ℕ → ℕ → ℕ
reversed zero x = 0
reversed (suc n) x = (x % 2) * 2 ^ n + reversed n (x / 2)

-- The generator polynomial is printed as 0x11EDC6F41. Its highest bit always meets the bit that leaves the register, so 32 bits are added.
-- The register holds the highest coefficient at the lowest bit, so their order is reversed.
abbrev pub generator : ℕ
generator = 0x82f63b78

-- the constant above is the printed polynomial, without its highest bit, in reverse order
abbrev pub GeneratorIsPrinted : Type 0
GeneratorIsPrinted = generator ≡ reversed 32 0x1EDC6F41

-- the bit that leaves the register s as the bit d of the string comes: the lowest of s, added to d
abbrev pub leaving : ℕ → ℕ → ℕ
leaving s d = bit_xor s d % 2

-- the register after a bit, the lowest of d: shifted, and where a 1 leaves, the generator is added
abbrev pub after_bit : ℕ → ℕ → ℕ
after_bit s d = cond (leaving s d == 1) (bit_xor (s / 2) generator) (s / 2)

-- the register after n bits, the lowest of b, lowest first
abbrev pub after_bits : ℕ → ℕ → ℕ → ℕ
after_bits zero s b = s
after_bits (suc n) s b = after_bits n (after_bit s b) (b / 2)

-- the register after a string of bytes
abbrev pub after_bytes : ℕ → List ℕ → ℕ
after_bytes s [] = s
after_bytes s (b ∷ bs) = after_bytes (after_bits 8 s b) bs

-- the register before the first byte: 32 ones
abbrev pub ones : ℕ
ones = 0xffffffff

-- the check of a string: what the register holds after it, each of its 32 bits complemented
abbrev pub crc32c : List ℕ → ℕ
crc32c s = bit_xor (after_bytes ones s) ones
