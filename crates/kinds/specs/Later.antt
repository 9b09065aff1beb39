-- What a settle-later blob means.
use Rattle.std.specs.Prelude.{ℕ, min, max, Bool, ◌&&◌, List, length, ◌==◌, nat_lt, slice_index}
use Rattle.std.proofs.Common.{arith, ltb-true}
use Rattle.std.proofs.lemmas.Bool.{and_parts}
use Rattle.blob.specs.Value.{BlobValue, Sound}
use Rattle.kinds.specs.declared.settle_later.SettleLater.{SettleLater}
use Rattle.kinds.specs.Held.{held, room, held_fits, held_bytes}

-- both strings have the same byte at the place k
abbrev pub same_at : List ℕ → List ℕ → ℕ → Bool
same_at s t k = nat_lt k (length s) && (nat_lt k (length t) && slice_index s k == slice_index t k)

-- a blob with these bytes shown and those settled: a cut leaves one or the other length, and at each place one or the other byte
abbrev pub later_value : List ℕ → List ℕ → ℕ → Bool → BlobValue
later_value working settled ceiling power = record {
  shown = working;
  ceiling = ceiling;
  firm = same_at working settled;
  shortest = min (length working) (length settled);
  longest = max (length working) (length settled);
  power = power;
}

abbrev pub later : SettleLater → BlobValue
later b = later_value (held b.working) (held b.settled) (room b.working) b.power

pub later_sound : (b : SettleLater) → Sound (later b)
later_sound b = record {
  bytes = held_bytes b.working;
  fits = held_fits b.working;
  ceiling_fits = b.working.small;
  firm_shown = λ k e. ltb-true _ _ (and_parts _ _ e).0;
  firm_below = λ k e.
      let both = and_parts (nat_lt k (length (held b.working))) _ e in
      omega (arith, ltb-true _ _ both.0, ltb-true _ _ (and_parts (nat_lt k (length (held b.settled))) _ both.1).0);
  ordered = omega arith;
}
