-- What a write-through blob means.
use Rattle.std.specs.Prelude.{ℕ, true, List, length, nat_lt}
use Rattle.std.proofs.Common.{arith, ltb-true}
use Rattle.blob.specs.Value.{BlobValue, Sound}
use Rattle.kinds.specs.declared.write_through.WriteThrough.{WriteThrough}
use Rattle.kinds.specs.Held.{held, room, held_fits, held_bytes}

-- a blob that shows these bytes, has them all settled, and has power
abbrev pub settled_value : List ℕ → ℕ → BlobValue
settled_value s c = record {
  shown = s;
  ceiling = c;
  firm = λ k. nat_lt k (length s);
  shortest = length s;
  longest = length s;
  power = true;
}

abbrev pub through : WriteThrough → BlobValue
through b = settled_value (held b.area) (room b.area)

pub through_sound : (b : WriteThrough) → Sound (through b)
through_sound b = record {
  bytes = held_bytes b.area;
  fits = held_fits b.area;
  ceiling_fits = b.area.small;
  firm_shown = λ k e. ltb-true _ _ e;
  firm_below = λ k e. ltb-true _ _ e;
  ordered = omega arith;
}
