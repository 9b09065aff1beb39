-- What a write of a settle-later blob keeps, over its two strings alone.
use Rattle.std.proofs.Common.{◌≡◌, ℕ, ◌+◌, ◌≤◌, Bool, true, false, List, length, get_or, take, Some, None, Option, Ok, Err, Result, ◌==◌, sym, refl, inr, arith, rules}
use Rattle.std.specs.Prelude.{IsTrue, OkIff, IsOkUnless}
use Rattle.std.proofs.lemmas.List.{places, take_all}
use Rattle.std.proofs.lemmas.Bool.{eqb-true}
use Rattle.std.proofs.lemmas.Bool.Decides.{nat_tests}
use Rattle.blob.specs.declared.Fault.{Fault}
use Rattle.blob.specs.declared.Fault.TheVariants.{Refused, Failed}
use Rattle.blob.specs.Calls.{overwritten, SameByte, WriteKeeps, WriteDone, WriteCut, Wrote}
use Rattle.kinds.specs.Cuts.{stored}
use Rattle.kinds.specs.Later.{later_value}

pub stored_most : (cut : Option ℕ) (written n : ℕ) → stored cut written n ≤ n
stored_most None written n = omega arith
stored_most (Some c) written n = omega arith

-- a write of the first n of the bytes bs
module _ (s t bs : List ℕ) (c o n : ℕ) (below : o ≤ length s) (fits : o + length bs ≤ c) (some : n ≤ length bs) where
  firm_byte : (k : ℕ) → SameByte (later_value s t c true) o bs k → get_or (overwritten s o (take n bs)) k 0 ≡ get_or s k 0
  firm_byte k e = grind (arith, places)

  keeps : (p q : Bool) → WriteKeeps (later_value s t c p) (later_value (overwritten s o (take n bs)) t c q) o bs
  keeps p q = record {
    ceiling = refl;
    firm = λ k e b. let f = firm_byte k b in grind (arith, places, nat_tests);
    shortest = search (rules, places);
    longest = search (rules, places);
  }

  write_cut : WriteCut (later_value s t c true) (later_value (overwritten s o (take n bs)) t c false) o bs
  write_cut = record {
    down = refl;
    long = search (rules, places);
    short = search (rules, places);
    outside = λ k h. grind (arith, places);
    firm_bytes = λ k e b. firm_byte k b;
    keeps = keeps true false;
  }

  write_done : n ≡ length bs → WriteDone (later_value s t c true) (later_value (overwritten s o (take n bs)) t c true) o bs
  write_done e = record {
    fits = (below, fits);
    up = refl;
    up_after = refl;
    shows = rw (take_all n bs (omega arith));
    keeps = keeps true true;
  }

  -- the answer names a fault exactly where the power went down
  pub wrote : (up : Bool) (r : Result (Unit {0}) Fault) → up ≡ (n == length bs) → OkIff r (IsTrue up) tt → IsOkUnless r Failed
      → Wrote (later_value s t c true) o bs (later_value (overwritten s o (take n bs)) t c up) r
  wrote true (Ok u) e h i = write_done (eqb-true _ _ (sym e))
  wrote false (Ok u) e h i = absurd (cc)
  wrote true (Err f) e h i = absurd (h refl)
  wrote false (Err Failed) e h i = ((below, fits), inr (refl, write_cut))
  wrote false (Err Refused) e h i = absurd (cc)
