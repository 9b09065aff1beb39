-- What each call of a blob leaves of the firm places, whether it is carried out, refused or fails.
use Rattle.std.proofs.Common.{◌≡◌, ℕ, ◌+◌, ◌<◌, ◌≤◌, min, ◌⊎◌, List, length, get_or, Ok, Err, Result, sym, refl, ap, ◌∙◌, subst, ⊎_elim, arith, length-append, length-take}
use lib.ListN.{length-replicate}
use Rattle.std.proofs.lemmas.List.{places}
use Rattle.blob.proofs.Pieces.{over_in, over_length, over_out}
use Rattle.blob.specs.Calls.{Fails, PowerLost, Read, ResizeCut, ResizeDone, Resized, SameByte, WriteCut, WriteDone, Wrote}
use Rattle.blob.specs.Value.{BlobValue}
use Rattle.blob.specs.declared.Fault.{Fault}
use Rattle.blob.specs.declared.Fault.TheVariants.{Failed, Refused}
use Rattle.law.proofs.Standing.{ByteStays}

-- what lies below top stays as long, and the firm places of K there keep their bytes
pub record Leaves (v u : BlobValue) (top : ℕ) (K : ℕ → Type 0) : Type 0 where
  pub long : min top (length v.shown) ≤ length u.shown
  pub shortest : min top v.shortest ≤ u.shortest
  pub stays : (k : ℕ) → k < top → k < length v.shown → K k → ByteStays v u k

pub leaves_none : (v u : BlobValue) (top : ℕ) (K : ℕ → Type 0) → u ≡ v → Leaves v u top K
leaves_none v u top K e = subst (λ x. Leaves v x top K) (sym e) (record { long = omega arith; shortest = omega arith; stays = λ k _ _ _ f. (refl, f) })

-- a write leaves the places where it puts nothing else
module _ (v u : BlobValue) (o : ℕ) (bs : List ℕ) where
  done_leaves : WriteDone v u o bs → Leaves v u (length v.shown) (SameByte v o bs)
  done_leaves d = record {
    long = omega (arith, ap length d.shows ∙ over_length v.shown o bs d.fits.0);
    shortest = omega (arith, d.keeps.shortest);
    stays = λ k _ _ h f. (ap (λ s. get_or s k 0) d.shows ∙ h, d.keeps.firm k f h);
  }

  cut_leaves : WriteCut v u o bs → Leaves v u (length v.shown) (SameByte v o bs)
  cut_leaves d = record {
    long = omega (arith, d.long);
    shortest = omega (arith, d.keeps.shortest);
    stays = λ k _ _ h f. (d.firm_bytes k f h, d.keeps.firm k f h);
  }

  pub write_leaves : (r : Result (Unit {0}) Fault) → Wrote v o bs u r → Leaves v u (length v.shown) (SameByte v o bs)
  write_leaves (Ok x) d = done_leaves d
  write_leaves (Err Refused) d = leaves_none v u _ _ d.1
  write_leaves (Err Failed) d = ⊎_elim (λ h. leaves_none v u _ _ h.1) (λ h. cut_leaves h.1) d.1

  -- such places: outside the range, and where the byte was there
  pub same_out : (k : ℕ) → o ≤ length v.shown → (k < o) ⊎ (o + length bs ≤ k) → SameByte v o bs k
  same_out k f h = over_out v.shown o bs f k h

  pub same_in : (k : ℕ) → o ≤ length v.shown → k < length bs → get_or bs k 0 ≡ get_or v.shown (o + k) 0 → SameByte v o bs (o + k)
  same_in k f h e = over_in v.shown o bs f (o + k) (omega arith) (omega arith) ∙ ap (λ n. get_or bs n 0) (omega arith) ∙ e

module _ (v u : BlobValue) (top : ℕ) (K : ℕ → Type 0) where
  lost_leaves : PowerLost v u → Leaves v u top K
  lost_leaves d = record {
    long = omega (arith, ap length d.shows);
    shortest = omega (arith, d.shortest);
    stays = λ k _ _ _ f. (ap (λ s. get_or s k 0) d.shows, d.firm k f);
  }

  pub fails_leaves : Fails v u (PowerLost v u) → Leaves v u top K
  fails_leaves d = ⊎_elim (λ h. leaves_none v u _ _ h.1) (λ h. lost_leaves h.1) d

  pub read_leaves : (o : ℕ) (before after : List ℕ) (r : Result (Unit {0}) Fault) → Read v o before after u r → Leaves v u top K
  read_leaves o before after (Ok x) d = leaves_none v u _ _ d.2
  read_leaves o before after (Err Refused) d = leaves_none v u _ _ d.1
  read_leaves o before after (Err Failed) d = fails_leaves d.1

module _ (v u : BlobValue) (n : ℕ) where
  resize_done_leaves : ResizeDone v u n → Leaves v u n (λ _. Unit {0})
  resize_done_leaves d = record {
    long = subst (λ s. min n (length v.shown) ≤ length s) (sym d.shows) (simp (length-append, length-take, length-replicate) (omega arith));
    shortest = omega (arith, d.keeps.shortest);
    stays = λ k h l _ f. (ap (λ s. get_or s k 0) d.shows ∙ grind (arith, places), d.keeps.firm k f h);
  }

  resize_cut_leaves : ResizeCut v u n → Leaves v u n (λ _. Unit {0})
  resize_cut_leaves d = record {
    long = ⊎_elim (λ e. omega arith) (λ e. omega arith) d.long;
    shortest = omega (arith, d.keeps.shortest);
    stays = λ k h l _ f. (d.before k l h, d.keeps.firm k f h);
  }

  pub resize_leaves : (r : Result (Unit {0}) Fault) → Resized v n u r → Leaves v u n (λ _. Unit {0})
  resize_leaves (Ok x) d = resize_done_leaves d
  resize_leaves (Err Refused) d = leaves_none v u _ _ d.1
  resize_leaves (Err Failed) d = ⊎_elim (λ h. leaves_none v u _ _ h.1) (λ h. resize_cut_leaves h.1) d.1
