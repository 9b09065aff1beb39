-- The calls that keep the guard.
use Rattle.std.proofs.Common.{◌≡◌, ℕ, ◌+◌, ◌*◌, ◌<◌, ◌≤◌, ◌⊎◌, List, length, get_or, Ok, Err, Result, sym, subst, inl, inr, ⊎_elim, arith}
use Rattle.std.proofs.lemmas.Nat.{mul-le}
use Rattle.std.proofs.lemmas.Bool.{cases_lt, cases_order}
use Rattle.blob.specs.Calls.{Read, Resized, SameByte, Settling, Wrote}
use Rattle.blob.specs.Value.{BlobValue, Sound}
use Rattle.blob.specs.declared.Fault.{Fault}
use Rattle.blob.specs.declared.Fault.TheVariants.{Failed, Refused}
use Rattle.page.specs.Footer.{other_slot}
use Rattle.page.specs.Layout.{page_at, start}
use Rattle.page.specs.Verdict.{cover}
use Rattle.page.specs.declared.slot.Slot.{Slot}
use Rattle.page.specs.declared.slot.Slot.TheVariants.{First, Second}
use Rattle.law.specs.Log.{Place, byte, gap}
use Rattle.law.proofs.Calls.{Leaves, fails_leaves, read_leaves, resize_leaves, same_in, same_out, write_leaves}
use Rattle.law.proofs.Guard.{Backed, Firm, Guard, Stands, Stood}
use Rattle.law.proofs.Places.{slot_inside, start_less}
use Rattle.law.proofs.Slots.{Valid, slot_of, slot_start}
use Rattle.law.proofs.Standing.{carry, firm_long, guarded, standing_here, stood_here}

pub slot_behind : (p : ℕ) (w : Slot) → p ≤ slot_start p w
slot_behind p First = omega arith
slot_behind p Second = omega arith

pub slot_within : (p : ℕ) (w : Slot) → slot_start p w + 6 ≤ p + 12
slot_within p First = omega arith
slot_within p Second = omega arith

pub slots_apart : (p : ℕ) (w : Slot) (k : ℕ) → k < 6 → (s n : ℕ) → n ≤ 6
    → (s + (slot_start p w + k) < s + slot_start p (other_slot w)) ⊎ (s + slot_start p (other_slot w) + n ≤ s + (slot_start p w + k))
slots_apart p First k h s n l = inl (omega arith)
slots_apart p Second k h s n l = inr (omega arith)

module _ (sum : List ℕ → ℕ) (p : ℕ) (v u : BlobValue) (promise : List Place) where
  -- a guard of byte j of page i whose places a call leaves
  record Spared (top : ℕ) (K : ℕ → Type 0) (i j b : ℕ) : Type 0 where
    pub which : Slot
    pub backed : Backed sum p v i j b which
    pub below : start p i + (p + 12) ≤ top
    pub on_data : (k : ℕ) → k < (slot_of p (page_at p v.shown i) which).len → K (start p i + k)
    pub on_slot : (k : ℕ) → k < 6 → K (start p i + (slot_start p which + k))

  spared : (top : ℕ) (K : ℕ → Type 0) → Leaves v u top K
      → ((i j b : ℕ) → j < p → get_or promise (i * p + j) gap ≡ byte b → Spared top K i j b) → Guard sum p u promise
  spared top K l f i j b h e =
      let x = f i j b h e in
      let g = x.backed in
      let w = x.which in
      let below = x.below in
      let whole = g.whole in (
        w,
        carry sum p v i j b w g u (omega (arith, l.long)) (omega (arith, l.shortest, g.lasts))
            (λ k d. l.stays (start p i + k) (omega (arith, g.valid.high)) (omega (arith, g.valid.high)) (x.on_data k d))
            (λ k d. let q = slot_inside p w k d in l.stays (start p i + (slot_start p w + k)) (omega arith) (omega arith) (x.on_slot k d)),
      )

  -- where a write is not made, and leaves all, or begins at a place that is there
  wrote_from : (o : ℕ) (bs : List ℕ) (r : Result (Unit {0}) Fault) → Wrote v o bs u r → (o ≤ length v.shown) ⊎ (u ≡ v)
  wrote_from o bs (Ok x) d = inl d.fits.0
  wrote_from o bs (Err Refused) d = inr d.1
  wrote_from o bs (Err Failed) d = inl d.0.0

  -- a call that leaves every firm place
  all_left : Leaves v u (length v.shown) (λ _. Unit {0}) → Guard sum p v promise → Guard sum p u promise
  all_left l g = spared (length v.shown) (λ _. Unit {0}) l
      (λ i j b h e. let x = g i j b h e in record { which = x.0; backed = x.1; below = x.1.whole; on_data = λ _ _. tt; on_slot = λ _ _. tt })

  pub read_keeps : (o : ℕ) (before after : List ℕ) (r : Result (Unit {0}) Fault) → Read v o before after u r → Guard sum p v promise → Guard sum p u promise
  read_keeps o before after r d = all_left (read_leaves v u _ _ o before after r d)

  pub settle_keeps : (r : Result (Unit {0}) Fault) → Sound u → Settling v u r → Guard sum p v promise → Guard sum p u promise
  settle_keeps (Ok x) s d g = guarded sum p u promise s d.settled.firm
      (subst (λ t. Stands sum p t promise) (sym d.shows) (standing_here sum p v promise g))
  settle_keeps (Err Refused) s d g = absurd d
  settle_keeps (Err Failed) s d g = all_left (fails_leaves v u _ _ d) g

  pub resize_keeps : (m : ℕ) (r : Result (Unit {0}) Fault) → ((k b : ℕ) → get_or promise k gap ≡ byte b → k < m * p)
      → Resized v (start p m) u r → Guard sum p v promise → Guard sum p u promise
  resize_keeps m r few d g = spared (start p m) (λ _. Unit {0}) (resize_leaves v u (start p m) r d)
      (λ i j b h e.
      let x = g i j b h e in
      let f = few (i * p + j) b e in
      let l : i < m = ⊎_elim (λ y. y) (λ y. let z = mul-le m p i p y (omega arith) in absurd (omega arith)) (cases_lt i m) in
      record { which = x.0; backed = x.1; below = start_less p i m l; on_data = λ _ _. tt; on_slot = λ _ _. tt })

  -- a write that leaves the places of a guard
  by_write : (o : ℕ) (bs : List ℕ) (r : Result (Unit {0}) Fault) → Wrote v o bs u r → Guard sum p v promise
      → (o ≤ length v.shown → (i j b : ℕ) → j < p → get_or promise (i * p + j) gap ≡ byte b → Spared (length v.shown) (SameByte v o bs) i j b)
      → Guard sum p u promise
  by_write o bs r d g f = ⊎_elim
      (λ from. spared (length v.shown) (SameByte v o bs) (write_leaves v u o bs r d) (f from))
      (λ e. subst (λ x. Guard sum p x promise) (sym e) g)
      (wrote_from o bs r d)

  -- a write at the end or behind it
  pub write_behind : (o : ℕ) (bs : List ℕ) (r : Result (Unit {0}) Fault) → length v.shown ≤ o → Wrote v o bs u r → Guard sum p v promise
      → Guard sum p u promise
  write_behind o bs r far d g = by_write o bs r d g
      (λ from i j b h e.
      let x = g i j b h e in
      let y = x.1 in
      let whole = y.whole in
      record {
        which = x.0;
        backed = y;
        below = whole;
        on_data = λ k q. same_out v u o bs (start p i + k) from (inl (omega (arith, y.valid.high)));
        on_slot = λ k q. same_out v u o bs (start p i + (slot_start p x.0 + k)) from (inl (omega (arith, slot_inside p x.0 k q)));
      })

  -- a write from the last page on that keeps the slot that counts there, and what it covers
  pub write_last : (c : ℕ) (w : Slot) (bs : List ℕ) (r : Result (Unit {0}) Fault) → Sound v → Firm v → start p c + (p + 12) ≡ length v.shown
      → p + 12 ≤ length bs
      → Valid sum p (page_at p v.shown c) w → cover sum (page_at p v.shown c) ≡ (slot_of p (page_at p v.shown c) w).len
      → ((k : ℕ) → k < (slot_of p (page_at p v.shown c) w).len → get_or bs k 0 ≡ get_or v.shown (start p c + k) 0)
      → ((k : ℕ) → k < 6 → get_or bs (slot_start p w + k) 0 ≡ get_or v.shown (start p c + (slot_start p w + k)) 0)
      → Wrote v (start p c) bs u r → Guard sum p v promise → Guard sum p u promise
  write_last c w bs r s f long many good same on off d g = by_write (start p c) bs r d g
      (λ from i j b h e.
      let x = g i j b h e in
      let y = x.1 in
      let whole = y.whole in
      ⊎_elim
      (λ q. subst (λ n. Spared (length v.shown) (SameByte v (start p c) bs) n j b) (sym q)
      (let z = subst (λ n. Stood sum p v.shown n j b) q (stood_here sum p v i j b x.0 y) in
      record {
        which = w;
        backed = record {
          whole = z.whole;
          lasts = omega (arith, firm_long v s f);
          here = z.here;
          valid = good;
          under = omega (arith, z.covered, same);
          firm_data = λ k l. f (start p c + k) (omega (arith, good.high));
          firm_slot = λ k l. f (start p c + (slot_start p w + k)) (omega (arith, slot_inside p w k l));
        };
        below = z.whole;
        on_data = λ k l. same_in v u (start p c) bs k from (omega (arith, good.high)) (on k l);
        on_slot = λ k l. same_in v u (start p c) bs (slot_start p w + k) from (omega (arith, slot_inside p w k l)) (off k l);
      }))
      (⊎_elim
      (λ q. let a = start_less p i c q in record {
        which = x.0;
        backed = y;
        below = whole;
        on_data = λ k l. same_out v u (start p c) bs (start p i + k) from (inl (omega (arith, y.valid.high)));
        on_slot = λ k l. same_out v u (start p c) bs (start p i + (slot_start p x.0 + k)) from (inl (omega (arith, slot_inside p x.0 k l)));
      })
      (λ q. let a = start_less p c i q in absurd (omega arith)))
      (cases_order i c))

  -- a write in one slot of a page, where the other slot guards the promise
  pub write_slot : (c : ℕ) (w : Slot) (bs : List ℕ) (r : Result (Unit {0}) Fault) → length bs ≤ 6
      → ((j b : ℕ) → j < p → get_or promise (c * p + j) gap ≡ byte b → Backed sum p v c j b w)
      → Wrote v (start p c + slot_start p (other_slot w)) bs u r → Guard sum p v promise → Guard sum p u promise
  write_slot c w bs r small by d g =
      let o = start p c + slot_start p (other_slot w) in
      by_write o bs r d g
      (λ from i j b h e.
      let x = g i j b h e in
      let y = x.1 in
      let whole = y.whole in
      ⊎_elim
      (λ q. subst (λ n. Spared (length v.shown) (SameByte v o bs) n j b) (sym q)
      (let z = by j b h (subst (λ n. get_or promise (n * p + j) gap ≡ byte b) q e) in
      record {
        which = w;
        backed = z;
        below = z.whole;
        on_data = λ k l. same_out v u o bs (start p c + k) from (inl (omega (arith, z.valid.high, slot_behind p (other_slot w))));
        on_slot = λ k l. same_out v u o bs (start p c + (slot_start p w + k)) from (slots_apart p w k l (start p c) (length bs) small);
      }))
      (⊎_elim
      (λ q. let t = start_less p i c q in record {
        which = x.0;
        backed = y;
        below = whole;
        on_data = λ k l. same_out v u o bs (start p i + k) from (inl (omega (arith, y.valid.high)));
        on_slot = λ k l. same_out v u o bs (start p i + (slot_start p x.0 + k)) from (inl (omega (arith, slot_inside p x.0 k l)));
      })
      (λ q. let t = start_less p c i q in let n = slot_within p (other_slot w) in record {
        which = x.0;
        backed = y;
        below = whole;
        on_data = λ k l. same_out v u o bs (start p i + k) from (inr (omega arith));
        on_slot = λ k l. same_out v u o bs (start p i + (slot_start p x.0 + k)) from (inr (omega arith));
      }))
      (cases_order i c))
