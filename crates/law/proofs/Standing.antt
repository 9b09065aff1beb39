-- What a guard comes to: before a cut, after it, and from one meaning to the next.
use Rattle.std.proofs.Common.{◌≡◌, ℕ, ◌+◌, ◌-◌, ◌*◌, ◌<◌, ◌≤◌, true, List, length, get_or, refl, ap, ◌∙◌, ⊎_elim, arith}
use Rattle.std.proofs.lemmas.Bool.{cases_lt}
use Rattle.blob.specs.Value.{BlobValue, MayStand, Sound}
use Rattle.page.specs.Layout.{page_at, start}
use Rattle.page.specs.declared.slot.ActiveChecksum.{ActiveChecksum}
use Rattle.page.specs.declared.slot.Slot.{Slot}
use Rattle.law.specs.Log.{Holds, Place}
use Rattle.law.proofs.Guard.{Backed, Firm, Guard, Stands, Stood}
use Rattle.law.proofs.Places.{page_long, slot_inside, slot_stays, valid_stays}
use Rattle.law.proofs.Slots.{slot_of, slot_start}
use Rattle.law.proofs.Verdicts.{by_some, longest}

-- a firm place keeps its byte, and stays firm
abbrev pub ByteStays : BlobValue → BlobValue → ℕ → Type 0
ByteStays v u k = v.firm k ≡ true → (get_or u.shown k 0 ≡ get_or v.shown k 0) × (u.firm k ≡ true)

module _ (sum : List ℕ → ℕ) (p : ℕ) (v : BlobValue) (i j b : ℕ) (w : Slot) (g : Backed sum p v i j b w) where
  -- other bytes that agree at the firm places
  pub stood_by : (t : List ℕ) → start p i + (p + 12) ≤ length t → ((k : ℕ) → v.firm k ≡ true → get_or t k 0 ≡ get_or v.shown k 0) → Stood sum p t i j b
  stood_by t l e =
      let six = λ (k : ℕ) (h : k < 6). e (start p i + (slot_start p w + k)) (g.firm_slot k h) in
      let good = valid_stays sum p v.shown t i w g.whole l six (λ k h. e (start p i + k) (g.firm_data k h)) g.valid in
      let same = ap (λ (s : ActiveChecksum). s.len) (slot_stays sum p v.shown t i w g.whole l six) in
      record {
        whole = l;
        here = e (start p i + j) (g.firm_data j g.under) ∙ g.here;
        covered = omega (arith, longest sum p (page_at p t i) (page_long p t i l) w good, g.under, same);
      }

  pub stood_here : Stood sum p v.shown i j b
  stood_here = stood_by v.shown g.whole (λ k _. refl)

  pub stood_after : (t : List ℕ) → MayStand v t → Stood sum p t i j b
  stood_after t m = stood_by t (omega (arith, g.lasts, m.long)) m.firm

  -- a call that leaves the places of the guard
  pub carry : (u : BlobValue) → start p i + (p + 12) ≤ length u.shown → start p i + (p + 12) ≤ u.shortest
      → ((k : ℕ) → k < (slot_of p (page_at p v.shown i) w).len → ByteStays v u (start p i + k))
      → ((k : ℕ) → k < 6 → ByteStays v u (start p i + (slot_start p w + k)))
      → Backed sum p u i j b w
  carry u l m d s =
      let six = λ (k : ℕ) (h : k < 6). (s k h (g.firm_slot k h)).0 in
      let same = ap (λ (x : ActiveChecksum). x.len) (slot_stays sum p v.shown u.shown i w g.whole l six) in
      record {
        whole = l;
        lasts = m;
        here = (d j g.under (g.firm_data j g.under)).0 ∙ g.here;
        valid = valid_stays sum p v.shown u.shown i w g.whole l six (λ k h. (d k h (g.firm_data k h)).0) g.valid;
        under = omega (arith, g.under, same);
        firm_data = λ k h. let l : k < (slot_of p (page_at p v.shown i) w).len = omega (arith, same) in (d k l (g.firm_data k l)).1;
        firm_slot = λ k h. (s k h (g.firm_slot k h)).1;
      }

pub standing : (sum : List ℕ → ℕ) (p : ℕ) (v : BlobValue) (promise : List Place) (t : List ℕ) → Guard sum p v promise → MayStand v t → Stands sum p t promise
standing sum p v promise t g m i j b h e = let x = g i j b h e in stood_after sum p v i j b x.0 x.1 t m

pub standing_here : (sum : List ℕ → ℕ) (p : ℕ) (v : BlobValue) (promise : List Place) → Guard sum p v promise → Stands sum p v.shown promise
standing_here sum p v promise g i j b h e = let x = g i j b h e in stood_here sum p v i j b x.0 x.1

-- fewer bytes
pub fewer : (sum : List ℕ → ℕ) (p : ℕ) (v : BlobValue) (promise less : List Place) → Holds promise less → Guard sum p v promise → Guard sum p v less
fewer sum p v promise less q g i j b h e = g i j b h (q (i * p + j) b e)

-- where all is firm, all that stands is guarded
pub firm_long : (v : BlobValue) → Sound v → Firm v → length v.shown ≤ v.shortest
firm_long v s f = ⊎_elim (λ h. omega (arith, s.firm_below (length v.shown - 1) (f (length v.shown - 1) (omega arith)))) (λ h. omega arith)
    (cases_lt 0 (length v.shown))

pub guarded : (sum : List ℕ → ℕ) (p : ℕ) (v : BlobValue) (row : List Place) → Sound v → Firm v → Stands sum p v.shown row → Guard sum p v row
guarded sum p v row s f stand i j b h e =
    let x = stand i j b h e in
    let l = x.whole in
    ⊎_elim (λ z. absurd (omega (arith, x.covered, z)))
    (λ y. (
      y.0,
      record {
        whole = l;
        lasts = omega (arith, firm_long v s f);
        here = x.here;
        valid = y.1.0;
        under = omega (arith, x.covered, y.1.1);
        firm_data = λ k d. f (start p i + k) (omega (arith, y.1.0.high));
        firm_slot = λ k d. f (start p i + (slot_start p y.0 + k)) (omega (arith, slot_inside p y.0 k d));
      },
    ))
    (by_some sum p (page_at p v.shown i) (page_long p v.shown i l))
