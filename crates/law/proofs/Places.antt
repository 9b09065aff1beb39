-- Where pages lie, and pages that agree below a slot and in it.
use Rattle.std.proofs.Common.{◌≡◌, ℕ, ◌+◌, ◌<◌, ◌≤◌, List, length, get_or, take, drop, sym, refl, ap, ◌∙◌, subst, add-zero, add_assoc, arith, length-drop, length-take}
use Rattle.std.proofs.lemmas.Nat.{mul-le}
use Rattle.std.proofs.lemmas.List.{ext_get_or, get_or-drop, get_or-take}
use Rattle.page.specs.Footer.{four_at, other_slot, two_at}
use Rattle.page.specs.Layout.{page_at, start}
use Rattle.page.specs.declared.slot.ActiveChecksum.{ActiveChecksum}
use Rattle.page.specs.declared.slot.Slot.{Slot}
use Rattle.page.specs.declared.slot.Slot.TheVariants.{First, Second}
use Rattle.law.proofs.Slots.{Valid, slot_of, slot_start}

pub start_more : (p i : ℕ) → start p (i + 1) ≡ start p i + (p + 12)
unfolding start
start_more p i = omega arith

pub start_less : (p i k : ℕ) → i < k → start p i + (p + 12) ≤ start p k
unfolding start
start_less p i k h = omega (arith, mul-le (i + 1) (p + 12) k (p + 12) (omega arith) (omega arith))

pub page_byte : (p : ℕ) (s : List ℕ) (i k : ℕ) → k < p + 12 → get_or (page_at p s i) k 0 ≡ get_or s (start p i + k) 0
unfolding page_at
page_byte p s i k h = get_or-take (p + 12) (drop (start p i) s) k 0 h ∙ get_or-drop (start p i) s k 0

pub page_long : (p : ℕ) (s : List ℕ) (i : ℕ) → start p i + (p + 12) ≤ length s → length (page_at p s i) ≡ p + 12
unfolding page_at
page_long p s i h = simp (length-take, length-drop) (omega arith)

pub slot_inside : (p : ℕ) (w : Slot) (k : ℕ) → k < 6 → slot_start p w + k < p + 12
slot_inside p First k h = omega arith
slot_inside p Second k h = omega arith

pub other_twice : (a : Slot) → other_slot (other_slot a) ≡ a
other_twice First = refl
other_twice Second = refl

pub same_take : (n : ℕ) (x y : List ℕ) → n ≤ length x → n ≤ length y → ((k : ℕ) → k < n → get_or y k 0 ≡ get_or x k 0) → take n y ≡ take n x
same_take n x y h g e = ext_get_or 0 (take n y) (take n x) (simp length-take (omega arith))
    (λ k d. let l : k < n = omega (arith, length-take n y) in get_or-take n y k 0 l ∙ e k l ∙ sym (get_or-take n x k 0 l))

-- the six bytes of a slot
slot_bytes_same : (w : Slot) (o : ℕ) (x y : List ℕ) → ((k : ℕ) → k < 6 → get_or y (o + k) 0 ≡ get_or x (o + k) 0)
    → ◌≡◌ {A = ActiveChecksum} (record { slot = w; len = two_at y o; check = four_at y (o + 2) })
    (record { slot = w; len = two_at x o; check = four_at x (o + 2) })
slot_bytes_same w o x y footer =
    let a = ap (λ n. get_or y n 0) (sym (add-zero o)) ∙ footer 0 (omega arith) ∙ ap (λ n. get_or x n 0) (add-zero o) in
    let b = footer 1 (omega arith) in
    let c = footer 2 (omega arith) in
    let d = footer 3 (omega arith) in
    let e = footer 4 (omega arith) in
    let f = footer 5 (omega arith) in
    simp (add_assoc, a, b, c, d, e, f)

module _ (p : ℕ) (x y : List ℕ) (w : Slot) (footer : (k : ℕ) → k < 6 → get_or y (slot_start p w + k) 0 ≡ get_or x (slot_start p w + k) 0) where
  pub same_slot : slot_of p y w ≡ slot_of p x w
  unfolding slot_of
  same_slot = slot_bytes_same w (slot_start p w) x y footer

  pub same_valid : (sum : List ℕ → ℕ) → p ≤ length x → p ≤ length y → ((k : ℕ) → k < (slot_of p x w).len → get_or y k 0 ≡ get_or x k 0) → Valid sum p x w
      → Valid sum p y w
  same_valid sum h g e v =
      let l : (slot_of p y w).len ≡ (slot_of p x w).len = ap (λ (s : ActiveChecksum). s.len) same_slot in
      let c : (slot_of p y w).check ≡ (slot_of p x w).check = ap (λ (s : ActiveChecksum). s.check) same_slot in
      let n = v.high in
      record {
        low = subst (λ m. 0 < m) (sym l) v.low;
        high = subst (λ m. m ≤ p) (sym l) n;
        check = ap (λ m. sum (take m y)) l ∙ ap sum (same_take (slot_of p x w).len x y (omega arith) (omega arith) e) ∙ v.check ∙ sym c;
      }

-- pages of two lists of bytes
module _ (sum : List ℕ → ℕ) (p : ℕ) (s t : List ℕ) (i : ℕ) (w : Slot)
    (in_s : start p i + (p + 12) ≤ length s) (in_t : start p i + (p + 12) ≤ length t)
    (slot_same : (k : ℕ) → k < 6 → get_or t (start p i + (slot_start p w + k)) 0 ≡ get_or s (start p i + (slot_start p w + k)) 0) where
  footer : (k : ℕ) → k < 6 → get_or (page_at p t i) (slot_start p w + k) 0 ≡ get_or (page_at p s i) (slot_start p w + k) 0
  footer k h = let l = slot_inside p w k h in page_byte p t i (slot_start p w + k) l ∙ slot_same k h ∙ sym (page_byte p s i (slot_start p w + k) l)

  pub slot_stays : slot_of p (page_at p t i) w ≡ slot_of p (page_at p s i) w
  slot_stays = same_slot p (page_at p s i) (page_at p t i) w footer

  pub valid_stays : ((k : ℕ) → k < (slot_of p (page_at p s i) w).len → get_or t (start p i + k) 0 ≡ get_or s (start p i + k) 0)
      → Valid sum p (page_at p s i) w → Valid sum p (page_at p t i) w
  valid_stays e v = same_valid p (page_at p s i) (page_at p t i) w footer sum (omega (arith, page_long p s i in_s)) (omega (arith, page_long p t i in_t))
      (λ k h. let l : k < p + 12 = omega (arith, v.high) in page_byte p t i k l ∙ e k h ∙ sym (page_byte p s i k l)) v
