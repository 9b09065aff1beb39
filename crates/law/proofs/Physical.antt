-- What one page that a writer puts out holds.
use Rattle.std.proofs.Common.{◌≡◌, ℕ, zero, suc, ◌+◌, ◌-◌, ◌*◌, ◌/◌, ◌%◌, ◌^◌, ◌<◌, ◌≤◌, ◌⊎◌, List, ◌++◌, length, get_or, take, replicate, Some, None, Option, sym, refl, ap, ◌∙◌, subst, inl, inr, ⊎_elim, add-zero, add_assoc, arith, length-append}
use lib.ListN.{length-replicate}
use Rattle.std.proofs.lemmas.Nat.{shr-shr}
use Rattle.std.proofs.lemmas.List.{get_or_append_left, get_or-append_right, take_all}
use Rattle.checks.specs.Check.{FitsFour}
use Rattle.page.specs.Footer.{beside, footer_bytes, four_at, keeping, other_slot, slot_bytes, slot_in, two_at}
use Rattle.page.specs.Verdict.{cover}
use Rattle.page.specs.declared.footer.Checksum.{Checksum}
use Rattle.page.specs.declared.slot.ActiveChecksum.{ActiveChecksum}
use Rattle.page.specs.declared.slot.Slot.{Slot}
use Rattle.page.specs.declared.slot.Slot.TheVariants.{First, Second}
use Rattle.flush.proofs.Rows.{page_length}
use Rattle.flush.specs.Pages.{physical_page}
use Rattle.plan.specs.Sync.{new_slot}
use Rattle.law.specs.Events.{Bytes}
use Rattle.law.proofs.Places.{other_twice, same_take}
use Rattle.law.proofs.Slots.{Neat, Valid, slot_of, slot_start}
use Rattle.law.proofs.Verdicts.{by_some, longest}

-- four bytes, the highest first
four_steps : (c q r s : ℕ) → q ≡ c / 256 → r ≡ q / 256 → s ≡ r / 256 → c < 2 ^ 32 → (s % 256) * 16777216 + (r % 256) * 65536 + (q % 256) * 256 + c % 256 ≡ c
four_steps c q r s x y z h = omega arith

four_back : (c : ℕ) → c < 2 ^ 32 → (c / 16777216 % 256) * 16777216 + (c / 65536 % 256) * 65536 + (c / 256 % 256) * 256 + c % 256 ≡ c
four_back c h =
    let d : c / 65536 ≡ c / 256 / 256 = sym (shr-shr c 8 8) in
    let e : c / 16777216 ≡ c / 256 / 256 / 256 = sym (ap (λ n. n / 256) (shr-shr c 8 8) ∙ shr-shr c 16 8) in
    four_steps c (c / 256) (c / 65536) (c / 16777216) refl d (e ∙ ap (λ n. n / 256) (sym d)) h

-- the slot w that stands in six bytes
abbrev pub slot_from : Slot → List ℕ → ActiveChecksum
slot_from w s = record { slot = w; len = two_at s 0; check = four_at s 2 }

-- a slot that fits is read back from its bytes
pub decode : (w : Slot) (len check : ℕ) → len < 2 ^ 16 → check < 2 ^ 32 → slot_from w (slot_bytes len check) ≡ record { slot = w; len = len; check = check }
decode w len check l c =
    let a : (len / 256 % 256) * 256 + len % 256 ≡ len = omega arith in
    let b = four_back check c in
    ap (λ n. record { slot = w; len = n; check = four_at (slot_bytes len check) 2 }) a ∙ ap (λ n. record { slot = w; len = len; check = n }) b

top : (a b c d : ℕ) → a < 256 → b < 256 → c < 256 → d < 256 → let n = a * 16777216 + b * 65536 + c * 256 + d in
    (n / 16777216 % 256 ≡ a) × (n / 65536 % 256 ≡ b) × (n / 256 % 256 ≡ c) × (n % 256 ≡ d)
top a b c d e f g h = (omega arith, omega arith, omega arith, omega arith)

four_top : (page : List ℕ) (o : ℕ) → Bytes page → let n = four_at page (o + 2) in
    (n / 16777216 % 256 ≡ get_or page (o + 2) 0) × (n / 65536 % 256 ≡ get_or page (o + 2 + 1) 0) × (n / 256 % 256 ≡ get_or page (o + 2 + 2) 0) ×
    (n % 256 ≡ get_or page (o + 2 + 3) 0)
four_top page o small =
    top (get_or page (o + 2) 0) (get_or page (o + 2 + 1) 0) (get_or page (o + 2 + 2) 0) (get_or page (o + 2 + 3) 0) (small (o + 2)) (small (o + 2 + 1))
    (small (o + 2 + 2)) (small (o + 2 + 3))

-- and bytes are the bytes of the slot that is read from them
pub encode : (page : List ℕ) (o : ℕ) → Bytes page → (k : ℕ) → k < 6 → get_or (slot_bytes (two_at page o) (four_at page (o + 2))) k 0 ≡ get_or page (o + k) 0
encode page o small zero h =
    let a = small o in
    let b = small (o + 1) in
    (let g : (get_or page o 0 * 256 + get_or page (o + 1) 0) / 256 % 256 ≡ get_or page o 0 = omega arith in g) ∙ ap (λ n. get_or page n 0) (sym (add-zero o))
encode page o small (suc zero) h = let a = small o in let b = small (o + 1) in omega arith
encode page o small (suc (suc zero)) h = (four_top page o small).0
encode page o small (suc (suc (suc zero))) h = (four_top page o small).1 ∙ ap (λ n. get_or page n 0) (omega arith)
encode page o small (suc (suc (suc (suc zero)))) h = (four_top page o small).2 ∙ ap (λ n. get_or page n 0) (omega arith)
encode page o small (suc (suc (suc (suc (suc zero))))) h = (four_top page o small).3 ∙ ap (λ n. get_or page n 0) (omega arith)
encode page o small (suc (suc (suc (suc (suc (suc k)))))) h = absurd (omega arith)

-- a slot of a page whose six bytes are these
from_bytes : (w : Slot) (o : ℕ) (x ys : List ℕ) → ((k : ℕ) → k < 6 → get_or x (o + k) 0 ≡ get_or ys k 0)
    → ◌≡◌ {A = ActiveChecksum} (record { slot = w; len = two_at x o; check = four_at x (o + 2) }) (slot_from w ys)
from_bytes w o x ys e =
    let a = ap (λ n. get_or x n 0) (sym (add-zero o)) ∙ e 0 (omega arith) in
    let b = e 1 (omega arith) in
    let c = e 2 (omega arith) in
    let d = e 3 (omega arith) in
    let f = e 4 (omega arith) in
    let g = e 5 (omega arith) in
    simp (add_assoc, a, b, c, d, f, g)

pub slot_reads : (p : ℕ) (x : List ℕ) (w : Slot) (ys : List ℕ) → ((k : ℕ) → k < 6 → get_or x (slot_start p w + k) 0 ≡ get_or ys k 0) → slot_of p x w ≡ slot_from w ys
unfolding slot_of
slot_reads p x w ys e = from_bytes w (slot_start p w) x ys e

-- the bytes of a slot in a page are those of the slot that is read from there
pub slot_encode : (p : ℕ) (page : List ℕ) (w : Slot) → Bytes page → (k : ℕ) → k < 6
    → get_or (slot_bytes (slot_of p page w).len (slot_of p page w).check) k 0 ≡ get_or page (slot_start p w + k) 0
unfolding slot_of
slot_encode p page w small k h = encode page (slot_start p w) small k h

-- the six bytes of each slot of a footer
footer_place : (p : ℕ) (body : List ℕ) → length body ≡ p → (c : Checksum) (w : Slot) (k : ℕ) → k < 6
    → get_or (body ++ footer_bytes c) (slot_start p w + k) 0 ≡ get_or (slot_bytes (slot_in c w).len (slot_in c w).check) k 0
footer_place p body long c First k h =
    get_or-append_right body (footer_bytes c) p (p + 0 + k) 0 long (omega arith)
    ∙ ap (λ n. get_or (footer_bytes c) n 0) (let z : p + 0 + k - p ≡ k = omega arith in z)
    ∙ get_or_append_left (slot_bytes c.len1 c.check1) (slot_bytes c.len2 c.check2) 0 k (omega arith)
footer_place p body long c Second k h =
    get_or-append_right body (footer_bytes c) p (p + 6 + k) 0 long (omega arith)
    ∙ get_or-append_right (slot_bytes c.len1 c.check1) (slot_bytes c.len2 c.check2) 6 (p + 6 + k - p) 0 refl (omega arith)
    ∙ ap (λ n. get_or (slot_bytes c.len2 c.check2) n 0) (let z : p + 6 + k - p - 6 ≡ k = omega arith in z)

-- the slots of a footer that keeps an old one
in_beside_old : (w : Slot) (ol oc l c : ℕ) → slot_in (beside w ol oc l c) w ≡ record { slot = w; len = ol; check = oc }
in_beside_old First ol oc l c = refl
in_beside_old Second ol oc l c = refl

in_beside_new : (w : Slot) (ol oc l c : ℕ) → slot_in (beside w ol oc l c) (other_slot w) ≡ record { slot = other_slot w; len = l; check = c }
in_beside_new First ol oc l c = refl
in_beside_new Second ol oc l c = refl

in_new : (old : Option ActiveChecksum) (l c : ℕ) → slot_in (keeping old l c) (new_slot old) ≡ record { slot = new_slot old; len = l; check = c }
in_new None l c = refl
in_new (Some a) l c = in_beside_new a.slot a.len a.check l c

-- one of the two
pub one_of : (x y w : Slot) → other_slot x ≡ y → (w ≡ x) ⊎ (w ≡ y)
one_of First y First e = inl refl
one_of First y Second e = inr e
one_of Second y First e = inr e
one_of Second y Second e = inl refl

-- an old slot that fits its six bytes, is valid for these bytes and shorter
pub record Older (sum : List ℕ → ℕ) (bytes : List ℕ) (a : ActiveChecksum) : Type 0 where
  pub low : 0 < a.len
  pub shorter : a.len < length bytes
  pub fits : a.check < 2 ^ 32
  pub check : sum (take a.len bytes) ≡ a.check

abbrev pub OlderKept : (List ℕ → ℕ) → List ℕ → Option ActiveChecksum → Type 0
OlderKept sum bytes None = Unit {0}
OlderKept sum bytes (Some a) = Older sum bytes a

module _ (sum : List ℕ → ℕ) (fits : FitsFour sum) (p : ℕ) (small : p ≤ 65535) (bytes : List ℕ) (are : Bytes bytes) (some : 0 < length bytes)
    (few : length bytes ≤ p) where
  padded : length (bytes ++ replicate (p - length bytes) 0) ≡ p
  padded = simp (length-append, length-replicate) (omega arith)

  pub page_data : (old : Option ActiveChecksum) (k : ℕ) → k < length bytes → get_or (physical_page sum p bytes old) k 0 ≡ get_or bytes k 0
  unfolding physical_page
  page_data old k h = get_or_append_left (bytes ++ replicate (p - length bytes) 0) _ 0 k (omega (arith, padded)) ∙ get_or_append_left bytes _ 0 k h

  page_slot : (old : Option ActiveChecksum) (w : Slot) (k : ℕ) → k < 6
      → get_or (physical_page sum p bytes old) (slot_start p w + k) 0 ≡ get_or
      (slot_bytes (slot_in (keeping old (length bytes) (sum bytes)) w).len (slot_in (keeping old (length bytes) (sum bytes)) w).check) k 0
  unfolding physical_page
  page_slot old w k h = footer_place p (bytes ++ replicate (p - length bytes) 0) padded (keeping old (length bytes) (sum bytes)) w k h

  page_take : (old : Option ActiveChecksum) (n : ℕ) → n ≤ length bytes → take n (physical_page sum p bytes old) ≡ take n bytes
  page_take old n h = same_take n bytes (physical_page sum p bytes old) h (omega (arith, page_length sum p bytes old few)) (λ k l. page_data old k (omega arith))

  -- a slot that fits stands in the page
  slot_stands : (old : Option ActiveChecksum) (w : Slot) (l c : ℕ) → slot_in
      (keeping old (length bytes) (sum bytes)) w ≡ record { slot = w; len = l; check = c } → l < 2 ^ 16 → c < 2 ^ 32
      → slot_of p (physical_page sum p bytes old) w ≡ record { slot = w; len = l; check = c }
  slot_stands old w l c e a b =
      slot_reads p (physical_page sum p bytes old) w (slot_bytes l c)
      (λ k h. page_slot old w k h ∙ ap (λ (x : ActiveChecksum). get_or (slot_bytes x.len x.check) k 0) e)
      ∙ decode w l c a b

  new_fits : sum bytes < 2 ^ 32
  new_fits = fits bytes (record { few = omega arith; bytes = are })

  pub new_there : (old : Option ActiveChecksum) → slot_of p (physical_page sum p bytes old)
      (new_slot old) ≡ record { slot = new_slot old; len = length bytes; check = sum bytes }
  new_there old = slot_stands old (new_slot old) (length bytes) (sum bytes) (in_new old (length bytes) (sum bytes)) (omega arith) new_fits

  valid_by : (old : Option ActiveChecksum) (w : Slot) (l c : ℕ) → slot_of p
      (physical_page sum p bytes old) w ≡ record { slot = w; len = l; check = c } → 0 < l → l ≤ length bytes → sum (take l bytes) ≡ c
      → Valid sum p (physical_page sum p bytes old) w
  valid_by old w l c e a b q =
      let x : (slot_of p (physical_page sum p bytes old) w).len ≡ l = ap (λ (s : ActiveChecksum). s.len) e in
      let y : (slot_of p (physical_page sum p bytes old) w).check ≡ c = ap (λ (s : ActiveChecksum). s.check) e in
      record { low = omega arith; high = omega arith; check = ap (λ n. sum (take n (physical_page sum p bytes old))) x ∙ ap sum (page_take old l b) ∙ q ∙ sym y }

  pub new_valid : (old : Option ActiveChecksum) → Valid sum p (physical_page sum p bytes old) (new_slot old)
  new_valid old = valid_by old (new_slot old) (length bytes) (sum bytes) (new_there old) some (omega arith) (ap sum (take_all (length bytes) bytes (omega arith)))

  -- the other slot: zero, or the old one
  other_there : (old : Option ActiveChecksum) → OlderKept sum bytes old → (w : Slot) → other_slot (new_slot old) ≡ w
      → ((slot_of p (physical_page sum p bytes old) w).len ≡ 0) ⊎ (Valid sum p (physical_page sum p bytes old) w ×
      ((slot_of p (physical_page sum p bytes old) w).len ≤ length bytes))
  other_there None o First e = let z : ◌≡◌ {A = ℕ} 0 1 = cc in absurd (omega arith)
  other_there None o Second e = inl (ap (λ (s : ActiveChecksum). s.len) (slot_stands None Second 0 0 refl (omega arith) (omega arith)))
  other_there (Some a) o w e =
      let q : w ≡ a.slot = sym e ∙ other_twice a.slot in
      let s : slot_of p (physical_page sum p bytes (Some a)) a.slot ≡ record { slot = a.slot; len = a.len; check = a.check }
      = slot_stands (Some a) a.slot a.len a.check (in_beside_old a.slot a.len a.check (length bytes) (sum bytes))
      (omega (arith, o.shorter)) o.fits in
      let v = valid_by (Some a) a.slot a.len a.check s o.low (omega (arith, o.shorter)) o.check in
      let l : (slot_of p (physical_page sum p bytes (Some a)) a.slot).len ≡ a.len = ap (λ (x : ActiveChecksum). x.len) s in
      inr (subst (λ z. Valid sum p (physical_page sum p bytes (Some a)) z × ((slot_of p (physical_page sum p bytes (Some a)) z).len ≤ length bytes))
      (sym q) (v, omega (arith, o.shorter)))

  pub new_neat : (old : Option ActiveChecksum) → OlderKept sum bytes old → Neat sum p (physical_page sum p bytes old)
  new_neat old o w = ⊎_elim
      (λ e. inr (subst (Valid sum p (physical_page sum p bytes old)) (sym e) (new_valid old)))
      (λ e. ⊎_elim (λ z. inl z) (λ z. inr z.0) (other_there old o w (sym e)))
      (one_of (new_slot old) (other_slot (new_slot old)) w refl)

  -- no slot is longer than the new one
  pub new_cover : (old : Option ActiveChecksum) → OlderKept sum bytes old → cover sum (physical_page sum p bytes old) ≡ length bytes
  new_cover old o =
      let long = page_length sum p bytes old few in
      let l : (slot_of p (physical_page sum p bytes old) (new_slot old)).len ≡ length bytes = ap (λ (s : ActiveChecksum). s.len) (new_there old) in
      let a = longest sum p (physical_page sum p bytes old) long (new_slot old) (new_valid old) in
      let most : (w : Slot) → (slot_of p (physical_page sum p bytes old) w).len ≤ length bytes = λ w. ⊎_elim
      (λ e. let q = ap (λ z. (slot_of p (physical_page sum p bytes old) z).len) e in omega arith)
      (λ e. ⊎_elim (λ z. omega arith) (λ z. z.1) (other_there old o w (sym e)))
      (one_of (new_slot old) (other_slot (new_slot old)) w refl) in
      ⊎_elim (λ e. omega arith) (λ z. omega (arith, z.1.1, most z.0)) (by_some sum p (physical_page sum p bytes old) long)

  -- the old slot keeps its bytes
  pub old_bytes : (a : ActiveChecksum) (k : ℕ) → k < 6 → get_or (physical_page sum p bytes (Some a)) (slot_start p a.slot + k) 0 ≡ get_or
      (slot_bytes a.len a.check) k 0
  old_bytes a k l = page_slot (Some a) a.slot k l ∙ ap (λ (x : ActiveChecksum). get_or (slot_bytes x.len x.check) k 0)
      (in_beside_old a.slot a.len a.check (length bytes) (sum bytes))
