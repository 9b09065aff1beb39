-- The three settled writes of a truncation into a page.
use Rattle.std.proofs.Common.{◌≡◌, ℕ, zero, suc, ◌+◌, ◌<◌, ◌≤◌, List, length, get_or, take, sym, ap, ◌∙◌, subst, inl, inr, ⊎_elim, arith}
use Rattle.checks.specs.Check.{FitsFour}
use Rattle.blob.specs.Calls.{overwritten}
use Rattle.page.specs.Footer.{other_slot, slot_bytes, two_bytes}
use Rattle.page.specs.Layout.{page_at, start}
use Rattle.page.specs.Verdict.{cover}
use Rattle.page.specs.declared.slot.ActiveChecksum.{ActiveChecksum}
use Rattle.page.specs.declared.slot.Slot.{Slot}
use Rattle.law.specs.Events.{Bytes}
use Rattle.law.proofs.Altered.{bytes_take}
use Rattle.law.proofs.Cut.{data_stays, slot_before, slot_beside, slot_long, slot_new, slot_rest}
use Rattle.law.proofs.Physical.{decode, one_of, slot_reads}
use Rattle.law.proofs.Places.{page_byte, page_long, same_take, slot_inside, slot_stays, valid_stays}
use Rattle.law.proofs.Slots.{Neat, Valid, slot_of, slot_start}
use Rattle.law.proofs.Verdicts.{by_some, longest}

module _ (sum : List ℕ → ℕ) (fits : FitsFour sum) (p : ℕ) (small : p ≤ 65535) (s : List ℕ) (c r : ℕ) (a b : Slot) (ab : other_slot a ≡ b) (ba : other_slot b ≡ a)
    (whole : start p c + (p + 12) ≤ length s) (are : Bytes (page_at p s c)) (some : 0 < r) (less : r < p) where
  abbrev check : ℕ
  check = sum (take r (page_at p s c))

  -- the bytes after each of the writes
  abbrev s1 : List ℕ
  s1 = overwritten s (start p c + slot_start p b) (slot_bytes 0 check)

  abbrev s2 : List ℕ
  s2 = overwritten s1 (start p c + slot_start p b) (two_bytes r)

  abbrev s3 : List ℕ
  s3 = overwritten s2 (start p c + slot_start p a) (slot_bytes 0 0)

  whole1 : start p c + (p + 12) ≤ length s1
  whole1 = omega (arith, slot_long p s c b (slot_bytes 0 check) (omega arith) whole)

  whole2 : start p c + (p + 12) ≤ length s2
  whole2 = omega (arith, slot_long p s1 c b (two_bytes r) (omega arith) whole1, whole1)

  pub whole3 : start p c + (p + 12) ≤ length s3
  whole3 = omega (arith, slot_long p s2 c a (slot_bytes 0 0) (omega arith) whole2, whole2)

  pub long3 : length s3 ≡ length s
  long3 = slot_long p s2 c a (slot_bytes 0 0) (omega arith) whole2 ∙ slot_long p s1 c b (two_bytes r) (omega arith) whole1
      ∙ slot_long p s c b (slot_bytes 0 check) (omega arith) whole

  same1 : (k : ℕ) → k < start p c + p → get_or s1 k 0 ≡ get_or s k 0
  same1 k h = slot_before p s c b (slot_bytes 0 check) (omega arith) whole k h

  same2 : (k : ℕ) → k < start p c + p → get_or s2 k 0 ≡ get_or s k 0
  same2 k h = slot_before p s1 c b (two_bytes r) (omega arith) whole1 k h ∙ same1 k h

  before3 : (k : ℕ) → k < start p c + p → get_or s3 k 0 ≡ get_or s2 k 0
  before3 k h = slot_before p s2 c a (slot_bytes 0 0) (omega arith) whole2 k h

  pub same3 : (k : ℕ) → k < start p c + p → get_or s3 k 0 ≡ get_or s k 0
  same3 k h = before3 k h ∙ same2 k h

  old1 : (k : ℕ) → k < 6 → get_or s1 (start p c + (slot_start p a + k)) 0 ≡ get_or s (start p c + (slot_start p a + k)) 0
  old1 k h = slot_beside p s c b (slot_bytes 0 check) (omega arith) whole a ab k h

  -- the new slot's bytes after the second write
  new2 : (k : ℕ) → k < 6 → get_or s2 (start p c + (slot_start p b + k)) 0 ≡ get_or (slot_bytes r check) k 0
  new2 zero h = slot_new p s1 c b (two_bytes r) (omega arith) whole1 zero (omega arith)
  new2 (suc zero) h = slot_new p s1 c b (two_bytes r) (omega arith) whole1 (suc zero) (omega arith)
  new2 (suc (suc k)) h = slot_rest p s1 c b (two_bytes r) (omega arith) whole1 (suc (suc k)) (omega arith)
      ∙ slot_new p s c b (slot_bytes 0 check) (omega arith) whole (suc (suc k)) h

  slot2 : slot_of p (page_at p s2 c) b ≡ record { slot = b; len = r; check = check }
  slot2 = slot_reads p (page_at p s2 c) b (slot_bytes r check) (λ k h. page_byte p s2 c (slot_start p b + k) (slot_inside p b k h) ∙ new2 k h)
      ∙ decode b r check (omega arith) (fits (take r (page_at p s c)) (bytes_take r (page_at p s c) (omega arith) are))

  pub len2 : (slot_of p (page_at p s2 c) b).len ≡ r
  len2 = ap (λ (x : ActiveChecksum). x.len) slot2

  pub valid2 : Valid sum p (page_at p s2 c) b
  valid2 =
      let q : (slot_of p (page_at p s2 c) b).check ≡ sum (take r (page_at p s c)) = ap (λ (x : ActiveChecksum). x.check) slot2 in
      record {
        low = omega (arith, len2);
        high = omega (arith, len2);
        check = ap (λ n. sum (take n (page_at p s2 c))) len2
            ∙ ap sum (same_take r (page_at p s c) (page_at p s2 c) (omega (arith, page_long p s c whole)) (omega (arith, page_long p s2 c whole2))
            (λ k h. data_stays p s s2 c whole whole2 same2 k (omega arith)))
            ∙ sym q;
      }

  six3 : (k : ℕ) → k < 6 → get_or s3 (start p c + (slot_start p b + k)) 0 ≡ get_or s2 (start p c + (slot_start p b + k)) 0
  six3 k h = slot_beside p s2 c a (slot_bytes 0 0) (omega arith) whole2 b ba k h

  pub slot3 : slot_of p (page_at p s3 c) b ≡ record { slot = b; len = r; check = check }
  slot3 = slot_stays sum p s2 s3 c b whole2 whole3 six3 ∙ slot2

  pub valid3 : Valid sum p (page_at p s3 c) b
  valid3 = valid_stays sum p s2 s3 c b whole2 whole3 six3 (λ k h. before3 (start p c + k) (omega (arith, len2))) valid2

  zero3 : (slot_of p (page_at p s3 c) a).len ≡ 0
  zero3 = ap (λ (x : ActiveChecksum). x.len) (slot_reads p (page_at p s3 c) a (slot_bytes 0 0)
      (λ k h. page_byte p s3 c (slot_start p a + k) (slot_inside p a k h) ∙ slot_new p s2 c a (slot_bytes 0 0) (omega arith) whole2 k h))

  pub neat3 : Neat sum p (page_at p s3 c)
  neat3 w = ⊎_elim
      (λ e. inl (ap (λ x. (slot_of p (page_at p s3 c) x).len) e ∙ zero3))
      (λ e. inr (subst (Valid sum p (page_at p s3 c)) (sym e) valid3))
      (one_of a b w ab)

  pub cover3 : cover sum (page_at p s3 c) ≡ r
  cover3 =
      let l : (slot_of p (page_at p s3 c) b).len ≡ r = ap (λ (x : ActiveChecksum). x.len) slot3 in
      let m = longest sum p (page_at p s3 c) (page_long p s3 c whole3) b valid3 in
      ⊎_elim (λ e. omega arith)
      (λ z. ⊎_elim
      (λ (e : z.0 ≡ a). let q = subst (λ w. (slot_of p (page_at p s3 c) w).len ≡ cover sum (page_at p s3 c)) e z.1.1 in omega (arith, zero3))
      (λ (e : z.0 ≡ b). let q = subst (λ w. (slot_of p (page_at p s3 c) w).len ≡ cover sum (page_at p s3 c)) e z.1.1 in omega arith)
      (one_of a b z.0 ab))
      (by_some sum p (page_at p s3 c) (page_long p s3 c whole3))

  -- the old slot is valid until the new one is
  pub valid1 : Valid sum p (page_at p s c) a → Valid sum p (page_at p s1 c) a
  valid1 good = valid_stays sum p s s1 c a whole whole1 old1 (λ k h. same1 (start p c + k) (omega (arith, good.high))) good

  pub slot1 : slot_of p (page_at p s1 c) a ≡ slot_of p (page_at p s c) a
  slot1 = slot_stays sum p s s1 c a whole whole1 old1
