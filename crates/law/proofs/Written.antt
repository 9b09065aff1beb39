-- Several pages in one write.
use Rattle.std.proofs.Common.{◌≡◌, ℕ, ◌+◌, ◌-◌, ◌*◌, ◌<◌, ◌≤◌, min, max, List, ◌++◌, length, get_or, drop, Option, sym, ap, ◌∙◌, subst, inl, ⊎_elim, arith, length-append, length-drop, length-take, get_or-take}
use Rattle.std.proofs.lemmas.List.{ext_get_or, get_or_append_left, get_or-append_right, get_or-drop, get_or_past}
use Rattle.std.proofs.lemmas.Bool.{cases_lt}
use Rattle.blob.proofs.Pieces.{over_in, over_length, over_out}
use Rattle.blob.specs.Calls.{overwritten}
use Rattle.page.specs.Layout.{page_at, start}
use Rattle.page.specs.declared.slot.ActiveChecksum.{ActiveChecksum}
use Rattle.flush.proofs.Rows.{page_of_length, pages_length, pages_split, part_fits}
use Rattle.flush.specs.Pages.{page_of, part, physical_pages}
use Rattle.law.specs.Events.{Bytes}
use Rattle.law.proofs.Places.{page_byte, page_long, start_less}

pub start_add : (p c k : ℕ) → start p (c + k) ≡ start p c + start p k
unfolding start
start_add p c k = omega arith

pub start_zero : (p : ℕ) → start p 0 ≡ 0
unfolding start
start_zero p = omega arith

module _ (p : ℕ) (tip : List ℕ) (k : ℕ) where
  pub part_long : length (part p tip k) ≡ min p (length tip - k * p)
  unfolding part
  part_long = simp (length-take, length-drop)

  pub part_at : (j : ℕ) → j < length (part p tip k) → get_or (part p tip k) j 0 ≡ get_or tip (k * p + j) 0
  unfolding part
  part_at j h = get_or-take p (drop (k * p) tip) j 0 (omega (arith, part_fits p k tip)) ∙ get_or-drop (k * p) tip j 0

  pub part_bytes : Bytes tip → Bytes (part p tip k)
  part_bytes b j = ⊎_elim
      (λ h. subst (λ n. n < 256) (sym (part_at j h)) (b (k * p + j)))
      (λ h. subst (λ n. n < 256) (sym (get_or_past (part p tip k) j 0 h)) (omega arith))
      (cases_lt j (length (part p tip k)))

module _ (sum : List ℕ → ℕ) (p : ℕ) (tip : List ℕ) (old : Option ActiveChecksum) where
  pub all_long : (n : ℕ) → length (physical_pages sum p tip old n) ≡ start p n
  unfolding start
  all_long n = pages_length sum p tip old n

  pub all_at : (n k j : ℕ) → k < n → j < p + 12 → get_or (physical_pages sum p tip old n) (start p k + j) 0 ≡ get_or (page_of sum p tip old k) j 0
  all_at n k j l q =
      let r = pages_split sum p tip old n k l in
      let m = all_long k in
      let o = page_of_length sum p tip old k in
      ap (λ s. get_or s (start p k + j) 0) r.1
      ∙ get_or_append_left (physical_pages sum p tip old k ++ page_of sum p tip old k) r.0 0 (start p k + j) (simp length-append (omega arith))
      ∙ get_or-append_right (physical_pages sum p tip old k) (page_of sum p tip old k) (start p k) (start p k + j) 0 m (omega arith)
      ∙ ap (λ i. get_or (page_of sum p tip old k) i 0) (omega arith)

  -- the bytes after such a write
  module _ (s : List ℕ) (c n : ℕ) (from : start p c ≤ length s) where
    pub after_long : length (overwritten s (start p c) (physical_pages sum p tip old n)) ≡ max (length s) (start p (c + n))
    after_long = over_length s (start p c) (physical_pages sum p tip old n) from
        ∙ ap (λ m. max (length s) m) (ap (λ m. start p c + m) (all_long n) ∙ sym (start_add p c n))

    pub page_before : (i : ℕ) → i < c → page_at p (overwritten s (start p c) (physical_pages sum p tip old n)) i ≡ page_at p s i
    page_before i l =
        let a = start_less p i c l in
        let x = page_long p (overwritten s (start p c) (physical_pages sum p tip old n)) i (omega (arith, after_long)) in
        let y = page_long p s i (omega arith) in
        ext_get_or 0 _ _ (x ∙ sym y)
        (λ j q. let r : j < p + 12 = omega arith in
        page_byte p (overwritten s (start p c) (physical_pages sum p tip old n)) i j r
        ∙ over_out s (start p c) (physical_pages sum p tip old n) from (start p i + j) (inl (omega arith)) ∙ sym (page_byte p s i j r))

    pub page_new : (k : ℕ) → k < n → page_at p (overwritten s (start p c) (physical_pages sum p tip old n)) (c + k) ≡ page_of sum p tip old k
    page_new k l =
        let a = start_less p k n l in
        let b = start_add p c k in
        let d = start_add p c n in
        let e = all_long n in
        let x = page_long p (overwritten s (start p c) (physical_pages sum p tip old n)) (c + k) (omega (arith, after_long)) in
        let y = page_of_length sum p tip old k in
        ext_get_or 0 _ _ (x ∙ sym y)
        (λ j q. let r : j < p + 12 = omega arith in
        page_byte p (overwritten s (start p c) (physical_pages sum p tip old n)) (c + k) j r
        ∙ over_in s (start p c) (physical_pages sum p tip old n) from (start p (c + k) + j) (omega arith) (omega arith)
        ∙ ap (λ m. get_or (physical_pages sum p tip old n) m 0) (omega arith) ∙ all_at n k j l r)
