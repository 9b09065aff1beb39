-- One altered byte of a page.
use Rattle.std.proofs.Common.{◌≡◌, ℕ, ◌+◌, ◌<◌, ◌≤◌, List, length, get_or, take, sym, ap, ◌∙◌, subst, ⊎_elim, arith, length-take}
use Rattle.std.proofs.lemmas.List.{get_or_past, get_or-take}
use Rattle.std.proofs.lemmas.Bool.{cases_lt}
use Rattle.checks.specs.Check.{OneDiffers, PageBytes, TellsOne}
use Rattle.page.specs.Verdict.{cover}
use Rattle.page.specs.declared.slot.ActiveChecksum.{ActiveChecksum}
use Rattle.law.proofs.Kept.{slot_behind}
use Rattle.law.proofs.Places.{same_slot}
use Rattle.law.proofs.Slots.{Neat, slot_of, slot_start}
use Rattle.law.proofs.Verdicts.{by_some}

pub bytes_take : (n : ℕ) (x : List ℕ) → n ≤ 65535 → ((k : ℕ) → get_or x k 0 < 256) → PageBytes (take n x)
bytes_take n x l h = record {
  few = simp length-take (omega arith);
  bytes = λ k. ⊎_elim (λ d. subst (λ m. m < 256) (sym (get_or-take n x k 0 d)) (h k))
      (λ (d : n ≤ k). subst (λ m. m < 256) (sym (get_or_past (take n x) k 0 (simp length-take (omega arith)))) (omega arith)) (cases_lt k n);
}

module _ (sum : List ℕ → ℕ) (law : TellsOne sum) (p : ℕ) (small : p ≤ 65535) (x y : List ℕ) (in_x : length x ≡ p + 12) (in_y : length y ≡ p + 12)
    (bytes_x : (k : ℕ) → get_or x k 0 < 256) (bytes_y : (k : ℕ) → get_or y k 0 < 256) (j : ℕ) (inside : j < p)
    (differ : get_or y j 0 ≡ get_or x j 0 → ⊥) (same : (k : ℕ) → (k ≡ j → ⊥) → get_or y k 0 ≡ get_or x k 0) where
  apart : (n : ℕ) → j < n → n ≤ p → OneDiffers (take n y) (take n x)
  apart n h l = record {
    long = simp length-take (omega arith);
    place = j;
    inside = simp length-take (omega arith);
    differ = λ e. differ (sym (get_or-take n y j 0 h) ∙ e ∙ get_or-take n x j 0 h);
    same = λ k d. ⊎_elim
        (λ q. get_or-take n y k 0 q ∙ same k d ∙ sym (get_or-take n x k 0 q))
        (λ (q : n ≤ k). get_or_past (take n y) k 0 (simp length-take (omega arith)) ∙ sym (get_or_past (take n x) k 0 (simp length-take (omega arith))))
        (cases_lt k n);
  }

  pub altered : Neat sum p x → cover sum y ≤ j
  altered neat = ⊎_elim (λ e. omega arith)
      (λ z.
      let w = z.0 in
      let v = z.1.0 in
      let slots = same_slot p x y w (λ k h. same (slot_start p w + k) (λ e. absurd (omega (arith, slot_behind p w)))) in
      let l : (slot_of p y w).len ≡ (slot_of p x w).len = ap (λ (s : ActiveChecksum). s.len) slots in
      let c : (slot_of p y w).check ≡ (slot_of p x w).check = ap (λ (s : ActiveChecksum). s.check) slots in
      ⊎_elim
      (λ h. ⊎_elim
      (λ e. absurd (omega arith))
      (λ u. absurd (law (take (slot_of p y w).len y) (take (slot_of p y w).len x)
      (bytes_take (slot_of p y w).len y (omega (arith, v.high)) bytes_y) (bytes_take (slot_of p y w).len x (omega (arith, v.high)) bytes_x)
      (apart (slot_of p y w).len h v.high)
      (v.check ∙ c ∙ sym u.check ∙ ap (λ n. sum (take n x)) (sym l))))
      (neat w))
      (λ h. omega (arith, z.1.1))
      (cases_lt j (slot_of p y w).len))
      (by_some sum p y in_y)
