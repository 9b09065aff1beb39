-- The two facts about a verdict from which all else follows: a valid slot is covered, and what is covered is covered by a valid slot.
use Rattle.std.proofs.Common.{◌≡◌, ℕ, ◌+◌, ◌-◌, ◌<◌, ◌≤◌, true, eqb, ltb, leb, ◌⊎◌, List, length, take, sym, refl, ap, ◌∙◌, subst, inl, inr, ⊎_elim, add-zero, add_assoc, arith, length-take}
use Rattle.std.proofs.lemmas.List.{take-take}
use Rattle.std.proofs.lemmas.Bool.{cond-true, cond-false, cond_both, and_parts, and_from, ltb-true, leb-true, leb-false, eqb-true, eqb-false, cases_lt, lt-ltb, le-leb, eq-eqb, le-ltb}
use Rattle.page.specs.declared.slot.Slot.{Slot}
use Rattle.page.specs.declared.slot.Slot.TheVariants.{First, Second}
use Rattle.page.specs.declared.slot.ActiveChecksum.{ActiveChecksum}
use Rattle.page.specs.Footer.{other_slot, footer_at, slot_in, longer_slot}
use Rattle.page.specs.Verdict.{Judged, rejected, partial, full, extent, valid, covered, first_valid, by_footer, verdict_of, cover}
use Rattle.law.proofs.Slots.{slot_of, Valid}

module _ (sum : List ℕ → ℕ) (p : ℕ) (page : List ℕ) (long : length page ≡ p + 12) where
  data_long : length (take p page) ≡ p
  data_long = simp length-take (omega arith)

  extent_covered : (a : ActiveChecksum) → extent (covered (take p page) a) ≡ a.len
  extent_covered a = cond_both (eqb a.len (length (take p page))) _ _ (λ x. extent x ≡ a.len) (λ _. refl) (λ _. refl)

  -- the test in the verdict is the record, both ways
  to_test : (w : Slot) → Valid sum p page w → valid sum (take p page) (slot_of p page w) ≡ true
  to_test w h =
      and_from _ _ (lt-ltb _ _ h.low) (and_from _ _ (le-leb _ _ (subst (λ n. (slot_of p page w).len ≤ n) (sym data_long) h.high))
      (eq-eqb _ _ (ap sum (take-take _ _ page h.high) ∙ h.check)))

  from_test : (w : Slot) → valid sum (take p page) (slot_of p page w) ≡ true → Valid sum p page w
  from_test w t =
      let a = and_parts (ltb 0 (slot_of p page w).len) _ t in
      let b = and_parts (leb (slot_of p page w).len (length (take p page))) _ a.1 in
      let l : (slot_of p page w).len ≤ p = subst (λ n. (slot_of p page w).len ≤ n) data_long (leb-true _ _ b.0) in
      record { low = ltb-true _ _ a.0; high = l; check = ap sum (sym (take-take _ _ page l)) ∙ eqb-true _ _ b.1 }

  in_footer : (w : Slot) → slot_in (footer_at page p) w ≡ slot_of p page w
  unfolding slot_of
  in_footer First = simp add-zero
  in_footer Second = simp add_assoc

  -- the verdict that judges the slot w first
  by : Slot → Judged
  by w = first_valid sum (take p page) (slot_of p page w) (slot_of p page (other_slot w))

  judged : verdict_of sum page ≡ by (longer_slot (footer_at page p))
  unfolding by
  judged =
      let n : length page - 12 ≡ p = omega arith in
      cond-false (ltb (length page) 12) _ _ (le-ltb _ _ (omega arith)) ∙ ap (λ m. by_footer sum (take m page) (footer_at page m)) n
      ∙ (let w = longer_slot (footer_at page p) in ap (λ x. first_valid sum (take p page) x (slot_in (footer_at page p) (other_slot w))) (in_footer w)
      ∙ ap (first_valid sum (take p page) (slot_of p page w)) (in_footer (other_slot w)))

  -- what holds whichever slot is judged first holds of the verdict
  by_longer : (P : Judged → Type 0) → ((slot_of p page Second).len ≤ (slot_of p page First).len → P (by First))
      → ((slot_of p page First).len < (slot_of p page Second).len → P (by Second)) → P (verdict_of sum page)
  by_longer P a b =
      let one : (footer_at page p).len1 ≡ (slot_of p page First).len = ap (λ (x : ActiveChecksum). x.len) (in_footer First) in
      let two : (footer_at page p).len2 ≡ (slot_of p page Second).len = ap (λ (x : ActiveChecksum). x.len) (in_footer Second) in
      subst P (sym judged) (cond_both (leb (footer_at page p).len2 (footer_at page p).len1) First Second (λ w. P (by w))
      (λ e. a (omega (arith, leb-true (footer_at page p).len2 (footer_at page p).len1 e, one, two)))
      (λ e. b (omega (arith, leb-false (footer_at page p).len2 (footer_at page p).len1 e, one, two))))

  -- a slot that is judged, first or after a longer one
  early : (a b : ActiveChecksum) → valid sum (take p page) a ≡ true → extent (first_valid sum (take p page) a b) ≡ a.len
  early a b h = ap extent (cond-true (valid sum (take p page) a) _ _ h) ∙ extent_covered a

  late : (a b : ActiveChecksum) → b.len ≤ a.len → valid sum (take p page) b ≡ true → b.len ≤ extent (first_valid sum (take p page) a b)
  late a b l h = cond_both (valid sum (take p page) a) _ _ (λ x. b.len ≤ extent x)
      (λ _. subst (λ n. b.len ≤ n) (sym (extent_covered a)) l)
      (λ _. let e = ap extent (cond-true (valid sum (take p page) b) (covered (take p page) b) rejected h) ∙ extent_covered b in omega (arith, e))

  pub longest : (w : Slot) → Valid sum p page w → (slot_of p page w).len ≤ cover sum page
  unfolding cover by
  longest First h =
      let t = to_test First h in
      by_longer (λ x. (slot_of p page First).len ≤ extent x)
      (λ _. omega (arith, early (slot_of p page First) (slot_of p page Second) t))
      (λ l. late (slot_of p page Second) (slot_of p page First) (omega arith) t)
  longest Second h =
      let t = to_test Second h in
      by_longer (λ x. (slot_of p page Second).len ≤ extent x)
      (λ l. late (slot_of p page First) (slot_of p page Second) l t)
      (λ _. omega (arith, early (slot_of p page Second) (slot_of p page First) t))

  -- what a verdict covers is covered by a valid slot
  SomeSlot : ℕ → Type 0
  SomeSlot n = (n ≡ 0) ⊎ ((w : Slot) × (Valid sum p page w × ((slot_of p page w).len ≡ n)))

  either : (w v : Slot) → SomeSlot (extent (first_valid sum (take p page) (slot_of p page w) (slot_of p page v)))
  unfolding SomeSlot
  either w v = cond_both (valid sum (take p page) (slot_of p page w)) _ _ (λ x. SomeSlot (extent x))
      (λ h. inr (w, (from_test w h, sym (extent_covered _))))
      (λ _. cond_both (valid sum (take p page) (slot_of p page v)) _ _ (λ x. SomeSlot (extent x))
      (λ h. inr (v, (from_test v h, sym (extent_covered _))))
      (λ _. inl refl))

  pub by_some : (cover sum page ≡ 0) ⊎ ((w : Slot) × (Valid sum p page w × ((slot_of p page w).len ≡ cover sum page)))
  unfolding cover SomeSlot by
  by_some = by_longer (λ x. SomeSlot (extent x)) (λ _. either First Second) (λ _. either Second First)

  -- what a verdict says of the slot that it names
  unfoldable pub Told : Judged → Type 0
  Told rejected = Unit {0}
  Told (partial a part) = (slot_of p page a.slot ≡ a) × Valid sum p page a.slot × (a.len < p) × (part ≡ take a.len page)
  Told (full a part) = (slot_of p page a.slot ≡ a) × Valid sum p page a.slot × (a.len ≡ p)

  named : (w : Slot) → (slot_of p page w).slot ≡ w
  unfolding slot_of
  named w = refl

  told_covered : (w : Slot) → Valid sum p page w → Told (covered (take p page) (slot_of p page w))
  unfolding Told
  told_covered w h =
      let l = h.high in
      let here : slot_of p page (slot_of p page w).slot ≡ slot_of p page w = ap (slot_of p page) (named w) in
      let good : Valid sum p page (slot_of p page w).slot = subst (Valid sum p page) (sym (named w)) h in
      cond_both (eqb (slot_of p page w).len (length (take p page))) _ _ Told
      (λ e. (here, good, eqb-true _ _ e ∙ data_long))
      (λ e. (
        here,
        good,
        ⊎_elim (λ y. y) (λ (y : p ≤ (slot_of p page w).len). absurd (eqb-false _ _ e (sym (data_long ∙ omega arith))))
            (cases_lt (slot_of p page w).len p),
        take-take _ _ page l,
      ))

  told_first : (w v : Slot) → Told (first_valid sum (take p page) (slot_of p page w) (slot_of p page v))
  unfolding Told
  told_first w v = cond_both (valid sum (take p page) (slot_of p page w)) _ _ Told
      (λ h. told_covered w (from_test w h))
      (λ _. cond_both (valid sum (take p page) (slot_of p page v)) _ _ Told (λ h. told_covered v (from_test v h)) (λ _. tt))

  pub verdict_told : Told (verdict_of sum page)
  unfolding by
  verdict_told = by_longer Told (λ _. told_first First Second) (λ _. told_first Second First)
