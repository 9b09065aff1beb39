-- Rows of blob calls, taken apart.
use Rattle.std.proofs.Common.{◌≡◌, ℕ, ◌⊎◌, List, [], ◌∷◌, ◌++◌, Ok, Err, Result, sym, refl, ◌∙◌, subst, inl, inr, ⊎_elim}
use Rattle.blob.specs.Calls.{Read, SettleDone, Settling, WriteDone, Wrote, overwritten}
use Rattle.blob.specs.Value.{BlobValue, Settled, Sound}
use Rattle.blob.specs.declared.Fault.{Fault}
use Rattle.paged.specs.Rows.{Carried, Faulted, Op, ReadStopped, RejectStopped, WriteStopped, settles, writes}
use Rattle.paged.specs.declared.refusal.BlobCall.{BlobCall}
use Rattle.paged.specs.declared.refusal.StateRefusal.{StateRefusal}
use Rattle.paged.specs.declared.refusal.StateRefusal.TheVariants.{CallFailed, CeilingPassed, PagePastEnd, PageRejected}
use Rattle.law.specs.Log.{Place}
use Rattle.law.proofs.Guard.{Guard}
use Rattle.law.proofs.Kept.{settle_keeps}
use Rattle.paged.specs.declared.refusal.BlobCall.TheVariants.{Settle as settle_call}

pub ran_split : (v u : BlobValue) (a b : List Op) → Carried v (a ++ b) u (Ok tt) → (m : BlobValue) × (Carried v a m (Ok tt) × Carried m b u (Ok tt))
ran_split v u [] b d = (v, (refl, d))
ran_split v u (op ∷ a) b d = let x = ran_split d.0 u a b d.1.2 in (x.0, ((d.0, (d.1.0, d.1.1, x.1.0)), x.1.1))

pub stopped_split : (v u : BlobValue) (k : StateRefusal) (a b : List Op) → Carried v (a ++ b) u (Err k)
    → Carried v a u (Err k) ⊎ ((m : BlobValue) × (Carried v a m (Ok tt) × Carried m b u (Err k)))
stopped_split v u k [] b d = inr (v, (refl, d))
stopped_split v u k (op ∷ a) b (inl d) = inl (inl d)
stopped_split v u k (op ∷ a) b (inr d) = ⊎_elim
    (λ x. inl (inr (d.0, (d.1.0, d.1.1, x))))
    (λ x. inr (x.0, ((d.0, (d.1.0, d.1.1, x.1.0)), x.1.1)))
    (stopped_split d.0 u k a b d.1.2)

-- what holds of a blob as it was, and of whatever a call leaves, holds where a row stopped at that call
module _ (P : BlobValue → Type 0) (v u : BlobValue) (here : P v) where
  pub write_stop : (o : ℕ) (bs : List ℕ) (k : StateRefusal) → ((r : Result (Unit {0}) Fault) → Wrote v o bs u r → P u) → WriteStopped v o bs u k → P u
  write_stop o bs CeilingPassed f d = subst P (sym d.1) here
  write_stop o bs (CallFailed c at) f d = f (Err d.1.2.0) d.1.2.1
  write_stop o bs PageRejected f d = absurd d
  write_stop o bs PagePastEnd f d = absurd d

  pub read_stop : (o n : ℕ) (k : StateRefusal) → ((before after : List ℕ) (r : Result (Unit {0}) Fault) → Read v o before after u r → P u)
      → ReadStopped v o n u k → P u
  read_stop o n PagePastEnd f d = subst P (sym d.1) here
  read_stop o n (CallFailed c at) f d = let x = d.1.2 in f x.1.0 x.1.1 (Err x.0) x.1.3
  read_stop o n PageRejected f d = absurd d
  read_stop o n CeilingPassed f d = absurd d

  pub reject_stop : (k : StateRefusal) → RejectStopped v u k → P u
  reject_stop PageRejected d = subst P (sym d) here
  reject_stop CeilingPassed d = absurd d
  reject_stop (CallFailed c at) d = absurd d
  reject_stop PagePastEnd d = absurd d

pub fault_stop : (call : BlobCall) (at : ℕ) (F : Fault → Type 0) (k : StateRefusal) → Faulted call at F k → (fault : Fault) × F fault
fault_stop call at F (CallFailed c o) d = d.2
fault_stop call at F CeilingPassed d = absurd d
fault_stop call at F PageRejected d = absurd d
fault_stop call at F PagePastEnd d = absurd d

-- a settled blob that shows s and guards the promise
pub record Stage (sum : List ℕ → ℕ) (p : ℕ) (promise : List Place) (s : List ℕ) (x : BlobValue) : Type 0 where
  pub sound : Sound x
  pub settled : Settled x
  pub guard : Guard sum p x promise
  pub shows : x.shown ≡ s

-- a row of one write, and a write with a settle behind it
module _ (sum : List ℕ → ℕ) (p : ℕ) (promise : List Place) (v : BlobValue) (o : ℕ) (bs : List ℕ) (now : Guard sum p v promise)
    (g : (y : BlobValue) (r : Result (Unit {0}) Fault) → Wrote v o bs y r → Guard sum p y promise) where
  pub one_stopped : (u : BlobValue) (k : StateRefusal) → Carried v (writes o bs ∷ []) u (Err k) → Sound u × Guard sum p u promise
  one_stopped u k (inl d) = (d.0, write_stop (λ x. Guard sum p x promise) v u now o bs k (g u) d.1)
  one_stopped u k (inr d) = absurd d.1.2

  stored : (m x : BlobValue) → WriteDone v m o bs → Sound x → SettleDone m x → Stage sum p promise (overwritten v.shown o bs) x
  stored m x done s fixed =
      record {
        sound = s;
        settled = fixed.settled;
        guard = settle_keeps sum p m x promise (Ok tt) s fixed (g m (Ok tt) done);
        shows = fixed.shows
            ∙ done.shows;
      }

  pub two_ran : (u : BlobValue) (ops : List Op) → Carried v (writes o bs ∷ settles ∷ ops) u (Ok tt)
      → (x : BlobValue) × (Stage sum p promise (overwritten v.shown o bs) x × Carried x ops u (Ok tt))
  two_ran u ops d = let e = d.1.2 in (e.0, (stored d.0 e.0 d.1.1 e.1.0 e.1.1, e.1.2))

  pub two_stopped : (u : BlobValue) (k : StateRefusal) (ops : List Op) → Carried v (writes o bs ∷ settles ∷ ops) u (Err k)
      → (Sound u × Guard sum p u promise) ⊎ ((x : BlobValue) × (Stage sum p promise (overwritten v.shown o bs) x × Carried x ops u (Err k)))
  two_stopped u k ops (inl d) = inl (d.0, write_stop (λ x. Guard sum p x promise) v u now o bs k (g u) d.1)
  two_stopped u k ops (inr d) = ⊎_elim
      (λ y. let z = fault_stop settle_call 0 (λ fault. Settling d.0 u (Err fault)) k y.1 in
      inl (y.0, settle_keeps sum p d.0 u promise (Err z.0) y.0 z.1 (g d.0 (Ok tt) d.1.1)))
      (λ e. inr (e.0, (stored d.0 e.0 d.1.1 e.1.0 e.1.1, e.1.2)))
      d.1.2
