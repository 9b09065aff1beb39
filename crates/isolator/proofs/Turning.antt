-- Turning the isolator, step by step.
use Rattle.std.proofs.Common.{◌≡◌, ℕ, ◌+◌, ◌-◌, ◌<◌, ◌≤◌, min, List, length, take, drop, Some, Option, sym, ap, ◌∙◌, subst, ⊎_elim, arith}
use Rattle.std.proofs.lemmas.List.{drop_all, take_rest}
use Rattle.std.proofs.lemmas.Bool.{cases_lt}
use Rattle.blob.specs.Value.{BlobValue}
use Rattle.blob.specs.Calls.{Restarted}
use Rattle.checks.specs.Crc.{crc32c}
use Rattle.plan.specs.Open.{open_plan}
use Rattle.writer.specs.Calls.{Done}
use Rattle.lifts.specs.declared.lift.Lift.{Lift}
use Rattle.isolator.specs.Sessions.{Session}
use Rattle.lifts.specs.declared.store.Pages.{Pages}
use Rattle.isolator.specs.declared.trial.Count.{Count}
use Rattle.isolator.specs.declared.trial.Outcome.{Outcome}
use Rattle.isolator.specs.declared.trial.Progress.{Progress}
use Rattle.lifts.specs.Pages.{Holds}
use Rattle.lifts.specs.Records.{records}
use Rattle.isolator.specs.Trials.{Judged, worse_of, counted_in}
use Rattle.isolator.specs.Turns.{Shows, WentOn, CameBack, Turned, Turns, more}

-- reading back leaves the blob as the opening left it
pub shows : (v m w : BlobValue) (s : Session) (ls : List Lift) (pages : Pages) → Done (open_plan crc32c 96 288 v.shown) 96 v s.tip s.log m
    → Holds 96 m.shown (records ls) pages → w ≡ m → Shows v ls w
shows v m w s ls pages d h e = subst (λ u. Shows v ls u) (sym e) (record { opened = s; opening = d; pages = pages; held = h })

drop_min : (n : ℕ) (s : List Lift) → drop (min n (length s)) s ≡ drop n s
drop_min n s =
    ⊎_elim (λ (h : n < length s). let e : min n (length s) ≡ n = omega arith in ap (λ k. drop k s) e)
    (λ (h : length s ≤ n). drop_all (min n (length s)) s (omega arith) ∙ sym (drop_all n s h))
    (cases_lt n (length s))

-- what is left of the shift behind the lifts that are shown
pub rest_of : (s lifts : List Lift) (n k : ℕ) → n ≡ length lifts → k ≡ min n (length s) → take (length s - k) (drop k s) ≡ drop (length lifts) s
rest_of s lifts n k e f = take_rest s k ∙ ap (λ m. drop m s) f ∙ drop_min n s ∙ ap (λ m. drop m s) e

pub came_back : (v u w : BlobValue) (shift lifts seen rest : List Lift) (bytes : List ℕ) (p : Progress) (first second o : Outcome)
    → Restarted v u → Shows u lifts w → seen ≡ lifts → Judged shift seen p.synced p.begun first
    → bytes ≡ w.shown → rest ≡ drop (length lifts) shift → WentOn bytes rest shift second → o ≡ worse_of first second → CameBack v shift p o
came_back v u w shift lifts seen rest bytes p first second o r s e j f g h k = record {
  restarted = u;
  restart = r;
  lifts = lifts;
  end = w;
  shows = s;
  first = first;
  judged = subst (λ ls. Judged shift ls p.synced p.begun first) e j;
  second = second;
  went_on = subst (λ bs. WentOn bs (drop (length lifts) shift) shift second) f (subst (λ ls. WentOn bytes ls shift second) g h);
  worse = k;
}

-- one cut more
pub cut_more : (pattern : List ℕ) (shift : List Lift) (n : ℕ) (c d : Count) (found : Option Outcome) (o : Outcome)
    → Turns pattern shift n c → Turned n pattern shift found → found ≡ Some o → d ≡ counted_in c o → Turns pattern shift (n + 1) d
cut_more pattern shift n c d found o before here e f =
    subst (λ x. Turns pattern shift (n + 1) x) (sym f) (more before (subst (λ x. Turned n pattern shift x) e here))
