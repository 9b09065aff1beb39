use Rattle.std.proofs.Common.{arith, rules, below_more}
use Rattle.std.proofs.lemmas.List.{with_items_is}
use Rattle.std.proofs.lemmas.Grind.{common_steps}
use Rattle.kinds.proofs.Picking.{picked}
use Rattle.kinds.proofs.areas.Area.pick.Goals as goal

pub loop-k-preserved : goal.loop-k-preserved
loop-k-preserved c = (
  below_more _ _ (λ j h. grind (arith, common_steps, c.loop-k.invariant.0 j h)) (grind (arith, common_steps, c.loop-k.invariant.1 c.loop-k.k)),
  λ j h. grind (arith, common_steps, c.loop-k.invariant.1 j),
)

pub returns-clause-picked : goal.returns-clause-picked
returns-clause-picked c =
    rw (with_items_is c.resize.new.self c.loop-k.byte-items (search rules))
    (picked _ _ c.deref_mut-byte-items.result.now _ _ (search rules) (λ k h i. search rules)
    (λ k h. let e = c.loop-k.invariant.0 k (omega arith) in search rules))
