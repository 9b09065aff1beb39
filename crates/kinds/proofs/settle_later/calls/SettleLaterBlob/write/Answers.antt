use Rattle.std.proofs.Common.{rules}
use Rattle.kinds.proofs.Later.{wrote, stored_most}
use Rattle.kinds.proofs.settle_later.calls.SettleLaterBlob.write.Goals as goal

pub returns-clause-wrote : goal.returns-clause-wrote
returns-clause-wrote c =
    let s = c.store.ensures in
    rw (s.working, s.ceiling, s.settled, c.in_ok-powered.ensures.passes.0)
    (wrote _ _ _ _ _ _ (search rules) (search rules) (stored_most _ _ _) _ _ s.power c.powered-2.ensures.passes c.powered-2.ensures.fails)
