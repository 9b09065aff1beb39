use Rattle.std.proofs.Common.{arith}
use Rattle.std.proofs.lemmas.List.{places}
use Rattle.std.proofs.lemmas.Bool.Decides.{nat_tests}
use Rattle.kinds.proofs.settle_later.calls.SettleLaterBlob.resize.Goals as goal

pub returns-clause-resized : goal.returns-clause-resized
returns-clause-resized c = grind (arith, places, nat_tests)
