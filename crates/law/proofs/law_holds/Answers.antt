use Rattle.std.proofs.Common.{sym, ◌∙◌, arith}
use Rattle.std.proofs.lemmas.Bool.{ltb-true}
use Rattle.law.proofs.Law.{the_law}
use Rattle.law.proofs.law_holds.Goals as goal

pub returns : goal.returns
returns c = record {
  law = the_law;
  here = λ h sum fits. the_law sum fits c.args.page_size (ltb-true 0 c.args.page_size (sym c.is_page_size.ensures ∙ h)) (omega arith);
  sizes = c.is_page_size.ensures;
}
