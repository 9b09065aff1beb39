use Rattle.law.proofs.Example.{example}
use Rattle.law.proofs.worked_page.Goals as goal

pub returns : goal.returns
returns c = record { line = example; page = c.page_of_two.ensures }
