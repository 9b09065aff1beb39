-- What a report says of a list of lifts.
use Rattle.std.specs.Prelude.{List, fold}
use Rattle.lifts.specs.declared.lift.Lift.{Lift}
use Rattle.lifts.specs.Summaries.{capped, nothing as no_lifts, counted as with_lift}
use Rattle.isolator.specs.declared.report.Summary.{Summary}
use Rattle.isolator.specs.Life.{strain as strain_of_lift}

abbrev pub nothing : Summary
nothing = record { lifts = no_lifts; strain = 0 }

-- one lift more
abbrev pub counted : Summary → Lift → Summary
counted s l = record { lifts = with_lift s.lifts l; strain = capped s.strain (strain_of_lift l) }

abbrev pub summary_of : List Lift → Summary
summary_of ls = fold counted nothing ls
