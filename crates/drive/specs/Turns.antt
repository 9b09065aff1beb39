-- Which writer there is after a call that was refused.
use Rattle.std.specs.Prelude.{Option, Some, None}
use Rattle.paged.specs.declared.refusal.Refusal.{Refusal}
use Rattle.paged.specs.declared.refusal.Refusal.TheVariants.{Input, State}
use Rattle.drive.specs.declared.any_writer.AnyWriter.{AnyWriter}
use Rattle.drive.specs.declared.answer.Answer.{Answer}
use Rattle.drive.specs.declared.answer.Answer.TheVariants.{Refused, Stopped}

-- what a refused call answers
abbrev pub refusal_answer : {W : Type 0} → Refusal W → Answer
refusal_answer (Input w why) = Refused why
refusal_answer (State why) = Stopped why

-- a refusal from the input gives the writer back, one from the state ends it
abbrev pub writer_after : Refusal AnyWriter → Option AnyWriter
writer_after (Input w why) = Some w
writer_after (State why) = None

-- an opening that is refused from the input leaves the writer that there is
abbrev pub writer_after_opening : Refusal (Unit {0}) → Option AnyWriter → Option AnyWriter
writer_after_opening (Input u why) w = w
writer_after_opening (State why) w = None
