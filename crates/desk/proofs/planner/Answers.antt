-- `planner` meets its contract: what is refused has its NO line.
use Rattle.desk.proofs.ProgramLaws.{refusal_printed}
use Rattle.desk.proofs.planner.Goals as goal

pub returns-in-Err : goal.returns-in-Err
returns-in-Err c = refusal_printed (c.in-Err.ensures.0) (rw (c.new.ensures, c.in-Err.ensures.1) at c.no_line.ensures)
