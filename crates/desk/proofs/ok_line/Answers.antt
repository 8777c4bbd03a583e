-- `ok_line` meets its contract: the word, two numbers and a line feed, one behind the other, are the line.
use native.Mathlib.Omega.{arith}
use borrow.Author.Rules.{rules}
use Rattle.desk.proofs.LineLaws.{put_join, line_ends}
use Rattle.desk.proofs.ok_line.Goals as goal

pub returns : goal.returns
returns c =
    let x = line_ends c.text.ensures.put (put_join c.number.ensures.put c.number-2.ensures.put) c.text-2.ensures.put (omega arith) in
    search rules
