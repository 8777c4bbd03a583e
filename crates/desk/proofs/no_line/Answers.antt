-- `no_line` meets its contract: the word, the refusal's three numbers, the ids of the set and a line feed, one behind the other,
-- are the line.
use native.Mathlib.Omega.{arith}
use borrow.Author.Rules.{rules}
use Rattle.desk.proofs.LineLaws.{put_join, line_ends}
use Rattle.desk.proofs.ProgramLaws.{line_told}
use Rattle.desk.proofs.no_line.Goals as goal

pub returns : goal.returns
returns c =
    let ns = put_join c.number.ensures.put (put_join c.number-2.ensures.put (put_join c.number-3.ensures.put c.ids.ensures.put)) in
    let x = line_told c.args.r c.from-told.ensures (line_ends c.text.ensures.put ns c.text-2.ensures.put (omega arith)) in
    search rules
