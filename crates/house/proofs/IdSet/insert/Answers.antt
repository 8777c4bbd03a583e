-- `house::IdSet::insert` meets its contract: below 512 a bitwise or with 2 ^ (id % 64) adds it where the bit is zero, and from
-- 512 on a set of eight words has no word for the id.
use Rattle.std.proofs.Common.{rules, arith, sym, ◌%◌, ◌/◌, ◌≤◌, length}
use Rattle.house.proofs.SetLaws.{one_shifted, put_or, put_out}
use Rattle.house.proofs.IdSet.insert.Goals as goal

pub returns-then-id-lt512 : goal.returns-then-id-lt512
returns-then-id-lt512 c =
    let a = c.args in
    rw (one_shifted (a.id % 64) (omega arith)) (put_or a.self.now.words a.id)

pub returns-else-id-lt512 : goal.returns-else-id-lt512
returns-else-id-lt512 c =
    let a = c.args in
    let l : length a.self.now.words ≤ a.id / 64 = search rules in
    sym (put_out a.self.now.words a.id l)
