-- `house::put_bytes` meets its contract: where there is a number i, its bytes are stored, and elsewhere nothing is.
use Rattle.std.proofs.Common.{rules, arith, ap, sym, ◌∙◌, ◌*◌, ◌+◌, ◌≤◌, length}
use Rattle.std.proofs.lemmas.List.Edits.{sets}
use Rattle.house.proofs.NumberLaws.{number_fits, put_number_in, put_number_past}
use Rattle.house.proofs.StoreLaws.{sets_at}
use Rattle.house.proofs.put_bytes.Goals as goal

pub returns-then-i-b : goal.returns-then-i-b
returns-then-i-b g c n e =
    let a = c.args in
    let w = g.row.W in
    let l : w * a.i + w ≤ length a.b.now = number_fits w a.i (length a.b.now) c.requires c.if-i-b.true in
    sets_at c.copy_from_slice.new.self a.b.now (w * a.i) _ (search rules) (omega (arith, l))
    ∙ ap (sets a.b.now (w * a.i)) (c.copy_from_slice.ensures.after ∙ e)
    ∙ sym (put_number_in w a.b.now a.i n l)

pub returns-else-i-b : goal.returns-else-i-b
returns-else-i-b g c n e = let a = c.args in sym (put_number_past g.row.W a.b.now a.i n c.requires c.if-i-b.false)
