-- `house::store` meets its contract: what there is no room for changes nothing. The loop's invariant: the first `i` bytes are stored.
use Rattle.std.proofs.Common.{◌≡◌, take}
use Rattle.std.proofs.lemmas.List.Edits.{sets}
use Rattle.house.proofs.store.Given as goal

abbrev pub invariant-loop-i : goal.invariant-loop-i
invariant-loop-i l = l.to ≡ sets l.initial.to l.at (take l.i l.from)
