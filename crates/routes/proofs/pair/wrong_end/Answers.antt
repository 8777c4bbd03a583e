-- `pair::wrong_end` meets its contract: the ids read are the sources and the destinations.
use Prim.Native.Nat.{ℕ, ◌-◌, ◌/◌}
use mathlib.Core.Path.{◌≡◌, ◌∙◌, sym}
use mathlib.Core.List.{List}
use native.Mathlib.Omega.{arith}
use lib.ListN.{length, get_or}
use Rattle.house.specs.Numbers.{entries}
use Rattle.house.proofs.NumberLaws.{length_entries}
use Rattle.routes.specs.Routes.{destination}
use Rattle.routes.specs.Tests.{at_firsts, at_lasts, ends_agree}
use Rattle.routes.proofs.pair.wrong_end.Goals as goal

-- what the code reads last is the destination
last : (b : List ℕ) {r : ℕ} → r ≡ get_or (entries b) (length b / 2 - 1) 0 → r ≡ destination (entries b)
last b e = rw (length_entries b) e

pub returns-then-entry : goal.returns-then-entry
returns-then-entry c = at_firsts (λ e. c.if-entry.true (c.entry.ensures ∙ e ∙ sym c.entry-2.ensures))

pub overflow_sub-old : goal.overflow_sub-old
overflow_sub-old c = omega (arith, length_entries c.args.old.now)

pub overflow_sub-new : goal.overflow_sub-new
overflow_sub-new c = omega (arith, length_entries c.args.new.now)

pub returns-then-entry-2 : goal.returns-then-entry-2
returns-then-entry-2 c =
    at_lasts (sym c.entry.ensures ∙ c.if-entry.false ∙ c.entry-2.ensures)
    (λ e. c.if-entry-2.true (last _ c.entry-3.ensures ∙ e ∙ sym (last _ c.entry-4.ensures)))

pub returns : goal.returns
returns c =
    ends_agree (sym c.entry.ensures ∙ c.if-entry.false ∙ c.entry-2.ensures)
    (sym (last _ c.entry-3.ensures) ∙ c.if-entry-2.false ∙ last _ c.entry-4.ensures)
