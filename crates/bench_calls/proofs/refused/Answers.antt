-- `bench_calls::refused` meets its contract: the numbers are the three that are told of it.
use mathlib.Core.Path.{refl, ◌∙◌}
use Rattle.bench_calls.proofs.refused.Goals as goal

pub returns : goal.returns
returns c =
    let t = c.from-told.ensures in
    c.pack.ensures ∙ rw (t.number_is, t.site_is, t.place_is) refl
