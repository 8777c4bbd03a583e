-- `jiwasampu::refused` meets its contract: the lanes are the three numbers that are told of it.
use mathlib.Core.Path.{refl, ◌∙◌}
use Rattle.jiwasampu.proofs.refused.Goals as goal

pub returns : goal.returns
returns c =
    let t = c.from-told.ensures in
    c.pack.ensures ∙ rw (t.number_is, t.site_is, t.place_is) refl
