-- `Setting::leads` meets its contract: the mark of 512 tells a drop, and a closed path within the nodes that count a loop.
use mathlib.Core.Path.{refl}
use Rattle.rounds.specs.Mode.{mode_no}
use Rattle.rounds.proofs.FaultLaws.{seen_drop, alive_loop}
use Rattle.rounds.proofs.setting.Setting.leads.Goals as goal

pub returns-in-Drop : goal.returns-in-Drop
returns-in-Drop c = rw c.in-Drop.is (seen_drop (mode_no c.args.self.now.mode) c.requires _ refl)

pub returns-in-Loop : goal.returns-in-Loop
returns-in-Loop c =
    rw c.in-Loop.is
    (alive_loop c.requires (mode_no c.args.self.now.mode) c.alive.ensures c.cyclic.result
    (rw (← c.graph.ensures.old, ← c.graph.ensures.new, ← c.graph.ensures.choice) c.cyclic.ensures))
