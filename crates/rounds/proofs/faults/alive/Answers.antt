-- `faults::alive` meets its contract, by the mode.
use mathlib.Core.Path.{ap}
use Rattle.std.proofs.Common.{rules}
use Rattle.rounds.specs.Mode.{mode_no}
use Rattle.rounds.proofs.FaultLaws.{alive_all, alive_marked}
use Rattle.rounds.proofs.faults.alive.Goals as goal

pub returns-in-Strong : goal.returns-in-Strong
returns-in-Strong c = alive_all (ap mode_no c.in-Strong.is)

pub returns-in-Relaxed : goal.returns-in-Relaxed
returns-in-Relaxed c = alive_marked (ap mode_no c.in-Relaxed.is) c.from_fn.ensures.items (λ i y q h. (search rules, search rules))
