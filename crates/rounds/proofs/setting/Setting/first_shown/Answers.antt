-- `Setting::first_shown` meets its contract: a drop is asked for before a loop.
use Rattle.rounds.specs.Working.{drops, loops, fine}
use Rattle.rounds.proofs.FaultLaws.{said_true, said_false}
use Rattle.rounds.proofs.setting.Setting.first_shown.Goals as goal

pub returns-then-leads : goal.returns-then-leads
returns-then-leads c = drops (said_true c.leads.ensures c.if-leads.true)

pub returns-then-leads-2 : goal.returns-then-leads-2
returns-then-leads-2 c =
    loops (said_false c.leads.ensures c.if-leads.false) (said_true c.leads-2.ensures c.if-leads-2.true)

pub returns : goal.returns
returns c =
    fine (said_false c.leads.ensures c.if-leads.false) (said_false c.leads-2.ensures c.if-leads-2.false)
