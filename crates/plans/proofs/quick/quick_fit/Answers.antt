-- `plans::quick::quick_fit` meets its contract: 19 is given where a switch is backward in both orders, and else the four rounds are
-- written.
use Rattle.house.specs.Numbers.{entries}
use Rattle.plans.proofs.PlanLaws.{clear_fit}
use Rattle.plans.proofs.QuickLaws.{Marks, quick_back, quick_given}
use Rattle.plans.proofs.quick.quick_fit.Goals as goal
use Rattle.plans.proofs.quick.quick_fit.Goals.{After-lowest_back}

marks :
    (c : After-lowest_back)
    → let s = c.new-setting.result in
    Marks (entries c.args.pair.now.old.now) (entries c.args.pair.now.new.now) s.old.now s.new.now c.forward-marks.result c.forward-others.result
marks c =
    record {
      good = c.args.pair.now.good;
      olds = c.new-setting.ensures.old;
      news = c.new-setting.ensures.new;
      in_old = c.forward-marks.ensures;
      in_new = c.forward-others.ensures;
    }

pub returns-in-Some : goal.returns-in-Some
returns-in-Some c = quick_back c.requires (marks (goal.at.returns-in-Some c).After-lowest_back) c.in-Some.ensures

pub write_quick-requires : goal.write_quick-requires
write_quick-requires c = let g = clear_fit c.requires in (g.1, g.2)

pub returns : goal.returns
returns c = quick_given c.requires (marks (goal.at.returns c).After-lowest_back) c.in_default.ensures c.write_quick.ensures
