-- `routes::jump::by` meets its contract: the answers of its three searches decide whether the node has a jump, and positions
-- are below 256.
use native.Mathlib.Omega.{arith}
use mir.Syntax.{w32}
use mir.ValLaws.{to_z-of_z}
use Rattle.house.specs.Numbers.{entries}
use Rattle.routes.proofs.JumpLaws.{sought, unsought, met_small, off_old, off_new, none_met, jump_in}
use Rattle.routes.proofs.jump.by.Goals as goal

pub returns-in_err-own : goal.returns-in_err-own
returns-in_err-own c = rw c.from_residual.ensures (off_old (unsought _ c.args.node c.in_err-own.ensures))

pub returns-in_err-from : goal.returns-in_err-from
returns-in_err-from c = rw c.from_residual-in_err-from.ensures (off_new (unsought _ c.args.node c.in_err-from.ensures))

pub returns-in_err-met : goal.returns-in_err-met
returns-in_err-met c =
    rw c.from_residual-in_err-met.ensures
    (none_met c.args.pair.good (sought _ c.args.node c.in_ok-from.ensures).0 c.in_err-met.ensures)

pub difference-requires : goal.difference-requires
difference-requires c = (
  met_small c.args.pair.good.old c.in_ok-met.ensures,
  omega (arith, sought (entries c.args.pair.old.now) c.args.node c.in_ok-own.ensures, c.args.pair.good.old.most),
)

pub returns : goal.returns
returns c =
    rw (to_z-of_z w32 c.difference.result (record { sfits = c.difference.type_inv }), c.difference.ensures)
    (jump_in c.args.pair.good (sought _ c.args.node c.in_ok-from.ensures) c.in_ok-met.ensures
    (sought _ c.args.node c.in_ok-own.ensures))
