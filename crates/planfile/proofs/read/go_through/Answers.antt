use mathlib.Core.Path.{◌≡◌, refl}
use borrow.Author.Rules.{rules}
use Rattle.std.specs.Prelude.{Err}
use Rattle.planfile.specs.File.{Expects, at_front}
use Rattle.planfile.proofs.ReadLaws.{gone_three, gone_more, gone_end, goes_on, scan_wrong, answers}
use Rattle.planfile.proofs.read.go_through.Goals as goal
use Rattle.planfile.proofs.read.go_through.Goals.{In-Some, In-Some-2}

-- the second and the third record are expected behind those before them
at_second : (c : In-Some) → Expects c.args.file.now c.in-Some.old.next 2
at_second c = goes_on (at_front refl refl) (answers c.in_ok-old.ensures c.in-Some.is) refl

at_third : (c : In-Some-2) → Expects c.args.file.now c.in-Some-2.new.next 3
at_third c =
    goes_on (goes_on (at_front refl refl) (answers c.in_ok-old.ensures c.in-Some.is) refl)
    (answers c.in_ok-new.ensures c.in-Some-2.is)
    refl

pub returns-in_err-old : goal.returns-in_err-old
returns-in_err-old c =
    let e : c.from_residual.result ≡ Err c.in_err-old.field-0.0 = search rules in
    rw e (scan_wrong (at_front refl refl) c.in_err-old.ensures)

pub returns-in_err-new : goal.returns-in_err-new
returns-in_err-new c =
    let e : c.from_residual-in_err-new.result ≡ Err c.in_err-new.field-0.0 = search rules in
    rw e (scan_wrong (at_second (goal.at.returns-in_err-new c).In-Some) c.in_err-new.ensures)

pub returns-in_err-mode : goal.returns-in_err-mode
returns-in_err-mode c =
    let e : c.from_residual-in_err-mode.result ≡ Err c.in_err-mode.field-0.0 = search rules in
    rw e (scan_wrong (at_third (goal.at.returns-in_err-mode c).In-Some-2) c.in_err-mode.ensures)

pub loop-round-init : goal.loop-round-init
loop-round-init c =
    gone_three (answers c.in_ok-old.ensures c.in-Some.is)
    (answers c.in_ok-new.ensures c.in-Some-2.is)
    (answers c.in_ok-mode.ensures c.in-Some-3.is)

pub returns-in_err-round : goal.returns-in_err-round
returns-in_err-round c =
    let e : c.from_residual-in_err-round.result ≡ Err c.in_err-round.field-0.0 = search rules in
    rw e (scan_wrong c.loop-round.invariant.expected c.in_err-round.ensures)

pub loop-round-preserved : goal.loop-round-preserved
loop-round-preserved c = gone_more c.loop-round.invariant (answers c.in_ok-round.ensures c.in-Some-4.is)

pub returns-in_default-4 : goal.returns-in_default-4
returns-in_default-4 c = gone_end c.loop-round.invariant (answers c.in_ok-round.ensures c.in_default-4.is)
