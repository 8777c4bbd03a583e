-- `check::check_judged` meets its contract: a change that is sound has a good pair, and its mode is one of the two.
use Rattle.rounds.proofs.ScheduleLaws.{SoundChange, clear_change}
use Rattle.rounds.proofs.ReplyLaws.{no_mode}
use Rattle.rounds.proofs.check.check_judged.Goals.{Start}
use Rattle.rounds.proofs.check.check_judged.Goals as goal

sound : (c : Start) → SoundChange c.args.old.now c.args.new.now c.args.mode c.args.ids.now c.args.sizes.now
sound c = clear_change c.requires.clear

pub returns-in_err-mode : goal.returns-in_err-mode
returns-in_err-mode c = absurd (no_mode c.in_err-mode.ensures (sound (goal.at.returns-in_err-mode c).Start).mode_low)

pub invariant_of-pair : goal.invariant_of-pair
invariant_of-pair c = record { good = (sound (goal.at.invariant_of-pair c).Start).good }
