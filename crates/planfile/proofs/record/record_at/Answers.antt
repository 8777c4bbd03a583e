-- `record::record_at` meets its contract: each return is one way for the offset to be the end, for its record to be wrong, or
-- for it to be right.
use Prim.Native.Nat.{ℕ, ◌+◌}
use native.Mathlib.Omega.{arith}
use mathlib.Core.Path.{◌≡◌, refl, sym, ap, ◌∙◌}
use native.Mathlib.Nat.{add-zero}
use Rattle.planfile.specs.File.{size_at, kind_at, WrongAt, cut, odd, past, other_kind, mode_size, Ended}
use Rattle.planfile.specs.Replies.{ended, wrong_at, stands}
use Rattle.planfile.proofs.RecordLaws.{Right, right_not, head_at}
use Rattle.planfile.proofs.record.record_at.Goals as goal
use Rattle.planfile.proofs.record.record_at.Goals.{
  Joined-else-kind-eq-ROUND,
  After-from-size,
  After-entry-2,
  then-size-ne0-via-then-size-ne0,
  then-size-ne0-via-else-size-ne0+then-n-at-2,
  then-entry-kind-via-then-entry-kind,
  then-entry-kind-via-else-entry-kind+then-size-ne2,
}

-- past the first test the file doesn't end there
goes_on : (c : Joined-else-kind-eq-ROUND) → Ended c.args.file.now c.args.at c.args.kind → ⊥
goes_on c e = omega (arith, e.all_read, e.mode_came)

-- what is read as the length, and as the kind
size_read : (c : After-from-size) → c.from-size.result ≡ size_at c.args.file.now c.args.at
size_read c =
    c.from-size.ensures
    ∙ c.entry.ensures
    ∙ head_at c.args.file.now c.args.at 0 (omega (arith, c.if-n-lt4.false, c.if-n-at.false))
    ∙ ap (size_at c.args.file.now) (add-zero c.args.at)

kind_read : (c : After-entry-2) → c.entry-2.result ≡ kind_at c.args.file.now c.args.at
kind_read c =
    c.entry-2.ensures ∙ head_at c.args.file.now c.args.at 1 (omega (arith, c.if-n-lt4.false, c.if-n-at.false))

pub returns-then-at-n : goal.returns-then-at-n
returns-then-at-n c = ended (record { all_read = c.if-at-n.true; mode_came = c.if-kind-eq-ROUND.true })

pub returns-then-n-lt4 : goal.returns-then-n-lt4
returns-then-n-lt4 c = wrong_at (goes_on (goal.at.returns-then-n-lt4 c).Joined-else-kind-eq-ROUND) (cut (omega arith)) refl

pub returns-then-size-ne0 : goal.returns-then-size-ne0
returns-then-size-ne0 c =
    let s = size_read (goal.at.returns-then-size-ne0 c).After-from-size in
    let wrong : WrongAt c.args.file.now c.args.kind c.args.at = elim c.then-size-ne0.branch [
      | then-size-ne0-via-then-size-ne0 w ↦ odd (omega (arith, s, w.if-size-ne0.true))
      | then-size-ne0-via-else-size-ne0+then-n-at-2 w ↦ past (omega (arith, s, w.if-n-at-2.true, c.if-n-at.false))
    ] in
    wrong_at (goes_on (goal.at.returns-then-size-ne0 c).Joined-else-kind-eq-ROUND) wrong refl

pub returns-then-entry-kind : goal.returns-then-entry-kind
returns-then-entry-kind c =
    let s = size_read (goal.at.returns-then-entry-kind c).After-from-size in
    let k = kind_read (goal.at.returns-then-entry-kind c).After-entry-2 in
    let wrong : WrongAt c.args.file.now c.args.kind c.args.at = elim c.then-entry-kind.branch [
      | then-entry-kind-via-then-entry-kind w ↦ other_kind (λ e. w.if-entry-kind.true (k ∙ e))
      | then-entry-kind-via-else-entry-kind+then-size-ne2 w ↦
          mode_size w.if-size-ne2.true.0 (λ e. w.if-size-ne2.true.1 (s ∙ e))
    ] in
    wrong_at (goes_on (goal.at.returns-then-entry-kind c).Joined-else-kind-eq-ROUND) wrong refl

pub returns : goal.returns
returns c =
    let e : c.from-size.result ≡ size_at c.args.file.now c.args.at = size_read (goal.at.returns c).After-from-size in
    let all_right : Right c.args.file.now c.args.kind c.args.at = record {
      head = omega (arith, c.if-n-lt4.false, c.if-n-at.false);
      even = omega (arith, e, c.if-size-ne0.false);
      within = omega (arith, e, c.if-n-at-2.false, c.if-n-lt4.false, c.if-n-at.false);
      kind = sym (kind_read (goal.at.returns c).After-entry-2) ∙ c.if-entry-kind.false;
      mode_body = λ k. omega (arith, e, k);
    } in
    stands (right_not all_right) refl e (ap (λ (x : ℕ). c.args.at + 4 + x) e)
