-- "For every input each public function's wording settles its reply and the lent memory, refusals too": for the bytes that a program
-- reads there is no second text, and so no second number and no second content of the lent bytes, that its wording fits. Assumes
-- nothing.
--
--   decimal_one      == a number has one text in decimal
--   fields_one, line_one == numbers have one text of fields, a word and numbers one line
--   one_content      == a file that is read holds one content
--   checker_says_one == the checker prints one word and one list of numbers
--   planner_gives_one == the planner writes one text
--   checker_one      == of `checker`: one reply, and one content of the lent memory after it
--   planner_one      == of `planner`
use Rattle.std.specs.Prelude.{Result}
use Rattle.rounds.specs.declared.check.Accepted.{Accepted}
use Prim.Native.Nat.{ℕ}
use mathlib.Core.Path.{◌≡◌, sym, ap, ◌∙◌}
use mathlib.Core.List.{List, [], ◌∷◌, ◌++◌}
use native.Mathlib.Omega.{arith}
use Rattle.io.specs.Digits.{last_digits}
use Rattle.house.specs.declared.Refusal.{Refusal}
use Rattle.house.specs.Numbers.{encode}
use Rattle.house.specs.Refusals.{Clear}
use Rattle.house.proofs.RefusalLaws.{first_one, first_not_clear}
use Rattle.rounds.specs.Replies.{Checks}
use Rattle.rounds.proofs.OneReply.{checks_one}
use Rattle.plans.proofs.OneReply.{plan_rounds_one}
use Rattle.planfile.specs.File.{Holds}
use Rattle.planfile.proofs.FileLaws.{SameContent, holds_one}
use Rattle.planfile.proofs.OneContent.{clear_short}
use Rattle.desk.specs.Text.{Decimal, Fields, no_more, field, Line}
use Rattle.desk.specs.Replies.{zeros, FileFault, told, CheckerSays, wrong_file, accepted}
use Rattle.desk.specs.Replies.{refused, PlannerGives, planned, Puts, CheckerPuts, PlannerPuts}
use Rattle.desk.proofs.LineLaws.{fewest_short}

-- ---- text

pub decimal_one : {n : ℕ} {t u : List ℕ} → Decimal n t → Decimal n u → t ≡ u
decimal_one {n} x y =
    let e : x.many ≡ y.many =
    omega (
      arith,
      fewest_short y.many x.fewest y.fewest.0 y.fewest.1,
      fewest_short x.many y.fewest x.fewest.0 x.fewest.1,
    ) in
    x.spelled ∙ ap (λ (k : ℕ). last_digits 10 k n) e ∙ sym y.spelled

pub fields_one : {ns t u : List ℕ} → Fields ns t → Fields ns u → t ≡ u
fields_one (no_more e) (no_more d) = e ∙ sym d
fields_one (field x f e) (field y g d) =
    let a = decimal_one x y in
    let b = fields_one f g in
    cc

pub line_one : {w ns t u : List ℕ} → Line w ns t → Line w ns u → t ≡ u
line_one {w} x y =
    x.text ∙ ap (λ (l : List ℕ). w ++ (l ++ (10 ∷ []))) (fields_one x.fields y.fields) ∙ sym y.text

puts_one :
    {t u out o1 o2 : List ℕ} {r s : ℕ} → Puts t out r o1 → Puts u out s o2 → t ≡ u → (r ≡ s) × (o1 ≡ o2)
puts_one p q e =
    let a = p.size in
    let b = q.size in
    let c = p.after in
    let d = q.after in
    (cc, cc)

-- ---- the checker

module _ {f : List ℕ} (k : Clear (FileFault f)) where
  pub one_content :
      {o n is zs o' n' is' zs' : List ℕ} {mode mode' : ℕ}
      → Holds f o n mode is zs
      → Holds f o' n' mode' is' zs'
      → SameContent o n mode is zs o' n' mode' is' zs'
  one_content h h' = holds_one h h' (omega (arith, clear_short k))

  one_check :
      {o n is zs o' n' is' zs' set set' : List ℕ} {mode mode' : ℕ} {a b : Result Accepted Refusal}
      → Holds f o n mode is zs
      → Holds f o' n' mode' is' zs'
      → Checks (encode 2 o) (encode 2 n) mode (encode 2 is) (encode 2 zs) (zeros 64) a set
      → Checks (encode 2 o') (encode 2 n') mode' (encode 2 is') (encode 2 zs') (zeros 64) b set'
      → (a ≡ b) × (set ≡ set')
  one_check h h' c d =
      let s = one_content h h' in
      checks_one (rw (s.same_old, s.same_new, s.same_mode, s.same_ids, s.same_sizes) at c) d

pub checker_says_one :
    {f w ns v ms : List ℕ} → CheckerSays f w ns → CheckerSays f v ms → (w ≡ v) × (ns ≡ ms)
checker_says_one (wrong_file g e d) (wrong_file h e' d') =
    (e ∙ sym e', d ∙ ap (λ (r : Refusal). told r) (first_one g h) ∙ sym d')
checker_says_one (wrong_file g e d) (accepted k h c e' d') = absurd (first_not_clear g k)
checker_says_one (wrong_file g e d) (refused k h c e' d') = absurd (first_not_clear g k)
checker_says_one (accepted k h c e d) (wrong_file g e' d') = absurd (first_not_clear g k)
checker_says_one (accepted {a = a} k h c e d) (accepted {a = b} k' h' c' e' d') =
    let x = (one_check k h h' c c').0 in
    let y : a ≡ b = cc in
    (cc, d ∙ ap (λ (p : Accepted). p.rounds ∷ p.dues ∷ []) y ∙ sym d')
checker_says_one (accepted k h c e d) (refused k' h' c' e' d') =
    let x = (one_check k h h' c c').0 in
    let z : ◌≡◌ {A = ℕ} 0 1 = cc in
    absurd (omega arith)
checker_says_one (refused k h c e d) (wrong_file g e' d') = absurd (first_not_clear g k)
checker_says_one (refused k h c e d) (accepted k' h' c' e' d') =
    let x = (one_check k h h' c c').0 in
    let z : ◌≡◌ {A = ℕ} 0 1 = cc in
    absurd (omega arith)
checker_says_one (refused {r = r} {set = set} k h c e d) (refused {r = s} k' h' c' e' d') =
    let x = one_check k h h' c c' in
    let y : r ≡ s = let a = x.0 in cc in
    (e ∙ sym e', d ∙ rw (y, x.1) (sym d'))

pub checker_one :
    {f out o1 o2 : List ℕ} {r s : ℕ} → CheckerPuts f out r o1 → CheckerPuts f out s o2 → (r ≡ s) × (o1 ≡ o2)
checker_one x y =
    let (w, n) = checker_says_one x.says y.says in
    puts_one x.puts y.puts (line_one (rw (w, n) at x.line) y.line)

-- ---- the planner

pub planner_gives_one : {f t u : List ℕ} → PlannerGives f t → PlannerGives f u → t ≡ u
planner_gives_one (wrong_file g l) (wrong_file h m) = line_one (rw (first_one g h) at l) m
planner_gives_one (wrong_file g l) (refused k h c m) = absurd (first_not_clear g k)
planner_gives_one (wrong_file g l) (planned k h c p e) = absurd (first_not_clear g k)
planner_gives_one (refused k h c m) (wrong_file g l) = absurd (first_not_clear g k)
planner_gives_one (refused k h c l) (refused k' h' c' m) =
    let s = one_content k h h' in
    line_one (rw (first_one (rw (s.same_old, s.same_new, s.same_mode) at c) c') at l) m
planner_gives_one (refused k h c l) (planned k' h' c' p e) =
    let s = one_content k h h' in
    absurd (first_not_clear (rw (s.same_old, s.same_new, s.same_mode) at c) c')
planner_gives_one (planned k h c p e) (wrong_file g l) = absurd (first_not_clear g k)
planner_gives_one (planned k h c p e) (refused k' h' c' m) =
    let s = one_content k h h' in
    absurd (first_not_clear c' (rw (s.same_old, s.same_new, s.same_mode) at c))
planner_gives_one (planned k h c p e) (planned k' h' c' q d) =
    let s = one_content k h h' in
    let x = plan_rounds_one (rw (s.same_old, s.same_new, s.same_mode) at p) q in
    cc

pub planner_one :
    {f out o1 o2 : List ℕ} {r s : ℕ} → PlannerPuts f out r o1 → PlannerPuts f out s o2 → (r ≡ s) × (o1 ≡ o2)
planner_one x y = puts_one x.puts y.puts (planner_gives_one x.gives y.gives)
