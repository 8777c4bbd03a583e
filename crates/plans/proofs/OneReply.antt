-- One change and one mode have one plan, and one input has one reply.
--
--   middle_one     == the switches have one list of rounds
--   plan_rounds_one == a pair of routes has one list of rounds in a mode
--   plans_one      == an input has one reply, and one content of the lent memory after it
--   quicks_one     == the same of the quick planner
use Rattle.house.specs.declared.Refusal.{Refusal}
use Rattle.std.specs.Prelude.{Result, Ok, Err}
use Rattle.plans.specs.declared.Given.{Given}
use Prim.Native.Nat.{ℕ}
use mathlib.Core.Path.{◌≡◌, refl, sym, ap, ap₂, subst₂, ◌∙◌}
use mathlib.Core.List.{List, ◌∷◌, ◌++◌}
use lib.ListN.{length}
use Rattle.house.proofs.RefusalLaws.{first_one, first_not_clear}
use Rattle.routes.specs.Walk.{State}
use Rattle.plans.specs.Plan.{
  together,
  Middle,
  all_placed,
  a_round,
  installs,
  removes,
  some_round,
  PlanRounds,
  ids_of,
  sizes_of,
}
use Rattle.plans.proofs.PlanSets.{joining_one}
use Rattle.plans.specs.Replies.{Plans, refused, given, overlaid, Quicks}

pub middle_one :
    {mode : ℕ} {o n : List ℕ} {P : State} {vs : List ℕ} {Rs Rs' : List State}
    → Middle mode o n P vs Rs
    → Middle mode o n P vs Rs'
    → Rs ≡ Rs'
middle_one all_placed all_placed = refl
middle_one {mode} {o} {n} {P} (a_round j m) (a_round {Rs = Ss} k l) =
    let x = joining_one j k in
    ap₂ ◌∷◌ x.0
    (middle_one m (subst₂ (λ (T : State) (U : List ℕ). Middle mode o n (together P T) U Ss) (sym x.0) (sym x.1) l))

pub plan_rounds_one :
    {mode : ℕ} {o n : List ℕ} {Rs Rs' : List State} → PlanRounds mode o n Rs → PlanRounds mode o n Rs' → Rs ≡ Rs'
plan_rounds_one {mode} {o} {n} p q =
    p.rounds
    ∙ ap (λ (Ms : List State). some_round (installs o n) ++ (Ms ++ some_round (removes o n))) (middle_one p.joined q.joined)
    ∙ sym q.rounds

-- two replies that give the same rounds are one
same_rounds :
    (ids sizes : List ℕ) {ids1 ids2 sizes1 sizes2 : List ℕ} {g h : Given} {Rs Ss : List State}
    → Rs ≡ Ss
    → g.rounds ≡ length Rs
    → g.count ≡ length (ids_of Rs)
    → ids1 ≡ overlaid (ids_of Rs) ids
    → sizes1 ≡ overlaid (sizes_of Rs) sizes
    → h.rounds ≡ length Ss
    → h.count ≡ length (ids_of Ss)
    → ids2 ≡ overlaid (ids_of Ss) ids
    → sizes2 ≡ overlaid (sizes_of Ss) sizes
    → (◌≡◌ {A = Result Given Refusal} (Ok g) (Ok h)) × (ids1 ≡ ids2) × (sizes1 ≡ sizes2)
same_rounds ids sizes {g = g} {h} e r k i z s l j y = (
  ap Ok (same (r ∙ ap length e ∙ sym s) (k ∙ ap (λ (Rs : List State). length (ids_of Rs)) e ∙ sym l)),
  i ∙ ap (λ (Rs : List State). overlaid (ids_of Rs) ids) e ∙ sym j,
  z ∙ ap (λ (Rs : List State). overlaid (sizes_of Rs) sizes) e ∙ sym y,
)
  where
    same : g.rounds ≡ h.rounds → g.count ≡ h.count → g ≡ h
    same p q = λ i. record { rounds = p i; count = q i }

pub plans_one :
    {old new : List ℕ} {mode : ℕ} {ids sizes : List ℕ} {a b : Result Given Refusal} {ids1 ids2 sizes1 sizes2 : List ℕ}
    → Plans old new mode ids sizes a ids1 sizes1
    → Plans old new mode ids sizes b ids2 sizes2
    → (a ≡ b) × (ids1 ≡ ids2) × (sizes1 ≡ sizes2)
plans_one (refused f i z) (refused g j y) = (ap Err (first_one f g), i ∙ sym j, z ∙ sym y)
plans_one (refused f i z) (given c p r k j y) = absurd (first_not_clear f c)
plans_one (given c p r k j y) (refused f i z) = absurd (first_not_clear f c)
plans_one {ids = ids} {sizes = sizes} (given c p r k i z) (given d q s l j y) = same_rounds ids sizes (plan_rounds_one p q) r k i z s l j y

pub quicks_one :
    {old new : List ℕ} {mode : ℕ} {ids sizes : List ℕ} {a b : Result Given Refusal} {ids1 ids2 sizes1 sizes2 : List ℕ}
    → Quicks old new mode ids sizes a ids1 sizes1
    → Quicks old new mode ids sizes b ids2 sizes2
    → (a ≡ b) × (ids1 ≡ ids2) × (sizes1 ≡ sizes2)
quicks_one (refused f i z) (refused g j y) = (ap Err (first_one f g), i ∙ sym j, z ∙ sym y)
quicks_one (refused f i z) (given c p r k j y) = absurd (first_not_clear f c)
quicks_one (given c p r k j y) (refused f i z) = absurd (first_not_clear f c)
quicks_one {ids = ids} {sizes = sizes} (given c p r k i z) (given d q s l j y) = same_rounds ids sizes (p ∙ sym q) r k i z s l j y
