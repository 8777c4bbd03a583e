-- Each C call has one reply: for the same bytes and the same mode there is no second number that its contract fits, and no
-- second content of the lent bytes. Assumes nothing.
--
--   check_call_one  == two numbers of `jiwasampu_check` for one input are one, and leave the same bytes
--   plan_call_one   == two numbers of `jiwasampu_plan` for one input are one, and leave the same bytes
--   quick_call_one  == two numbers of `jiwasampu_quick` for one input are one, and leave the same bytes
--   walk_call_one   == two numbers of `jiwasampu_walk` for one input are one
use Prim.Native.Nat.{ℕ}
use mathlib.Core.Path.{◌≡◌, sym, ◌∙◌, ap}
use mathlib.Core.List.{List}
use Rattle.routes.proofs.WalkLaws.{walk_reply_one}
use Rattle.rounds.proofs.OneReply.{checks_one}
use Rattle.plans.proofs.OneReply.{plans_one, quicks_one}
use Rattle.jiwasampu.specs.Lanes.{check_lanes, plan_lanes, walk_lanes, CheckCall, PlanCall, QuickCall, WalkCall}

pub check_call_one :
    {old new : List ℕ} {mode : ℕ} {ids sizes set : List ℕ} {r s : ℕ} {after after' : List ℕ}
    → CheckCall old new mode ids sizes set r after
    → CheckCall old new mode ids sizes set s after'
    → (r ≡ s) × (after ≡ after')
check_call_one a b =
    let (e, d) = checks_one a.replied b.replied in
    (a.in_lanes ∙ ap check_lanes e ∙ sym b.in_lanes, d)

pub plan_call_one :
    {old new : List ℕ} {mode : ℕ} {ids sizes : List ℕ} {r s : ℕ} {i i' z z' : List ℕ}
    → PlanCall old new mode ids sizes r i z
    → PlanCall old new mode ids sizes s i' z'
    → (r ≡ s) × (i ≡ i') × (z ≡ z')
plan_call_one a b =
    let (e, d, f) = plans_one a.replied b.replied in
    (a.in_lanes ∙ ap plan_lanes e ∙ sym b.in_lanes, d, f)

pub quick_call_one :
    {old new : List ℕ} {mode : ℕ} {ids sizes : List ℕ} {r s : ℕ} {i i' z z' : List ℕ}
    → QuickCall old new mode ids sizes r i z
    → QuickCall old new mode ids sizes s i' z'
    → (r ≡ s) × (i ≡ i') × (z ≡ z')
quick_call_one a b =
    let (e, d, f) = quicks_one a.replied b.replied in
    (a.in_lanes ∙ ap plan_lanes e ∙ sym b.in_lanes, d, f)

pub walk_call_one : {old new set : List ℕ} {r s : ℕ} → WalkCall old new set r → WalkCall old new set s → r ≡ s
walk_call_one a b = a.in_lanes ∙ ap walk_lanes (walk_reply_one a.replied b.replied) ∙ sym b.in_lanes
