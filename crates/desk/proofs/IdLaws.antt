-- Laws on the ids of a set, put one after the other.
--
--   none_between     == where no id from j on to k is in a set, those below k are those below j
--   Listing out at ws from next out' == the ids of the set ws below `from` are stored from the offset at on, and next is the offset
--                       behind them
--   listing_none     == before the first id
--   listing_more     == one id more, the lowest that is not below `from`
--   listing_end      == all ids
--   no_ids           == a set of no ids has none to list
use Rattle.std.specs.Prelude.{Some, None}
use Prim.Native.Nat.{ℕ, zero, suc, ◌+◌, ◌*◌, ◌<◌, ◌≤◌}
use mathlib.Core.Path.{◌≡◌, refl, ◌∙◌}
use mathlib.Core.Bool.{Bool, true, false}
use mathlib.Core.List.{List, [], ◌∷◌, append-nil}
use native.Mathlib.Decide.{ℕ_discrete}
use native.Mathlib.Omega.{arith}
use Rattle.house.specs.Finds.{Finds, found, nowhere}
use Rattle.house.specs.Sets.{has}
use Rattle.routes.specs.Walk.{State}
use Rattle.plans.specs.Plan.{rising_below, rising}
use Rattle.desk.specs.Parts.{PutFields}
use Rattle.desk.proofs.LineLaws.{put_none, put_join, field_short}

absent : (b : Bool) → (b ≡ true → ⊥) → b ≡ false
absent true f = absurd (f refl)
absent false f = refl

none_between :
    (R : State) (j k : ℕ) → j ≤ k → ((i : ℕ) → j ≤ i → i < k → R i ≡ true → ⊥) → rising_below k R ≡ rising_below j R
unfolding rising_below
none_between R j zero h f = let e : j ≡ 0 = omega arith in rw e
none_between R j (suc k) h f =
    go (ℕ_discrete j (suc k)) (λ l. none_between R j k l (λ i a b. f i a (omega arith)))
  where
    go : Dec (j ≡ suc k) → (j ≤ k → rising_below k R ≡ rising_below j R) → rising_below (suc k) R ≡ rising_below j R
    go (yes e) g = rw e
    go (no d) g = rw (absent (R k) (f k (omega arith) (omega arith))) (append-nil (rising_below k R) ∙ g (omega arith))

pub record Listing (out : List ℕ) (at : ℕ) (ws : List ℕ) (from next : ℕ) (out' : List ℕ) : Type 0 where
  pub within : from ≤ 512
  pub so_far : PutFields out at (rising_below from (has ws)) next out'
  pub short : next ≤ at + 4 * from

pub listing_none : (out : List ℕ) (at : ℕ) (ws : List ℕ) → Listing out at ws 0 at out
unfolding rising_below
listing_none out at ws = record { within = omega arith; so_far = put_none out at; short = omega arith }

pub listing_more :
    {out ws o' o'' : List ℕ} {at from next r id : ℕ}
    → Listing out at ws from next o'
    → Finds (λ k. (from ≤ k) × (has ws k ≡ true)) 512 (Some id)
    → PutFields o' next (id ∷ []) r o''
    → Listing out at ws (id + 1) r o''
unfolding rising_below
listing_more {out} {ws} {o'} {o''} {at} {from} {next} {r} {id} p (found l h n) f =
    let e : id + 1 ≡ suc id = omega arith in
    record { within = omega arith; so_far = rw e more; short = omega (arith, h.0, p.short, field_short 3 f (omega arith) (omega arith)) }
  where
    more : PutFields out at (rising_below (suc id) (has ws)) r o''
    more = rw (h.1, none_between (has ws) from id h.0 (λ i a b t. n i b (a, t))) (put_join p.so_far f)

pub listing_end :
    {out ws o' : List ℕ} {at from next : ℕ}
    → Listing out at ws from next o'
    → Finds (λ k. (from ≤ k) × (has ws k ≡ true)) 512 None
    → PutFields out at (rising (has ws)) next o'
unfolding rising
listing_end {ws = ws} {from = from} p (nowhere n) = rw (none_between (has ws) from 512 p.within (λ i a b t. n i b (a, t))) p.so_far

pub no_ids : (R : State) → ((v : ℕ) → R v ≡ false) → rising R ≡ []
unfolding rising rising_below
no_ids R f = none_between R 0 512 (omega arith) (λ i a b t. absurd (clash (f i) t))
  where
    clash : {b : Bool} → b ≡ false → b ≡ true → ⊥
    clash e t = cc
