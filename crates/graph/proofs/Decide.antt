-- Where each step is decided, and every step leaves a number below some bound, paths and closed paths are decided. A path
-- that passes numbers up to k alone either does not pass k, or it is one to k and one from k that do not. Assumes nothing.
--
--   Via R k w a        == from a to w in at least one step of R, and between the two only numbers below k are passed
--   via_splits, via_joins == those that pass numbers up to k, by those that pass numbers below k
--   dec_via            == they are decided
--   via_path, via_around == they are paths and closed paths
--   path_via, around_via == where every step leaves a number below N, paths and closed paths are such
--   dec_some           == whether any number has a decided property that only numbers below N have is decided
--   dec_path, dec_around == whether a path leads from a to w, and whether v lies on a closed path
--   dec_some_around    == whether any node lies on a closed path
--   dec_reached_around == whether a path leads from s to a node on a closed path
--   dec_step           == whether some bit that a's choice allows sends the node a to b
use Prim.Native.Nat.{ℕ, zero, suc, ◌<◌}
use native.Mathlib.Omega.{arith}
use native.Mathlib.Decide.{ℕ_discrete, dec_lt, map_dec}
use mathlib.Core.Path.{◌≡◌, refl, subst}
use mathlib.Core.Bool.{Bool, true, false, cond}
use mathlib.Core.Logic.Dec
use mathlib.Core.Logic.{◌⊎◌, inl, inr, ⊎_elim}
use Rattle.graph.specs.Graph.{Choice, old, new, either, Ok, Step, Path, stop, step, Around}

pub data Via (R : ℕ → ℕ → Type 0) (k w : ℕ) : ℕ → Type 0 where
  last : {a : ℕ} → R a w → Via R k w a
  past : {a b : ℕ} → R a b → b < k → Via R k w b → Via R k w a

via_more : {R : ℕ → ℕ → Type 0} {k w a : ℕ} → Via R k w a → Via R (suc k) w a
via_more (last r) = last r
via_more (past r h Q) = past r (omega arith) (via_more Q)

pub via_joins : {R : ℕ → ℕ → Type 0} {k w a : ℕ} → Via R k k a → Via R k w k → Via R (suc k) w a
via_joins (last r) Q = past r (omega arith) (via_more Q)
via_joins (past r h U) Q = past r (omega arith) (via_joins U Q)

pub via_splits : {R : ℕ → ℕ → Type 0} {k w a : ℕ} → Via R (suc k) w a → Via R k w a ⊎ (Via R k k a × Via R k w k)
via_splits (last r) = inl (last r)
via_splits {R} {k} {w} (past {a = a} {b = b} r h Q) = go (ℕ_discrete b k) (via_splits Q)
  where
    go : Dec (b ≡ k) → Via R k w b ⊎ (Via R k k b × Via R k w k) → Via R k w a ⊎ (Via R k k a × Via R k w k)
    go (yes e) (inl U) = inr (last (subst (R a) e r), subst (Via R k w) e U)
    go (yes e) (inr s) = inr (last (subst (R a) e r), s.1)
    go (no n) (inl U) = inl (past r (omega arith) U)
    go (no n) (inr s) = inr (past r (omega arith) s.0, s.1)

via_none : {R : ℕ → ℕ → Type 0} {w a : ℕ} → Via R 0 w a → R a w
via_none (last r) = r
via_none (past r h Q) = absurd (omega arith)

pub dec_via : {R : ℕ → ℕ → Type 0} → ((a b : ℕ) → Dec (R a b)) → (k w a : ℕ) → Dec (Via R k w a)
dec_via d zero w a = map_dec last via_none (d a w)
dec_via {R} d (suc k) w a = go (dec_via d k w a) (dec_via d k k a) (dec_via d k w k)
  where
    go : Dec (Via R k w a) → Dec (Via R k k a) → Dec (Via R k w k) → Dec (Via R (suc k) w a)
    go (yes Q) x y = yes (via_more Q)
    go (no n) (yes U) (yes Q) = yes (via_joins U Q)
    go (no n) (yes U) (no m) = no (λ Q. ⊎_elim n (λ s. m s.1) (via_splits Q))
    go (no n) (no m) x = no (λ Q. ⊎_elim n (λ s. m s.0) (via_splits Q))

pub via_path : {R : ℕ → ℕ → Type 0} {k w a : ℕ} → Via R k w a → Path R w a
via_path (last r) = step r (stop refl)
via_path (past r h Q) = step r (via_path Q)

via_first : {R : ℕ → ℕ → Type 0} {k w a : ℕ} → Via R k w a → (u : ℕ) × R a u × Path R w u
via_first {w = w} (last r) = (w, r, stop refl)
via_first (past {b = b} r h Q) = (b, r, via_path Q)

pub via_around : {R : ℕ → ℕ → Type 0} {k v : ℕ} → Via R k v v → Around R v
via_around Q = via_first Q

module _ {R : ℕ → ℕ → Type 0} {N : ℕ} (leaves : (x y : ℕ) → R x y → x < N) where
  step_via : {a b w : ℕ} → R a b → (b ≡ w) ⊎ Via R N w b → Via R N w a
  step_via {a} {b} r (inl e) = last (subst (R a) e r)
  step_via {a} {b} r (inr Q) = let (u, t, P) = via_first Q in past r (leaves b u t) Q

  pub path_via : {w a : ℕ} → Path R w a → (a ≡ w) ⊎ Via R N w a
  path_via (stop e) = inl e
  path_via (step r P) = inr (step_via r (path_via P))

  pub around_via : {v : ℕ} → Around R v → Via R N v v
  around_via (u, r, P) = step_via r (path_via P)

dec_below : (S : ℕ → Type 0) → ((v : ℕ) → Dec (S v)) → (k : ℕ) → Dec ((v : ℕ) × (v < k) × S v)
dec_below S d zero = no (λ x. omega (arith, x.1))
dec_below S d (suc k) = go (d k) (dec_below S d k)
  where
    go : Dec (S k) → Dec ((v : ℕ) × (v < k) × S v) → Dec ((v : ℕ) × (v < suc k) × S v)
    go (yes s) x = yes (k, omega arith, s)
    go (no n) (yes (v, h, s)) = yes (v, omega arith, s)
    go (no n) (no m) = no (λ x. at x (ℕ_discrete x.0 k))
      where
        at : (x : (v : ℕ) × (v < suc k) × S v) → Dec (x.0 ≡ k) → ⊥
        at x (yes e) = n (subst S e x.2)
        at x (no e) = m (x.0, omega (arith, x.1), x.2)

pub dec_some : (S : ℕ → Type 0) (N : ℕ) → ((v : ℕ) → S v → v < N) → ((v : ℕ) → Dec (S v)) → Dec ((v : ℕ) × S v)
dec_some S N below d = map_dec (λ x. (x.0, x.2)) (λ x. (x.0, below x.0 x.1, x.1)) (dec_below S d N)

module _
    {R : ℕ → ℕ → Type 0} {N : ℕ}
    (leaves : (x y : ℕ) → R x y → x < N)
    (decided : (a b : ℕ) → Dec (R a b))
  where
    pub dec_path : (w a : ℕ) → Dec (Path R w a)
    dec_path w a = go (ℕ_discrete a w) (dec_via decided N w a)
      where
        go : Dec (a ≡ w) → Dec (Via R N w a) → Dec (Path R w a)
        go (yes e) x = yes (stop e)
        go (no n) (yes Q) = yes (via_path Q)
        go (no n) (no m) = no (λ P. ⊎_elim n m (path_via leaves P))

    pub dec_around : (v : ℕ) → Dec (Around R v)
    dec_around v = map_dec via_around (around_via leaves) (dec_via decided N v v)

    around_below : (v : ℕ) → Around R v → v < N
    around_below v (u, r, P) = leaves v u r

    pub dec_some_around : Dec ((v : ℕ) × Around R v)
    dec_some_around = dec_some (Around R) N around_below dec_around

    pub dec_reached_around : (s : ℕ) → Dec ((v : ℕ) × Path R v s × Around R v)
    dec_reached_around s =
        map_dec (λ x. (x.0, x.1.0, x.1.1)) (λ x. (x.0, (x.1, x.2)))
        (dec_some (λ v. Path R v s × Around R v) N (λ v x. around_below v x.1) (λ v. Dec.and (dec_path v s) (dec_around v)))

dec_ok : (q : Choice) (b : Bool) → Dec (Ok q b)
dec_ok old true = no (λ h. h)
dec_ok old false = yes tt
dec_ok new true = yes tt
dec_ok new false = no (λ h. h)
dec_ok either true = yes tt
dec_ok either false = yes tt

pub dec_step : (o n : ℕ → ℕ) (c : ℕ → Choice) (a b : ℕ) → Dec (Step o n c a b)
dec_step o n c a b = go (dec_lt a 512) (at true) (at false)
  where
    By : Bool → Type 0
    By x = Ok (c a) x × (cond x (n a) (o a) ≡ b)

    at : (x : Bool) → Dec (By x)
    at x = Dec.and (dec_ok (c a) x) (ℕ_discrete (cond x (n a) (o a)) b)

    go : Dec (a < 512) → Dec (By true) → Dec (By false) → Dec (Step o n c a b)
    go (yes h) (yes p) x = yes (record { node = h; bit = true; allowed = p.0; goes = p.1 })
    go (yes h) (no m) (yes p) = yes (record { node = h; bit = false; allowed = p.0; goes = p.1 })
    go (yes h) (no m) (no l) = no (λ s. none s.bit (s.allowed, s.goes))
      where
        none : (x : Bool) → By x → ⊥
        none true p = m p
        none false p = l p
    go (no h) x y = no (λ s. h s.node)
