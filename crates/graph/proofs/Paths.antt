-- Laws on paths over any relation R. Assumes nothing.
--
--   path_cast           == a path from b is one from a, where a ≡ b
--   path_joins          == a path to b and one from b make one
--   path_ends           == a path to b is one to w, where b ≡ w
--   path_more           == one more step at the end
--   path_reverses       == a path of the steps turned round, turned round
--   path_flattens       == a path whose steps are paths is a path
--   path_maps           == a path of R is one of R', where each step of R is a step of R'
--   path_stays          == a set that no step leaves holds the end of a path that starts in it
--   path_within         == where each step starts in S, a path to a node of S lies within S
--   around_entered      == a node of a closed path is entered by a step
--   path_carries        == where no step leaves S, a path from a node of S lies within S
--   around_maps, around_within, around_carries == the same for closed paths
--   within_maps         == a step within S is one within a larger set
--   Src u P             == the path P leaves the node u
--   dec_src             == whether P leaves u is decided
--   src_first           == a path stops where it starts, or leaves its start
--   src_joins           == what Q leaves, P joined with Q leaves
--   src_maps            == what P's image leaves, P leaves
--   path_after          == from a node that P leaves a step and a path lead to P's end
--   path_before         == a path leads from P's start to a node that P leaves
--   path_along          == a sequence of places is a path
--   path_back           == a sequence that goes back along the steps is a path
--   around_back         == it is closed where a place comes again
use Prim.Native.Nat.{ℕ, zero, suc, ◌≤◌, ◌<◌}
use native.Mathlib.Omega.{arith}
use native.Mathlib.Decide.{ℕ_discrete}
use mathlib.Core.Path.{◌≡◌, refl, sym, ◌∙◌, ap, subst}
use mathlib.Core.Logic.{◌⊎◌, inl, inr, ⊎_elim}
use Rattle.graph.specs.Graph.{Path, stop, step, Around, Within}

pub path_cast : {R : ℕ → ℕ → Type 0} {a b w : ℕ} → a ≡ b → Path R w b → Path R w a
path_cast e (stop d) = stop (e ∙ d)
path_cast {R} e (step {b = x} s P) = step (subst (λ (y : ℕ). R y x) (sym e) s) P

pub path_joins : {R : ℕ → ℕ → Type 0} {b a w : ℕ} → Path R b a → Path R w b → Path R w a
path_joins (stop e) Q = path_cast e Q
path_joins (step s P) Q = step s (path_joins P Q)

pub path_ends : {R : ℕ → ℕ → Type 0} {a b w : ℕ} → Path R b a → b ≡ w → Path R w a
path_ends P e = path_joins P (stop e)

pub path_more : {R : ℕ → ℕ → Type 0} {a b w : ℕ} → Path R b a → R b w → Path R w a
path_more P s = path_joins P (step s (stop refl))

pub path_reverses : {R : ℕ → ℕ → Type 0} {w a : ℕ} → Path (λ x y. R y x) w a → Path R a w
path_reverses (stop e) = stop (sym e)
path_reverses (step s P) = path_more (path_reverses P) s

pub path_maps : {R R' : ℕ → ℕ → Type 0} {w a : ℕ} → ((x y : ℕ) → R x y → R' x y) → Path R w a → Path R' w a
path_maps f (stop e) = stop e
path_maps f (step {a = x} {b = y} s P) = step (f x y s) (path_maps f P)

path_last : {R : ℕ → ℕ → Type 0} {w b : ℕ} (a : ℕ) → R a b → Path R w b → (y : ℕ) × R y w
path_last {R} a s (stop e) = (a, subst (λ (z : ℕ). R a z) e s)
path_last a s (step {a = x} t P) = path_last x t P

pub path_flattens : {R : ℕ → ℕ → Type 0} {w a : ℕ} → Path (λ x y. Path R y x) w a → Path R w a
path_flattens (stop e) = stop e
path_flattens (step P Q) = path_joins P (path_flattens Q)

pub around_entered : {R : ℕ → ℕ → Type 0} {v : ℕ} → Around R v → (y : ℕ) × R y v
around_entered {v = v} (u, s, P) = path_last v s P

pub path_stays : {R : ℕ → ℕ → Type 0} {w a : ℕ} (S : ℕ → Type 0) → ((x y : ℕ) → S x → R x y → S y) → S a → Path R w a → S w
path_stays S f h (stop e) = subst S e h
path_stays S f h (step {a = x} {b = y} s P) = path_stays S f (f x y h s) P

starts_in : {R : ℕ → ℕ → Type 0} {a w : ℕ} (S : ℕ → Type 0) → ((x y : ℕ) → R x y → S x) → S w → Path R w a → S a
starts_in S f h (stop e) = subst S (sym e) h
starts_in S f h (step {a = x} {b = y} s P) = f x y s

pub path_within : {R : ℕ → ℕ → Type 0} {w a : ℕ} (S : ℕ → Type 0)
    → ((x y : ℕ) → R x y → S x)
    → S w
    → Path R w a
    → Path (Within S R) w a
path_within S f h (stop e) = stop e
path_within S f h (step {a = x} {b = y} s P) =
    step (record { from = f x y s; steps = s; to = starts_in S f h P }) (path_within S f h P)

pub path_carries : {R : ℕ → ℕ → Type 0} {w a : ℕ} (S : ℕ → Type 0)
    → ((x y : ℕ) → S x → R x y → S y)
    → S a
    → Path R w a
    → Path (Within S R) w a
path_carries S f h (stop e) = stop e
path_carries S f h (step {a = x} {b = y} s P) =
    step (record { from = h; steps = s; to = f x y h s }) (path_carries S f (f x y h s) P)

pub around_maps : {R R' : ℕ → ℕ → Type 0} {v : ℕ} → ((x y : ℕ) → R x y → R' x y) → Around R v → Around R' v
around_maps {v = v} f (u, s, P) = (u, f v u s, path_maps f P)

pub around_within : {R : ℕ → ℕ → Type 0} {v : ℕ} (S : ℕ → Type 0)
    → ((x y : ℕ) → R x y → S x)
    → Around R v
    → Around (Within S R) v
around_within {v = v} S f (u, s, P) =
    (u, record { from = f v u s; steps = s; to = starts_in S f (f v u s) P }, path_within S f (f v u s) P)

pub around_carries : {R : ℕ → ℕ → Type 0} {v : ℕ} (S : ℕ → Type 0)
    → ((x y : ℕ) → S x → R x y → S y)
    → S v
    → Around R v
    → Around (Within S R) v
around_carries {v = v} S f h (u, s, P) =
    (u, record { from = h; steps = s; to = f v u h s }, path_carries S f (f v u h s) P)

pub within_maps : {R : ℕ → ℕ → Type 0} {S S' : ℕ → Type 0}
    → ((x : ℕ) → S x → S' x)
    → (a b : ℕ)
    → Within S R a b
    → Within S' R a b
within_maps f a b s = record { from = f a s.from; steps = s.steps; to = f b s.to }

abbrev pub Src : {R : ℕ → ℕ → Type 0} {w a : ℕ} → ℕ → Path R w a → Type 0
Src u (stop e) = ⊥
Src u (step {a = x} s P) = (u ≡ x) ⊎ Src u P

pub dec_src : {R : ℕ → ℕ → Type 0} {w a : ℕ} (u : ℕ) (P : Path R w a) → Dec (Src u P)
dec_src u (stop e) = no (λ h. h)
dec_src u (step {a = x} s P) = go (ℕ_discrete u x) (dec_src u P)
  where
    go : Dec (u ≡ x) → Dec (Src u P) → Dec ((u ≡ x) ⊎ Src u P)
    go (yes e) d = yes (inl e)
    go (no n) (yes h) = yes (inr h)
    go (no n) (no m) = no (⊎_elim n m)

pub src_first : {R : ℕ → ℕ → Type 0} {a w : ℕ} (P : Path R w a) → (a ≡ w) ⊎ Src a P
src_first (stop e) = inl e
src_first (step s P) = inr (inl refl)

src_cast : {R : ℕ → ℕ → Type 0} {a b w : ℕ} (e : a ≡ b) (u : ℕ) (P : Path R w b) → Src u P → Src u (path_cast e P)
unfolding path_cast
src_cast e u (step s P) (inl d) = inl (d ∙ sym e)
src_cast e u (step s P) (inr h) = inr h
src_cast {R = R} {a = a} {b = b} {w = w} e u (stop _) x4 = elim x4 [ ]

pub src_joins : {R : ℕ → ℕ → Type 0} {b a w : ℕ} (P : Path R b a) (Q : Path R w b) (u : ℕ) → Src u Q → Src u (path_joins P Q)
unfolding path_joins
src_joins (stop e) Q u h = src_cast e u Q h
src_joins (step s P) Q u h = inr (src_joins P Q u h)

pub src_maps : {R R' : ℕ → ℕ → Type 0} {w a : ℕ} (f : (x y : ℕ) → R x y → R' x y) (P : Path R w a) (u : ℕ)
    → Src u (path_maps f P)
    → Src u P
unfolding path_maps
src_maps f (step s P) u (inl e) = inl e
src_maps f (step s P) u (inr h) = inr (src_maps f P u h)
src_maps {R = R} {w = w} f (stop {a = a} _) u x3 = elim x3 [ ]

pub path_after : {R : ℕ → ℕ → Type 0} {w a : ℕ} (u : ℕ) (P : Path R w a) → Src u P → (x : ℕ) × R u x × Path R w x
path_after {R} u (step {a = a} {b = b} s P) (inl e) = (b, subst (λ (y : ℕ). R y b) (sym e) s, P)
path_after u (step s P) (inr h) = path_after u P h
path_after {R = R} {w = w} u (stop {a = a} _) x3 = elim x3 [ ]

pub path_before : {R : ℕ → ℕ → Type 0} {w a : ℕ} (u : ℕ) (P : Path R w a) → Src u P → Path R u a
path_before u (step s P) (inl e) = stop (sym e)
path_before u (step s P) (inr h) = step s (path_before u P h)
path_before {R = R} {w = w} u (stop {a = a} _) x3 = elim x3 [ ]

pub path_along : {R : ℕ → ℕ → Type 0} (p : ℕ → ℕ) (i j : ℕ) → i ≤ j
    → ((k : ℕ) → i ≤ k → k < j → R (p k) (p (suc k)))
    → Path R (p j) (p i)
path_along p i zero h f = let e : i ≡ 0 = omega arith in stop (ap p e)
path_along {R} p i (suc j) h f = go (λ l. path_along p i j l (λ k m n. f k m (omega arith))) (ℕ_discrete i (suc j))
  where
    go : (i ≤ j → Path R (p j) (p i)) → Dec (i ≡ suc j) → Path R (p (suc j)) (p i)
    go P (yes e) = stop (ap p e)
    go P (no n) = path_more (P (omega arith)) (f j (omega arith) (omega arith))

pub path_back : {R : ℕ → ℕ → Type 0} (p : ℕ → ℕ) (i j : ℕ) → i ≤ j
    → ((k : ℕ) → R (p (suc k)) (p k))
    → Path R (p i) (p j)
path_back {R} p i j h f = path_reverses (path_along {R = λ x y. R y x} p i j h (λ k l m. f k))

pub around_back : {R : ℕ → ℕ → Type 0} (p : ℕ → ℕ) (i j : ℕ) → i < j → p i ≡ p j
    → ((k : ℕ) → R (p (suc k)) (p k))
    → Around R (p j)
around_back p i (suc j) h e f = (p j, f j, path_ends (path_back p i j (omega arith) f) e)
around_back p i zero h e f = absurd (omega arith)
