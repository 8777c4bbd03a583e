-- The last exit law: for each path there is one state, in which every node that the path leaves comes to the path's end.
-- The state takes at each node the step that the path takes when it leaves that node for the last time. By induction on
-- the path: a step before a path changes the state at its node only if the path does not leave that node later. Assumes
-- nothing.
--
--   bit_of q             == a bit that the choice q allows: new where only that is, else old
--   bit_of_ok            == it allows it
--   usual c              == the state that takes at each node a bit that its choice allows, old where both are allowed
--   usual_respects       == it respects the choice
--   put X a b            == the state X with the bit b at a
--   put_same, put_other  == what it holds at a, and elsewhere
--   put_respects         == it respects the choice, where X does and a may have b
--   Comes o n X S w v    == in the state X v comes to w in at least one hop, and leaves only what is in the set S
--   LastExit o n c P     == a state that respects c in which each node that P leaves comes to P's end, and leaves only
--                           nodes that P leaves
--   last_exit            == there is one for each path
use Prim.Native.Nat.{ℕ, zero, suc, ◌≤◌}
use native.Mathlib.Omega.{arith}
use native.Mathlib.Decide.{ℕ_discrete}
use mathlib.Core.Path.{◌≡◌, refl, sym, ◌∙◌, ap, subst}
use mathlib.Core.Bool.{Bool, true, false, cond}
use mathlib.Core.Logic.{inl, inr, ⊎_elim, ite, if_pos, if_neg}
use lib.Dec.{ltb}
use Rattle.graph.specs.Graph.{Choice, old, new, either, Ok, State, Respects, Step, Path, stop, step, next, walk}
use Rattle.graph.proofs.Paths.{Src, dec_src, src_first}
use Rattle.graph.proofs.Trail.{next_node}

abbrev pub bit_of : Choice → Bool
bit_of old = false
bit_of new = true
bit_of either = false

pub bit_of_ok : (q : Choice) → Ok q (bit_of q)
bit_of_ok old = tt
bit_of_ok new = tt
bit_of_ok either = tt

abbrev pub usual : (ℕ → Choice) → State
usual c v = bit_of (c v)

pub usual_respects : (c : ℕ → Choice) → Respects c (usual c)
usual_respects c = record { respects = λ v. bit_of_ok (c v) }

abbrev pub put {ℓ} : {A : Type ℓ} → (ℕ → A) → ℕ → A → ℕ → A
put X a b v = ite (ℕ_discrete v a) b (X v)

pub put_same {ℓ} : {A : Type ℓ} (X : ℕ → A) (a : ℕ) (b : A) → put X a b a ≡ b
put_same X a b = if_pos (ℕ_discrete a a) refl b (X a)

pub put_other {ℓ} : {A : Type ℓ} (X : ℕ → A) (a : ℕ) (b : A) (v : ℕ) → (v ≡ a → ⊥) → put X a b v ≡ X v
put_other X a b v h = if_neg (ℕ_discrete v a) h b (X v)

pub put_respects : (c : ℕ → Choice) (X : State) (a : ℕ) (b : Bool) → Respects c X → Ok (c a) b → Respects c (put X a b)
put_respects c X a b r k = record { respects = λ v. go v (ℕ_discrete v a) }
  where
    go : (v : ℕ) (d : Dec (v ≡ a)) → Ok (c v) (ite d b (X v))
    go v (yes e) = subst (λ (u : ℕ). Ok (c u) b) (sym e) k
    go v (no h) = r.respects v

next_same : (o n : ℕ → ℕ) (X Y : State) (v : ℕ) → X v ≡ Y v → next o n X v ≡ next o n Y v
next_same o n X Y v e = ap (λ b. cond (ltb v 512) (cond b (n v) (o v)) v) e

-- from v the hops of f lead to w, at least one hop, and leave only what is in S
data Leads (f : ℕ → ℕ) (S : ℕ → Type 0) (w : ℕ) : ℕ → Type 0 where
  one : {v : ℕ} → S v → f v ≡ w → Leads f S w v
  more : {v u : ℕ} → S v → f v ≡ u → Leads f S w u → Leads f S w v

leads_maps : {f g : ℕ → ℕ} {S S' : ℕ → Type 0} {w v : ℕ}
    → ((u : ℕ) → S u → (g u ≡ f u) × S' u)
    → Leads f S w v
    → Leads g S' w v
leads_maps h (one {v} s e) = one (h v s).1 ((h v s).0 ∙ e)
leads_maps h (more {v} s e l) = more (h v s).1 ((h v s).0 ∙ e) (leads_maps h l)

pub record Comes (o n : ℕ → ℕ) (X : State) (S : ℕ → Type 0) (w v : ℕ) : Type 0 where
  pub hops : ℕ
  pub comes : walk o n X v (suc hops) ≡ w
  pub through : (i : ℕ) → i ≤ hops → S (walk o n X v i)

pub record LastExit (o n : ℕ → ℕ) (c : ℕ → Choice) {a w : ℕ} (P : Path (Step o n c) w a) : Type 0 where
  pub state : State
  pub respected : Respects c state
  pub exits : (v : ℕ) → Src v P → Comes o n state (λ u. Src u P) w v

walk_first : (o n : ℕ → ℕ) (X : State) (v u k : ℕ) → next o n X v ≡ u → walk o n X v (suc k) ≡ walk o n X u k
walk_first o n X v u zero e = e
walk_first o n X v u (suc k) e = ap (next o n X) (walk_first o n X v u k e)

leads_comes : (o n : ℕ → ℕ) (X : State) {S : ℕ → Type 0} {w v : ℕ} → Leads (next o n X) S w v → Comes o n X S w v
leads_comes o n X {S} (one {v} s e) = record { hops = 0; comes = e; through = at }
  where
    at : (i : ℕ) → i ≤ 0 → S (walk o n X v i)
    at zero h = s
    at (suc i) h = absurd (omega arith)
leads_comes o n X {S} {w} (more {v} {u} s e l) = go (leads_comes o n X l)
  where
    at : (k : ℕ) → ((i : ℕ) → i ≤ k → S (walk o n X u i)) → (i : ℕ) → i ≤ suc k → S (walk o n X v i)
    at k f zero h = s
    at k f (suc i) h = subst S (sym (walk_first o n X v u i e)) (f i (omega arith))

    go : Comes o n X S w u → Comes o n X S w v
    go m =
        record {
          hops = suc m.hops;
          comes = walk_first o n X v u (suc m.hops) e ∙ m.comes;
          through = at m.hops m.through;
        }

record Leading (o n : ℕ → ℕ) (c : ℕ → Choice) {a w : ℕ} (P : Path (Step o n c) w a) : Type 0 where
  state : State
  respected : Respects c state
  leads : (v : ℕ) → Src v P → Leads (next o n state) (λ u. Src u P) w v

leading : (o n : ℕ → ℕ) (c : ℕ → Choice) {w a : ℕ} (P : Path (Step o n c) w a) → Leading o n c P
leading o n c (stop e) = record { state = usual c; respected = usual_respects c; leads = λ v. absurd }
leading o n c {w = w} (step {a = a} {b = b} s P) = go (leading o n c P) (dec_src a P)
  where
    go : Leading o n c P → Dec (Src a P) → Leading o n c (step s P)
    go m (yes h) =
        record {
          state = m.state;
          respected = m.respected;
          leads = λ v i. leads_maps (λ u j. (refl, inr j)) (m.leads v (⊎_elim (again v) (λ j. j) i));
        }
      where
        again : (v : ℕ) → v ≡ a → Src v P
        again v e = subst (λ (x : ℕ). Src x P) (sym e) h
    go m (no h) =
        record {
          state = X;
          respected = put_respects c m.state a s.bit m.respected s.allowed;
          leads = λ v. ⊎_elim (λ e. subst (Leads (next o n X) Leaves w) (sym e) first) (later v);
        }
      where
        X : State
        X = put m.state a s.bit

        Leaves : ℕ → Type 0
        Leaves u = Src u (step s P)

        goes : next o n X a ≡ b
        goes = next_node o n X a s.node ∙ ap (λ x. cond x (n a) (o a)) (put_same m.state a s.bit) ∙ s.goes

        same : (u : ℕ) → Src u P → next o n X u ≡ next o n m.state u
        same u j = next_same o n X m.state u (put_other m.state a s.bit u (λ e. h (subst (λ (x : ℕ). Src x P) e j)))

        later : (v : ℕ) → Src v P → Leads (next o n X) Leaves w v
        later v j = leads_maps (λ u k. (same u k, inr k)) (m.leads v j)

        first : Leads (next o n X) Leaves w a
        first = ⊎_elim (λ e. one (inl refl) (goes ∙ e)) (λ j. more (inl refl) goes (later b j)) (src_first P)

pub last_exit : (o n : ℕ → ℕ) (c : ℕ → Choice) {a w : ℕ} (P : Path (Step o n c) w a) → LastExit o n c P
last_exit o n c P =
    let m : Leading o n c P = leading o n c P in
    record { state = m.state; respected = m.respected; exits = λ v j. leads_comes o n m.state (m.leads v j) }
