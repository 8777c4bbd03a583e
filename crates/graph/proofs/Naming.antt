-- Naming one state that shows a fault: going through the ids rising, an id that may be old or new is set to old where the
-- fault is still possible then, and to new where it is not. Assumes nothing.
--
--   Named Sh c i c'      == c' is the choice c with the ids below i decided so, for the fault Sh: c' allows only what c
--                           allows, no id below i has both, from i on c' is c, the fault is possible with c', and a state
--                           that respects c and shows the fault and first departs from c' at an id x below i has x new
--                           where c' has it old
--   named_start          == at the start c' is c
--   named_old            == the id i set to old, where the fault is possible then
--   named_new            == the id i set to new, where it is not
--   named_skip           == ids that have no two choices are passed over
--   Least Sh c Y         == Y respects c and shows the fault; and of any other state Z that does, at the lowest id at which
--                           the two differ Y is false and Z true
--   named_end            == at the end, where no id has both, the bits of c' are the least state
--   least_one            == there is but one least state
--   choices_set          == a choice set in a list
use Prim.Native.Nat.{ℕ, zero, suc, ◌≤◌, ◌<◌}
use native.Mathlib.Omega.{arith}
use native.Mathlib.Decide.{ℕ_discrete, dec_lt}
use mathlib.Core.Path.{◌≡◌, refl, sym, ◌∙◌, ap, subst, fun_ext}
use mathlib.Core.Bool.{Bool, true, false, Bool-discrete}
use mathlib.Core.List.{List}
use mathlib.Core.Logic.{ite}
use lib.ListN.{length, set}
use lib.Seq.{get_or-set_same, get_or-set_other}
use Rattle.graph.specs.Graph.{Choice, old, new, either, choice_of, choices, Ok, State, Respects}
use Rattle.graph.proofs.LastExit.{bit_of, bit_of_ok, usual, put, put_same, put_other}
use Rattle.graph.proofs.Equivalences.{Possible}

pub record Named (Sh : State → Type 0) (c : ℕ → Choice) (i : ℕ) (c' : ℕ → Choice) : Type 0 where
  pub narrows : (v : ℕ) (b : Bool) → Ok (c' v) b → Ok (c v) b
  pub decided : (v : ℕ) → v < i → c' v ≡ either → ⊥
  pub kept : (v : ℕ) → i ≤ v → c' v ≡ c v
  pub possible : Possible c' Sh
  pub least : (Z : State) → Respects c Z → Sh Z → (x : ℕ) → x < i
      → ((v : ℕ) → v < x → Ok (c' v) (Z v))
      → (Ok (c' x) (Z x) → ⊥)
      → (c' x ≡ old) × (Z x ≡ true)

pub named_start : {Sh : State → Type 0} {c : ℕ → Choice} → Possible c Sh → Named Sh c 0 c
named_start p =
    record {
      narrows = λ v b h. h;
      decided = λ v h e. absurd (omega arith);
      kept = λ v h. refl;
      possible = p;
      least = λ Z r s x h. absurd (omega arith);
    }

either_ok : (b : Bool) → Ok either b
either_ok true = tt
either_ok false = tt

old_either : old ≡ either → ⊥
old_either e = let z : ◌≡◌ {A = ℕ} 0 1 = cc in omega arith

new_either : new ≡ either → ⊥
new_either e = let z : ◌≡◌ {A = ℕ} 0 1 = cc in omega arith

old_true : (b : Bool) → (Ok old b → ⊥) → b ≡ true
old_true true h = refl
old_true false h = absurd (h tt)

module _ {Sh : State → Type 0} {c c' : ℕ → Choice} {i : ℕ} (m : Named Sh c i c') where
  -- the id i decided, in any way: what has to hold at i itself
  decide : (c'' : ℕ → Choice)
      → ((v : ℕ) → (v ≡ i → ⊥) → c'' v ≡ c' v)
      → ((b : Bool) → Ok (c'' i) b → Ok (c i) b)
      → (c'' i ≡ either → ⊥)
      → Possible c'' Sh
      → ((Z : State) → Respects c Z → Sh Z
      → ((v : ℕ) → v < i → Ok (c' v) (Z v))
      → (Ok (c'' i) (Z i) → ⊥)
      → (c'' i ≡ old) × (Z i ≡ true))
      → Named Sh c (suc i) c''
  decide c'' other narrow one p at =
      record {
        narrows = λ v b. narrows v b (ℕ_discrete v i);
        decided = λ v h. decided v h (ℕ_discrete v i);
        kept = λ v h. other v (omega arith) ∙ m.kept v (omega arith);
        possible = p;
        least = λ Z r s x h. least Z r s x h (ℕ_discrete x i);
      }
    where
      narrows : (v : ℕ) (b : Bool) → Dec (v ≡ i) → Ok (c'' v) b → Ok (c v) b
      narrows v b (yes e) h = subst (λ (u : ℕ). Ok (c'' u) b → Ok (c u) b) (sym e) (narrow b) h
      narrows v b (no d) h = m.narrows v b (subst (λ q. Ok q b) (other v d) h)

      decided : (v : ℕ) → v < suc i → Dec (v ≡ i) → c'' v ≡ either → ⊥
      decided v h (yes e) k = one (ap c'' (sym e) ∙ k)
      decided v h (no d) k = m.decided v (omega arith) (sym (other v d) ∙ k)

      First : State → ℕ → Type 0
      First Z x =
          ((v : ℕ) → v < x → Ok (c'' v) (Z v)) → (Ok (c'' x) (Z x) → ⊥) → (c'' x ≡ old) × (Z x ≡ true)

      before : (Z : State) (x : ℕ) → x ≤ i → ((v : ℕ) → v < x → Ok (c'' v) (Z v)) → (v : ℕ) → v < x → Ok (c' v) (Z v)
      before Z x l f v h = subst (λ q. Ok q (Z v)) (other v (omega arith)) (f v h)

      least : (Z : State) → Respects c Z → Sh Z → (x : ℕ) → x < suc i → Dec (x ≡ i) → First Z x
      least Z r s x h (yes e) f d = subst (First Z) (sym e) (λ g. at Z r s (before Z i (omega arith) g)) f d
      least Z r s x h (no n) f d =
          let k : (c' x ≡ old) × (Z x ≡ true) =
          m.least Z r s x (omega arith) (before Z x (omega arith) f)
          (λ j. d (subst (λ q. Ok q (Z x)) (sym (other x n)) j))
          in
          (other x n ∙ k.0, k.1)

  ok_put : (q : Choice) (X : State) → ((v : ℕ) → (v ≡ i → ⊥) → Ok (c' v) (X v)) → Ok q (X i) → Respects (put c' i q) X
  ok_put q X f h = record { respects = λ v. go v (ℕ_discrete v i) }
    where
      go : (v : ℕ) (d : Dec (v ≡ i)) → Ok (ite d q (c' v)) (X v)
      go v (yes e) = subst (λ (u : ℕ). Ok q (X u)) (sym e) h
      go v (no d) = f v d

  pub named_old : c i ≡ either → Possible (put c' i old) Sh → Named Sh c (suc i) (put c' i old)
  named_old e p =
      decide (put c' i old) (put_other c' i old) (λ b h. subst (λ q. Ok q b) (sym e) (either_ok b))
      (λ k. old_either (sym (put_same c' i old) ∙ k))
      p
      (λ Z r s f d.
      (put_same c' i old, old_true (Z i) (λ h. d (subst (λ q. Ok q (Z i)) (sym (put_same c' i old)) h))))

  pub named_new : c i ≡ either → (Possible (put c' i old) Sh → ⊥) → Named Sh c (suc i) (put c' i new)
  named_new e none =
      decide (put c' i new) (put_other c' i new) (λ b h. subst (λ q. Ok q b) (sym e) (either_ok b))
      (λ k. new_either (sym (put_same c' i new) ∙ k))
      (record { state = X; respected = ok_put new X X_ok (subst (Ok new) (sym (must X X_ok X_shows)) tt); shows = X_shows })
      (λ Z r s f d.
      absurd
      (d (subst (λ q. Ok q (Z i)) (sym (put_same c' i new)) (subst (Ok new) (sym (must Z (agrees Z r f) s)) tt))))
    where
      X : State
      X = m.possible.state

      X_ok : (v : ℕ) → (v ≡ i → ⊥) → Ok (c' v) (X v)
      X_ok v d = m.possible.respected.respects v

      X_shows : Sh X
      X_shows = m.possible.shows

      must : (Z : State) → ((v : ℕ) → (v ≡ i → ⊥) → Ok (c' v) (Z v)) → Sh Z → Z i ≡ true
      must Z f s = old_true (Z i) (λ h. none (record { state = Z; respected = ok_put old Z f h; shows = s }))

      agrees : (Z : State) → Respects c Z → ((v : ℕ) → v < i → Ok (c' v) (Z v)) → (v : ℕ) → (v ≡ i → ⊥) → Ok (c' v) (Z v)
      agrees Z r f v d = go (dec_lt v i)
        where
          go : Dec (v < i) → Ok (c' v) (Z v)
          go (yes h) = f v h
          go (no h) = subst (λ q. Ok q (Z v)) (sym (m.kept v (omega arith))) (r.respects v)

  skip : (c i ≡ either → ⊥) → Named Sh c (suc i) c'
  skip one =
      decide c' (λ v d. refl) (m.narrows i) (λ e. one (sym (m.kept i (omega arith)) ∙ e)) m.possible
      (λ Z r s f d. absurd (d (subst (λ q. Ok q (Z i)) (sym (m.kept i (omega arith))) (r.respects i))))

pub named_skip : {Sh : State → Type 0} {c c' : ℕ → Choice} {i : ℕ} → Named Sh c i c'
    → (j : ℕ) → i ≤ j → ((v : ℕ) → i ≤ v → v < j → c v ≡ either → ⊥)
    → Named Sh c j c'
named_skip {Sh} {c} {c'} {i} m zero h f = let e : i ≡ 0 = omega arith in subst (λ (k : ℕ). Named Sh c k c') e m
named_skip {Sh} {c} {c'} {i} m (suc j) h f =
    go (λ l. named_skip m j l (λ v a b. f v a (omega arith))) (ℕ_discrete i (suc j))
  where
    go : (i ≤ j → Named Sh c j c') → Dec (i ≡ suc j) → Named Sh c (suc j) c'
    go rec (yes e) = subst (λ (k : ℕ). Named Sh c k c') e m
    go rec (no d) = skip (rec (omega arith)) (f j (omega arith) (omega arith))

pub record Least (Sh : State → Type 0) (c : ℕ → Choice) (Y : State) : Type 0 where
  pub respected : Respects c Y
  pub shows : Sh Y
  pub lowest : (Z : State) → Respects c Z → Sh Z → (x : ℕ)
      → ((v : ℕ) → v < x → Y v ≡ Z v)
      → (Y x ≡ Z x → ⊥)
      → (Y x ≡ false) × (Z x ≡ true)

ok_one : (q : Choice) (a b : Bool) → (q ≡ either → ⊥) → Ok q a → Ok q b → a ≡ b
ok_one old false false n x y = refl
ok_one new true true n x y = refl
ok_one either a b n x y = absurd (n refl)
ok_one old false true n x y = elim y [ ]
ok_one old true b n x y = elim x [ ]
ok_one new false b n x y = elim x [ ]
ok_one new true false n x y = elim y [ ]

pub named_end : {Sh : State → Type 0} {c c' : ℕ → Choice} {i : ℕ} → Named Sh c i c'
    → ((v : ℕ) → i ≤ v → c v ≡ either → ⊥)
    → Least Sh c (usual c')
named_end {Sh} {c} {c'} {i} m rest =
    record {
      respected = record { respects = λ v. m.narrows v (Y v) (Y_ok v) };
      shows = subst Sh (fun_ext (λ v. same v m.possible.state (m.possible.respected.respects v))) m.possible.shows;
      lowest = λ Z r s x f d. lowest Z r s x f d (dec_lt x i);
    }
  where
    Y : State
    Y = usual c'

    Y_ok : (v : ℕ) → Ok (c' v) (Y v)
    Y_ok v = bit_of_ok (c' v)

    one : (v : ℕ) → Dec (v < i) → c' v ≡ either → ⊥
    one v (yes h) e = m.decided v h e
    one v (no h) e = rest v (omega arith) (sym (m.kept v (omega arith)) ∙ e)

    same : (v : ℕ) (X : State) → Ok (c' v) (X v) → X v ≡ Y v
    same v X h = ok_one (c' v) (X v) (Y v) (one v (dec_lt v i)) h (Y_ok v)

    lowest : (Z : State) → Respects c Z → Sh Z → (x : ℕ)
        → ((v : ℕ) → v < x → Y v ≡ Z v)
        → (Y x ≡ Z x → ⊥)
        → Dec (x < i)
        → (Y x ≡ false) × (Z x ≡ true)
    lowest Z r s x f d (yes h) =
        let k : (c' x ≡ old) × (Z x ≡ true) =
        m.least Z r s x h (λ v l. subst (Ok (c' v)) (f v l) (Y_ok v)) (λ j. d (sym (same x Z j)))
        in
        (ap bit_of k.0, k.1)
    lowest Z r s x f d (no h) =
        absurd (d (sym (same x Z (subst (λ q. Ok q (Z x)) (sym (m.kept x (omega arith))) (r.respects x)))))

pub least_one : {Sh : State → Type 0} {c : ℕ → Choice} {Y Z : State} → Least Sh c Y → Least Sh c Z → (v : ℕ) → Y v ≡ Z v
least_one {Sh} {c} {Y} {Z} y z v = below (suc v) v (omega arith)
  where
    at : (x : ℕ) → ((v : ℕ) → v < x → Y v ≡ Z v) → Dec (Y x ≡ Z x) → Y x ≡ Z x
    at x f (yes e) = e
    at x f (no d) =
        (y.lowest Z z.respected z.shows x f d).0
        ∙ sym (z.lowest Y y.respected y.shows x (λ v h. sym (f v h)) (λ e. d (sym e))).0

    below : (k v : ℕ) → v < k → Y v ≡ Z v
    below zero v h = absurd (omega arith)
    below (suc k) v h = go (below k) (ℕ_discrete v k)
      where
        go : ((v : ℕ) → v < k → Y v ≡ Z v) → Dec (v ≡ k) → Y v ≡ Z v
        go f (yes e) = subst (λ (x : ℕ). Y x ≡ Z x) (sym e) (at k f (Bool-discrete (Y k) (Z k)))
        go f (no d) = f v (omega arith)

pub choices_set : (l : List ℕ) (i q : ℕ) → i < length l → choices (set l i q) ≡ put (choices l) i (choice_of q)
choices_set l i q h = fun_ext (λ v. go v (ℕ_discrete v i))
  where
    go : (v : ℕ) (d : Dec (v ≡ i)) → choices (set l i q) v ≡ ite d (choice_of q) (choices l v)
    go v (yes e) = ap (λ u. choices (set l i q) u) e ∙ ap choice_of (get_or-set_same l i q 0 h)
    go v (no d) = ap choice_of (get_or-set_other l i v q 0 d)
