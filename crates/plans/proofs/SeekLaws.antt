-- Laws of the nodes sought, installs, removes and switches, by their codes. Assumes nothing.
--
--   code_apart           == changes with one code are the same
--   code_told            == whether a code is that of the change k, where a test tells whether the change is k
--   sought_by            == the nodes sought by a test that tells of each node what f does
--   sought_coded         == the same of a test whether a node's change is k
--   seeks_begins, seeks_skips, seeks_takes == the nodes sought, one node more at a time
--   backward_begins, backward_skips, backward_takes == the switches from the route's end backward, one node more at a time
use Prim.Native.Nat.{ℕ, zero, suc, ◌+◌, ◌<◌, ◌≤◌}
use native.Mathlib.Omega.{arith}
use native.Mathlib.Numerals.{add-one}
use native.Mathlib.Decide.{ℕ_discrete}
use mathlib.Core.Path.{◌≡◌, refl, sym, ap, ◌∙◌}
use mathlib.Core.Bool.{Bool, true, false, cond}
use mathlib.Core.List.{List, [], ◌∷◌, ◌++◌, reverse, reverse-cons, append-nil}
use lib.ListN.{length, get_or, set, take, drop, length-set}
use lib.Seq.{drop-length, drop-cons, take-suc-set, get_or-set_same, get_or-set_other}
use lib.Dec.{eqb}
use borrow.Author.Tests.{eq-eqb, ne_eqb}
use Rattle.routes.specs.declared.rule.Change.{Change}
use Rattle.routes.specs.declared.rule.Change.TheVariants.{Kept, Install, Remove, Switch}
use Rattle.routes.specs.Rules.{change_of}
use Rattle.plans.specs.Plan.{keep}
use Rattle.routes.specs.Walk.{State}
use Rattle.plans.proofs.IdLists.{clash}
use Rattle.plans.specs.Working.{code_of, coded, Sought, SoughtBy, Backward}

abbrev change_no : ℕ → Change
change_no zero = Kept
change_no (suc zero) = Install
change_no (suc (suc zero)) = Remove
change_no (suc (suc (suc n))) = Switch

code_back : (k : Change) → change_no (code_of k) ≡ k
code_back Kept = refl
code_back Install = refl
code_back Remove = refl
code_back Switch = refl

pub code_apart : {x k : Change} → code_of x ≡ code_of k → x ≡ k
code_apart {x} {k} e = sym (code_back x) ∙ ap change_no e ∙ code_back k

pub code_told : (x k : Change) {t : Bool} → (t ≡ true → x ≡ k) → (t ≡ false → x ≡ k → ⊥) → eqb (code_of x) (code_of k) ≡ t
code_told x k {t = true} y n = eq-eqb (code_of x) (code_of k) (ap code_of (y refl))
code_told x k {t = false} y n = ne_eqb (code_of x) (code_of k) (λ e. n refl (code_apart e))

pub sought_by :
    {Q : ℕ → Bool → Type 0} {f : State} {c c' : List ℕ}
    → ((v : ℕ) (b : Bool) → v < 512 → Q v b → f v ≡ b)
    → SoughtBy Q c c' 512
    → Sought f c c' 512
sought_by t s =
    record {
      size = s.size;
      at = λ v h. let a = s.at v h in rw (t v a.0 h a.1) a.2;
      past = s.past;
    }

pub sought_coded :
    {Q : ℕ → Bool → Type 0} (a b : List ℕ) (k : Change) {c c' : List ℕ}
    → ((v : ℕ) (t : Bool)
    → v < 512
    → Q v t
    → (t ≡ true → change_of (get_or a v 512) (get_or b v 512) ≡ k)
    × (t ≡ false → change_of (get_or a v 512) (get_or b v 512) ≡ k → ⊥))
    → SoughtBy Q c c' 512
    → Sought (coded a b (code_of k)) c c' 512
sought_coded a b k t s =
    sought_by
    (λ v r h q. let u = t v r h q in code_told (change_of (get_or a v 512) (get_or b v 512)) k u.0 u.1)
    s

pub seeks_begins : (Q : ℕ → Bool → Type 0) {c : List ℕ} → length c ≡ 512 → SoughtBy Q c c 0
seeks_begins Q e = record { size = e; at = λ v h. absurd (omega arith); past = λ v h. refl }

module _ {Q : ℕ → Bool → Type 0} {c c' : List ℕ} {i : ℕ} (s : SoughtBy Q c c' i) (h : i < 512) where
  pub seeks_skips : Q i false → SoughtBy Q c c' (i + 1)
  seeks_skips n = record { size = s.size; at = λ v l. go v l (ℕ_discrete v i); past = λ v l. s.past v (omega arith) }
    where
      go : (v : ℕ) → v < i + 1 → Dec (v ≡ i) → (b : Bool) × Q v b × (get_or c' v 0 ≡ cond b 2 (get_or c v 0))
      go v l (yes q) = (false, rw q n, rw q (s.past i (omega arith)))
      go v l (no q) = s.at v (omega arith)

  pub seeks_takes : Q i true → SoughtBy Q c (set c' i 2) (i + 1)
  seeks_takes n =
      record {
        size = length-set c' i 2 ∙ s.size;
        at = λ v l. go v l (ℕ_discrete v i);
        past = λ v l. get_or-set_other c' i v 2 0 (λ z. omega arith) ∙ s.past v (omega arith);
      }
    where
      go : (v : ℕ) → v < i + 1 → Dec (v ≡ i) → (b : Bool) × Q v b × (get_or (set c' i 2) v 0 ≡ cond b 2 (get_or c v 0))
      go v l (yes q) = (true, rw q n, rw q (get_or-set_same c' i 2 0 (omega (arith, s.size))))
      go v l (no q) = let a = s.at v (omega arith) in (a.0, a.1, get_or-set_other c' i v 2 0 q ∙ a.2)

keep_append : (f : ℕ → Bool) (l m : List ℕ) → keep f (l ++ m) ≡ keep f l ++ keep f m
unfolding keep
keep_append f [] m = refl
keep_append f (v ∷ l) m = go (f v) (keep_append f l m)
  where
    go :
        (t : Bool)
        → keep f (l ++ m) ≡ keep f l ++ keep f m
        → cond t (v ∷ keep f (l ++ m)) (keep f (l ++ m)) ≡ cond t (v ∷ keep f l) (keep f l) ++ keep f m
    go true e = ap (λ (k : List ℕ). v ∷ k) e
    go false e = e

keep_one : (f : ℕ → Bool) (v : ℕ) → keep f (v ∷ []) ≡ cond (f v) (v ∷ []) []
unfolding keep
keep_one f v = refl

keep_back : (f : ℕ → Bool) (n : List ℕ) (i : ℕ) → i < length n
    → keep f (reverse (drop i n)) ≡ keep f (reverse (drop (suc i) n)) ++ cond (f (get_or n i 0)) (get_or n i 0 ∷ []) []
keep_back f n i h =
    rw (drop-cons n i 0 h, reverse-cons (get_or n i 0) (drop (suc i) n))
    (keep_append f (reverse (drop (suc i) n)) (get_or n i 0 ∷ []) ∙ rw (keep_one f (get_or n i 0)))

pub backward_begins : (a b : List ℕ) {n left : List ℕ} (k : ℕ) → k ≡ length n → length left ≡ 256 → Backward a b n k left 0
unfolding keep
backward_begins a b {n} k q e = record { places = e; fewer = omega arith; taken = rw (q, drop-length n) }

module _
    {a b n left : List ℕ} {i many v : ℕ} (k : ℕ)
    (s : Backward a b n i left many)
    (h : i ≡ k + 1)
    (e : v ≡ get_or n k 0)
  where
    below : k < length n
    below = omega (arith, s.fewer)

    before : take many left ≡ keep (coded a b 3) (reverse (drop (suc k) n))
    before = let z : suc k ≡ i = omega arith in rw z s.taken

    at_v : {t : Bool}
        → (t ≡ true → change_of (get_or a v 512) (get_or b v 512) ≡ Switch)
        → (t ≡ false → change_of (get_or a v 512) (get_or b v 512) ≡ Switch → ⊥)
        → coded a b 3 v ≡ t
    at_v = code_told (change_of (get_or a v 512) (get_or b v 512)) Switch

    pub backward_skips : (change_of (get_or a v 512) (get_or b v 512) ≡ Switch → ⊥) → Backward a b n k left many
    backward_skips d =
        record {
          places = s.places;
          fewer = omega (arith, s.fewer);
          taken =
              before
              ∙ sym
              (keep_back (coded a b 3) n k below
              ∙ rw (← e, at_v {t = false} (λ q. absurd (clash q refl)) (λ q. d)) (append-nil (keep (coded a b 3) (reverse (drop (suc k) n)))));
        }

    pub backward_takes : length n ≤ 256 → change_of (get_or a v 512) (get_or b v 512) ≡ Switch → Backward a b n k (set left many v) (many + 1)
    backward_takes m d =
        record {
          places = length-set left many v ∙ s.places;
          fewer = omega (arith, s.fewer);
          taken =
              rw (add-one many, take-suc-set left many v (omega (arith, s.fewer, s.places)), before)
              (sym (keep_back (coded a b 3) n k below ∙ rw (← e, at_v {t = true} (λ q. d) (λ q. absurd (clash refl q)))));
        }
