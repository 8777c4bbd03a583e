-- Laws of a pass over the switches left. Assumes nothing.
--
--   glance_strong, glance_relaxed == what is seen at first
--   pass_begins, pass_joins, pass_waits, pass_turn, pass_ends == a pass, one switch more at a time, which joins or waits
--   pass_free            == the switch that comes next is of no round yet
use Prim.Native.Nat.{ℕ, suc, ◌+◌, ◌<◌, ◌≤◌}
use native.Mathlib.Omega.{arith}
use native.Mathlib.Numerals.{add-one}
use mathlib.Core.Path.{◌≡◌, refl, sym, ap, ◌∙◌}
use mathlib.Core.Bool.{Bool, true, false, cond}
use mathlib.Core.List.{List, [], ◌∷◌, append_assoc, append-nil}
use lib.ListN.{length, get_or, set, take, drop, length-set, drop_of_length-le, length-replicate, replicate}
use lib.Seq.{drop-drop, drop-cons, drop-set-lt, take-set-lt, take-suc-set, length-take-le, get_or-take, get_or-set_other}
use Rattle.graph.specs.Search.{Reached}
use Rattle.plans.specs.Working.{Fits, Seen, Free, Tried, may, may_not, Tries, all_tried, joins, waits}
use Rattle.plans.specs.Working.{Lined, Pass, Passed}

pub glance_strong : (a b c : List ℕ) (s : ℕ) → Seen 0 a b c s (replicate 514 false)
glance_strong a b c s = record { size = length-replicate 514 false; seen = tt }

pub glance_relaxed : {a b c : List ℕ} {s : ℕ} {m : List Bool} → Reached a b c s m → Seen 1 a b c s m
glance_relaxed r = record { size = r.size; seen = r }

pub pass_begins :
    {mode : ℕ} {a b c left : List ℕ} {s many : ℕ} {m : List Bool}
    → Lined c left 0 many
    → Fits mode a b c s
    → Seen mode a b c s m
    → Pass mode a b s c left many m c left 0 0
pass_begins l f k =
    record { lined = l; so_far = omega arith; fewer = omega arith; as_was = refl; fits = f; marks = k; tried = λ c' W t. t }

module _ {mode : ℕ} {a b c₀ left₀ c left : List ℕ} {s many i kept : ℕ} {m : List Bool}
    (p : Pass mode a b s c₀ left₀ many m c left i kept)
  where
    pub pass_free : i < many → Free c (get_or left i 0)
    pass_free h = p.lined.free i (omega arith) h

    inside : i < many → i < length (take many left)
    inside h = omega (arith, length-take-le many left (omega (arith, p.lined.most, p.lined.places)))

    -- the node at index i, and those after it
    next : i < many → drop i (take many left₀) ≡ get_or left i 0 ∷ drop (suc i) (take many left)
    next h = sym p.as_was ∙ drop-cons (take many left) i 0 (inside h) ∙ rw (get_or-take many left i 0 h)

    rest : i < many → drop (suc i) (take many left) ≡ drop (suc i) (take many left₀)
    rest h = go (next h)
      where
        go : drop i (take many left₀) ≡ get_or left i 0 ∷ drop (suc i) (take many left) → drop (suc i) (take many left) ≡ drop (suc i) (take many left₀)
        go e = ap (drop 1) (sym e) ∙ drop-drop 1 i (take many left₀) ∙ rw (add-one i)

    after :
        i < many
        → (k c' W : List ℕ)
        → Tries mode a b s (drop (i + 1) (take many left₀)) k c' W
        → Tries mode a b s (drop (suc i) (take many left)) k c' W
    after h k c' W t = rw (rest h) (rw (add-one i) at t)

    pub pass_joins :
        {v : ℕ} {m' : List Bool}
        → i < many
        → v ≡ get_or left i 0
        → Tried mode a b c s v true m'
        → Pass mode a b s c₀ left₀ many m' (set c v 2) left (i + 1) kept
    pass_joins {v} h e (may f k) =
        record {
          lined =
              record {
                size = length-set c v 2 ∙ p.lined.size;
                places = p.lined.places;
                most = p.lined.most;
                free = λ j l u. other j (omega arith) u (p.lined.free j (omega arith) u);
                distinct = λ j k l u w. p.lined.distinct j k (omega arith) u w;
              };
          so_far = omega arith;
          fewer = omega (arith, p.fewer);
          as_was = rw (add-one i) (rest h);
          fits = f;
          marks = k;
          tried = λ c' W t. p.tried c' W (rw (next h, sym e) (joins {W = W} f (after h (set c v 2) c' W t)));
        }
      where
        other : (j : ℕ) → i < j → j < many → Free c (get_or left j 0) → Free (set c v 2) (get_or left j 0)
        other j l u z =
            record {
              node = z.node;
              in_none =
                  get_or-set_other c v (get_or left j 0) 2 0 (λ q. p.lined.distinct i j (omega arith) l u (sym e ∙ sym q))
                  ∙ z.in_none;
            }

    pub pass_waits :
        {v : ℕ} {m' : List Bool}
        → i < many
        → v ≡ get_or left i 0
        → Tried mode a b c s v false m'
        → Pass mode a b s c₀ left₀ many m' c (set left kept v) (i + 1) (kept + 1)
    pass_waits {v} h e (may_not f k) =
        record {
          lined =
              record {
                size = p.lined.size;
                places = length-set left kept v ∙ p.lined.places;
                most = p.lined.most;
                free = λ j l u. rw (same j (omega (arith, p.fewer))) (p.lined.free j (omega arith) u);
                distinct =
                    λ j k l u w q.
                    p.lined.distinct j k (omega arith) u w
                    (sym (same j (omega (arith, p.fewer))) ∙ q ∙ same k (omega (arith, p.fewer)));
              };
          so_far = omega arith;
          fewer = omega (arith, p.fewer);
          as_was = rw (add-one i) (stays ∙ rest h);
          fits = p.fits;
          marks = k;
          tried =
              λ c' W t.
              rw (
                add-one kept,
                take-suc-set left kept v (omega (arith, p.fewer, p.lined.most, p.lined.places)),
                append_assoc (take kept left) (v ∷ []) W,
              )
              (p.tried c' (v ∷ W) (rw (next h, sym e) (waits {W = W} f (after h c c' W t))));
        }
      where
        same : (j : ℕ) → kept < j → get_or (set left kept v) j 0 ≡ get_or left j 0
        same j l = get_or-set_other left kept j v 0 (λ q. omega arith)

        stays : drop (suc i) (take many (set left kept v)) ≡ drop (suc i) (take many left)
        stays =
            rw (take-set-lt many left kept v (omega (arith, p.fewer)))
            (drop-set-lt (suc i) (take many left) kept v (omega (arith, p.fewer)))

    -- whichever it does
    pub pass_turn :
        {v : ℕ} {r : Bool} {m' : List Bool}
        → i < many
        → v ≡ get_or left i 0
        → Tried mode a b c s v r m'
        → Pass mode a b s c₀ left₀ many m' (cond r (set c v 2) c) (cond r left (set left kept v)) (i + 1) (cond r kept (kept + 1))
    pass_turn {r = true} h e t = pass_joins h e t
    pass_turn {r = false} h e t = pass_waits h e t

    pub pass_ends : many ≤ i → Passed mode a b s c₀ left₀ many c left kept
    pass_ends h =
        record {
          size = p.lined.size;
          places = p.lined.places;
          fewer = omega (arith, p.fewer, p.so_far);
          tried = rw (append-nil (take kept left)) at (p.tried c [] (rw none all_tried));
        }
      where
        none : drop i (take many left₀) ≡ []
        none =
            sym p.as_was
            ∙ drop_of_length-le (take many left) {i = i} (omega (arith, length-take-le many left (omega (arith, p.lined.most, p.lined.places))))
