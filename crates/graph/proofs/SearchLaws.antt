-- Laws of the search: a node's two next values are its steps, and each part of the search keeps what the marked numbers
-- and the queue promise. Assumes nothing.
--
--   either_of               == a number that is not 0 or 1 is the choice either
--   nexts_by                == the next values that a choice picks, as they are read
--   one_steps, other_steps  == both next values of a node are steps
--   steps_two               == each step goes to one of the two
--   room_begins             == no marks and an empty queue
--   room_bound, room_left   == the queue's end is at most 514, and below while something is not marked
--   visit_room              == after a visit the marks are counted still
--   visit_marks             == what was visited is marked, if it can be
--   visit_grows             == what was marked is marked still
--   visit_queue             == what stood in the queue stands there still
--   visit_begun             == a visit to a reached number keeps the search
--   search_begins           == the first visit, to the start, begins the search
--   search_steps            == the number at the head leaves the queue when it is done
--   end_done, nexts_done    == an end is done; a node is done when both its next values are marked
--   Following o n c s m q h t v ws i == the search, where v was taken from the head and the first i numbers of ws are marked
--   follow_begins, follow_visit, follow_ends == a turn at a node: it is taken, its next values are visited, it is done
--   follow_end              == a turn at an end
--   search_ends             == when none waits, exactly what is reached is marked
use Prim.Native.Nat.{ℕ, zero, suc, ◌+◌, ◌≤◌, ◌<◌}
use native.Mathlib.Omega.{arith}
use native.Mathlib.Decide.{ℕ_discrete}
use mathlib.Core.Path.{◌≡◌, refl, sym, ◌∙◌, ap}
use mathlib.Core.Bool.{Bool, true, false, cond}
use mathlib.Core.List.{List, [], ◌∷◌}
use mathlib.Core.Logic.{◌⊎◌, inl, inr, ⊎_elim, by_cases}
use lib.ListN.{get_or, length, set, replicate, length-set, length-replicate}
use lib.Seq.{get_or-set_same, get_or-set_other}
use Rattle.graph.specs.Graph.{Choice, old, new, either, Ok, Path, stop, step, table, choices, choice_of}
use Rattle.graph.specs.Search.{Steps, Reached}
use Rattle.graph.specs.Working.{one, other, one_of, other_of, nexts, among, Room, Visited, over, known, fresh, Waits}
use Rattle.graph.specs.Working.{Done, Search, Begun}
use Rattle.graph.proofs.Paths.{path_ends, path_more}
use Rattle.graph.proofs.Sums.{set_cases, mark_inside, get_d_any, get_d_repeat, sum_none, among_part, among_bound}
use Rattle.graph.proofs.Sums.{among_less}

pub either_of : (k : ℕ) → (k ≡ 0 → ⊥) → (k ≡ 1 → ⊥) → choice_of k ≡ either
either_of zero d e = absurd (d refl)
either_of (suc zero) d e = absurd (e refl)
either_of (suc (suc k)) d e = refl

pub nexts_by : (o n c : List ℕ) (v a b : ℕ) (q : Choice)
    → v < length o × v < length n
    → choices c v ≡ q
    → a ≡ get_or o v 0
    → b ≡ get_or n v 0
    → one_of q a b ∷ other_of q a b ∷ [] ≡ nexts o n c v
unfolding one other
nexts_by o n c v a b q (l, k) e ea eb =
    rw (e, ea, eb, get_d_any o v 0 512 l, get_d_any n v 0 512 k) refl

one_bit : (q : Choice) (a b : ℕ) → (t : Bool) × Ok q t × (cond t b a ≡ one_of q a b)
one_bit old a b = (false, tt, refl)
one_bit new a b = (true, tt, refl)
one_bit either a b = (false, tt, refl)

other_bit : (q : Choice) (a b : ℕ) → (t : Bool) × Ok q t × (cond t b a ≡ other_of q a b)
other_bit old a b = (false, tt, refl)
other_bit new a b = (true, tt, refl)
other_bit either a b = (true, tt, refl)

two_bits : (q : Choice) (t : Bool) (a b : ℕ) → Ok q t → (cond t b a ≡ one_of q a b) ⊎ (cond t b a ≡ other_of q a b)
two_bits old false a b k = inl refl
two_bits new true a b k = inl refl
two_bits either true a b k = inr refl
two_bits either false a b k = inl refl
two_bits old true a b k = elim k [ ]
two_bits new false a b k = elim k [ ]

step_by : (o n c : List ℕ) (v w : ℕ)
    → v < 512
    → (t : Bool) × Ok (choices c v) t × (cond t (table n v) (table o v) ≡ w)
    → Steps o n c v w
step_by o n c v w l (t, k, e) = record { node = l; bit = t; allowed = k; goes = e }

pub one_steps : (o n c : List ℕ) (v : ℕ) → v < 512 → Steps o n c v (one o n c v)
unfolding one
one_steps o n c v l = step_by o n c v (one o n c v) l (one_bit (choices c v) (table o v) (table n v))

pub other_steps : (o n c : List ℕ) (v : ℕ) → v < 512 → Steps o n c v (other o n c v)
unfolding other
other_steps o n c v l = step_by o n c v (other o n c v) l (other_bit (choices c v) (table o v) (table n v))

pub steps_two : (o n c : List ℕ) (v w : ℕ) → Steps o n c v w → (one o n c v ≡ w) ⊎ (other o n c v ≡ w)
unfolding one other
steps_two o n c v w s =
    ⊎_elim (λ e. inl (sym e ∙ s.goes)) (λ e. inr (sym e ∙ s.goes)) (two_bits (choices c v) s.bit (table o v) (table n v) s.allowed)

more_marks : (m : List Bool) (w : ℕ) → length m ≡ 514 → w < 514 → get_or m w false ≡ false → among 514 (set m w true) (λ v. 1) ≡ among 514 m (λ v. 1) + 1
more_marks m w e l u =
    among_less 514 w (set m w true) m (λ v. 1) l (get_or-set_same m w true false (omega arith)) u (λ j d. get_or-set_other m w j true false d)

pub room_begins : Room (replicate 514 false) (replicate 514 0) 0
room_begins =
    record {
      marks = length-replicate 514 false;
      places = length-replicate {A = ℕ} 514 0;
      counted = sum_none 514 (λ v. cond (get_or (replicate 514 false) v false) 1 0) (λ i. rw (get_d_repeat 514 i false) refl);
    }

pub room_bound : {m : List Bool} {q : List ℕ} {t : ℕ} → Room m q t → t ≤ 514
room_bound {m} r = omega (arith, among_bound 514 1 m (λ v. 1) (λ v. omega arith), r.counted)

pub visit_room : {m : List Bool} {q : List ℕ} {t w : ℕ} {m' : List Bool} {q' : List ℕ} {t' : ℕ}
    → Room m q t
    → Visited m q t w m' q' t'
    → Room m' q' t'
visit_room r (over h) = r
visit_room r (known h) = r
visit_room {m} {q} {t} {w} r (fresh l u) =
    record {
      marks = length-set m w true ∙ r.marks;
      places = length-set q t w ∙ r.places;
      counted = more_marks m w r.marks l u ∙ ap (λ x. x + 1) r.counted;
    }

pub room_left : {m : List Bool} {q : List ℕ} {t : ℕ} (w : ℕ) → Room m q t → w < 514 → get_or m w false ≡ false → t < 514
room_left w r l u = let b = room_bound (visit_room r (fresh l u)) in omega arith

pub visit_marks : {m : List Bool} {q : List ℕ} {t w : ℕ} {m' : List Bool} {q' : List ℕ} {t' : ℕ}
    → Room m q t
    → Visited m q t w m' q' t'
    → w < 514
    → get_or m' w false ≡ true
visit_marks r (over h) l = absurd (omega arith)
visit_marks r (known h) l = h
visit_marks {m} {w = w} r (fresh k u) l = get_or-set_same m w true false (omega (arith, r.marks))

pub visit_grows : {m : List Bool} {q : List ℕ} {t w : ℕ} {m' : List Bool} {q' : List ℕ} {t' : ℕ}
    → Room m q t
    → Visited m q t w m' q' t'
    → (x : ℕ)
    → get_or m x false ≡ true
    → get_or m' x false ≡ true
visit_grows r (over h) x e = e
visit_grows r (known h) x e = e
visit_grows {m} {w = w} r (fresh l u) x e =
    ⊎_elim (λ s. s.1) (λ s. s.1 ∙ e) (set_cases m w x true false (omega (arith, r.marks)))

visit_queue : {m : List Bool} {q : List ℕ} {t w : ℕ} {m' : List Bool} {q' : List ℕ} {t' : ℕ}
    → Visited m q t w m' q' t'
    → (i : ℕ)
    → i < t
    → (i < t') × (get_or q' i 0 ≡ get_or q i 0)
visit_queue (over h) i l = (l, refl)
visit_queue (known h) i l = (l, refl)
visit_queue {q = q} {t = t} {w = w} (fresh k u) i l = (omega arith, get_or-set_other q t i w 0 (λ e. omega arith))

visit_search : {o n c : List ℕ} {s h : ℕ} {m : List Bool} {q : List ℕ} {t w : ℕ} {m' : List Bool} {q' : List ℕ} {t' : ℕ}
    → Search o n c s m q h t
    → Path (Steps o n c) w s
    → Visited m q t w m' q' t'
    → Search o n c s m' q' h t'
visit_search r P (over d) = r
visit_search r P (known d) = r
visit_search {o} {n} {c} {s} {h} {m} {q} {t} {w} r P (fresh l u) =
    record {
      room = visit_room r.room (fresh l u);
      behind = omega (arith, r.behind);
      queued =
          λ i k.
          ⊎_elim
          (λ e. rw e.1 (visit_marks r.room (fresh l u) l))
          (λ e. rw e.1 (grows (get_or q i 0) (r.queued i (omega (arith, e.0)))))
          (set_cases q t i w 0 full);
      reached =
          λ x e.
          ⊎_elim
          (λ d. path_ends P (sym d.0))
          (λ d. r.reached x (sym d.1 ∙ e))
          (set_cases m w x true false size);
      closed =
          λ v e.
          ⊎_elim
          (λ d. inr (last v d.0))
          (λ d. ⊎_elim (λ a. inl (more v a)) (λ a. inr (still v a)) (r.closed v (sym d.1 ∙ e)))
          (set_cases m w v true false size);
    }
  where
    more : (v : ℕ) → Done o n c m v → Done o n c (set m w true) v
    more v a = record { done = λ x k b. visit_grows r.room (fresh l u) x (a.done x k b) }

    size : w < length m
    size = omega (arith, r.room.marks)

    full : t < length q
    full = omega (arith, r.room.places, room_left w r.room l u)

    grows : (x : ℕ) → get_or m x false ≡ true → get_or (set m w true) x false ≡ true
    grows = visit_grows r.room (fresh l u)

    last : (v : ℕ) → v ≡ w → Waits (set q t w) h (t + 1) v
    last v e = record { place = t; from = r.behind; before = omega arith; holds = get_or-set_same q t w 0 full ∙ sym e }

    still : (v : ℕ) → Waits q h t v → Waits (set q t w) h (t + 1) v
    still v a =
        record {
          place = a.place;
          from = a.from;
          before = omega (arith, a.before);
          holds = get_or-set_other q t a.place w 0 (λ e. omega (arith, a.before)) ∙ a.holds;
        }

pub visit_begun : {o n c : List ℕ} {s h : ℕ} {m : List Bool} {q : List ℕ} {t w : ℕ} {m' : List Bool} {q' : List ℕ} {t' : ℕ}
    → Begun o n c s m q h t
    → Path (Steps o n c) w s
    → Visited m q t w m' q' t'
    → Begun o n c s m' q' h t'
visit_begun {s = s} r P d =
    record { search = visit_search r.search P d; begins = λ l. visit_grows r.search.room d s (r.begins l) }

pub search_begins : (o n c : List ℕ) {s h t : ℕ} {m : List Bool} {q : List ℕ} {m' : List Bool} {q' : List ℕ} {t' : ℕ}
    → Room m q t
    → t ≡ 0
    → h ≡ 0
    → Visited m q t s m' q' t'
    → Begun o n c s m' q' h t'
search_begins o n c {s} {h} {t} {m} {q} r no_tail no_head d =
    record { search = visit_search empty (stop refl) d; begins = visit_marks r d }
  where
    none : (w : ℕ) → get_or m w false ≡ true → ⊥
    none w e =
        let k : w < length m = mark_inside m w e in
        omega (arith, among_part 514 m (λ v. 1) w (omega (arith, r.marks)) e, r.counted)

    empty : Search o n c s m q h t
    empty =
        record {
          room = r;
          behind = omega arith;
          queued = λ i l. absurd (omega arith);
          reached = λ w e. absurd (none w e);
          closed = λ v e. absurd (none v e);
        }

search_steps : {o n c : List ℕ} {s h : ℕ} {m : List Bool} {q : List ℕ} {t : ℕ}
    → Begun o n c s m q h t
    → h < t
    → Done o n c m (get_or q h 0)
    → Begun o n c s m q (h + 1) t
search_steps {o} {n} {c} {s} {h} {m} {q} {t} r l d =
    record {
      search = record {
        room = r.search.room;
        behind = omega arith;
        queued = r.search.queued;
        reached = r.search.reached;
        closed = λ v e. ⊎_elim inl (λ a. by_cases (ℕ_discrete a.place h) (λ p. inl (left v (sym a.holds ∙ ap (λ i. get_or q i 0) p))) (λ p. inr (right v a p))) (r.search.closed v e);
      };
      begins = r.begins;
    }
  where
    left : (v : ℕ) → v ≡ get_or q h 0 → Done o n c m v
    left v e = rw e d

    right : (v : ℕ) (a : Waits q h t v) → (a.place ≡ h → ⊥) → Waits q (h + 1) t v
    right v a p = record { place = a.place; from = omega (arith, a.from); before = a.before; holds = a.holds }

end_done : (o n c : List ℕ) (m : List Bool) (v : ℕ) → 512 ≤ v → Done o n c m v
end_done o n c m v l = record { done = λ w s k. absurd (omega (arith, s.node)) }

nexts_done : (o n c : List ℕ) (m : List Bool) (v : ℕ) (ws : List ℕ)
    → ws ≡ nexts o n c v
    → ((j : ℕ) → j < 2 → get_or ws j 0 < 514 → get_or m (get_or ws j 0) false ≡ true)
    → Done o n c m v
nexts_done o n c m v ws e f =
    record {
      done = λ w s l.
          ⊎_elim
          (λ d. let g : get_or ws 0 0 ≡ w = ap (λ x. get_or x 0 0) e ∙ d in rw (← g) (f 0 (omega arith) (omega arith)))
          (λ d. let g : get_or ws 1 0 ≡ w = ap (λ x. get_or x 1 0) e ∙ d in rw (← g) (f 1 (omega arith) (omega arith)))
          (steps_two o n c v w s);
    }

pub record Following (o n c : List ℕ) (s : ℕ) (m : List Bool) (q : List ℕ) (h t v : ℕ) (ws : List ℕ) (i : ℕ) : Type 0 where
  pub place : ℕ
  pub moved : h ≡ place + 1
  pub waits : place < t
  pub holds : get_or q place 0 ≡ v
  pub begun : Begun o n c s m q place t
  pub marked : (j : ℕ) → j < i → get_or ws j 0 < 514 → get_or m (get_or ws j 0) false ≡ true

module _ {o n c : List ℕ} {s : ℕ} {m : List Bool} {q : List ℕ} {h t v : ℕ} {ws : List ℕ} where
  pub follow_begins : Begun o n c s m q h t → h < t → v ≡ get_or q h 0 → Following o n c s m q (h + 1) t v ws 0
  follow_begins r l e =
      record { place = h; moved = refl; waits = l; holds = sym e; begun = r; marked = λ j k. absurd (omega arith) }

  pub follow_visit : {i : ℕ} {m' : List Bool} {q' : List ℕ} {t' : ℕ} (w : ℕ)
      → Following o n c s m q h t v ws i
      → v < 512
      → i < 2
      → ws ≡ nexts o n c v
      → w ≡ get_or ws i 0
      → Visited m q t w m' q' t'
      → Following o n c s m' q' h t' v ws (i + 1)
  follow_visit {i} {m'} {q'} {t'} w f l k e ew d =
      record {
        place = f.place;
        moved = f.moved;
        waits = (visit_queue d f.place f.waits).0;
        holds = (visit_queue d f.place f.waits).1 ∙ f.holds;
        begun = visit_begun f.begun (path_more P (goes i k (ew ∙ ap (λ x. get_or x i 0) e))) d;
        marked =
            λ j b z.
            by_cases (ℕ_discrete j i) (λ p. here j p z) (λ p. visit_grows f.begun.search.room d _ (f.marked j (omega arith) z));
      }
    where
      P : Path (Steps o n c) v s
      P = f.begun.search.reached v (rw f.holds at (f.begun.search.queued f.place f.waits))

      goes : (j : ℕ) → j < 2 → w ≡ get_or (nexts o n c v) j 0 → Steps o n c v w
      goes zero b z = rw z (one_steps o n c v l)
      goes (suc zero) b z = rw z (other_steps o n c v l)
      goes (suc (suc j)) b z = absurd (omega arith)

      here : (j : ℕ) → j ≡ i → get_or ws j 0 < 514 → get_or m' (get_or ws j 0) false ≡ true
      here j p z =
          let g : get_or ws j 0 ≡ w = ap (λ x. get_or ws x 0) p ∙ sym ew in
          rw g (visit_marks f.begun.search.room d (omega arith))

  pub follow_ends : {i : ℕ} → Following o n c s m q h t v ws i → 2 ≤ i → ws ≡ nexts o n c v → Begun o n c s m q h t
  follow_ends f l e =
      let d = nexts_done o n c m v ws e (λ j k. f.marked j (omega arith)) in
      rw f.moved (search_steps f.begun f.waits (rw f.holds d))

pub follow_end : {o n c : List ℕ} {s h : ℕ} {m : List Bool} {q : List ℕ} {t : ℕ} (v : ℕ)
    → Begun o n c s m q h t
    → h < t
    → v ≡ get_or q h 0
    → 512 ≤ v
    → Begun o n c s m q (h + 1) t
follow_end {o} {n} {c} {m = m} v r l e k = search_steps r l (rw e at (end_done o n c m v k))

path_low : (o n c : List ℕ) {a w : ℕ} → Path (Steps o n c) w a → w < 514 → a < 514
path_low o n c (stop e) l = omega arith
path_low o n c (step s P) l = omega (arith, s.node)

pub search_ends : {o n c : List ℕ} {s h : ℕ} {m : List Bool} {q : List ℕ} {t : ℕ} → Begun o n c s m q h t → t ≤ h → Reached o n c s m
search_ends {o} {n} {c} {s} {h} {m} {q} {t} r l =
    record {
      size = r.search.room.marks;
      marked_is_reached = r.search.reached;
      reached_is_marked = λ w k P. along k (r.begins (path_low o n c P k)) P;
    }
  where
    done : (v : ℕ) → get_or m v false ≡ true → Done o n c m v
    done v e = ⊎_elim (λ d. d) (λ a. absurd (omega (arith, a.from, a.before))) (r.search.closed v e)

    along : {w a : ℕ} → w < 514 → get_or m a false ≡ true → Path (Steps o n c) w a → get_or m w false ≡ true
    along k e (stop d) = rw (← d) e
    along k e (step {a = x} {b = y} u P) = along k ((done x e).done y u (path_low o n c P k)) P
