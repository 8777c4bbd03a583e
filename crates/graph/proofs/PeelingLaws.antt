-- Laws of the peeling: counting steps into nodes, and what taking a node away keeps. Assumes nothing.
--
--   hits_same, hits_none    == when hits is 1 and when it is 0
--   times ws i x            == how often x stands among the first i numbers of ws
--   times_low, times_longer == it is at most i, and no less where i is more
--   times_more, times_both  == the same of one number more, and of both next values of a node
--   plus_over, plus_raised, plus_lowered == what raising and lowering a count does
--   plus_none, plus_then, minus_then == what raising and lowering the counts of the numbers of ws does, one after the other
--   tally_begins            == before the first node nothing is counted
--   tally_room              == a count can be raised: it is at most twice the number of nodes passed
--   tally_out, tally_in     == a node that is not in the set adds nothing; one in the set adds its two steps
--   peel_begins             == at first all nodes of the set remain and none is queued
--   busy_begins             == and all nodes below 0 are busy
--   peel_room, peel_bound   == the queue has a place while a node remains, and never more than 512 numbers
--   peel_left, lower_room   == the steps from the node at the head are still counted, so the counts of its next values can be lowered
--   peel_next               == once they are not, the head moves on
--   offer_peel              == an offer keeps the peeling: what it takes away no step from a remaining node enters
--   offer_shrinks, offer_busy == it adds no mark; what was offered and remains is busy
--   busy_more               == after the offer of i all that remain up to i are busy
--   Offering o n c a m k q h t ws i == a peeling, where each node that remains is busy or stands in ws from the place i on
--   offering_begins, offering_more, offering_ends == a turn: the head's steps are taken off, and its two next values offered
--   peel_ends               == when none waits, nodes remain exactly if there is a closed path
--   cyclic_by               == so there is one exactly if fewer nodes were taken away than the set has
use Prim.Native.Nat.{ℕ, ◌+◌, ◌-◌, ◌*◌, ◌≤◌, ◌<◌}
use native.Mathlib.Omega.{arith}
use native.Mathlib.Decide.{ℕ_discrete, dec_lt}
use mathlib.Core.Path.{◌≡◌, refl, sym, ◌∙◌, ap}
use mathlib.Core.Bool.{Bool, true, false, cond}
use mathlib.Core.List.{List}
use mathlib.Core.Logic.{◌⊎◌, ◌↔◌, inl, inr, ⊎_elim, by_cases}
use borrow.Author.Tests.{eq-eqb, ne_eqb}
use lib.Dec.{eqb}
use lib.ListN.{get_or, length, set, replicate, length-set, length-replicate}
use lib.Seq.{get_or-set_same, get_or-set_other}
use Rattle.graph.specs.Search.{Steps, Marked, Cyclic}
use Rattle.graph.specs.Working.{one, other, nexts, among, hits, entries, Sent, sum, Plus, Offered, over, gone, busy, free}
use Rattle.graph.specs.Working.{Waits, Peel, Busy, Peeling, Tally, Peeled}
use Rattle.graph.proofs.Paths.{around_maps, within_maps}
use Rattle.graph.proofs.Peel.{peel_keeps, peel_remains}
use Rattle.graph.proofs.Sums.{set_cases, mark_inside, get_d_repeat, sum_found, sum_longer, sum_ones, sum_more, sum_bound, sum_zero}
use Rattle.graph.proofs.Sums.{among_part, among_bound, among_more, among_same, among_less, sent_same, sent_more}
use Rattle.graph.proofs.SearchLaws.{one_steps, other_steps, steps_two}

pub hits_same : (w x : ℕ) → w ≡ x → hits w x ≡ 1
hits_same w x e = rw (eq-eqb w x e) refl

pub hits_none : (w x : ℕ) → (w ≡ x → ⊥) → hits w x ≡ 0
hits_none w x h = rw (ne_eqb w x h) refl

hits_low : (w x : ℕ) → hits w x ≤ 1
hits_low w x = low (eqb w x)
  where
    low : (b : Bool) → cond b 1 0 ≤ 1
    low true = omega arith
    low false = omega arith

abbrev pub times : List ℕ → ℕ → ℕ → ℕ
times ws i x = Sent ws i (λ w. hits w x)

times_low : (ws : List ℕ) (i x : ℕ) → times ws i x ≤ i
times_low ws i x = omega (arith, sum_bound i 1 (λ j. hits (get_or ws j 0) x) (λ j. hits_low (get_or ws j 0) x))

times_more : (ws : List ℕ) (i w x : ℕ) → w ≡ get_or ws i 0 → times ws (i + 1) x ≡ times ws i x + hits w x
times_more ws i w x e = rw e (sent_more ws i (λ w. hits w x))

times_longer : (ws : List ℕ) (i j x : ℕ) → i ≤ j → times ws i x ≤ times ws j x
times_longer ws i j x l = sum_longer i j (λ k. hits (get_or ws k 0) x) l

times_both : (o n c : List ℕ) (v : ℕ) (ws : List ℕ) (x : ℕ) → ws ≡ nexts o n c v → times ws 2 x ≡ entries o n c x v
times_both o n c v ws x e =
    let f = λ (j : ℕ). hits (get_or (nexts o n c v) j 0) x in
    rw e (omega (arith, sum_more 1 f, sum_more 0 f, sum_zero f))

pub plus_over : {k : List ℕ} (w : ℕ) → length k ≡ 512 → 512 ≤ w → Plus k (hits w) k
plus_over {k} w s l = record { size = s; same = s; each = λ x h. let z = hits_none w x (λ e. omega arith) in omega arith }

pub plus_raised : {k : List ℕ} (w : ℕ) → length k ≡ 512 → w < 512 → Plus k (hits w) (set k w (get_or k w 0 + 1))
plus_raised {k} w s l =
    record {
      size = s;
      same = length-set k w (get_or k w 0 + 1) ∙ s;
      each =
          λ x h.
          ⊎_elim
          (λ d. let z = hits_same w x (sym d.0) in let y = ap (λ i. get_or k i 0) d.0 in omega (arith, d.1))
          (λ d. let z = hits_none w x (λ e. d.0 (sym e)) in omega (arith, d.1))
          (set_cases k w x (get_or k w 0 + 1) 0 (omega arith));
    }

pub plus_lowered : {k : List ℕ} (w : ℕ) → length k ≡ 512 → w < 512 → 0 < get_or k w 0 → Plus (set k w (get_or k w 0 - 1)) (hits w) k
plus_lowered {k} w s l p =
    record {
      size = length-set k w (get_or k w 0 - 1) ∙ s;
      same = s;
      each =
          λ x h.
          ⊎_elim
          (λ d. let z = hits_same w x (sym d.0) in let y = ap (λ i. get_or k i 0) d.0 in omega (arith, d.1))
          (λ d. let z = hits_none w x (λ e. d.0 (sym e)) in omega (arith, d.1))
          (set_cases k w x (get_or k w 0 - 1) 0 (omega arith));
    }

pub plus_none : {k : List ℕ} (ws : List ℕ) → length k ≡ 512 → Plus k (times ws 0) k
plus_none ws s =
    record { size = s; same = s; each = λ x l. let z = sum_zero (λ j. hits (get_or ws j 0) x) in omega arith }

pub plus_then : {k k₁ k₂ : List ℕ} (ws : List ℕ) (i : ℕ) {w : ℕ}
    → Plus k (times ws i) k₁
    → w ≡ get_or ws i 0
    → Plus k₁ (hits w) k₂
    → Plus k (times ws (i + 1)) k₂
plus_then ws i {w} p e d =
    record { size = p.size; same = d.same; each = λ x l. omega (arith, p.each x l, d.each x l, times_more ws i w x e) }

pub minus_then : {k k₁ k₂ : List ℕ} (ws : List ℕ) (i : ℕ) {w : ℕ}
    → Plus k₁ (times ws i) k
    → w ≡ get_or ws i 0
    → Plus k₂ (hits w) k₁
    → Plus k₂ (times ws (i + 1)) k
minus_then ws i {w} p e d =
    record { size = d.size; same = p.same; each = λ x l. omega (arith, p.each x l, d.each x l, times_more ws i w x e) }

pub tally_begins : (o n c : List ℕ) (a : List Bool) → Tally o n c a (replicate 512 0) 0
tally_begins o n c a =
    record {
      size = length-replicate {A = ℕ} 512 0;
      each = λ x l. get_d_repeat {A = ℕ} 512 x 0 ∙ sym (sum_zero (λ v. cond (get_or a v false) (entries o n c x v) 0));
    }

tally_low : {o n c : List ℕ} {a : List Bool} {k : List ℕ} {i : ℕ} → Tally o n c a k i → (x : ℕ) → x < 512 → get_or k x 0 ≤ i * 2
tally_low {o} {n} {c} {a} {k} {i} t x l =
    omega
    (arith, among_bound i 2 a (entries o n c x) (λ v. omega (arith, hits_low (one o n c v) x, hits_low (other o n c v) x)), t.each x l)

pub tally_room : {o n c : List ℕ} {a : List Bool} {k k₁ : List ℕ} (ws : List ℕ) {v : ℕ} (i x : ℕ)
    → Tally o n c a k v
    → v < 512
    → Plus k (times ws i) k₁
    → i < 2
    → x < 512
    → get_or k₁ x 0 < 65535
tally_room ws i x t l p j b = omega (arith, tally_low t x b, p.each x b, times_low ws i x)

pub tally_out : {o n c : List ℕ} {a : List Bool} {k : List ℕ} {v : ℕ}
    → Tally o n c a k v
    → get_or a v false ≡ false
    → Tally o n c a k (v + 1)
tally_out {o} {n} {c} {a} {k} {v} t e =
    record { size = t.size; each = λ x l. t.each x l ∙ sym (among_same v a (entries o n c x) e) }

pub tally_in : {o n c : List ℕ} {a : List Bool} {k k' : List ℕ} (ws : List ℕ) {v : ℕ} (i : ℕ)
    → Tally o n c a k v
    → get_or a v false ≡ true
    → ws ≡ nexts o n c v
    → Plus k (times ws i) k'
    → i ≡ 2
    → Tally o n c a k' (v + 1)
tally_in {o} {n} {c} {a} {k} {k'} ws {v} i t e ew p j =
    record { size = p.same; each = λ x l. now x l }
  where
    q : Plus k (times ws 2) k'
    q = rw j at p

    now : (x : ℕ) → x < 512 → get_or k' x 0 ≡ among (v + 1) a (entries o n c x)
    now x l = omega (arith, among_more v a (entries o n c x) e, t.each x l, q.each x l, times_both o n c v ws x ew)

pub peel_begins : {o n c : List ℕ} {a : List Bool} {k q : List ℕ} {h t : ℕ}
    → Tally o n c a k 512
    → length a ≡ 512
    → q ≡ replicate 512 0
    → h ≡ 0
    → t ≡ 0
    → Peel o n c a a k q h t
peel_begins {o} {n} {c} {a} {k} t s eq eh et =
    rw (eq, eh, et) (record {
      marks = s;
      counts = t.size;
      places = length-replicate {A = ℕ} 512 0;
      behind = omega arith;
      nodes = λ i l. absurd (omega arith);
      inside = λ v h. h;
      split = λ f. let z = sum_zero (λ i. f (get_or (replicate 512 0) i 0)) in omega arith;
      lowered =
          λ x l. let z = sum_zero (λ i. entries o n c x (get_or (replicate 512 0) i 0)) in omega (arith, t.each x l);
      kept = λ v h. h;
    })

pub busy_begins : (m : List Bool) (k : List ℕ) → Busy m k 0
busy_begins m k = record { counts = λ x l. absurd (omega arith) }

module _ {o n c : List ℕ} {a m : List Bool} {k q : List ℕ} {h t : ℕ} where
  marks_in : Peel o n c a m k q h t → among 512 m (λ v. 1) + t ≤ 512
  marks_in p =
      let e : among 512 m (λ v. 1) + sum t (λ i. 1) ≡ among 512 a (λ v. 1) = p.split (λ v. 1) in
      omega (arith, among_bound 512 1 a (λ v. 1) (λ v. omega arith), sum_ones t)

  pub peel_bound : Peel o n c a m k q h t → t ≤ 512
  peel_bound p = omega (arith, marks_in p)

  marked_low : Peel o n c a m k q h t → (w : ℕ) → get_or m w false ≡ true → w < 512
  marked_low p w e = omega (arith, mark_inside m w e, p.marks)

  pub peel_room : Peel o n c a m k q h t → (w : ℕ) → get_or m w false ≡ true → t < 512
  peel_room p w e = omega (arith, marks_in p, among_part 512 m (λ v. 1) w (marked_low p w e) e)

  peel_left : Peel o n c a m k q h t → h < t → (x : ℕ) → x < 512 → entries o n c x (get_or q h 0) ≤ get_or k x 0
  peel_left p l x b =
      let E = entries o n c x in
      let s : sum (h + 1) (λ i. E (get_or q i 0)) ≤ sum t (λ i. E (get_or q i 0)) = sum_longer (h + 1) t (λ i. E (get_or q i 0)) (omega arith) in
      omega (arith, s, sent_more q h E, p.split E, p.lowered x b)

  pub lower_room : {k₁ : List ℕ} (ws : List ℕ) {v : ℕ} (i : ℕ) {w : ℕ}
      → Peel o n c a m k q h t
      → h < t
      → v ≡ get_or q h 0
      → ws ≡ nexts o n c v
      → Plus k₁ (times ws i) k
      → i < 2
      → w ≡ get_or ws i 0
      → w < 512
      → 0 < get_or k₁ w 0
  lower_room ws {v} i {w} p l e ew p₁ j u b =
      let z : entries o n c w v ≡ entries o n c w (get_or q h 0) = ap (entries o n c w) e in
      omega (
        arith,
        peel_left p l w b,
        p₁.each w b,
        times_both o n c v ws w ew,
        times_longer ws (i + 1) 2 w (omega arith),
        times_more ws i w w u,
        hits_same w w refl,
      )

  peel_next : {k' : List ℕ} (ws : List ℕ) {v : ℕ}
      → Peel o n c a m k q h t
      → h < t
      → v ≡ get_or q h 0
      → ws ≡ nexts o n c v
      → Plus k' (times ws 2) k
      → Peel o n c a m k' q (h + 1) t
  peel_next {k'} ws {v} p l e ew d =
      record {
        marks = p.marks;
        counts = d.size;
        places = p.places;
        behind = omega arith;
        nodes = p.nodes;
        inside = p.inside;
        split = p.split;
        lowered = now;
        kept = p.kept;
      }
    where
      now : (x : ℕ) → x < 512 → get_or k' x 0 + Sent q (h + 1) (entries o n c x) ≡ among 512 a (entries o n c x)
      now x b =
          let z : entries o n c x v ≡ entries o n c x (get_or q h 0) = ap (entries o n c x) e in
          omega (arith, sent_more q h (entries o n c x), p.lowered x b, d.each x b, times_both o n c v ws x ew)

  none_enters : Peel o n c a m k q h t → (w : ℕ) → w < 512 → get_or k w 0 ≡ 0 → (u : ℕ) → Marked m u → Steps o n c u w → ⊥
  none_enters p w l z u mu s =
      let E = entries o n c w in
      let b : E u ≤ among 512 m E = among_part 512 m E u s.node mu.marked in
      let y : sum h (λ i. E (get_or q i 0)) ≤ sum t (λ i. E (get_or q i 0)) = sum_longer h t (λ i. E (get_or q i 0)) p.behind in
      ⊎_elim
      (λ e. omega (arith, b, y, p.split E, p.lowered w l, hits_same (one o n c u) w e))
      (λ e. omega (arith, b, y, p.split E, p.lowered w l, hits_same (other o n c u) w e))
      (steps_two o n c u w s)

pub offer_shrinks : {m : List Bool} {k q : List ℕ} {t w : ℕ} {m' : List Bool} {q' : List ℕ} {t' : ℕ}
    → Offered m k q t w m' q' t'
    → (x : ℕ)
    → Marked m' x
    → Marked m x
offer_shrinks (over d) x e = e
offer_shrinks (gone d) x e = e
offer_shrinks (busy d) x e = e
offer_shrinks {m} {w = w} (free l f z) x e =
    by_cases (ℕ_discrete x w)
    (λ p. record { marked = rw p f })
    (λ p. record { marked = sym (get_or-set_other m w x false false p) ∙ e.marked })

pub offer_busy : {m : List Bool} {k q : List ℕ} {t w : ℕ} {m' : List Bool} {q' : List ℕ} {t' : ℕ}
    → Offered m k q t w m' q' t'
    → w < 512
    → Marked m' w
    → 0 < get_or k w 0
offer_busy (over d) l e = absurd (omega arith)
offer_busy (gone d) l e = let b = e.marked in let z : ◌≡◌ {A = ℕ} 0 1 = cc in absurd (omega arith)
offer_busy (busy d) l e = d
offer_busy {m} {w = w} (free b f z) l e =
    let g = get_or-set_same m w false false (mark_inside m w f) in
    let h = e.marked in
    let y : ◌≡◌ {A = ℕ} 0 1 = cc in
    absurd (omega arith)

pub offer_peel : {o n c : List ℕ} {a m : List Bool} {k q : List ℕ} {h t w : ℕ} {m' : List Bool} {q' : List ℕ} {t' : ℕ}
    → Peel o n c a m k q h t
    → Offered m k q t w m' q' t'
    → Peel o n c a m' k q' h t'
offer_peel p (over d) = p
offer_peel p (gone d) = p
offer_peel p (busy d) = p
offer_peel {o} {n} {c} {a} {m} {k} {q} {h} {t} {w} p (free l e z) =
    record {
      marks = length-set m w false ∙ p.marks;
      counts = p.counts;
      places = length-set q t w ∙ p.places;
      behind = omega (arith, p.behind);
      nodes =
          λ i b.
          ⊎_elim (λ d. omega (arith, d.1)) (λ d. omega (arith, d.1, p.nodes i (omega (arith, d.0)))) (set_cases q t i w 0 room);
      inside = λ v d. p.inside v (offer_shrinks {k = k} {q = q} {t = t} (free l e z) v d);
      split = splits;
      lowered = λ x b. ap (λ y. get_or k x 0 + y) (sent_same q t w h (entries o n c x) p.behind) ∙ p.lowered x b;
      kept = λ v d. peel_keeps (Marked m) (Marked (set m w false)) w remains (none_enters p w l z) v (p.kept v d);
    }
  where
    room : t < length q
    room = omega (arith, peel_room p w e, p.places)

    remains : (u : ℕ) → Marked m u → (u ≡ w → ⊥) → Marked (set m w false) u
    remains u d f = record { marked = get_or-set_other m w u false false f ∙ d.marked }

    splits : (f : ℕ → ℕ) → among 512 (set m w false) f + Sent (set q t w) (t + 1) f ≡ among 512 a f
    splits f =
        let x = among_less 512 w m (set m w false) f l e (get_or-set_same m w false false (mark_inside m w e))
        (λ j d. sym (get_or-set_other m w j false false d)) in
        let y : f (get_or (set q t w) t 0) ≡ f w = ap f (get_or-set_same q t w 0 room) in
        omega (arith, x, sent_more (set q t w) t f, sent_same q t w t f (omega arith), p.split f)

pub busy_more : {m : List Bool} {k q : List ℕ} {t i : ℕ} {m' : List Bool} {q' : List ℕ} {t' : ℕ}
    → Busy m k i
    → i < 512
    → Offered m k q t i m' q' t'
    → Busy m' k (i + 1)
busy_more {m} {k} {i = i} {m' = m'} b l d =
    record { counts = λ x h e. by_cases (ℕ_discrete x i) (λ p. last x p e) (λ p. b.counts x (omega arith) (offer_shrinks d x e)) }
  where
    last : (x : ℕ) → x ≡ i → Marked m' x → 0 < get_or k x 0
    last x p e = rw p (offer_busy d l (rw p at e))

pub record Offering (o n c : List ℕ) (a m : List Bool) (k q : List ℕ) (h t : ℕ) (ws : List ℕ) (i : ℕ) : Type 0 where
  pub peel : Peel o n c a m k q h t
  pub busy : (x : ℕ) → x < 512 → Marked m x → 0 < get_or k x 0 ⊎ Waits ws i 2 x

pub offering_begins : {o n c : List ℕ} {a m : List Bool} {k k' q : List ℕ} {h t : ℕ} {v : ℕ} (ws : List ℕ) (i : ℕ)
    → Peeling o n c a m k q h t
    → h < t
    → v ≡ get_or q h 0
    → ws ≡ nexts o n c v
    → Plus k' (times ws i) k
    → i ≡ 2
    → Offering o n c a m k' q (h + 1) t ws 0
offering_begins {o} {n} {c} {m = m} {k} {k'} {v = v} ws i r l e ew d j =
    record {
      peel = peel_next ws r.peel l e ew p;
      busy = λ x b f. go x b f (ℕ_discrete (get_or ws 0 0) x) (ℕ_discrete (get_or ws 1 0) x);
    }
  where
    p : Plus k' (times ws 2) k
    p = rw j at d

    go :
        (x : ℕ)
        → x < 512
        → Marked m x
        → Dec (get_or ws 0 0 ≡ x)
        → Dec (get_or ws 1 0 ≡ x)
        → 0 < get_or k' x 0 ⊎ Waits ws 0 2 x
    go x b f (yes z) y = inr (record { place = 0; from = omega arith; before = omega arith; holds = z })
    go x b f (no z) (yes y) = inr (record { place = 1; from = omega arith; before = omega arith; holds = y })
    go x b f (no z) (no y) =
        inl (omega (
          arith,
          r.busy.counts x b f,
          p.each x b,
          times_more ws 0 (get_or ws 0 0) x refl,
          times_more ws 1 (get_or ws 1 0) x refl,
          sum_zero (λ j. hits (get_or ws j 0) x),
          hits_none (get_or ws 0 0) x z,
          hits_none (get_or ws 1 0) x y,
        ))

pub offering_more :
    {o n c : List ℕ} {a m : List Bool} {k q : List ℕ} {h t w : ℕ} {m' : List Bool} {q' : List ℕ} {t' : ℕ}
    {ws : List ℕ} {i : ℕ}
    → Offering o n c a m k q h t ws i
    → w ≡ get_or ws i 0
    → Offered m k q t w m' q' t'
    → Offering o n c a m' k q' h t' ws (i + 1)
offering_more {k = k} {w = w} {m' = m'} {ws = ws} {i} r e d =
    record {
      peel = offer_peel r.peel d;
      busy = λ x b f. ⊎_elim inl (λ z. still x b f z (ℕ_discrete z.place i)) (r.busy x b (offer_shrinks d x f));
    }
  where
    still :
        (x : ℕ)
        → x < 512
        → Marked m' x
        → (z : Waits ws i 2 x)
        → Dec (z.place ≡ i)
        → 0 < get_or k x 0 ⊎ Waits ws (i + 1) 2 x
    still x b f z (yes p) =
        let y : x ≡ w = sym z.holds ∙ ap (λ j. get_or ws j 0) p ∙ sym e in
        inl (rw y (offer_busy d (omega arith) (rw y at f)))
    still x b f z (no p) =
        inr (record { place = z.place; from = omega (arith, z.from); before = z.before; holds = z.holds })

pub offering_ends : {o n c : List ℕ} {a m : List Bool} {k q : List ℕ} {h t : ℕ} {ws : List ℕ} {i : ℕ}
    → Offering o n c a m k q h t ws i
    → 2 ≤ i
    → Peeling o n c a m k q h t
offering_ends r l =
    record {
      peel = r.peel;
      busy = record { counts = λ x b f. ⊎_elim (λ z. z) (λ z. absurd (omega (arith, z.from, z.before))) (r.busy x b f) };
    }

pub peel_ends : {o n c : List ℕ} {a m : List Bool} {k q : List ℕ} {h t : ℕ} → Peeling o n c a m k q h t → t ≤ h → Peeled o n c a t
peel_ends {o} {n} {c} {a} {m} {k} {q} {h} {t} p l = record { fewer = λ b. some b; all = λ b. none b }
  where
    parts : among 512 m (λ v. 1) + t ≡ among 512 a (λ v. 1)
    parts = ap (λ y. among 512 m (λ v. 1) + y) (sym (sum_ones t)) ∙ p.peel.split (λ v. 1)

    inside : (v : ℕ) → Marked m v → v < 512
    inside v d = marked_low p.peel v d.marked

    of_mark : (f : ℕ → ℕ) (v : ℕ) (b : Bool) → get_or m v false ≡ b → 0 < cond b (f v) 0 → Marked m v × (0 < f v)
    of_mark f v true e d = (record { marked = e }, d)
    of_mark f v false e d = absurd (omega arith)

    found : (f : ℕ → ℕ) → 0 < among 512 m f → (v : ℕ) × Marked m v × (v < 512) × (0 < f v)
    found f d =
        let (v, b, e) = sum_found 512 (λ v. cond (get_or m v false) (f v) 0) d in
        let (g, i) = of_mark f v (get_or m v false) refl e in
        (v, g, b, i)

    before : (v : ℕ) → Marked m v → (u : ℕ) × Marked m u × Steps o n c u v
    before v d =
        let E = entries o n c v in
        let y : sum h (λ i. E (get_or q i 0)) ≡ sum t (λ i. E (get_or q i 0)) = ap (λ j. sum j (λ i. E (get_or q i 0))) same in
        let (u, f, b, i) = found E (omega (arith, y, p.peel.split E, p.peel.lowered v (inside v d), p.busy.counts v (inside v d) d)) in
        (u, f, goes u b i)
      where
        same : h ≡ t
        same = omega (arith, p.peel.behind)

        goes : (u : ℕ) → u < 512 → 0 < entries o n c v u → Steps o n c u v
        goes u b i =
            by_cases (ℕ_discrete (one o n c u) v)
            (λ e. rw e at (one_steps o n c u b))
            (λ e. by_cases (ℕ_discrete (other o n c u) v)
            (λ g. rw g at (other_steps o n c u b))
            (λ g. absurd (omega (arith, hits_none (one o n c u) v e, hits_none (other o n c u) v g))))

    some : t < among 512 a (λ v. 1) → Cyclic o n c a true
    some b =
        let (v, d, i, j) = found (λ v. 1) (omega (arith, parts)) in
        let (x, r) = peel_remains (Marked m) 512 inside before v d in
        (x, around_maps (within_maps p.peel.inside) r)

    none : among 512 a (λ v. 1) ≤ t → Cyclic o n c a false
    none b v r =
        let d = (p.peel.kept v r).1.from in
        omega (arith, parts, among_part 512 m (λ y. 1) v (inside v d) d.marked)

pub cyclic_by : {o n c : List ℕ} {a : List Bool} {r m : ℕ}
    → Peeled o n c a r
    → m ≡ among 512 a (λ v. 1)
    → (b : Bool)
    → (b ≡ true) ↔ (r < m)
    → Cyclic o n c a b
cyclic_by p e true d = p.fewer (omega (arith, d.0 refl))
cyclic_by {r = r} {m} p e false d =
    p.all (by_cases (dec_lt r m) (λ l. let z : false ≡ true = d.1 l in absurd (cc)) (λ l. omega arith))
