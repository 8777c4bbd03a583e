-- Whether a node may join the round so far. The round so far passes; the node's new step is the only one more. So there is a
-- loop only through that step: a path leads from its end back to the node, or, in relaxed mode, to a closed path that was
-- not reached before. Assumes nothing.
--
--   path_outside, around_outside == a path to a node outside a set that no step leaves lies outside it, and a closed path
--                           through one
--   steps_grow, step_more, steps_added == the steps when v joins: those before and v's new step
--   strong_may, strong_not == strong: v may join exactly if no path leads from its new next value to it
--   unseen_may           == relaxed: a node that is not reached may join, and what is reached stays
--   back_not, closes_not == relaxed: a node that is reached may not, if from its new next value a path leads to it, or to a
--                           closed path of nodes that were not reached
--   seen_may             == relaxed: otherwise it may; what is reached grows by what is reached from its new next value
--   tried_strong, tried_unseen, tried_back, tried_closes, tried_seen == the same, each as an answer in its mode
use Prim.Native.Nat.{ℕ, ◌<◌}
use native.Mathlib.Omega.{arith}
use native.Mathlib.Decide.{ℕ_discrete, dec_lt}
use mathlib.Core.Path.{◌≡◌, refl, sym, ap, ◌∙◌}
use mathlib.Core.Bool.{Bool, true, false, not, cond, ◌&&◌}
use mathlib.Core.List.{List}
use mathlib.Core.Logic.{◌⊎◌, inl, inr, ⊎_elim}
use lib.ListN.{length, get_or, set, get_or-eq_default}
use lib.Seq.{get_or-set_same, get_or-set_other}
use Rattle.graph.specs.Graph.{either, Ok, choices, choice_of, table, Path, stop, step, Around, Within}
use Rattle.graph.specs.Search.{Steps, Reached, Leads, Marked, Cyclic}
use Rattle.graph.proofs.Paths.{path_joins, path_more, path_maps, path_stays, around_maps, around_within, around_carries}
use Rattle.graph.proofs.OneMore.{path_added, around_added, reached_added}
use Rattle.rounds.specs.declared.mode.Mode.{Mode}
use Rattle.rounds.specs.declared.mode.Mode.TheVariants.{Strong, Relaxed}
use Rattle.rounds.specs.Mode.{mode_no}
use Rattle.plans.specs.Working.{Closes, Fits, Seen, Free, Tried, may, may_not, Fresh, Closing, Merged}
use Rattle.plans.proofs.IdLists.{by_bool, clash, either_or, or_left, or_right}
use Rattle.plans.proofs.MarkLaws.{fresh_high}

module _ {R : ℕ → ℕ → Type 0} (S : ℕ → Type 0) (closed : (x y : ℕ) → S x → R x y → S y) where
  pub path_outside : {w a : ℕ} → (S w → ⊥) → Path R w a → Path (Within (λ x. S x → ⊥) R) w a
  path_outside n (stop e) = stop e
  path_outside n (step s P) =
      step
      (record { from = λ h. n (path_stays S closed h (step s P)); steps = s; to = λ h. n (path_stays S closed h P) })
      (path_outside n P)

  pub around_outside : {u : ℕ} → (S u → ⊥) → Around R u → Around (Within (λ x. S x → ⊥) R) u
  around_outside n (y, s, P) = (y, record { from = n; steps = s; to = λ h. n (path_stays S closed h P) }, path_outside n P)

module _ (a b : List ℕ) {c : List ℕ} {v : ℕ} (size : length c ≡ 512) (f : Free c v) where
  at_v : choices (set c v 2) v ≡ either
  at_v = ap choice_of (get_or-set_same c v 2 0 (omega (arith, f.node)))

  at_other : {x : ℕ} → (x ≡ v → ⊥) → choices (set c v 2) x ≡ choices c x
  at_other {x} n = ap choice_of (get_or-set_other c v x 2 0 n)

  either_any : (t : Bool) → Ok either t
  either_any true = tt
  either_any false = tt

  pub steps_grow : (x y : ℕ) → Steps a b c x y → Steps a b (set c v 2) x y
  steps_grow x y s = go (ℕ_discrete x v)
    where
      go : Dec (x ≡ v) → Steps a b (set c v 2) x y
      go (yes e) = record { node = s.node; bit = s.bit; allowed = rw (e, at_v) (either_any s.bit); goes = s.goes }
      go (no n) = record { node = s.node; bit = s.bit; allowed = rw (at_other n) s.allowed; goes = s.goes }

  pub step_more : Steps a b (set c v 2) v (table b v)
  step_more = record { node = f.node; bit = true; allowed = rw at_v tt; goes = refl }

  pub steps_added : (x y : ℕ) → Steps a b (set c v 2) x y → Steps a b c x y ⊎ ((x ≡ v) × (y ≡ table b v))
  steps_added x y s = go (ℕ_discrete x v) s.bit s.allowed s.goes
    where
      go :
          Dec (x ≡ v)
          → (t : Bool)
          → Ok (choices (set c v 2) x) t
          → cond t (table b x) (table a x) ≡ y
          → Steps a b c x y ⊎ ((x ≡ v) × (y ≡ table b v))
      go (yes e) true k q = inr (e, sym q ∙ ap (table b) e)
      go (yes e) false k q = inl (record { node = s.node; bit = false; allowed = rw (e, f.in_none) tt; goes = q })
      go (no n) t k q = inl (record { node = s.node; bit = t; allowed = rw (at_other n) at k; goes = q })

  back_around : Path (Steps a b c) v (table b v) → Around (Steps a b (set c v 2)) v
  back_around P = (table b v, step_more, path_maps steps_grow P)

  -- ---- strong

  pub strong_may :
      {s : ℕ} {m : List Bool}
      → Fits 0 a b c s
      → Seen 0 a b c s m
      → (v < 514 → Path (Steps a b c) v (table b v) → ⊥)
      → Tried 0 a b c s v true m
  strong_may {s} {m} g k n =
      may
      (record { fits = λ (u, A). ⊎_elim (λ B. g.fits (u, B)) (λ q. n (omega (arith, f.node)) q.1) (around_added steps_added A) })
      (record { size = k.size; seen = tt })

  pub strong_not :
      {s : ℕ} {m : List Bool} → Seen 0 a b c s m → Path (Steps a b c) v (table b v) → Tried 0 a b c s v false m
  strong_not k P = may_not (λ g. g.fits (v, back_around P)) k

  -- ---- relaxed

  module _ {s : ℕ} {m : List Bool} (g : Fits 1 a b c s) (r : Reached a b c s m) where
    pub unseen_may : get_or m v false ≡ false → Tried 1 a b c s v true m
    unseen_may e =
        may (record { fits = λ l. ⊎_elim g.fits (λ q. off q.0) (reached_added steps_added l) })
        (record {
          size = r.size;
          seen =
              record {
                size = r.size;
                marked_is_reached = λ w h. path_maps steps_grow (r.marked_is_reached w h);
                reached_is_marked =
                    λ w l P. ⊎_elim (λ Q. r.reached_is_marked w l Q) (λ q. absurd (off q.0)) (path_added steps_added P);
              };
        })
      where
        off : Path (Steps a b c) v s → ⊥
        off P = clash (r.reached_is_marked v (omega (arith, f.node)) P) e

    module _ {k : List Bool} (e : get_or m v false ≡ true) (z : Reached a b c (table b v) k) where
      -- what a path leads to from v's new next value is reached when v has joined
      then_reached : {u : ℕ} → Path (Steps a b c) u (table b v) → Path (Steps a b (set c v 2)) u s
      then_reached P =
          path_joins (path_more (path_maps steps_grow (r.marked_is_reached v e)) step_more) (path_maps steps_grow P)

      waits_by : Closes 1 a b (set c v 2) s → Tried 1 a b c s v false m
      waits_by l = may_not (λ h. h.fits l) (record { size = r.size; seen = r })

      pub back_not : get_or k v false ≡ true → Tried 1 a b c s v false m
      back_not h =
          let P : Path (Steps a b c) v (table b v) = z.marked_is_reached v h in
          waits_by (v, then_reached P, back_around P)

      module _ {n : List Bool} (d : Fresh m k n) where
        and_left : (x y : Bool) → (x && y) ≡ true → x ≡ true
        and_left true y q = refl
        and_left false y q = q

        fresh_marked : (u : ℕ) → get_or n u false ≡ true → get_or k u false ≡ true
        fresh_marked u q = go (dec_lt u 512)
          where
            go : Dec (u < 512) → get_or k u false ≡ true
            go (yes l) = and_left (get_or k u false) (not (get_or m u false)) (sym (d.at u l) ∙ q)
            go (no l) = clash q (fresh_high d u (omega arith))

        pub closes_not : Cyclic a b c n true → Tried 1 a b c s v false m
        closes_not (u, A) =
            waits_by (
              u,
              then_reached (z.marked_is_reached u (fresh_marked u A.1.from.marked)),
              around_maps (λ x y t. steps_grow x y t.steps) A,
            )

        -- a closed path that is reached only when v has joined lies among the nodes that were not reached
        among : (u : ℕ) → Path (Steps a b c) u (table b v) → Around (Steps a b c) u → Around (Within (Marked n) (Steps a b c)) u
        among u P A =
            around_maps marks
            (around_outside Seen_before (λ x y q t. path_more q t.steps.steps) (λ Q. g.fits (u, Q, A))
            (around_carries From (λ x y q t. path_more q t.steps) P
            (around_within (λ x. x < 512) (λ x y t. t.node) A)))
          where
            Seen_before : ℕ → Type 0
            Seen_before x = Path (Steps a b c) x s

            From : ℕ → Type 0
            From x = Path (Steps a b c) x (table b v)

            mark : (x : ℕ) → x < 512 → From x → (Seen_before x → ⊥) → Marked n x
            mark x l p q =
                record {
                  marked =
                      d.at x l
                      ∙ rw (
                        z.reached_is_marked x (omega arith) p,
                        by_bool (get_or m x false) (λ h. absurd (q (r.marked_is_reached x h))) (λ h. h),
                      );
                }

            marks :
                (x y : ℕ)
                → Within (λ w. Seen_before w → ⊥) (Within From (Within (λ w. w < 512) (Steps a b c))) x y
                → Within (Marked n) (Steps a b c) x y
            marks x y t =
                record {
                  from = mark x t.steps.steps.from t.steps.from t.from;
                  steps = t.steps.steps.steps;
                  to = mark y t.steps.steps.to t.steps.to t.to;
                }

        pub seen_may : get_or k v false ≡ false → Cyclic a b c n false → {m' : List Bool} → Merged m k m' → Tried 1 a b c s v true m'
        seen_may h l {m'} u =
            may (record { fits = λ p. ⊎_elim g.fits (λ q. ⊎_elim back (λ (x, P, A). l x (among x P A)) q.1) (reached_added steps_added p) })
            (record { size = u.size; seen = record { size = u.size; marked_is_reached = marked; reached_is_marked = reached } })
          where
            back : Path (Steps a b c) v (table b v) → ⊥
            back P = clash (z.reached_is_marked v (omega (arith, f.node)) P) h

            marked : (w : ℕ) → get_or m' w false ≡ true → Path (Steps a b (set c v 2)) w s
            marked w q = go (dec_lt w 514)
              where
                go : Dec (w < 514) → Path (Steps a b (set c v 2)) w s
                go (yes i) =
                    ⊎_elim (λ x. path_maps steps_grow (r.marked_is_reached w x)) (λ x. then_reached (z.marked_is_reached w x))
                    (either_or (get_or m w false) (get_or k w false) (sym (u.at w i) ∙ q))
                go (no i) = clash q (get_or-eq_default m' false {n = w} (omega (arith, u.size)))

            reached : (w : ℕ) → w < 514 → Path (Steps a b (set c v 2)) w s → get_or m' w false ≡ true
            reached w i P =
                u.at w i
                ∙ ⊎_elim (λ Q. or_left (get_or k w false) (r.reached_is_marked w i Q))
                (λ q. or_right (get_or m w false) (z.reached_is_marked w i q.1))
                (path_added steps_added P)

-- ---- either mode

not_strong : (z : Mode) → (z ≡ Strong → ⊥) → z ≡ Relaxed
not_strong Strong n = absurd (n refl)
not_strong Relaxed n = refl

module _ {z : Mode} {a b c : List ℕ} {s v : ℕ} {m : List Bool}
    (size : length c ≡ 512)
    (free : Free c v)
    (fit : Fits (mode_no z) a b c s × Seen (mode_no z) a b c s m)
    {w : ℕ}
    (e : w ≡ table b v)
  where
    pub tried_strong : z ≡ Strong → (r : Bool) → Leads a b c w v r → Tried (mode_no z) a b c s v (not r) m
    tried_strong k true l = rw k (strong_not a b size free (rw k at fit.1) (rw e at l.1))
    tried_strong k false l = rw k (strong_may a b size free (rw k at fit.0) (rw k at fit.1) (rw e at l))

    module _ (n : z ≡ Strong → ⊥) where
      relaxed : {r : Bool} {m' : List Bool}
          → (Fits 1 a b c s → Reached a b c s m → Tried 1 a b c s v r m')
          → Tried (mode_no z) a b c s v r m'
      relaxed f = rw (not_strong z n) (f (rw (not_strong z n) at fit.0) (rw (not_strong z n) at fit.1).seen)

      pub tried_unseen : get_or m v false ≡ false → Tried (mode_no z) a b c s v true m
      tried_unseen h = relaxed (λ g r. unseen_may a b size free g r h)

      module _ {k : List Bool} (h : get_or m v false ≡ true) (x : Reached a b c w k) where
        pub tried_back : get_or k v false ≡ true → Tried (mode_no z) a b c s v false m
        tried_back y = relaxed (λ g r. back_not a b size free g r h (rw e at x) y)

        pub tried_closes : Closing a b c m k true → Tried (mode_no z) a b c s v false m
        tried_closes y = relaxed (λ g r. closes_not a b size free g r h (rw e at x) y.fresh y.closed)

        pub tried_seen :
            get_or k v false ≡ false → Closing a b c m k false → {m' : List Bool} → Merged m k m' → Tried (mode_no z) a b c s v true m'
        tried_seen q y u = relaxed (λ g r. seen_may a b size free g r h (rw e at x) y.fresh q y.closed u)
