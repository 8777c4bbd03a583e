-- The paths that tell whether some state that respects a choice shows a fault. The faults are defined in specs/Faults.antt,
-- and passed on here. Assumes nothing.
--
--   drops_path           == some state drops exactly when a path leads from s to nothing
--   loops_path           == some state loops exactly when a path leads from s to a node of a closed path
--   loops_strong_path    == some state loops from some node exactly when there is a closed path
--   misses_path          == some state misses w exactly when a path past w leads from s to hand-off. Where s is w no
--                           path past w leaves s; where s is 513 itself the path of no step serves, and the walk of
--                           no hop
--   around_all           == every closed path lies within a set that holds all nodes
--   around_reached       == the closed paths to which a path from s leads are those within the set of the nodes to
--                           which a path from s leads
use Prim.Native.Nat.{ℕ, suc, ◌+◌, ◌<◌}
use native.Mathlib.Omega.{arith}
use mathlib.Core.Path.{◌≡◌, refl, sym, ◌∙◌, ap, subst}
use mathlib.Core.Logic.{inl, ⊎_elim, ◌↔◌}
use Rattle.graph.specs.Graph.{Choice, State, Step, Path, step, Around, Within, walk}
pub use Rattle.graph.specs.Faults.{Possible, Drops, Loops, LoopsStrong, Misses, Past}
use Rattle.graph.proofs.Paths.{Src, src_first, src_joins, src_maps, path_joins, path_after, path_ends, path_more}
use Rattle.graph.proofs.Paths.{path_maps, around_maps, around_within, around_carries, within_maps}
use Rattle.graph.proofs.Trail.{Moves, walk_moves, trail_as, trail, trail_around, walk_after}
use Rattle.graph.proofs.LastExit.{LastExit, last_exit, Comes}

-- in one state that respects the choice, the walk from the path's start comes to its end, and leaves only what the path
-- leaves
record Follows (o n : ℕ → ℕ) {c : ℕ → Choice} {a w : ℕ} (P : Path (Step o n c) w a) (X : State) : Type 0 where
  hops : ℕ
  comes : walk o n X a hops ≡ w
  through : (i : ℕ) → i < hops → Src (walk o n X a i) P

follows : (o n : ℕ → ℕ) {c : ℕ → Choice} {a w : ℕ} (P : Path (Step o n c) w a) (m : LastExit o n c P)
    → Follows o n P m.state
follows o n {a = a} {w} P m = ⊎_elim none some (src_first P)
  where
    none : a ≡ w → Follows o n P m.state
    none e = record { hops = 0; comes = e; through = λ i h. absurd (omega arith) }

    some : Src a P → Follows o n P m.state
    some h =
        let k : Comes o n m.state (λ u. Src u P) w a = m.exits a h in
        record { hops = suc k.hops; comes = k.comes; through = λ i l. k.through i (omega arith) }

module _ (o n : ℕ → ℕ) (c : ℕ → Choice) where
  pub drops_path : (s : ℕ) → Possible c (Drops o n s) ↔ Path (Step o n c) 512 s
  drops_path s = (forth, back)
    where
      forth : Possible c (Drops o n s) → Path (Step o n c) 512 s
      forth p = path_ends (trail (walk_moves o n p.respected s) 0 p.shows.hops (omega arith)) p.shows.dropped

      back : Path (Step o n c) 512 s → Possible c (Drops o n s)
      back P =
          let m : LastExit o n c P = last_exit o n c P in
          let f : Follows o n P m.state = follows o n P m in
          record {
            state = m.state;
            respected = m.respected;
            shows = record { hops = f.hops; dropped = f.comes };
          }

  pub loops_path : (s : ℕ) → Possible c (Loops o n s) ↔ ((v : ℕ) × Path (Step o n c) v s × Around (Step o n c) v)
  loops_path s = (forth, back)
    where
      forth : Possible c (Loops o n s) → (v : ℕ) × Path (Step o n c) v s × Around (Step o n c) v
      forth p =
          let m : Moves o n c (λ k. p.state) (walk o n p.state s) = walk_moves o n p.respected s in
          let l : Loops o n s p.state = p.shows in (
            walk o n p.state s l.first,
            trail m 0 l.first (omega arith),
            trail_around m l.first l.second l.later l.again l.node,
          )

      back : (v : ℕ) × Path (Step o n c) v s × Around (Step o n c) v → Possible c (Loops o n s)
      back (v, P, (u, t, Q)) =
          let J : Path (Step o n c) v s = path_joins P (step t Q) in
          let m : LastExit o n c J = last_exit o n c J in
          let f : Follows o n J m.state = follows o n J m in
          let k : Comes o n m.state (λ u. Src u J) v v = m.exits v (src_joins P (step t Q) v (inl refl)) in
          let e : walk o n m.state s (f.hops + suc k.hops) ≡ v =
          walk_after o n m.state s f.hops (suc k.hops)
          ∙ ap (λ x. walk o n m.state x (suc k.hops)) f.comes
          ∙ k.comes
          in
          record {
            state = m.state;
            respected = m.respected;
            shows =
                record {
                  first = f.hops;
                  second = f.hops + suc k.hops;
                  later = omega arith;
                  again = f.comes ∙ sym e;
                  node = subst (λ (x : ℕ). x < 512) (sym f.comes) t.node;
                };
          }

  pub loops_strong_path : Possible c (LoopsStrong o n) ↔ ((v : ℕ) × Around (Step o n c) v)
  loops_strong_path = (forth, back)
    where
      forth : Possible c (LoopsStrong o n) → (v : ℕ) × Around (Step o n c) v
      forth p =
          let l : LoopsStrong o n p.state = p.shows in
          let m : Moves o n c (λ k. p.state) (walk o n p.state l.at) = walk_moves o n p.respected l.at in
          (l.at, trail_around m 0 (suc l.hops) (omega arith) (sym l.again) l.node)

      back : (v : ℕ) × Around (Step o n c) v → Possible c (LoopsStrong o n)
      back (v, (u, t, Q)) =
          let m : LastExit o n c (step t Q) = last_exit o n c (step t Q) in
          let k : Comes o n m.state (λ u. Src u (step t Q)) v v = m.exits v (inl refl) in
          record {
            state = m.state;
            respected = m.respected;
            shows = record { at = v; node = t.node; hops = k.hops; again = k.comes };
          }

  pub misses_path : (s w : ℕ) → Possible c (Misses o n s w) ↔ Path (Past w (Step o n c)) 513 s
  misses_path s w = (forth, back)
    where
      forth : Possible c (Misses o n s w) → Path (Past w (Step o n c)) 513 s
      forth p =
          path_ends
          (trail_as (walk_moves o n p.respected s) 0 p.shows.hops (omega arith)
          (λ k a b t. record { steps = t; other = p.shows.misses k b }))
          p.shows.arrives

      plain : (x y : ℕ) → Past w (Step o n c) x y → Step o n c x y
      plain x y t = t.steps

      back : Path (Past w (Step o n c)) 513 s → Possible c (Misses o n s w)
      back P =
          let m : LastExit o n c (path_maps plain P) = last_exit o n c (path_maps plain P) in
          let f : Follows o n (path_maps plain P) m.state = follows o n (path_maps plain P) m in
          record {
            state = m.state;
            respected = m.respected;
            shows =
                record {
                  hops = f.hops;
                  arrives = f.comes;
                  misses = λ i h. (path_after _ P (src_maps plain P _ (f.through i h))).1.other;
                };
          }

  nodes : (x y : ℕ) → Step o n c x y → x < 512
  nodes x y t = t.node

  pub around_all : (S : ℕ → Type 0)
      → ((v : ℕ) → v < 512 → S v)
      → (v : ℕ)
      → Around (Step o n c) v ↔ Around (Within S (Step o n c)) v
  around_all S all v = (
    λ A. around_maps (within_maps all) (around_within (λ x. x < 512) nodes A),
    around_maps (λ x y t. t.steps),
  )

  pub around_reached : (S : ℕ → Type 0) (s : ℕ)
      → ((w : ℕ) → S w → Path (Step o n c) w s)
      → ((w : ℕ) → w < 512 → Path (Step o n c) w s → S w)
      → ((v : ℕ) × Path (Step o n c) v s × Around (Step o n c) v) ↔ ((v : ℕ) × Around (Within S (Step o n c)) v)
  around_reached S s sound whole = (forth, back)
    where
      Node : ℕ → Type 0
      Node v = v < 512

      From : ℕ → Type 0
      From v = Path (Step o n c) v s

      marked : (x y : ℕ) → Within From (Within Node (Step o n c)) x y → Within S (Step o n c) x y
      marked x y t =
          record {
            from = whole x t.steps.from t.from;
            steps = t.steps.steps;
            to = whole y t.steps.to t.to;
          }

      forth : (v : ℕ) × Path (Step o n c) v s × Around (Step o n c) v → (v : ℕ) × Around (Within S (Step o n c)) v
      forth (v, P, A) = (
        v,
        around_maps marked
            (around_carries From (λ x y Q t. path_more Q t.steps) P (around_within Node nodes A)),
      )

      back : (v : ℕ) × Around (Within S (Step o n c)) v → (v : ℕ) × Path (Step o n c) v s × Around (Step o n c) v
      back (v, A) = (v, sound v A.1.from, around_maps (λ x y t. t.steps) A)
