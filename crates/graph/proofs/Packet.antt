-- A packet that moves while the state changes under it, a different state at each hop. Its trail is a path, so what it
-- meets some one fixed state shows too. Assumes nothing.
--
--   packet_trail         == the packet's places are a path from its first
--   packet_drops         == where the packet comes to nothing, some one state drops
--   packet_loops         == where the packet comes to a node twice, some one state loops
--   Passes p l           == the places p never are nothing, no node comes twice, and after as many hops as l has elements
--                           the packet has left the nodes
--   packet_passes        == a packet passes, where no state drops or loops from its first place, and every node on its
--                           way stands in l
use Prim.Native.Nat.{ℕ, zero, suc, ◌≤◌, ◌<◌}
use native.Mathlib.Omega.{arith}
use native.Mathlib.Decide.{dec_lt, ℕ_discrete}
use mathlib.Core.Path.{◌≡◌, sym, ◌∙◌, subst}
use mathlib.Core.List.{List}
use lib.ListN.{length}
use Rattle.graph.specs.Graph.{Choice, State, Step, Path}
use Rattle.graph.proofs.Paths.{path_cast, path_ends}
use Rattle.graph.proofs.Trail.{Moves, trail, trail_around, next_end}
use Rattle.graph.proofs.Equivalences.{Possible, Drops, Loops, drops_path, loops_path}
use Rattle.graph.proofs.Pigeon.{Among, Twice, pigeon_among}

pub record Passes (p : ℕ → ℕ) (l : List ℕ) : Type 0 where
  pub never_nothing : (k : ℕ) → p k ≡ 512 → ⊥
  pub never_twice : (i j : ℕ) → i < j → p i ≡ p j → p i < 512 → ⊥
  pub leaves : (k : ℕ) → length l ≤ k → 512 ≤ p k

module _ {o n : ℕ → ℕ} {c : ℕ → Choice} {Xs : ℕ → State} {p : ℕ → ℕ} (m : Moves o n c Xs p) (s : ℕ) (begins : p 0 ≡ s) where
  pub packet_trail : (k : ℕ) → Path (Step o n c) (p k) s
  packet_trail k = path_cast (sym begins) (trail m 0 k (omega arith))

  pub packet_drops : (k : ℕ) → p k ≡ 512 → Possible c (Drops o n s)
  packet_drops k e = (drops_path o n c s).1 (path_ends (packet_trail k) e)

  pub packet_loops : (i j : ℕ) → i < j → p i ≡ p j → p i < 512 → Possible c (Loops o n s)
  packet_loops i j h e l = (loops_path o n c s).1 (p i, packet_trail i, trail_around m i j h e l)

  -- a packet that has left the nodes stays where it is
  gone : (i j : ℕ) → i ≤ j → 512 ≤ p i → 512 ≤ p j
  gone i zero h l = let e : i ≡ 0 = omega arith in subst (λ (k : ℕ). 512 ≤ p k) e l
  gone i (suc j) h l = go (gone i j) (ℕ_discrete i (suc j))
    where
      go : (i ≤ j → 512 ≤ p i → 512 ≤ p j) → Dec (i ≡ suc j) → 512 ≤ p (suc j)
      go rec (yes e) = subst (λ (k : ℕ). 512 ≤ p k) e l
      go rec (no d) =
          let k : 512 ≤ p j = rec (omega arith) l in
          omega (arith, m.hops j ∙ next_end o n (Xs j) (p j) k)

  pub packet_passes : (Possible c (Drops o n s) → ⊥)
      → (Possible c (Loops o n s) → ⊥)
      → (l : List ℕ)
      → ((k : ℕ) → p k < 512 → Among l (p k))
      → Passes p l
  packet_passes no_drop no_loop l all =
      record {
        never_nothing = λ k e. no_drop (packet_drops k e);
        never_twice = λ i j h e b. no_loop (packet_loops i j h e b);
        leaves = λ k h. go k h (dec_lt (p k) 512);
      }
    where
      go : (k : ℕ) → length l ≤ k → Dec (p k < 512) → 512 ≤ p k
      go k h (no b) = omega arith
      go k h (yes b) =
          let t : Twice p (length l) = pigeon_among l p (λ i j. all i (at i j)) in
          absurd (no_loop (packet_loops t.first t.second t.later t.same (at t.first (omega arith))))
        where
          at : (i : ℕ) → i ≤ length l → p i < 512
          at i j = still (dec_lt (p i) 512)
            where
              still : Dec (p i < 512) → p i < 512
              still (yes d) = d
              still (no d) = let e : 512 ≤ p k = gone i k (omega arith) (omega arith) in absurd (omega arith)
