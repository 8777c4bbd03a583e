-- From the answers of the two searches to the faults that the states of a round show. Assumes nothing.
--
--   way_maps         == what tells a fault by the steps R tells it by steps R', where each step of R is one of R'
--   possible_leads   == some state that respects the choice cl shows the fault exactly when the tables lead to it
--   coded_choices    == the choice of a round's states, from its numbers
--   bad_leads        == a round is bad exactly when the tables lead to the fault by its choice
--   said_true, said_false == what an answer says
--   alive_all        == in strong mode all nodes count
--   alive_marked     == in relaxed mode the nodes count that are marked
--   seen_drop        == the mark of 512 tells a drop
--   alive_loop       == a closed path within the nodes that count tells a loop
use Prim.Native.Nat.{ℕ, zero, suc, ◌<◌}
use native.Mathlib.Omega.{arith}
use native.Mathlib.Decide.{dec_lt}
use mathlib.Core.Path.{◌≡◌, refl, sym, ◌∙◌, ap, subst, fun_ext}
use mathlib.Core.Bool.{Bool, true, false, cond}
use mathlib.Core.List.{List}
use mathlib.Core.Logic.{◌↔◌}
use lib.ListN.{length, get_or, replicate, length-replicate, get_or-replicate, get_or-eq_default}
use lib.Dec.{eqb, ltb}
use denote.Param.Members.{Mut}
use Rattle.std.specs.Array.{IsFromFnResult}
use Rattle.std.specs.Fn.{Called}
use Rattle.graph.specs.Graph.{Choice, old, new, either, table, choice_of, choices, Around, Within}
use Rattle.graph.specs.Search.{Steps, Reached, Marked, Cyclic}
use Rattle.graph.proofs.Paths.{path_maps, around_maps}
use Rattle.graph.proofs.Equivalences.{Possible, around_all, around_reached}
use Rattle.routes.proofs.RuleLaws.{made_at}
use Rattle.rounds.specs.Schedule.{round_no}
use Rattle.rounds.specs.States.{Fault, a_drop, a_loop, Shows, Bad}
use Rattle.rounds.specs.Working.{Stands, Way, Leads, Says, holds, fails, Alive, Coded}
use Rattle.rounds.proofs.Bridge.{RouteStep, Chooses, choice_at, possible_finds, bad_possible, steps_route, route_steps}

true_false : {b : Bool} → b ≡ true → b ≡ false → ⊥
true_false e d = let z : ◌≡◌ {A = ℕ} 0 1 = cc in omega arith

pub way_maps :
    {R R' : ℕ → ℕ → Type 0} (f : Fault) (mode s : ℕ) → ((u v : ℕ) → R u v → R' u v) → Way f mode R s → Way f mode R' s
way_maps a_drop mode s h P = path_maps h P
way_maps a_loop zero s h (v, A) = (v, around_maps h A)
way_maps a_loop (suc m) s h (v, P, A) = (v, path_maps h P, around_maps h A)

code_choice : (p q r : Bool) → choice_of (cond p 0 (cond q 1 (cond r 2 0))) ≡ cond p old (cond q new (cond r either old))
code_choice true q r = refl
code_choice false true r = refl
code_choice false false true = refl
code_choice false false false = refl

pub coded_choices : {ids zs : List ℕ} {t : ℕ} {cl : List ℕ} → Coded ids zs t 2 cl → choices cl ≡ choice_at ids zs t
coded_choices {ids} {zs} {t} x =
    fun_ext (λ v.
    ap choice_of (x.code v) ∙ code_choice (eqb (round_no ids zs v) 0) (ltb (round_no ids zs v) t) (eqb (round_no ids zs v) t))

module _ {o n a b : List ℕ} {s : ℕ} (z : Stands o n a b s) where
  pub possible_leads :
      (f : Fault) (mode : ℕ) (cl : List ℕ) → Possible (choices cl) (Shows f mode o n) ↔ Leads f mode a b cl s
  possible_leads f mode cl = (forth, back)
    where
      itself : Chooses (choices cl) cl
      itself = record { at = λ v h. refl }

      At : ℕ → Type 0
      At u = Way f mode (RouteStep o n (choices cl)) u

      forth : Possible (choices cl) (Shows f mode o n) → Leads f mode a b cl s
      forth p =
          record {
            way =
                way_maps f mode s (route_steps z.olds z.news itself)
                (subst At (sym z.begins) ((possible_finds z.good (choices cl) f mode).0 p));
          }

      back : Leads f mode a b cl s → Possible (choices cl) (Shows f mode o n)
      back l =
          (possible_finds z.good (choices cl) f mode).1
          (subst At z.begins (way_maps f mode s (steps_route z.olds z.news itself) l.way))

  pub bad_leads :
      {ids zs : List ℕ} {t : ℕ} {cl : List ℕ}
      → Coded ids zs t 2 cl
      → (f : Fault) (mode : ℕ)
      → Bad mode o n ids zs t f ↔ Leads f mode a b cl s
  bad_leads {ids} {zs} {t} {cl} x f mode = (
    λ w. (possible_leads f mode cl).0 (subst Some (sym (coded_choices x)) ((bad_possible mode o n ids zs t f).0 w)),
    λ l. (bad_possible mode o n ids zs t f).1 (subst Some (coded_choices x) ((possible_leads f mode cl).1 l)),
  )
    where
      Some : (ℕ → Choice) → Type 0
      Some c = Possible c (Shows f mode o n)

pub said_true : {A : Type 0} {r : Bool} → Says A r → r ≡ true → A
said_true (holds a) e = a
said_true (fails n) e = absurd (true_false e refl)

pub said_false : {A : Type 0} {r : Bool} → Says A r → r ≡ false → A → ⊥
said_false (holds a) e = absurd (true_false refl e)
said_false (fails n) e = n

pub seen_drop :
    {a b cl : List ℕ} {s : ℕ} {m : List Bool} (mode : ℕ)
    → Reached a b cl s m
    → (r : Bool)
    → get_or m 512 false ≡ r
    → Says (Leads a_drop mode a b cl s) r
seen_drop mode x true e = holds (record { way = x.marked_is_reached 512 e })
seen_drop mode x false e = fails (λ l. true_false (x.reached_is_marked 512 (omega arith) l.way) e)

pub alive_all : {m : List Bool} {mode : ℕ} → mode ≡ 0 → Alive mode m (replicate 512 true)
alive_all e =
    record {
      nodes = length-replicate {A = Bool} 512 true;
      strong = λ z v h. get_or-replicate 512 v true false h;
      relaxed = λ l. absurd (omega arith);
    }

pub alive_marked :
    {m a : List Bool} {mode : ℕ} {F : Type 0} {g : Mut F (ℕ × Unit {0}) Bool} {f : F}
    → mode ≡ 1
    → IsFromFnResult g f a 512
    → ((i : ℕ) (y : Bool) (q : F) → Called g f (i, tt) y q → (q ≡ f) × (y ≡ get_or m i false))
    → Alive mode m a
alive_marked {m} {a} {mode} {F} {g} {f} e x same =
    record {
      nodes = x.long;
      strong = λ z. absurd (omega arith);
      relaxed = λ l v h. made_at (λ i. get_or m i false) x same v false h;
    }

-- what is marked of 512 nodes is a node
marked_node : (a : List Bool) (v : ℕ) → length a ≡ 512 → get_or a v false ≡ true → v < 512
marked_node a v e h = go (dec_lt v 512)
  where
    go : Dec (v < 512) → v < 512
    go (yes k) = k
    go (no k) = absurd (true_false h (get_or-eq_default a false (omega arith)))

module _ {a b cl : List ℕ} {s : ℕ} {m al : List Bool} (x : Reached a b cl s m) where
  loop_within : (mode : ℕ) → Alive mode m al → Way a_loop mode (Steps a b cl) s ↔ ((v : ℕ) × Around (Within (Marked al) (Steps a b cl)) v)
  loop_within zero y = (λ (v, A). (v, (same v).0 A), λ (v, A). (v, (same v).1 A))
    where
      same : (v : ℕ) → Around (Steps a b cl) v ↔ Around (Within (Marked al) (Steps a b cl)) v
      same = around_all (table a) (table b) (choices cl) (Marked al) (λ v h. record { marked = y.strong refl v h })
  loop_within (suc k) y =
      around_reached (table a) (table b) (choices cl) (Marked al) s
      (λ w h. x.marked_is_reached w (sym (y.relaxed (omega arith) w (node w h)) ∙ h.marked))
      (λ w h P. record { marked = y.relaxed (omega arith) w h ∙ x.reached_is_marked w (omega arith) P })
    where
      node : (w : ℕ) → Marked al w → w < 512
      node w h = marked_node al w y.nodes h.marked

  pub alive_loop : (mode : ℕ) → Alive mode m al → (r : Bool) → Cyclic a b cl al r → Says (Leads a_loop mode a b cl s) r
  alive_loop mode y true h = holds (record { way = (loop_within mode y).1 h })
  alive_loop mode y false h = fails (λ l. let (v, A) = (loop_within mode y).0 l.way in h v A)
