-- From the tables and the choice list to the rounds of switches: what a pass does is a Joining, and the loop over the rounds a
-- Middle. Assumes nothing.
--
--   Shown P R c          == the choice list c shows the earlier rounds P and the round R
--   shown_joins          == so it is when v joins
--   shown_chooses        == it gives each node the choice of that round
--   fits_passes, passes_fits == a round without removes passes exactly if there is no closed path that tells of a loop
--   Ready o n c vs       == the nodes vs are switches of no round yet, no two of them the same
--   tries_joining        == a pass over them by the tables is one by the rounds
--   Going .. c left many ids sizes k m == the loop so far: the rounds written, and the switches that wait
--   going_begins         == at first all switches wait
--   going_lined, going_fits == what a pass requires
--   going_room           == there is room for the round that a pass leaves
--   going_turn, going_fewer == one round more: fewer wait
--   going_ends           == when none waits the rounds are those of all switches
use Prim.Native.Nat.{ℕ, zero, suc, ◌<◌, ◌≤◌}
use native.Mathlib.Omega.{arith}
use native.Mathlib.Decide.{ℕ_discrete, dec_lt}
use mathlib.Core.Path.{◌≡◌, refl, sym, ap, ◌∙◌, subst, fun_ext}
use mathlib.Core.Bool.{true, false, cond, and-false}
use mathlib.Core.List.{List, [], ◌∷◌, ◌++◌, append_assoc, append-nil}
use lib.ListN.{length, get_or, set, take, length-set}
use lib.Seq.{get_or-set_same, get_or-set_other, get_or-take, length-take-le}
use lib.Dec.{eqb, ltb}
use borrow.Author.Tests.{lt-ltb, eq-eqb, ne_eqb, eqb-false, ltb-false}
use Rattle.graph.specs.Graph.{old, new, either, choice_of}
use Rattle.routes.specs.Routes.{source}
use Rattle.routes.specs.Jumps.{on}
use Rattle.routes.specs.Walk.{State}
use Rattle.routes.proofs.RuleLaws.{tally_cong, due_below}
use Rattle.rounds.specs.declared.setting.Setting.{Setting}
use Rattle.rounds.specs.States.{Fault, a_drop, a_loop}
use Rattle.rounds.specs.Packet.{changed}
use Rattle.rounds.proofs.Bridge.{Finds, Chooses, paths_same, around_same}
use Rattle.plans.specs.Plan.{
  RoundPasses,
  Joining,
  nothing,
  together,
  Middle,
  all_placed,
  a_round,
  installs,
  switches,
  rising,
  some_round,
  switched,
}
use Rattle.plans.specs.Plan as plan
use Rattle.plans.specs.Working.{round_choice, placed, present, Closes, Fits, Free, Tries, all_tried, joins, waits}
use Rattle.plans.specs.Working.{Lined, Passed, Added, Room, Wrote, SettingOf, Ahead, Middled}
use Rattle.plans.proofs.IdLists.{
  by_bool,
  clash,
  or_left,
  on_first,
  on_rest,
  index_on,
  Distinct,
  distinct_index,
}
use Rattle.plans.proofs.RisingIds.{rising_none}
use Rattle.plans.proofs.PlanPaths.{passes_finds}
use Rattle.plans.proofs.PlanSets.{switch_due, switch_no_install, on_switches, switches_distinct}
use Rattle.plans.proofs.PlanSets.{waits_on, waits_distinct, joining_member}
use Rattle.plans.proofs.Middles.{Midway, midway_joins, midway_no_drop, Waiting, waiting_all, waiting_fewer, waiting_next}
use Rattle.plans.proofs.WriteLaws.{added_none, added_joins, one_some}

pub record Shown (P R : State) (c : List ℕ) : Type 0 where
  pub earlier : (v : ℕ) → P v ≡ placed c v
  pub here : (v : ℕ) → R v ≡ present c v

pub shown_joins : {P R : State} {c : List ℕ} {v : ℕ} → Shown P R c → length c ≡ 512 → Free c v → Shown P (changed R v) (set c v 2)
shown_joins {P} {R} {c} {v} s l f = record { earlier = λ u. old_one u (ℕ_discrete u v); here = λ u. new_one u (ℕ_discrete u v) }
  where
    stored : get_or (set c v 2) v 0 ≡ 2
    stored = get_or-set_same c v 2 0 (omega (arith, f.node))

    old_one : (u : ℕ) → Dec (u ≡ v) → P u ≡ placed (set c v 2) u
    old_one u (yes e) = rw (e, s.earlier v, f.in_none, stored)
    old_one u (no e) = rw (get_or-set_other c v u 2 0 e) (s.earlier u)

    new_one : (u : ℕ) → Dec (u ≡ v) → changed R v u ≡ present (set c v 2) u
    new_one u (yes e) = rw (e, eq-eqb v v refl, stored)
    new_one u (no e) = rw (ne_eqb u v e, get_or-set_other c v u 2 0 e) (s.here u)

pub shown_chooses : {P R : State} {c : List ℕ} → Shown P R c → Chooses (round_choice P R) c
shown_chooses {c = c} s = record { at = λ v h. rw (s.earlier v, s.here v) (go (get_or c v 0)) }
  where
    go : (k : ℕ) → choice_of k ≡ cond (eqb k 1) new (cond (ltb 1 k) either old)
    go zero = refl
    go (suc zero) = refl
    go (suc (suc k)) = rw (ne_eqb (suc (suc k)) 1 (λ e. omega arith), lt-ltb 1 (suc (suc k)) (omega arith))

module _ {o n : List ℕ} {y : Setting} (g : SettingOf o n y) where
  module _ {P R : State} {c : List ℕ} (w : Shown P R c) where
    finds_closes : (mode : ℕ) → Finds a_loop mode o n (round_choice P R) → Closes mode y.old.now y.new.now c y.source
    finds_closes zero (v, A) = (v, (around_same g.olds g.news (shown_chooses w) v).1 A)
    finds_closes (suc k) (v, Q, A) = (
      v,
      rw g.start ((paths_same g.olds g.news (shown_chooses w) v (source o)).1 Q),
      (around_same g.olds g.news (shown_chooses w) v).1 A,
    )

    closes_finds : (mode : ℕ) → Closes mode y.old.now y.new.now c y.source → Finds a_loop mode o n (round_choice P R)
    closes_finds zero (v, A) = (v, (around_same g.olds g.news (shown_chooses w) v).0 A)
    closes_finds (suc k) (v, Q, A) = (
      v,
      (paths_same g.olds g.news (shown_chooses w) v (source o)).0 (rw g.start at Q),
      (around_same g.olds g.news (shown_chooses w) v).0 A,
    )

    pub fits_passes : {mode : ℕ} → Midway o n P R → Fits mode y.old.now y.new.now c y.source → RoundPasses mode o n P R
    fits_passes {mode} m f = (passes_finds g.good mode P R).1 none
      where
        none : (x : Fault) → Finds x mode o n (round_choice P R) → ⊥
        none a_drop Q = midway_no_drop g.good m Q
        none a_loop l = f.fits (finds_closes mode l)

    pub passes_fits : {mode : ℕ} → RoundPasses mode o n P R → Fits mode y.old.now y.new.now c y.source
    passes_fits {mode} p = record { fits = λ l. (passes_finds g.good mode P R).0 p a_loop (closes_finds mode l) }

pub record Ready (o n c vs : List ℕ) : Type 0 where
  pub distinct : Distinct vs
  pub free : (v : ℕ) → on vs v ≡ true → Free c v
  pub switch : (v : ℕ) → on vs v ≡ true → switched o n v ≡ true

ready_rest : {o n c vs : List ℕ} {v : ℕ} → Ready o n c (v ∷ vs) → Ready o n c vs
ready_rest {vs = vs} {v} r =
    record {
      distinct = r.distinct.1;
      free = λ u e. r.free u (on_rest v vs u e);
      switch = λ u e. r.switch u (on_rest v vs u e);
    }

ready_joins : {o n c vs : List ℕ} {v : ℕ} → Ready o n c (v ∷ vs) → Ready o n (set c v 2) vs
ready_joins {c = c} {vs} {v} r =
    record { distinct = r.distinct.1; free = λ u e. go u e (r.free u (on_rest v vs u e)); switch = (ready_rest r).switch }
  where
    go : (u : ℕ) → on vs u ≡ true → Free c u → Free (set c v 2) u
    go u e f =
        record {
          node = f.node;
          in_none = get_or-set_other c v u 2 0 (λ q. clash (ap (on vs) (sym q) ∙ e) r.distinct.0) ∙ f.in_none;
        }

module _ {o n : List ℕ} {y : Setting} {mode : ℕ} (g : SettingOf o n y) where
  pub tries_joining :
      {P R : State} {c c' vs W : List ℕ}
      → Tries mode y.old.now y.new.now y.source vs c c' W
      → length c ≡ 512
      → Shown P R c
      → Midway o n P R
      → Ready o n c vs
      → Joining mode o n P vs R (present c') W × ((v : ℕ) → P v ≡ placed c' v)
  tries_joining {P} {R} {c} all_tried l w m r =
      (subst (λ (S : State). Joining mode o n P [] R S []) (fun_ext w.here) plan.all_tried, w.earlier)
  tries_joining {P} {R} {c} (joins {v} {vs} f t) l w m r =
      let h : Free c v = r.free v (on_first v vs) in
      let w' : Shown P (changed R v) (set c v 2) = shown_joins w l h in
      let m' : Midway o n P (changed R v) = midway_joins v m (r.switch v (on_first v vs)) in
      let (j, e) = tries_joining {R = changed R v} t (length-set c v 2 ∙ l) w' m' (ready_joins r) in
      (plan.joins (fits_passes g w' m' f) j, e)
  tries_joining {P} {R} {c} (waits {v} {vs} f t) l w m r =
      let w' : Shown P (changed R v) (set c v 2) = shown_joins w l (r.free v (on_first v vs)) in
      let (j, e) = tries_joining t l w m (ready_rest r) in
      (plan.waits (λ p. f (passes_fits g w' p)) j, e)

pub record Going
    (mode : ℕ) (o n : List ℕ) (y : Setting) (ids₀ sizes₀ : List ℕ) (k₀ m₀ : ℕ) (c left : List ℕ) (many : ℕ)
    (ids sizes : List ℕ) (k m : ℕ)
    : Type 0 where
  pub setting : SettingOf o n y
  pub waiting : Waiting mode o n (placed c) (take many left)
  pub ready : Ready o n c (take many left)
  pub none_present : (v : ℕ) → present c v ≡ false
  pub room : Room c ids sizes k m
  pub places : length left ≡ 256
  pub most : many ≤ 256
  pub rounds : List State
  pub so_far :
      (Rs : List State)
      → Middle mode o n (placed c) (take many left) Rs
      → Middle mode o n (installs o n) (switches o n) (rounds ++ Rs)
  pub added : Added rounds ids₀ sizes₀ k₀ m₀ ids sizes k m

none_at : (x : ℕ) → eqb x 1 ≡ false → ltb 1 x ≡ false → x ≡ 0
none_at x e d = go (ℕ_discrete x 0)
  where
    go : Dec (x ≡ 0) → x ≡ 0
    go (yes q) = q
    go (no q) = absurd (eqb-false x 1 e (omega (arith, ltb-false 1 x d)))

free_at : {c : List ℕ} {v : ℕ} → v < 512 → placed c v ≡ false → present c v ≡ false → Free c v
free_at {c} {v} h e d = record { node = h; in_none = none_at (get_or c v 0) e d }

pub going_begins :
    {mode : ℕ} {o n c left ids sizes : List ℕ} {y : Setting} {many k m : ℕ}
    → SettingOf o n y
    → Ahead o n c left many
    → Room c ids sizes k m
    → Going mode o n y ids sizes k m c left many ids sizes k m
going_begins {mode} {o} {n} {c = c} {left} {ids} {sizes} {many = many} {k} {m} g h r =
    record {
      setting = g;
      waiting = rw h.waiting (subst (λ (P : State). Waiting mode o n P (switches o n)) same (waiting_all g.good mode));
      ready = rw h.waiting ready;
      none_present = h.none_present;
      room = r;
      places = h.places;
      most = h.most;
      rounds = [];
      so_far = λ Rs t. subst (λ (P : State). Middle mode o n P (switches o n) Rs) (sym same) (rw h.waiting at t);
      added = added_none ids sizes k m;
    }
  where
    same : installs o n ≡ placed c
    same = fun_ext (λ v. sym (h.installed v))

    switch_at : (v : ℕ) → on (switches o n) v ≡ true → switched o n v ≡ true
    switch_at v e = sym (on_switches o n v) ∙ e

    free : (v : ℕ) → switched o n v ≡ true → Free c v
    free v e =
        free_at (due_below g.good v (switch_due o n v e))
        (h.installed v ∙ switch_no_install o n v e)
        (h.none_present v)

    ready : Ready o n c (switches o n)
    ready =
        record {
          distinct = switches_distinct o g.good.new;
          free = λ v e. free v (switch_at v e);
          switch = switch_at;
        }

module _
    {mode : ℕ} {o n ids₀ sizes₀ c left ids sizes : List ℕ} {y : Setting} {k₀ m₀ many k m : ℕ}
    (x : Going mode o n y ids₀ sizes₀ k₀ m₀ c left many ids sizes k m)
  where
    size : length (take many left) ≡ many
    size = length-take-le many left (omega (arith, x.most, x.places))

    shown : Shown (placed c) nothing c
    shown = record { earlier = λ v. refl; here = λ v. sym (x.none_present v) }

    pub going_lined : Lined c left 0 many
    going_lined =
        record {
          size = x.room.choices;
          places = x.places;
          most = x.most;
          free = λ j l h. rw (at j h) at (x.ready.free _ (index_on (take many left) j (omega (arith, size))));
          distinct =
              λ j i l u h q.
              distinct_index (take many left) x.ready.distinct j i u (omega (arith, size)) (at j (omega arith) ∙ q ∙ sym (at i h));
        }
      where
        at : (j : ℕ) → j < many → get_or (take many left) j 0 ≡ get_or left j 0
        at j h = get_or-take many left j 0 h

    pub going_fits : Fits mode y.old.now y.new.now c y.source
    going_fits = passes_fits x.setting shown x.waiting.passes

    module _ {c' left' : List ℕ} {many' : ℕ} (p : Passed mode y.old.now y.new.now y.source c left many c' left' many') where
      joined : Joining mode o n (placed c) (take many left) nothing (present c') (take many' left') × ((v : ℕ) → placed c v ≡ placed c' v)
      joined = tries_joining x.setting p.tried x.room.choices shown x.waiting.midway x.ready

      pub going_room : Room c' ids sizes k m
      going_room =
          record {
            choices = p.size;
            ids_fit = x.room.ids_fit;
            sizes_fit = x.room.sizes_fit;
            counted = x.room.counted ∙ tally_cong 512 (placed c) (placed c') (λ v h. joined.1 v);
            fewer = x.room.fewer;
          }

      -- the first that waits, and the others
      record Split : Type 0 where
        first : ℕ
        others : List ℕ
        both : take many left ≡ first ∷ others

      split : 0 < many → Split
      split h = go (take many left) size refl
        where
          go : (l : List ℕ) → length l ≡ many → take many left ≡ l → Split
          go [] e q = absurd (omega arith)
          go (v ∷ vs) e q = record { first = v; others = vs; both = q }

      joins_first : (z : Split) → Joining mode o n (placed c) (z.first ∷ z.others) nothing (present c') (take many' left')
      joins_first z = rw z.both at joined.0

      fewer : (z : Split) → (present c' z.first ≡ true) × (length (take many' left') ≤ length z.others)
      fewer z = waiting_fewer x.setting.good (rw z.both at x.waiting) (joins_first z)

      size' : length (take many' left') ≡ many'
      size' = length-take-le many' left' (omega (arith, x.most, p.fewer, p.places))

      pub going_fewer : 0 < many → many' < many
      going_fewer h = let z = split h in omega (arith, (fewer z).1, size, size', ap length z.both)

      some : 0 < many → some_round (present c') ≡ present c' ∷ []
      some h = one_some (present c') (go (dec_lt 0 (length (rising (present c')))))
        where
          z : Split
          z = split h

          node : z.first < 512
          node = (x.ready.free z.first (rw z.both (on_first z.first z.others))).node

          go : Dec (0 < length (rising (present c'))) → 0 < length (rising (present c'))
          go (yes q) = q
          go (no q) = clash (fewer z).0 (rising_none (present c') (omega arith) z.first node)

      module _ {c'' ids' sizes' : List ℕ} {k' m' : ℕ} (w : Wrote c' ids sizes k m c'' ids' sizes' k' m') (h : 0 < many) where
        now_placed : together (placed c) (present c') ≡ placed c''
        now_placed = fun_ext (λ v. rw (joined.1 v) (sym (w.now_placed v)))

        pub going_turn : Going mode o n y ids₀ sizes₀ k₀ m₀ c'' left' many' ids' sizes' k' m'
        going_turn =
            record {
              setting = x.setting;
              waiting =
                  subst (λ (P : State). Waiting mode o n P (take many' left')) now_placed
                  (waiting_next x.setting.good x.waiting joined.0);
              ready =
                  record {
                    distinct = waits_distinct joined.0 x.ready.distinct;
                    free = free;
                    switch = λ v e. x.ready.switch v (waits_on joined.0 v e);
                  };
              none_present = w.none_present;
              room = w.room;
              places = p.places;
              most = omega (arith, x.most, p.fewer);
              rounds = x.rounds ++ (present c' ∷ []);
              so_far = so_far;
              added = added_joins x.added (rw (some h) at w.added);
            }
          where
            free : (v : ℕ) → on (take many' left') v ≡ true → Free c'' v
            free v e =
                let f : Free c v = x.ready.free v (waits_on joined.0 v e) in
                let q : present c' v ≡ false =
                joining_member joined.0 x.ready.distinct v ∙ rw e (and-false (on (take many left) v))
                in
                free_at f.node (ap (λ (P : State). P v) (sym now_placed) ∙ rw (f.in_none, q)) (w.none_present v)

            so_far :
                (Rs : List State)
                → Middle mode o n (placed c'') (take many' left') Rs
                → Middle mode o n (installs o n) (switches o n) ((x.rounds ++ (present c' ∷ [])) ++ Rs)
            so_far Rs t =
                let z = split h in
                let u : Middle mode o n (placed c) (take many left) (present c' ∷ Rs) =
                rw z.both
                (a_round (joins_first z)
                (subst (λ (P : State). Middle mode o n P (take many' left') Rs) (sym now_placed) t))
                in
                rw (append_assoc x.rounds (present c' ∷ []) Rs) (x.so_far (present c' ∷ Rs) u)

    pub going_ends : many ≡ 0 → Middled mode o n ids₀ sizes₀ k₀ m₀ c ids sizes k m
    going_ends e =
        record {
          rounds = x.rounds;
          joined = rw (append-nil x.rounds) at (x.so_far [] (rw e all_placed));
          added = x.added;
          room = x.room;
          none_present = x.none_present;
          not_removed = λ v q. by_bool (placed c v) (λ i. clash (or_left false i) (x.waiting.midway.not_removed v q)) (λ i. i);
        }
