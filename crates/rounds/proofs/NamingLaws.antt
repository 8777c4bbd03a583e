-- Laws of naming the subset: going through the ids of round t rising, each is decided by one test. Assumes nothing.
--
--   state_agree      == two states of a round that agree on the round's ids agree everywhere
--   Stopped .. d t i cl, searched_at == what the search for the first bad round tells where it stops
--   decided_old, decided_new == an id is decided by the answer of its test
--   Naming .. i cl ws == the ids of the round before the index i are decided: cl is the choice that is left, and ws the set of
--                       the ids that are new
--   naming_start, naming_more, naming_end == naming begins, decides an id, and ends with the subset that is named
use Prim.Native.Nat.{ℕ, suc, ◌+◌, ◌-◌, ◌<◌, ◌≤◌}
use native.Mathlib.Omega.{arith}
use native.Mathlib.Decide.{dec_lt, ℕ_discrete}
use mathlib.Core.Path.{◌≡◌, refl, sym, ◌∙◌, ap, subst, fun_ext}
use mathlib.Core.Bool.{Bool, true, false}
use mathlib.Core.List.{List}
use lib.ListN.{length, get_or, set, replicate, length-set, length-replicate}
use lib.Seq.{set-set}
use Rattle.house.specs.Sets.{has, put}
use Rattle.house.proofs.SetLaws.{Set, has_zeros, has_put_same, has_put_other, put_set}
use Rattle.graph.specs.Graph.{old, new, either, choice_of, choices}
use Rattle.graph.proofs.LastExit.{bit_of, usual, put as put_at, put_same, put_other}
use Rattle.graph.proofs.Equivalences.{Possible}
use Rattle.graph.proofs.Naming as naming
use Rattle.graph.proofs.Naming.{named_start, named_old, named_new, named_skip, named_end, Least, choices_set}
use Rattle.routes.specs.Walk.{State}
use Rattle.rounds.specs.Schedule.{round_no}
use Rattle.rounds.specs.States.{StateOf, Fault, Shows, Bad, FirstBad, chosen, Named}
use Rattle.rounds.specs.Working.{Stands, Leads, the_fault, Says, Coded, Spans, Searched, first_bad, Decided, to_old, to_new}
use Rattle.std.specs.Prelude.{Some}
use Rattle.rounds.specs.declared.check.BadRound.{BadRound}
use Rattle.rounds.proofs.Bridge.{choice_in, choice_at, choice_none, choice_earlier, choice_here, choice_later, state_respects, bad_possible}
use Rattle.rounds.proofs.FaultLaws.{said_true, said_false, possible_leads, coded_choices}
use Rattle.rounds.proofs.RoundLaws.{zeros}
use Rattle.rounds.proofs.NamedLaws.{chosen_here, chosen_state, least_named}

pub state_agree :
    (ids zs : List ℕ) (t : ℕ) (X Y : State)
    → StateOf ids zs t X
    → StateOf ids zs t Y
    → ((v : ℕ) → round_no ids zs v ≡ t → X v ≡ Y v)
    → (v : ℕ)
    → X v ≡ Y v
state_agree ids zs t X Y x y f v = go (ℕ_discrete (round_no ids zs v) 0) (dec_lt (round_no ids zs v) t) (dec_lt t (round_no ids zs v))
  where
    go : Dec (round_no ids zs v ≡ 0) → Dec (round_no ids zs v < t) → Dec (t < round_no ids zs v) → X v ≡ Y v
    go (yes e) h k = x.in_none v e ∙ sym (y.in_none v e)
    go (no e) (yes h) k = x.earlier v (omega arith) h ∙ sym (y.earlier v (omega arith) h)
    go (no e) (no h) (yes k) = x.later v k ∙ sym (y.later v k)
    go (no e) (no h) (no k) = f v (omega arith)

pub record Stopped (mode : ℕ) (o n ids zs : List ℕ) (b : BadRound) (cl : List ℕ) : Type 0 where
  pub first : FirstBad mode o n ids zs b.round (the_fault b.fault)
  pub span : Spans ids zs b.round b.from (b.from + get_or zs (b.round - 1) 0)
  pub coded : Coded ids zs b.round 2 cl

pub searched_at :
    {mode : ℕ} {o n ids zs : List ℕ} {b : BadRound} {cl : List ℕ}
    → Searched mode o n ids zs (Some b) cl
    → Stopped mode o n ids zs b cl
searched_at (first_bad b s x) = record { first = b; span = s; coded = x }

module _ {f : Fault} {mode : ℕ} {a b : List ℕ} {s : ℕ} {cl ws : List ℕ} {v : ℕ} {r : Bool} where
  pub decided_old : Says (Leads f mode a b (set cl v 0) s) r → r ≡ true → Decided f mode a b s cl ws v (set cl v 0) ws
  decided_old x e = to_old (said_true x e)

  pub decided_new :
      {vs : List ℕ}
      → Says (Leads f mode a b (set cl v 0) s) r
      → r ≡ false
      → vs ≡ put ws v
      → Decided f mode a b s cl ws v (set (set cl v 0) v 1) vs
  decided_new x e q = rw q (to_new (said_false x e))

-- only the round's own ids have two choices
either_round : (r t : ℕ) → choice_in r t ≡ either → r ≡ t
either_round r t e = go (ℕ_discrete r 0) (dec_lt r t) (dec_lt t r)
  where
    old_either : old ≡ either → ⊥
    old_either q = let z : ◌≡◌ {A = ℕ} 0 1 = cc in omega arith

    new_either : new ≡ either → ⊥
    new_either q = let z : ◌≡◌ {A = ℕ} 0 1 = cc in omega arith

    go : Dec (r ≡ 0) → Dec (r < t) → Dec (t < r) → r ≡ t
    go (yes q) h k = absurd (old_either (sym (choice_none r t q) ∙ e))
    go (no q) (yes h) k = absurd (new_either (sym (choice_earlier r t (omega arith) h) ∙ e))
    go (no q) (no h) (yes k) = absurd (old_either (sym (choice_later r t k) ∙ e))
    go (no q) (no h) (no k) = omega arith

pub record Naming (mode : ℕ) (o n ids zs : List ℕ) (t : ℕ) (f : Fault) (from to i : ℕ) (cl ws : List ℕ) : Type 0 where
  pub begun : from ≤ i
  pub reach : i ≤ to
  -- ids below it are decided
  pub low : ℕ
  pub named : naming.Named (Shows f mode o n) (choice_at ids zs t) low (choices cl)
  pub below : (k : ℕ) → from ≤ k → k < i → get_or ids k 0 < low
  pub above : (k : ℕ) → i ≤ k → k < to → low ≤ get_or ids k 0
  pub nodes : length cl ≡ 512
  pub a_set : Set ws
  pub inside : (v : ℕ) → has ws v ≡ true → round_no ids zs v ≡ t
  pub same : (v : ℕ) → v < low → round_no ids zs v ≡ t → has ws v ≡ bit_of (choices cl v)
  pub fresh : (v : ℕ) → low ≤ v → has ws v ≡ false

zero_set : Set (replicate 8 0)
zero_set =
    record {
      eight_long = length-replicate {A = ℕ} 8 0;
      words_fit = record { below = λ k. rw (zeros 8 k) (omega arith) };
    }

true_false : {b : Bool} → b ≡ true → b ≡ false → ⊥
true_false e d = let z : ◌≡◌ {A = ℕ} 0 1 = cc in omega arith

pub naming_start :
    {mode : ℕ} {o n ids zs : List ℕ} {t : ℕ} {f : Fault} {from to : ℕ} {cl : List ℕ}
    → Spans ids zs t from to
    → Coded ids zs t 2 cl
    → Bad mode o n ids zs t f
    → Naming mode o n ids zs t f from to from cl (replicate 8 0)
naming_start {mode} {o} {n} {ids} {zs} {t} {f} {from} {to} {cl} s x b =
    record {
      begun = omega arith;
      reach = s.from_to;
      low = 0;
      named =
          subst (naming.Named (Shows f mode o n) (choice_at ids zs t) 0) (sym (coded_choices x))
          (named_start ((bad_possible mode o n ids zs t f).0 b));
      below = λ k h l. absurd (omega arith);
      above = λ k h l. omega arith;
      nodes = x.nodes;
      a_set = zero_set;
      inside = λ v e. absurd (true_false e (has_zeros 8 v));
      same = λ v h. absurd (omega arith);
      fresh = λ v h. has_zeros 8 v;
    }

module _
    {mode : ℕ} {o n ids zs : List ℕ} {t : ℕ} {f : Fault} {from to i : ℕ} {cl ws : List ℕ}
    (s : Spans ids zs t from to)
    (m : Naming mode o n ids zs t f from to i cl ws)
  where
    abbrev Sh : State → Type 0
    Sh = Shows f mode o n

    module _ {a b : List ℕ} {r : ℕ} (z : Stands o n a b r) (id : ℕ) (h : i < to) (e : id ≡ get_or ids i 0) where
      here : round_no ids zs id ≡ t
      here = rw e (s.inside i m.begun h)

      node : id < 512
      node = rw e (s.low i m.begun h)

      after : m.low ≤ id
      after = rw e (m.above i (omega arith) h)

      -- no id of the round lies between the decided ones and this one
      gap : (v : ℕ) → m.low ≤ v → v < id → round_no ids zs v ≡ t → ⊥
      gap v l k q =
          let (j, a, b, d) = s.whole v q in
          go j a b d (dec_lt j i) (dec_lt i j)
        where
          go : (j : ℕ) → from ≤ j → j < to → get_or ids j 0 ≡ v → Dec (j < i) → Dec (i < j) → ⊥
          go j a b d (yes c) w = omega (arith, m.below j a c)
          go j a b d (no c) (yes w) = omega (arith, s.rising i j m.begun w b)
          go j a b d (no c) (no w) =
              let j_i : j ≡ i = omega arith in omega (arith, ap (λ (x : ℕ). get_or ids x 0) j_i)

      both : choice_at ids zs t id ≡ either
      both = choice_here (round_no ids zs id) t (omega (arith, s.a_round, here)) here

      up_to : naming.Named Sh (choice_at ids zs t) id (choices cl)
      up_to =
          named_skip m.named id after
          (λ v l k q. gap v l k (either_round (round_no ids zs v) t q))

      -- the choice with this id decided
      with_choice : (q : ℕ) → choices (set cl id q) ≡ put_at (choices cl) id (choice_of q)
      with_choice q = choices_set cl id q (omega (arith, m.nodes, node))

      next :
          (q : ℕ) (vs : List ℕ)
          → naming.Named Sh (choice_at ids zs t) (suc id) (put_at (choices cl) id (choice_of q))
          → Set vs
          → has vs id ≡ bit_of (choice_of q)
          → ((v : ℕ) → (v ≡ id → ⊥) → has vs v ≡ has ws v)
          → Naming mode o n ids zs t f from to (i + 1) (set cl id q) vs
      next q vs d u g k =
          record {
            begun = omega (arith, m.begun);
            reach = omega arith;
            low = suc id;
            named = subst (naming.Named Sh (choice_at ids zs t) (suc id)) (sym (with_choice q)) d;
            below = λ j x y. earlier j x y (ℕ_discrete j i);
            above = λ j x y. omega (arith, s.rising i j m.begun (omega arith) y);
            nodes = length-set cl id q ∙ m.nodes;
            a_set = u;
            inside = λ v x. inside v x (ℕ_discrete v id);
            same = λ v x y. same v x y (ℕ_discrete v id);
            fresh = λ v x. k v (λ y. omega arith) ∙ m.fresh v (omega (arith, after));
          }
        where
          earlier : (j : ℕ) → from ≤ j → j < i + 1 → Dec (j ≡ i) → get_or ids j 0 < suc id
          earlier j x y (yes c) = omega (arith, ap (λ (p : ℕ). get_or ids p 0) c)
          earlier j x y (no c) = omega (arith, after, m.below j x (omega arith))

          inside : (v : ℕ) → has vs v ≡ true → Dec (v ≡ id) → round_no ids zs v ≡ t
          inside v x (yes c) = ap (round_no ids zs) c ∙ here
          inside v x (no c) = m.inside v (sym (k v c) ∙ x)

          same : (v : ℕ) → v < suc id → round_no ids zs v ≡ t → Dec (v ≡ id) → has vs v ≡ bit_of (choices (set cl id q) v)
          same v x y (yes c) =
              ap (has vs) c
              ∙ g
              ∙ sym (ap bit_of (ap (choices (set cl id q)) c ∙ ap (λ h. h id) (with_choice q) ∙ put_same (choices cl) id (choice_of q)))
          same v x y (no c) =
              k v c
              ∙ old_part (dec_lt v m.low)
              ∙ sym (ap bit_of (ap (λ h. h v) (with_choice q) ∙ put_other (choices cl) id (choice_of q) v c))
            where
              old_part : Dec (v < m.low) → has ws v ≡ bit_of (choices cl v)
              old_part (yes p) = m.same v p y
              old_part (no p) = absurd (gap v (omega arith) (omega arith) y)

      pub naming_more :
          {cl' ws' : List ℕ} → Decided f mode a b r cl ws id cl' ws' → Naming mode o n ids zs t f from to (i + 1) cl' ws'
      naming_more (to_old l) =
          next 0 ws
          (named_old up_to both (subst (λ c. Possible c Sh) (with_choice 0) ((possible_leads z f mode (set cl id 0)).1 l)))
          m.a_set
          (m.fresh id after)
          (λ v d. refl)
      naming_more (to_new l) =
          rw (set-set cl id 0 1)
          (next 1 (put ws id)
          (named_new up_to both (λ p. l ((possible_leads z f mode (set cl id 0)).0 (subst (λ c. Possible c Sh) (sym (with_choice 0)) p))))
          (put_set id m.a_set)
          (has_put_same ws id (omega (arith, node, m.a_set.eight_long)))
          (λ v d. has_put_other ws id v d))

    pub naming_end : to ≤ i → Named mode o n ids zs t f ws
    naming_end h = least_named m.a_set m.inside (subst (Least Sh (choice_at ids zs t)) (fun_ext agree) least)
      where
        decided : (v : ℕ) → round_no ids zs v ≡ t → v < m.low
        decided v q = let (j, a, b, d) = s.whole v q in omega (arith, m.below j a (omega arith))

        least : Least Sh (choice_at ids zs t) (usual (choices cl))
        least =
            named_end m.named
            (λ v l q. let c : v < m.low = decided v (either_round (round_no ids zs v) t q) in omega arith)

        agree : (v : ℕ) → usual (choices cl) v ≡ chosen ids zs t ws v
        agree =
            state_agree ids zs t (usual (choices cl)) (chosen ids zs t ws)
            ((state_respects ids zs t (usual (choices cl))).1 least.respected)
            (chosen_state ids zs t ws)
            (λ v q. sym (m.same v (decided v q) q) ∙ sym (chosen_here ids zs t ws v s.a_round q))
