-- Laws of the indexes of a round, of the choice that is painted for it, and of going through the rounds. Assumes nothing.
--
--   spans            == round k + 1 begins where the first k sizes end
--   zeros            == a list of zeros has 0 at each index, and past its end
--   coded_start      == before round 1 each node has the number 0
--   coded_paint      == the ids of round t painted with another number
--   coded_next       == with round t new only, the choice is that before round t + 1
--   Passed .. k i cl == the first k rounds are good; i is the index where they end, and cl the choice before round k + 1
--   passed_start, passed_spans, passed_more, passed_bad, passed_end == the search begins, comes to a round, goes on past a good
--                       one, stops at one that drops or loops, and ends
--   searched_none    == where the search finds nothing, no round is bad
use Prim.Native.Nat.{ℕ, suc, ◌+◌, ◌-◌, ◌<◌, ◌≤◌}
use native.Mathlib.Numerals.{add-one}
use native.Mathlib.Omega.{arith}
use native.Mathlib.Decide.{dec_lt, ℕ_discrete}
use mathlib.Core.Path.{◌≡◌, refl, sym, ◌∙◌, ap}
use mathlib.Core.Bool.{Bool, true, false}
use mathlib.Core.List.{List}
use lib.ListN.{length, get_or, replicate, length-replicate, get_or-replicate, get_or-eq_default}
use lib.Dec.{eqb}
use borrow.Author.Tests.{lt-ltb, le-ltb, eq-eqb, ne_eqb}
use Rattle.routes.specs.Routes.{Good}
use Rattle.routes.specs.Jumps.{position, on}
use Rattle.routes.proofs.RuleLaws.{due_below}
use Rattle.routes.proofs.JumpLaws.{position_at, on_position}
use Rattle.rounds.specs.Schedule.{round_of, round_no, Schedule}
use Rattle.rounds.specs.States.{Fault, a_drop, a_loop, Bad, FirstBad}
use Rattle.rounds.specs.Working.{Stands, Leads, the_fault, Tells, drops, loops, fine, Painted, code_in, Coded, Spans, Searched, none_bad, first_bad}
use Rattle.std.specs.Prelude.{Some, None}
use Rattle.rounds.specs.declared.faults.Fault.{Fault as FaultShown}
use Rattle.rounds.specs.declared.faults.Fault.TheVariants.{Drop, Loop}
use Rattle.rounds.proofs.ScheduleLaws.{up_to, up_to_none, up_to_suc, up_to_most, round_is, round_spans, number_of, number_none, number_at}
use Rattle.rounds.proofs.FaultLaws.{bad_leads}

by_bool : {A : Type 0} (b : Bool) → (b ≡ true → A) → (b ≡ false → A) → A
by_bool true f g = f refl
by_bool false f g = g refl

pub spans :
    {o n ids zs : List ℕ}
    → Good o n
    → Schedule o n ids zs
    → (k t i : ℕ)
    → k < length zs
    → t ≡ suc k
    → i ≡ up_to zs k
    → Spans ids zs t i (i + get_or zs k 0)
spans {o} {n} {ids} {zs} g s k t i h e d =
    record {
      a_round = omega arith;
      from_to = omega arith;
      within = omega (arith, ends, up_to_most zs (suc k), s.sums);
      inside = λ m a b. number_at s m (id m b) ∙ here m a b ∙ sym e;
      whole = whole;
      rising = λ m p a l b. s.rising m p l (id p b) (here m a (omega arith) ∙ sym (here p (omega arith) b));
      low = λ m a b. due_below g (get_or ids m 0) (s.are_due m (id m b));
    }
  where
    ends : up_to zs (suc k) ≡ i + get_or zs k 0
    ends = up_to_suc zs k ∙ ap (λ (x : ℕ). x + get_or zs k 0) (sym d)

    id : (m : ℕ) → m < i + get_or zs k 0 → m < length ids
    id m b = omega (arith, ends, up_to_most zs (suc k), s.sums)

    here : (m : ℕ) → i ≤ m → m < i + get_or zs k 0 → round_of zs m ≡ suc k
    here m a b = round_is zs k m (omega arith) (omega (arith, ends))

    whole : (v : ℕ) → round_no ids zs v ≡ t → (m : ℕ) × (i ≤ m) × (m < i + get_or zs k 0) × (get_or ids m 0 ≡ v)
    whole v q = by_bool (on ids v) standing (λ z. absurd (omega (arith, (number_none ids zs v).1 z)))
      where
        standing : on ids v ≡ true → (m : ℕ) × (i ≤ m) × (m < i + get_or zs k 0) × (get_or ids m 0 ≡ v)
        standing z =
            let l : position ids v < length ids = on_position ids v z in
            let b : (up_to zs k ≤ position ids v) × (position ids v < up_to zs (suc k)) =
            (round_spans zs (suc k) (position ids v) (omega (arith, s.sums))).0 (sym (number_of ids zs v z) ∙ q ∙ e)
            in
            (position ids v, omega (arith, b.0), omega (arith, b.1, ends), position_at ids v l)

code_first : (r : ℕ) → code_in r 1 0 ≡ 0
code_first r = go (ℕ_discrete r 0)
  where
    go : Dec (r ≡ 0) → code_in r 1 0 ≡ 0
    go (yes e) = rw (eq-eqb r 0 e)
    go (no d) = rw (ne_eqb r 0 d, le-ltb r 1 (omega arith)) (by_bool (eqb r 1) (λ e. rw e) (λ e. rw e))

code_here : (r t q : ℕ) → 0 < t → r ≡ t → code_in r t q ≡ q
code_here r t q h e = rw (ne_eqb r 0 (λ z. omega arith), le-ltb r t (omega arith), eq-eqb r t e)

code_other : (r t q p : ℕ) → (r ≡ t → ⊥) → code_in r t q ≡ code_in r t p
code_other r t q p d = rw (ne_eqb r t d)

code_next : (r t : ℕ) → code_in r t 1 ≡ code_in r (suc t) 0
code_next r t = go (dec_lt r t) (ℕ_discrete r t) (ℕ_discrete r 0)
  where
    go : Dec (r < t) → Dec (r ≡ t) → Dec (r ≡ 0) → code_in r t 1 ≡ code_in r (suc t) 0
    go h e (yes z) = rw (eq-eqb r 0 z)
    go (yes h) e (no z) = rw (ne_eqb r 0 z, lt-ltb r t h, lt-ltb r (suc t) (omega arith))
    go (no h) (yes e) (no z) = rw (ne_eqb r 0 z, le-ltb r t (omega arith), eq-eqb r t e, lt-ltb r (suc t) (omega arith))
    go (no h) (no e) (no z) =
        rw (ne_eqb r 0 z, le-ltb r t (omega arith), ne_eqb r t e, le-ltb r (suc t) (omega arith))
        (by_bool (eqb r (suc t)) (λ q. rw q) (λ q. rw q))

pub zeros : (n k : ℕ) → ◌≡◌ {A = ℕ} (get_or (replicate n 0) k 0) 0
zeros n k = go (dec_lt k n)
  where
    go : Dec (k < n) → ◌≡◌ {A = ℕ} (get_or (replicate n 0) k 0) 0
    go (yes h) = get_or-replicate n k 0 0 h
    go (no h) = get_or-eq_default (replicate n 0) 0 (rw (length-replicate {A = ℕ} n 0) (omega arith))

pub coded_start : (ids zs : List ℕ) → Coded ids zs 1 0 (replicate 512 0)
coded_start ids zs =
    record {
      nodes = length-replicate {A = ℕ} 512 0;
      code = λ v. zeros 512 v ∙ sym (code_first (round_no ids zs v));
    }

pub coded_paint :
    {ids zs : List ℕ} {t i j q p : ℕ} {cl cl' : List ℕ}
    → Spans ids zs t i j
    → Coded ids zs t q cl
    → Painted ids i j p cl cl'
    → Coded ids zs t p cl'
coded_paint {ids} {zs} {t} {i} {j} {q} {p} {cl} {cl'} s x y =
    record { nodes = y.nodes; code = λ v. go v (ℕ_discrete (round_no ids zs v) t) }
  where
    go : (v : ℕ) → Dec (round_no ids zs v ≡ t) → get_or cl' v 0 ≡ code_in (round_no ids zs v) t p
    go v (yes e) =
        let (k, a, b, d) = s.whole v e in
        ap (λ (u : ℕ). get_or cl' u 0) (sym d) ∙ y.inside k a b (s.low k a b) ∙ sym (code_here (round_no ids zs v) t p s.a_round e)
    go v (no n) =
        y.outside v (λ k a b d. n (ap (round_no ids zs) (sym d) ∙ s.inside k a b))
        ∙ x.code v
        ∙ code_other (round_no ids zs v) t q p n

pub coded_next : {ids zs : List ℕ} {t u : ℕ} {cl : List ℕ} → Coded ids zs t 1 cl → u ≡ suc t → Coded ids zs u 0 cl
coded_next {ids} {zs} {t} {u} {cl} x e =
    record {
      nodes = x.nodes;
      code = λ v. x.code v ∙ code_next (round_no ids zs v) t ∙ ap (λ (w : ℕ). code_in (round_no ids zs v) w 0) (sym e);
    }

pub record Passed (mode : ℕ) (o n ids zs : List ℕ) (k i : ℕ) (cl : List ℕ) : Type 0 where
  pub within : k ≤ length zs
  pub begins : i ≡ up_to zs k
  pub coded : Coded ids zs (k + 1) 0 cl
  pub good : (t : ℕ) → 0 < t → t ≤ k → (f : Fault) → Bad mode o n ids zs t f → ⊥

pub passed_start : (mode : ℕ) (o n : List ℕ) {ids zs cl : List ℕ} → Coded ids zs 1 0 cl → Passed mode o n ids zs 0 0 cl
passed_start mode o n {ids} {zs} x =
    record {
      within = omega arith;
      begins = sym (up_to_none zs);
      coded = x;
      good = λ t h k. absurd (omega arith);
    }

-- of round k + 1, which has z ids
module _
    {mode : ℕ} {o n ids zs : List ℕ} {k i z : ℕ} {cl : List ℕ} {a b : List ℕ} {s : ℕ}
    (p : Passed mode o n ids zs k i cl)
    (u : Stands o n a b s)
    (m : Schedule o n ids zs)
    (h : k < length zs)
    (e : z ≡ get_or zs k 0)
  where
    pub passed_spans : Spans ids zs (k + 1) i (i + z)
    passed_spans = rw e (spans u.good m k (k + 1) i h (omega arith) p.begins)

    module _ {cl' : List ℕ} (x : Painted ids i (i + z) 2 cl cl') where
      either_here : Coded ids zs (k + 1) 2 cl'
      either_here = coded_paint passed_spans p.coded x

      pub passed_more :
          {cl'' : List ℕ}
          → Tells mode a b cl' s None
          → Painted ids i (i + z) 1 cl' cl''
          → Passed mode o n ids zs (k + 1) (i + z) cl''
      passed_more (fine nd nl) y =
          record {
            within = omega arith;
            begins = rw (e, p.begins) (sym (up_to_suc zs k)) ∙ ap (up_to zs) (sym (add-one k));
            coded = coded_next (coded_paint passed_spans either_here y) (omega arith);
            good = λ t l c f. go t l c f (ℕ_discrete t (k + 1));
          }
        where
          none : (f : Fault) → Leads f mode a b cl' s → ⊥
          none a_drop = nd
          none a_loop = nl

          go : (t : ℕ) → 0 < t → t ≤ k + 1 → (f : Fault) → Dec (t ≡ k + 1) → Bad mode o n ids zs t f → ⊥
          go t l c f (yes d) w = none f ((bad_leads u either_here f mode).0 (rw d at w))
          go t l c f (no d) w = p.good t l (omega arith) f w

      stops :
          (d : FaultShown)
          → Leads (the_fault d) mode a b cl' s
          → (the_fault d ≡ a_loop → Leads a_drop mode a b cl' s → ⊥)
          → Searched mode o n ids zs (Some (record { fault = d; round = k + 1; from = i })) cl'
      stops d l f = first_bad here reach either_here
        where
          reach : Spans ids zs (k + 1) i (i + get_or zs (k + 1 - 1) 0)
          reach = let q : k + 1 - 1 ≡ k = omega arith in rw q (rw e at passed_spans)

          here : FirstBad mode o n ids zs (k + 1) (the_fault d)
          here =
              record {
                from_one = omega arith;
                a_round = omega arith;
                earlier_good = λ t c w. p.good t c (omega arith);
                bad = (bad_leads u either_here (the_fault d) mode).1 l;
                drop_first = λ g w. f g ((bad_leads u either_here a_drop mode).0 w);
              }

      pub passed_bad :
          {d : FaultShown}
          → Tells mode a b cl' s (Some d)
          → Searched mode o n ids zs (Some (record { fault = d; round = k + 1; from = i })) cl'
      passed_bad (drops l) = stops Drop l (λ g. let y : ◌≡◌ {A = ℕ} 0 1 = cc in absurd (omega arith))
      passed_bad (loops nd l) = stops Loop l (λ g. nd)

pub passed_end :
    {mode : ℕ} {o n ids zs : List ℕ} {k i : ℕ} {cl : List ℕ}
    → Passed mode o n ids zs k i cl
    → length zs ≤ k
    → Searched mode o n ids zs None cl
passed_end p h = none_bad (λ t l m. p.good t l (omega arith))

pub searched_none :
    {mode : ℕ} {o n ids zs cl : List ℕ}
    → Searched mode o n ids zs None cl
    → (t : ℕ)
    → 0 < t
    → t ≤ length zs
    → (f : Fault)
    → Bad mode o n ids zs t f
    → ⊥
searched_none (none_bad f) = f
