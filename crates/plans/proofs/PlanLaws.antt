-- Laws of the whole plan: its first and last round by the codes, all rounds written, and the replies. Assumes nothing.
--
--   values_all           == a table of next values, also past its end
--   Stood Rs P ids sizes c ids' sizes' k m == the rounds Rs are written, P is placed, and no node is of the present round
--   stood_begins         == so it is at first, with no rounds
--   stood_room           == when the nodes of the next round are sought there is room for them
--   stood_more           == and when they are written there is a round more
--   coded_high           == past the end of the tables no node has a code
--   begun_room           == there is room for the installs
--   begun                == when they are written there is one round
--   code_change          == the code of a node is that of its change
--   install_at, remove_at, switch_at == the nodes with a code are the installs, the removes, the switches
--   begun_ahead          == when the installs are written all switches wait
--   ends_room            == after the rounds of switches there is room for the removes
--   written              == all rounds are written
--   fit_short_ids, fit_short_sizes, fit_judged, fit_mode == the answers of `fit`
--   fit_first, fit_clear == what an answer of `fit` says, by its variant
--   clear_fit            == where no refusal applies the pair is good and the lent lengths are enough
--   reply_refused, reply_given == the replies
use Rattle.std.specs.Prelude.{Result, Ok, Err}
use Prim.Native.Nat.{ℕ, zero, suc, ◌<◌, ◌≤◌}
use native.Mathlib.Omega.{arith}
use native.Mathlib.Decide.{dec_lt}
use mathlib.Core.Path.{◌≡◌, refl, sym, ap, ap₂, ◌∙◌, fun_ext}
use mathlib.Core.Bool.{true, false, cond}
use mathlib.Core.List.{List, [], ◌++◌, reverse, append_assoc}
use mathlib.Core.Logic.{◌⊎◌, inl, inr}
use lib.ListN.{length, get_or, replicate, length-replicate, get_or-eq_default}
use lib.Dec.{eqb}
use borrow.Author.Tests.{ne_eqb}
use Rattle.house.specs.declared.Refusal.{Refusal}
use Rattle.house.specs.declared.Refusal.TheVariants.{Unfit, ModeOver}
use Rattle.house.specs.Numbers.{entries}
use Rattle.house.specs.Refusals.{number, Before, First, Clear}
use Rattle.house.proofs.RefusalLaws.{unfit_first, before_irreflexive}
use Rattle.graph.proofs.Sums.{get_d_repeat}
use Rattle.routes.specs.declared.rule.Change.{Change}
use Rattle.routes.specs.declared.rule.Change.TheVariants.{Kept, Install, Remove, Switch}
use Rattle.routes.specs.Routes.{GoodRoute, Good}
use Rattle.routes.specs.Rules.{rule, change, value, Values, tally}
use Rattle.routes.specs.Replies.{JudgeFault, Judges, sound, faulty as unsound}
use Rattle.routes.specs.Walk.{State}
use Rattle.routes.proofs.RuleLaws.{value_off, change_values, tally_cong}
use Rattle.routes.proofs.PairLaws.{judge_first_in, clear_good}
use Rattle.rounds.specs.declared.mode.Mode.{Mode}
use Rattle.rounds.specs.declared.mode.Mode.TheVariants.{Strong, Relaxed}
use Rattle.rounds.specs.Mode.{mode_no, ModeOf, is_mode, over}
use Rattle.plans.specs.declared.Given.{Given}
use Rattle.plans.specs.Plan.{nothing, together, is_install, is_remove, is_switch, installs, removes, keep, some_round, switched}
use Rattle.plans.specs.Replies.{PlanFault, short_ids, short_sizes, judged, mode_over, Plans, refused, given}
use Rattle.plans.specs.Working.{
  placed,
  present,
  code_of,
  code_at,
  coded,
  FitIs,
  fits,
  faulty,
  Sought,
  Backward,
  Added,
  Room,
  Wrote,
  Ahead,
  Middled,
  Written,
}
use Rattle.plans.proofs.IdLists.{by_bool}
use Rattle.plans.proofs.NodeLaws.{keep_switches}
use Rattle.plans.proofs.WriteLaws.{added_none, added_joins, added_same, added_all}

pub values_all : {l t : List ℕ} → GoodRoute l → Values l t → (v : ℕ) → get_or t v 512 ≡ value l v
values_all {l} {t} g x v = go (dec_lt v 512)
  where
    go : Dec (v < 512) → get_or t v 512 ≡ value l v
    go (yes h) = x.at v h
    go (no h) =
        get_or-eq_default t 512 {n = v} (omega (arith, x.size))
        ∙ sym (value_off l v (λ i k e. omega (arith, g.ids i k)))

install_code : (k : Change) → eqb (code_of k) 1 ≡ is_install k
install_code Kept = refl
install_code Install = refl
install_code Remove = refl
install_code Switch = refl

remove_code : (k : Change) → eqb (code_of k) 2 ≡ is_remove k
remove_code Kept = refl
remove_code Install = refl
remove_code Remove = refl
remove_code Switch = refl

switch_code : (k : Change) → eqb (code_of k) 3 ≡ is_switch k
switch_code Kept = refl
switch_code Install = refl
switch_code Remove = refl
switch_code Switch = refl

module _ {f : State} {c c' : List ℕ} (high : (v : ℕ) → 512 ≤ v → f v ≡ false) (s : Sought f c c' 512) where
  sought_all : (v : ℕ) → get_or c' v 0 ≡ cond (f v) 2 (get_or c v 0)
  sought_all v = go (dec_lt v 512)
    where
      go : Dec (v < 512) → get_or c' v 0 ≡ cond (f v) 2 (get_or c v 0)
      go (yes h) = s.at v h
      go (no h) = rw (high v (omega arith)) (s.past v (omega arith))

  sought_present : ((v : ℕ) → present c v ≡ false) → (v : ℕ) → present c' v ≡ f v
  sought_present e v = rw (sought_all v) (by_bool (f v) (λ q. rw q) (λ q. rw q (e v)))

  sought_placed : ((v : ℕ) → f v ≡ true → placed c v ≡ false) → (v : ℕ) → placed c' v ≡ placed c v
  sought_placed e v = rw (sought_all v) (by_bool (f v) (λ q. rw q (sym (e v q))) (λ q. rw q))

tally_none : (k : ℕ) → tally k (λ v. false) ≡ 0
unfolding tally
tally_none zero = refl
tally_none (suc k) = omega (arith, tally_none k)

-- ---- round by round

pub record Stood (Rs : List State) (P : State) (ids sizes c ids' sizes' : List ℕ) (k m : ℕ) : Type 0 where
  pub room : Room c ids' sizes' k m
  pub none_present : (v : ℕ) → present c v ≡ false
  pub all_placed : (v : ℕ) → placed c v ≡ P v
  pub added : Added Rs ids sizes 0 0 ids' sizes' k m

pub stood_begins :
    (ids sizes : List ℕ) → 1024 ≤ length ids → 1024 ≤ length sizes → Stood [] nothing ids sizes (replicate 512 0) ids sizes 0 0
stood_begins ids sizes h l =
    record {
      room =
          record {
            choices = length-replicate {A = ℕ} 512 0;
            ids_fit = h;
            sizes_fit = l;
            counted = sym (tally_cong 512 (placed (replicate 512 0)) nothing (λ v h. none v) ∙ tally_none 512);
            fewer = omega arith;
          };
      none_present = λ v. rw (get_d_repeat {A = ℕ} 512 v 0);
      all_placed = none;
      added = added_none ids sizes 0 0;
    }
  where
    none : (v : ℕ) → placed (replicate 512 0) v ≡ false
    none v = rw (get_d_repeat {A = ℕ} 512 v 0)

module _
    {Rs : List State} {P f : State} {ids sizes c ids' sizes' c₁ : List ℕ} {k m : ℕ}
    (t : Stood Rs P ids sizes c ids' sizes' k m)
    (high : (v : ℕ) → 512 ≤ v → f v ≡ false)
    (apart : (v : ℕ) → f v ≡ true → P v ≡ false)
    (s : Sought f c c₁ 512)
  where
    as_placed : (v : ℕ) → placed c₁ v ≡ placed c v
    as_placed = sought_placed high s (λ v e. t.all_placed v ∙ apart v e)

    now_present : (v : ℕ) → present c₁ v ≡ f v
    now_present = sought_present high s t.none_present

    pub stood_room : Room c₁ ids' sizes' k m
    stood_room =
        record {
          choices = s.size;
          ids_fit = t.room.ids_fit;
          sizes_fit = t.room.sizes_fit;
          counted = t.room.counted ∙ tally_cong 512 (placed c) (placed c₁) (λ v h. sym (as_placed v));
          fewer = t.room.fewer;
        }

    pub stood_more :
        {c₂ ids'' sizes'' : List ℕ} {k' m' : ℕ}
        → Wrote c₁ ids' sizes' k m c₂ ids'' sizes'' k' m'
        → Stood (Rs ++ some_round f) (together P f) ids sizes c₂ ids'' sizes'' k' m'
    stood_more w =
        record {
          room = w.room;
          none_present = w.none_present;
          all_placed = λ v. w.now_placed v ∙ rw (as_placed v, t.all_placed v, now_present v);
          added = added_joins t.added (added_same now_present w.added);
        }

module _ (a b : List ℕ) (la : length a ≡ 512) (lb : length b ≡ 512) where
  pub coded_high : (w : ℕ) → (w ≡ 0 → ⊥) → (v : ℕ) → 512 ≤ v → coded a b w v ≡ false
  coded_high w n v h =
      rw (get_or-eq_default a 512 {n = v} (omega arith), get_or-eq_default b 512 {n = v} (omega arith))
      (ne_eqb 0 w (λ e. n (sym e)))

  module _ {ids sizes c : List ℕ} (h : 1024 ≤ length ids) (l : 1024 ≤ length sizes) (s : Sought (coded a b 1) (replicate 512 0) c 512) where
    pub begun_room : Room c ids sizes 0 0
    begun_room = stood_room (stood_begins ids sizes h l) (coded_high 1 (λ e. omega arith)) (λ v e. refl) s

    pub begun :
        {c₁ ids₁ sizes₁ : List ℕ} {k₁ m₁ : ℕ}
        → Wrote c ids sizes 0 0 c₁ ids₁ sizes₁ k₁ m₁
        → Stood (some_round (coded a b 1)) (coded a b 1) ids sizes c₁ ids₁ sizes₁ k₁ m₁
    begun u = stood_more (stood_begins ids sizes h l) (coded_high 1 (λ e. omega arith)) (λ v e. refl) s u

module _ {o n a b : List ℕ} (g : Good o n) (x : Values o a) (y : Values n b) where
  pub code_change : (v : ℕ) → code_at a b v ≡ code_of (change (rule o v) (rule n v))
  code_change v = rw (values_all g.old x v, values_all g.new y v) (ap code_of (change_values g v))

  pub install_at : (v : ℕ) → coded a b 1 v ≡ installs o n v
  unfolding installs
  install_at v = rw (code_change v) (install_code (change (rule o v) (rule n v)))

  pub remove_at : (v : ℕ) → coded a b 2 v ≡ removes o n v
  unfolding removes
  remove_at v = rw (code_change v) (remove_code (change (rule o v) (rule n v)))

  pub switch_at : (v : ℕ) → coded a b 3 v ≡ switched o n v
  switch_at v = rw (code_change v) (switch_code (change (rule o v) (rule n v)))

  module _
      {ids sizes c₁ ids₁ sizes₁ : List ℕ} {k₁ m₁ : ℕ}
      (first : Stood (some_round (coded a b 1)) (coded a b 1) ids sizes c₁ ids₁ sizes₁ k₁ m₁)
    where
      pub begun_ahead : {left : List ℕ} {many : ℕ} → Backward a b n 0 left many → Ahead o n c₁ left many
      begun_ahead d =
          record {
            installed = λ v. first.all_placed v ∙ install_at v;
            none_present = first.none_present;
            places = d.places;
            most = omega (arith, d.fewer, g.new.most);
            waiting =
                d.taken ∙ ap (λ (f : State). keep f (reverse n)) (fun_ext switch_at) ∙ sym (keep_switches o n);
          }

      module _ {mode : ℕ} {c₂ ids₂ sizes₂ c₃ : List ℕ} {k₂ m₂ : ℕ}
          (d : Middled mode o n ids₁ sizes₁ k₁ m₁ c₂ ids₂ sizes₂ k₂ m₂)
          (r : Sought (coded a b 2) c₂ c₃ 512)
        where
          middled : Stood (some_round (coded a b 1) ++ d.rounds) (placed c₂) ids sizes c₂ ids₂ sizes₂ k₂ m₂
          middled =
              record {
                room = d.room;
                none_present = d.none_present;
                all_placed = λ v. refl;
                added = added_joins first.added d.added;
              }

          not_yet : (v : ℕ) → coded a b 2 v ≡ true → placed c₂ v ≡ false
          not_yet v e = d.not_removed v (sym (remove_at v) ∙ e)

          pub ends_room : Room c₃ ids₂ sizes₂ k₂ m₂
          ends_room = stood_room middled (coded_high a b x.size y.size 2 (λ e. omega arith)) not_yet r

          pub written :
              {c₄ ids₃ sizes₃ : List ℕ} {k₃ m₃ : ℕ}
              → Wrote c₃ ids₂ sizes₂ k₂ m₂ c₄ ids₃ sizes₃ k₃ m₃
              → Written mode o n ids sizes ids₃ sizes₃ k₃ m₃
          written w =
              record {
                rounds = (some_round (coded a b 1) ++ d.rounds) ++ some_round (coded a b 2);
                planned =
                    record {
                      middle = d.rounds;
                      joined = d.joined;
                      rounds =
                          append_assoc (some_round (coded a b 1)) d.rounds (some_round (coded a b 2))
                          ∙ ap₂ (λ (I R : State). some_round I ++ (d.rounds ++ some_round R)) (fun_ext install_at) (fun_ext remove_at);
                    };
                added =
                    (stood_more middled (coded_high a b x.size y.size 2 (λ e. omega arith)) not_yet r w).added;
              }

-- ---- the replies

mode_most : {mode : ℕ} (m : Mode) → mode ≡ mode_no m → 1 < mode → ⊥
mode_most Strong e h = omega (arith, e)
mode_most Relaxed e h = omega (arith, e)

module _ {old new ids sizes : List ℕ} {mode : ℕ} where
  pub fit_short_ids : length ids < 1024 → FitIs old new mode ids sizes (Err Unfit)
  fit_short_ids h = faulty (unfit_first (short_ids h))

  pub fit_short_sizes : length sizes < 1024 → FitIs old new mode ids sizes (Err Unfit)
  fit_short_sizes h = faulty (unfit_first (short_sizes h))

  module _ (h : 1024 ≤ length ids) (l : 1024 ≤ length sizes) where
    pub fit_judged : {r : Refusal} → Judges old new (Err r) → FitIs old new mode ids sizes (Err r)
    fit_judged (unsound f) = faulty (judge_first_in out judged f)
      where
        out : (q : Refusal) → PlanFault old new mode ids sizes q → JudgeFault old new q ⊎ (7 < number q)
        out q (short_ids k) = absurd (omega arith)
        out q (short_sizes k) = absurd (omega arith)
        out q (judged j) = inl j
        out q (mode_over k) = inr (omega arith)

    pub fit_mode : {m : Result Mode Refusal} → Judges old new (Ok tt) → ModeOf mode m → FitIs old new mode ids sizes m
    fit_mode (sound c) (is_mode {m} e) = fits (record { clear = none }) e
      where
        none : (q : Refusal) → PlanFault old new mode ids sizes q → ⊥
        none q (short_ids k) = omega arith
        none q (short_sizes k) = omega arith
        none q (judged j) = c.clear q j
        none q (mode_over k) = mode_most m e k
    fit_mode (sound c) (over k) = faulty (record { applies = mode_over k; lowest = least })
      where
        least : (q : Refusal) → PlanFault old new mode ids sizes q → Before q ModeOver → ⊥
        least q (short_ids u) b = omega arith
        least q (short_sizes u) b = omega arith
        least q (judged j) b = c.clear q j
        least q (mode_over u) b = before_irreflexive b

  pub fit_first : {r : Refusal} → FitIs old new mode ids sizes (Err r) → First (PlanFault old new mode ids sizes) r
  fit_first (faulty f) = f

  pub fit_clear : {m : Mode} → FitIs old new mode ids sizes (Ok m) → Clear (PlanFault old new mode ids sizes) × (mode ≡ mode_no m)
  fit_clear (fits k e) = (k, e)

  pub clear_fit :
      Clear (PlanFault old new mode ids sizes)
      → Good (entries old) (entries new) × (1024 ≤ length ids) × (1024 ≤ length sizes)
  clear_fit c =
      let h : length ids < 1024 → ⊥ = λ l. c.clear Unfit (short_ids l) in
      let k : length sizes < 1024 → ⊥ = λ l. c.clear Unfit (short_sizes l) in
      (clear_good (record { clear = λ q f. c.clear q (judged f) }), omega arith, omega arith)

  pub reply_refused : {r : Refusal} → FitIs old new mode ids sizes (Err r) → Plans old new mode ids sizes (Err r) ids sizes
  reply_refused f = refused (fit_first f) refl refl

  pub reply_given :
      {m : Mode} {ids' sizes' : List ℕ} {g : Given}
      → FitIs old new mode ids sizes (Ok m)
      → Written (mode_no m) (entries old) (entries new) ids sizes ids' sizes' g.rounds g.count
      → Plans old new mode ids sizes (Ok g) ids' sizes'
  reply_given {m} (fits c e) w = let z = added_all w.added in given c (rw e w.planned) z.0 z.1 z.2 z.3
