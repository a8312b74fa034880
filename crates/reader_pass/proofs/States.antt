-- The state of a pass after each part, by its numbers.
-- Assumes nothing.
use mathlib.Core.Path.{◌≡◌, refl, ap}
use mathlib.Core.Bool.{true, false}
use mathlib.Core.List.{List}
use Prim.Native.Nat.{ℕ, ◌<◌, ◌≤◌}
use borrow.Author.Tests.{eq-eqb, ne_eqb, lt-ltb, le-ltb}
use lib.ListN.{length}
use Rattle.refusals.specs.Numbers.{wrong_length, not_left}
use Rattle.geometry.specs.declared.Geometry.{Geometry}
use Rattle.geometry.specs.declared.Computed.{Computed}
use Rattle.reader_names.specs.Read.{named_read}
use Rattle.reader_exact.specs.declared.Found.{Found}
use Rattle.reader_exact.specs.Read.{read_group0, group_number, read_log}
use Rattle.reader_pass.specs.declared.Stage.{Stage}
use Rattle.reader_pass.specs.declared.Stage.TheVariants.{Heads, Log, First}
use Rattle.reader_pass.specs.declared.Pass.{Pass}
use Rattle.reader_pass.specs.Passing.{pass_ended_by, stage_at, went_on, named_so, fed_named, fed_first, pass_fed_head, fed_log, fed_short, fed_whole, pass_fed, stage_length, is_ended, following, work_in, worked, pass_verdict, saying}

pub some-head : (g : Geometry) (k : ℕ) → k < g.agcount → Heads ≡ stage_at g k
unfolding stage_at
some-head g k h = rw (lt-ltb k g.agcount h) refl

pub no-head : (g : Geometry) (k : ℕ) → g.agcount ≤ k → Log ≡ stage_at g k
unfolding stage_at
no-head g k h = rw (le-ltb k g.agcount h) refl

module _ (p : Pass) (n : ℕ) (g : Geometry) (u : List ℕ) (k : ℕ) where
  pub stopped : (n ≡ 0 → ⊥) → pass_ended_by p n ≡ went_on p n g u k
  unfolding went_on
  stopped h = rw (ne_eqb n 0 h) refl

  pub went : (s : Stage) → n ≡ 0 → s ≡ stage_at g k → ◌≡◌ {A = Pass} (record { stage = s; number = 0; place = k; geometry = g; uuid = u }) (went_on p n g u k)
  unfolding went_on
  went s z e = rw (eq-eqb n 0 z, e) refl

module _ (p : Pass) (xs : List ℕ) where
  pub unnamed : (c : Computed) → c ≡ named_read false xs → (c.number ≡ 0 → ⊥) → pass_ended_by p not_left ≡ fed_named p xs
  unfolding fed_named named_so
  unnamed c e h = rw (← e, ne_eqb c.number 0 h) refl

  pub named : (c : Computed) → c ≡ named_read false xs → c.number ≡ 0 → ◌≡◌ {A = Pass} (record { stage = First; number = 0; place = 0; geometry = c.geometry; uuid = p.uuid }) (fed_named p xs)
  unfolding fed_named named_so
  named c e z = rw (← e, eq-eqb c.number 0 z) refl

  pub first-is : (f : Found) → f ≡ read_group0 xs → went_on p f.number f.geometry f.uuid 1 ≡ fed_first p xs
  unfolding fed_first
  first-is f e = ap (λ (x : Found). went_on p x.number x.geometry x.uuid 1) e

  pub head-is : (n k : ℕ) → n ≡ group_number p.geometry p.uuid p.place xs → k ≡ following p.place p.geometry.agcount → went_on p n p.geometry p.uuid k ≡ pass_fed_head p xs
  unfolding pass_fed_head
  head-is n k e f = rw (e, f) refl

  pub log_is : (n : ℕ) → n ≡ read_log p.geometry p.uuid xs → pass_ended_by p n ≡ fed_log p xs
  unfolding fed_log
  log_is n e = ap (pass_ended_by p) e

  pub long-is : length xs ≡ stage_length p.stage p.geometry → fed_whole p.stage p xs ≡ pass_fed p xs
  unfolding pass_fed
  long-is e = rw (eq-eqb (length xs) (stage_length p.stage p.geometry) e) refl

  pub short-is : (length xs ≡ stage_length p.stage p.geometry → ⊥) → fed_short p.stage p ≡ pass_fed p xs
  unfolding pass_fed
  short-is h = rw (ne_eqb (length xs) (stage_length p.stage p.geometry) h) refl

  pub long-work : (ws : List ℕ) → length xs ≡ stage_length p.stage p.geometry → work_in p.stage p ws ≡ worked p xs ws
  unfolding worked
  long-work ws e = rw (eq-eqb (length xs) (stage_length p.stage p.geometry) e) refl

  pub short-work : (ws : List ℕ) → (length xs ≡ stage_length p.stage p.geometry → ⊥) → ws ≡ worked p xs ws
  unfolding worked
  short-work ws h = rw (ne_eqb (length xs) (stage_length p.stage p.geometry) h) refl

-- ---- the end

module _ (p : Pass) where
  pub over : true ≡ is_ended p.stage → saying p p.number ≡ pass_verdict p
  unfolding pass_verdict
  over e = rw (← e) refl

  pub missing : false ≡ is_ended p.stage → saying p wrong_length ≡ pass_verdict p
  unfolding pass_verdict
  missing e = rw (← e) refl

pub nothing-more : (s : Stage) (p : Pass) → true ≡ is_ended s → p ≡ fed_short s p
unfolding fed_short
nothing-more s p e = rw (← e) refl

pub cut_short : (s : Stage) (p : Pass) → false ≡ is_ended s → pass_ended_by p wrong_length ≡ fed_short s p
unfolding fed_short
cut_short s p e = rw (← e) refl
