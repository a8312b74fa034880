-- `request_texts::suffix` meets its contract.
-- Assumes nothing.
use borrow.Author.Tests.{ne_eqb}
use native.Mathlib.Omega.{arith}
use mathlib.Core.Path.{refl}
use Rattle.arith.specs.Choice.{when}
use Rattle.request_texts.specs.Texts.{suffix}
use Rattle.request_texts.proofs.suffix.Goals as goal

pub returns-in-75 : goal.returns-in-75
unfolding suffix when
returns-in-75 c = rw c.in-75.is refl

pub returns-in-77 : goal.returns-in-77
unfolding suffix when
returns-in-77 c = rw c.in-77.is refl

pub returns-in-71 : goal.returns-in-71
unfolding suffix when
returns-in-71 c = rw c.in-71.is refl

pub returns-in-84 : goal.returns-in-84
unfolding suffix when
returns-in-84 c = rw c.in-84.is refl

pub returns-in-80 : goal.returns-in-80
unfolding suffix when
returns-in-80 c = rw c.in-80.is refl

pub returns-in-69 : goal.returns-in-69
unfolding suffix when
returns-in-69 c = rw c.in-69.is refl

pub returns-in_default : goal.returns-in_default
unfolding suffix when
returns-in_default c = rw (ne_eqb c.args.b 75 (λ e. omega arith), ne_eqb c.args.b 77 (λ e. omega arith), ne_eqb c.args.b 71 (λ e. omega arith), ne_eqb c.args.b 84 (λ e. omega arith), ne_eqb c.args.b 80 (λ e. omega arith), ne_eqb c.args.b 69 (λ e. omega arith)) refl
