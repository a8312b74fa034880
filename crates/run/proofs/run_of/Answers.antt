-- `run::run_of` meets its contract.
-- Assumes nothing.
use Rattle.run.specs.Runs.{step_of, bare_number, run_number, run_of}
use borrow.Author.Tests.{eq-eqb, ne_eqb}
use mathlib.Core.Path.{◌≡◌, sym, ◌∙◌}
use Rattle.run.proofs.run_of.Goals as goal

pub returns-then-n-ne0 : goal.returns-then-n-ne0
unfolding run_of run_number bare_number step_of
returns-then-n-ne0 c = let e : c.or_next-n.result ≡ run_number c.args.r =
    c.or_next-n.ensures ∙ rw (c.profile_number.ensures, c.number_of-bare.ensures, c.time_or_zero-time.ensures, c.compute-c.ensures) in
    c.refused.ensures ∙ rw (← e, ne_eqb _ 0 c.if-n-ne0.true)

pub returns : goal.returns
unfolding run_of run_number bare_number step_of
returns c = let e : run_number c.args.r ≡ 0 =
    sym (c.or_next-n.ensures ∙ rw (c.profile_number.ensures, c.number_of-bare.ensures, c.time_or_zero-time.ensures, c.compute-c.ensures)) ∙ c.if-n-ne0.false in
    rw (eq-eqb _ 0 e, c.seed_or_zero-seed.ensures, c.uuid_or_zeros-uuid.ensures, c.time_or_zero-time.ensures, c.compute-c.ensures)
