-- `arith::powers::pow2_log` meets its contract: each arm's number is one of the table, and the last arm's is none.
-- Assumes nothing.
use mathlib.Core.Path.{ap, sym}
use borrow.Author.Tests.{ne_eqb}
use Rattle.arith.specs.Choice.{when}
use Rattle.arith.specs.Powers.{power_in, power_log}
use Rattle.arith.proofs.powers.pow2_log.Goals as goal

pub returns-in-512 : goal.returns-in-512
unfolding when power_in power_log
returns-in-512 c = ap power_log (sym c.in-512.is)

pub returns-in-1024 : goal.returns-in-1024
unfolding when power_in power_log
returns-in-1024 c = ap power_log (sym c.in-1024.is)

pub returns-in-2048 : goal.returns-in-2048
unfolding when power_in power_log
returns-in-2048 c = ap power_log (sym c.in-2048.is)

pub returns-in-4096 : goal.returns-in-4096
unfolding when power_in power_log
returns-in-4096 c = ap power_log (sym c.in-4096.is)

pub returns-in-8192 : goal.returns-in-8192
unfolding when power_in power_log
returns-in-8192 c = ap power_log (sym c.in-8192.is)

pub returns-in-16384 : goal.returns-in-16384
unfolding when power_in power_log
returns-in-16384 c = ap power_log (sym c.in-16384.is)

pub returns-in-32768 : goal.returns-in-32768
unfolding when power_in power_log
returns-in-32768 c = ap power_log (sym c.in-32768.is)

pub returns-in-65536 : goal.returns-in-65536
unfolding when power_in power_log
returns-in-65536 c = ap power_log (sym c.in-65536.is)

pub returns-in_default : goal.returns-in_default
unfolding when power_in power_log
returns-in_default c = let r = c.in_default.in_default-own.rest in
    simp (ne_eqb _ _ r.1, ne_eqb _ _ r.0.1, ne_eqb _ _ r.0.0.1, ne_eqb _ _ r.0.0.0.1, ne_eqb _ _ r.0.0.0.0.1, ne_eqb _ _ r.0.0.0.0.0.1, ne_eqb _ _ r.0.0.0.0.0.0.1, ne_eqb _ _ r.0.0.0.0.0.0.0.1)
