-- `inquire_holds::words::called` meets its contract.
-- Assumes nothing.
use borrow.Author.Tests.{eq-eqb, ne_eqb}
use Rattle.inquire_holds.specs.Words.{called_with}
use Rattle.inquire_holds.proofs.words.called.Goals as goal

pub returns-then-at-ne0 : goal.returns-then-at-ne0
unfolding called_with
returns-then-at-ne0 c = rw (ne_eqb _ 0 c.if-at-ne0.true) c.no_call.ensures

pub returns-then-length-ne0 : goal.returns-then-length-ne0
unfolding called_with
returns-then-length-ne0 c = rw (eq-eqb _ 0 c.if-at-ne0.false, ne_eqb _ 0 c.if-length-ne0.true) c.no_call-then-length-ne0.ensures

pub returns : goal.returns
unfolding called_with
returns c = rw (eq-eqb _ 0 c.if-at-ne0.false, eq-eqb _ 0 c.if-length-ne0.false)
