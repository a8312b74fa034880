-- `request::options::label_of` meets its contract.
-- Assumes nothing.
use Prim.Native.Nat.{ℕ, ◌+◌, ◌≤◌}
use lib.ListN.{length, get_or}
use mathlib.Core.Path.{◌∙◌}
use Rattle.request.proofs.Copies.{holds-given}
use Rattle.request.proofs.options.label_of.Goals as goal

pub label_at-requires : goal.label_at-requires
label_at-requires c = holds-given (λ (p : ℕ). p + 1 + get_or c.args.input.now p 0 ≤ length c.args.input.now) _ _ c.in-Some.is c.requires

pub returns-in-Some : goal.returns-in-Some
returns-in-Some c = c.label_at.ensures ∙ rw c.in-Some.is

pub returns-in-None : goal.returns-in-None
returns-in-None c = rw c.in-None.is
