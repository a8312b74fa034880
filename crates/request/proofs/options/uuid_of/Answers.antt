-- `request::options::uuid_of` meets its contract.
-- Assumes nothing.
use Prim.Native.Nat.{ℕ, ◌+◌, ◌≤◌}
use lib.ListN.{length}
use Rattle.request.proofs.Copies.{holds-given}
use Rattle.request.proofs.options.uuid_of.Goals as goal

pub sixteen_at-requires : goal.sixteen_at-requires
sixteen_at-requires c = holds-given (λ (p : ℕ). p + 16 ≤ length c.args.input.now) _ _ c.in-Some.is c.requires

pub returns-in-Some : goal.returns-in-Some
returns-in-Some c = rw (c.in-Some.is, c.sixteen_at.ensures)

pub returns-in-None : goal.returns-in-None
returns-in-None c = rw c.in-None.is
