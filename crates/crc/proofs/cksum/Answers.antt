-- `crc::cksum` meets its contract.
-- Assumes nothing.
use mathlib.Core.Path.{ap, sym, ◌∙◌}
use Prim.Native.Nat.{ℕ, ◌-◌}
use Rattle.endian.proofs.Laws.{read_by, unread-by}
use Rattle.crc.specs.Crc.{crc32c_of, cksum_of}
use Rattle.crc.proofs.cksum.Goals as goal

pub returns-then-inside : goal.returns-then-inside
unfolding cksum_of crc32c_of
returns-then-inside c = let e = sym c.inside.ensures ∙ c.if-inside.true in read_by e (ap (λ (k : ℕ). 0xffff_ffff - k) (rw e at c.update_zeroed.ensures))

pub returns : goal.returns
returns c = unread-by (sym c.inside.ensures ∙ c.if-inside.false)
