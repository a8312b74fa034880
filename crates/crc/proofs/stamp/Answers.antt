-- `crc::stamp` meets its contract.
-- Assumes nothing.
use mathlib.Core.Path.{ap, sym, ◌∙◌}
use Prim.Native.Nat.{ℕ, ◌-◌}
use Rattle.crc.specs.Crc.{crc32c_of, cksum_of}
use Rattle.crc.proofs.Right.{stamp-done, stamp-refused}
use Rattle.crc.proofs.stamp.Goals as goal

pub returns-then-inside : goal.returns-then-inside
unfolding cksum_of crc32c_of
returns-then-inside c = let e = sym c.inside.ensures ∙ c.if-inside.true in
    stamp-done _ _ _ _ _ _ e (ap (λ (k : ℕ). 0xffff_ffff - k) (rw e at c.update_zeroed-sum.ensures)) c.stored-stood.ensures c.put_le32.ensures

pub returns : goal.returns
returns c = stamp-refused _ _ (sym c.inside.ensures ∙ c.if-inside.false)
