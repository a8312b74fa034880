-- `head::sectors::put_sb` meets its contract.
-- Assumes nothing.
use Rattle.head_bytes.proofs.Lending.{lent-sector, sb-length}
use Rattle.sb.specs.Superblock.{sb_number, sb_bytes}
use native.Mathlib.Omega.{arith}
use Prim.Native.Nat.{ℕ}
use Rattle.head.proofs.sectors.put_sb.Goals as goal

pub returns : goal.returns
returns c = let a = c.args in lent-sector 0 a.ss (λ (n : ℕ). sb_number a.g n) (sb_bytes a.g a.s) a.buf.now _ (omega (arith, c.requires.1)) c.requires.0 (sb-length a.g a.s) c.encode.ensures.written
