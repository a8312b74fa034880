-- `head::sectors::put_agf` meets its contract.
-- Assumes nothing.
use Rattle.head_bytes.proofs.Lending.{lent-sector, agf-length}
use Rattle.ag.specs.Agf.{agf_bytes}
use Rattle.ag.specs.Sector.{sector_number}
use Prim.Native.Nat.{ℕ}
use mathlib.Core.Path.{refl}
use Rattle.head.proofs.sectors.put_agf.Goals as goal

pub returns : goal.returns
returns c = let a = c.args in lent-sector a.ss a.ss (λ (n : ℕ). sector_number n) (agf_bytes a.a a.uuid.now) a.buf.now _ c.requires.1 (rw c.requires.0 refl) (agf-length a.a a.uuid.now) c.encode.ensures.written
