-- `head::sectors::put_agi` meets its contract.
-- Assumes nothing.
use Rattle.head_bytes.proofs.Lending.{lent-sector, agi-length}
use Rattle.ag.specs.Agi.{agi_bytes}
use Rattle.ag.specs.Sector.{sector_number}
use Prim.Native.Nat.{ℕ, ◌*◌}
use mathlib.Core.Path.{refl}
use Rattle.head.proofs.sectors.put_agi.Goals as goal

pub returns : goal.returns
returns c = let a = c.args in lent-sector (2 * a.ss) a.ss (λ (n : ℕ). sector_number n) (agi_bytes a.a a.uuid.now) a.buf.now _ c.requires.1 (rw c.requires.0 refl) (agi-length a.a a.uuid.now) c.encode.ensures.written
