-- `head::sectors::put_agfl` meets its contract.
-- Assumes nothing.
use Rattle.head_bytes.proofs.Lending.{lent-sector, agfl-length, agfl-accepted}
use Rattle.ag.specs.Agfl.{agfl_number, agfl_bytes}
use lib.ListN.{take}
use Prim.Native.Nat.{ℕ, ◌*◌}
use Rattle.head.proofs.sectors.put_agfl.Goals as goal

pub returns : goal.returns
returns c = let a = c.args in lent-sector (3 * a.ss) a.ss (λ (n : ℕ). agfl_number a.l.len n) (agfl_bytes a.agno a.uuid.now 1 (take a.l.len a.l.blocks)) a.buf.now _ c.requires.2 (agfl-accepted a.l.len a.ss c.requires.0 c.requires.1) (agfl-length a.agno a.uuid.now 1 (take a.l.len a.l.blocks)) c.encode_agfl.ensures.written
