-- `bench_ffi::zq_sb` meets its contract: geometry and state are those of the arrays.
-- Assumes nothing.
use Rattle.bench_ffi.proofs.zq_sb.Goals as goal

pub returns : goal.returns
returns c = rw (c.geometry_from-g.ensures, c.state_from-s.ensures) at c.encode-made.ensures.written
