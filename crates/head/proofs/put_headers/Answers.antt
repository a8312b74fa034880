-- `head::put_headers` meets its contract.
-- Assumes nothing.
use Rattle.head_bytes.proofs.Ready.{sb-accepted}
use Rattle.endian.proofs.Laws.{put_in}
use native.Mathlib.Omega.{arith}
use Rattle.head.proofs.put_headers.Goals as goal

pub put_sb-requires : goal.put_sb-requires
put_sb-requires c = (sb-accepted c.args.g _ c.requires.0 c.requires.1, omega (arith, c.requires.2.sectors-fit, c.requires.4, c.put_same.auto.buf))

pub returns : goal.returns
returns c = rw (c.put_sectors.ensures, c.put_sb.ensures, put_in c.put_same.ensures (omega (arith, c.requires.4)))
