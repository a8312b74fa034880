-- `label_text::store_hex` meets its contract.
-- Assumes nothing.
use native.Mathlib.Omega.{arith}
use Rattle.label_text.proofs.Laws.{hex-stored}
use Rattle.endian.proofs.Laws.{put_in}
use Rattle.label_text.proofs.store_hex.Goals as goal

pub returns : goal.returns
returns c = hex-stored _ _ _ _ _ c.requires.2 c.requires.0 c.hex_digit.ensures c.hex_digit-2.ensures (put_in c.put_bytes.ensures (omega arith))
