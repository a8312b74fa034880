-- `sb::put::put_number` meets its contract.
-- Assumes nothing.
use Rattle.std.proofs.Common.{◌≡◌, ◌∙◌, ap, ◌-◌, ◌≤◌, ℕ, take, drop, length, arith, rules}
use lib.Seq.{take-length}
use Rattle.endian.specs.Bytes.{be_bytes}
use Rattle.endian.proofs.Laws.{put_in, length-be}
use Rattle.sb.proofs.Runs.{last-bytes}
use Rattle.sb.proofs.put.put_number.Goals as goal

pub returns : goal.returns
returns c = let a = c.args in
    let few : a.width ≤ 8 = search rules in
    let e : drop (8 - a.width) c.to_be_bytes.result ≡ be_bytes a.width a.x = ap (drop (8 - a.width)) c.to_be_bytes.ensures ∙ last-bytes 8 (8 - a.width) a.width a.x (omega arith) in
    let f : take (8 - (8 - a.width)) (be_bytes a.width a.x) ≡ be_bytes a.width a.x =
    ap (λ (k : ℕ). take k (be_bytes a.width a.x)) (let w : 8 - (8 - a.width) ≡ length (be_bytes a.width a.x) = omega (arith, length-be a.width a.x) in w) ∙ take-length (be_bytes a.width a.x) in
    put_in (rw (e, f) at c.put_bytes.ensures) (rw (length-be a.width a.x) c.requires.0)
