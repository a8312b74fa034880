-- Any sizes of 32 bits: the bytes of a piece fit 64 bits.
-- Assumes nothing.
use mathlib.Core.Bool.{not}
use Prim.Native.Nat.{ℕ, ◌+◌, ◌*◌, ◌/◌, ◌%◌, ◌<◌, ◌≤◌, ◌^◌}
use native.Mathlib.Omega.{arith}
use native.Mathlib.Nat.{mul-le-mul_right, div-mul-le_self, div-le_self}
use lib.Dec.{eqb}
use Rattle.arith.specs.Choice.{bit}
use Rattle.arith.specs.Numbers.{ceil_div}
use Rattle.arith.proofs.Laws.{bit_le}
use Rattle.params.specs.declared.Features.{Features}
use Rattle.geometry.specs.Log.{header_of, prealloc_of}
use Rattle.geometry_layout.specs.Places.{chunk_of}
use Rattle.list_lengths.specs.declared.parts.Sizes.{Sizes}
use Rattle.list_lengths.specs.Lengths.{list_sizes, blocks_length}

-- n more blocks than a bytes fill
few-more : (a b n : ℕ) → a < 2 ^ 38 → b < 2 ^ 32 → n ≤ 7 → blocks_length b (a / b + n) < 2 ^ 63
unfolding blocks_length
few-more a b n h k m =
    let d = div-mul-le_self a b in
    let e = div-le_self a b in
    let s = mul-le-mul_right b m in
    omega arith

module _ (bs : ℕ) (k : bs < 2 ^ 32) where
  block-fits : blocks_length bs 1 < 2 ^ 63
  unfolding blocks_length
  block-fits = omega arith

  header-fits : (sector : ℕ) → sector < 2 ^ 32 → blocks_length bs (header_of sector bs) < 2 ^ 63
  unfolding header_of ceil_div
  header-fits sector h =
      let a = bit_le (not (eqb (4 * sector % bs) 0)) in
      few-more (4 * sector) bs (bit (not (eqb (4 * sector % bs) 0))) (omega arith) k (omega arith)

  head-fits : (f : Features) (sector : ℕ) → sector < 2 ^ 32 → blocks_length bs (prealloc_of f sector bs) < 2 ^ 63
  unfolding prealloc_of header_of ceil_div blocks_length
  head-fits f sector h =
      let a = bit_le (not (eqb (4 * sector % bs) 0)) in
      let b = bit_le f.finobt in
      let c = bit_le f.rmapbt in
      let d = bit_le f.reflink in
      let n = bit (not (eqb (4 * sector % bs) 0)) + 3 + bit f.finobt + bit f.rmapbt + bit f.reflink in
      let m = few-more (4 * sector) bs n (omega arith) k (omega arith) in
      omega arith

  chunk-fits : (inode : ℕ) → inode < 2 ^ 32 → blocks_length bs (chunk_of inode bs) < 2 ^ 63
  unfolding chunk_of blocks_length
  chunk-fits inode h =
      let m = few-more (64 * inode) bs 0 (omega arith) k (omega arith) in
      omega arith

-- sizes whose blocks can be counted in bytes
pub record Fit (s : Sizes) : Type 0 where
  pub block : s.block < 2 ^ 32
  pub one : blocks_length s.block 1 < 2 ^ 63
  pub header : blocks_length s.block s.header < 2 ^ 63
  pub head : blocks_length s.block s.head < 2 ^ 63
  pub chunk : blocks_length s.block s.chunk < 2 ^ 63

pub all-fit : (f : Features) (sector inode bs : ℕ) → sector < 2 ^ 32 → inode < 2 ^ 32 → bs < 2 ^ 32 → Fit (list_sizes f sector inode bs)
all-fit f sector inode bs s i k =
    record {
      block = k;
      one = block-fits bs k;
      header = header-fits bs k sector s;
      head = head-fits bs k f sector s;
      chunk = chunk-fits bs k inode i;
    }

-- blocks without their heads
pub bytes_fit : (bs n : ℕ) → blocks_length bs n < 2 ^ 63 → n * bs < 2 ^ 63
unfolding blocks_length
bytes_fit bs n h = omega arith
