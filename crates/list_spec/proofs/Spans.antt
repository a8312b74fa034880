-- The bounds of a sound run in bytes: which part lies before which.
-- Assumes nothing.
use mathlib.Core.Path.{◌≡◌}
use Prim.Native.Nat.{ℕ, ◌+◌, ◌-◌, ◌*◌, ◌/◌, ◌≤◌, ◌<◌}
use native.Mathlib.Omega.{arith}
use native.Mathlib.Nat.{mul-le-mul_right, lt-div-mul-add, div-mul-le_self}
use Rattle.geometry_layout.specs.Places.{disk_blocks_before, byte_of}
use Rattle.geometry_places.specs.Answers.{root_chunk}
use Rattle.run.specs.declared.Run.{Run}
use Rattle.list_spec.specs.Listing.{whack_size, blocks_end, tail_start, log_offset}
use Rattle.list_spec.specs.Sound.{SoundRun}
use Rattle.list_spec.specs.Left.{head_at, head_bytes_of, header_bytes_of, log_size, chunk_offset, chunk_bytes_of}

pub record Spans (run : Run) (device : ℕ) : Type 0 where
  -- heads: group 0's at 0, each before the next
  pub first : head_at run 0 ≡ 0
  pub heads : (j k : ℕ) → j < k → head_at run j + head_bytes_of run ≤ head_at run k
  pub header-some : run.geometry.blocksize ≤ header_bytes_of run
  pub header-head : header_bytes_of run ≤ head_bytes_of run
  -- the root chunk between the heads of groups 0 and 1
  pub chunk-after : head_bytes_of run ≤ chunk_offset run
  pub chunk-heads : (k : ℕ) → 0 < k → chunk_offset run + chunk_bytes_of run ≤ head_at run k
  -- the log behind its group's head
  pub log-some : run.geometry.blocksize ≤ log_size run
  pub log-chunk : chunk_offset run + chunk_bytes_of run ≤ log_offset run.geometry
  pub log-after : (k : ℕ) → k ≤ run.geometry.logagno → head_at run k + head_bytes_of run ≤ log_offset run.geometry
  pub log-before : (k : ℕ) → run.geometry.logagno < k → log_offset run.geometry + log_size run ≤ head_at run k
  -- the zeros at the device's ends
  pub start : (k : ℕ) → 0 < k → whack_size ≤ head_at run k
  pub end : (k : ℕ) → k < run.geometry.agcount → head_at run k + head_bytes_of run ≤ tail_start run.geometry.blocksize device
  pub tail-ends : tail_start run.geometry.blocksize device ≤ blocks_end run.geometry.blocksize device
  pub blocks_end_within : blocks_end run.geometry.blocksize device ≤ device
  pub log-tail : log_offset run.geometry + run.geometry.blocksize ≤ tail_start run.geometry.blocksize device
  pub log-ends : log_offset run.geometry + log_size run ≤ device

-- over plain numbers: s blocks of bs bytes a group, heads of h blocks
module _ (bs s : ℕ) where
  -- the offset of a block, as a sum
  pub byte-sum : (k b : ℕ) → byte_of bs s k b ≡ k * s * bs + b * bs
  unfolding byte_of disk_blocks_before
  byte-sum k b = omega arith

  -- a group's first bytes end before a later group begins
  pub groups-apart : (j k : ℕ) → j < k → j * s * bs + s * bs ≤ k * s * bs
  groups-apart j k h = let m : (j * s + s) * bs ≤ k * s * bs = mul-le-mul_right bs (omega (arith, mul-le-mul_right s h)) in omega arith

-- the bytes from a block to the last
pub from_block : (a d bs m : ℕ) → a ≤ d → m ≤ (d - a) * bs → a * bs + m ≤ d * bs
from_block a d bs m h k =
    let e : d - a + a ≡ d = omega arith in
    rw e at (added (d - a) a bs m k)
  where
    added : (x a bs m : ℕ) → m ≤ x * bs → a * bs + m ≤ (x + a) * bs
    added x a bs m k = omega arith

-- the tail's zeros begin less than two blocks and what is zeroed before the end
pub tail-high : (bs device : ℕ) → 0 < bs → device < tail_start bs device + whack_size + bs + bs
unfolding tail_start blocks_end
tail-high bs device h =
    let e = device / bs * bs in
    omega (arith, lt-div-mul-add {a = device} {b = bs} h, lt-div-mul-add {a = e - whack_size} {b = bs} h)

pub tail-low : (bs device : ℕ) → tail_start bs device ≤ blocks_end bs device
unfolding tail_start
tail-low bs device = omega (arith, div-mul-le_self (blocks_end bs device - whack_size) bs)

pub end_low : (bs device : ℕ) → blocks_end bs device ≤ device
unfolding blocks_end
end_low bs device = div-mul-le_self device bs

module _ (run : Run) (device : ℕ) (s : SoundRun run device) where
  pub spans : Spans run device
  unfolding log_offset
  spans =
      let g = run.geometry in
      let bs = g.blocksize in
      let n = g.agsize in
      let at = byte-sum bs n in
      let apart = groups-apart bs n in
      let head : head_bytes_of run ≤ n * bs = mul-le-mul_right bs s.head-room in
      let chunk : root_chunk g * bs + chunk_bytes_of run ≤ n * bs = omega (arith, mul-le-mul_right bs s.chunk-room) in
      let log : g.log_agbno * bs + log_size run ≤ n * bs = omega (arith, mul-le-mul_right bs s.log-room) in
      let zero-group : 0 * n * bs ≡ 0 = omega arith in
      let later : (k : ℕ) → 0 < k → n * bs ≤ k * n * bs = λ k h. omega (arith, apart 0 k h) in
      let log-inside : byte_of bs n g.logagno g.log_agbno + log_size run ≤ device = omega (arith, at g.logagno g.log_agbno, mul-le-mul_right bs s.log-inside, s.inside) in
      record {
        first = omega (arith, at 0 0);
        heads = λ j k h. omega (arith, at j 0, at k 0, apart j k h);
        header-some = omega (arith, mul-le-mul_right bs s.header-some);
        header-head = mul-le-mul_right bs s.header-head;
        chunk-after = omega (arith, at 0 (root_chunk g), mul-le-mul_right bs s.chunk-after);
        chunk-heads = λ k h. omega (arith, at 0 (root_chunk g), at k 0, later k h);
        log-some = omega (arith, mul-le-mul_right bs s.log-some);
        log-chunk = omega (arith, at 0 (root_chunk g), at g.logagno g.log_agbno, later g.logagno (omega (arith, s.log-not-first)));
        log-after = λ k h. log-behind k h;
        log-before = λ k h. omega (arith, at g.logagno g.log_agbno, at k 0, apart g.logagno k h);
        start = λ k h. omega (arith, at k 0, later k h, s.group-least);
        end = λ k h. ends k h;
        tail-ends = tail-low bs device;
        blocks_end_within = end_low bs device;
        log-tail = omega (arith, log-inside, tail-high bs device (omega (arith, s.block-least)), s.block-most, s.log-least);
        log-ends = log-inside;
      }
    where
      log-behind : (k : ℕ) → k ≤ run.geometry.logagno → head_at run k + head_bytes_of run ≤ byte_of run.geometry.blocksize run.geometry.agsize run.geometry.logagno run.geometry.log_agbno
      log-behind k h =
          let g = run.geometry in
          let m : k * g.agsize * g.blocksize ≤ g.logagno * g.agsize * g.blocksize = mul-le-mul_right g.blocksize (mul-le-mul_right g.agsize h) in
          omega (arith, m, byte-sum g.blocksize g.agsize k 0, byte-sum g.blocksize g.agsize g.logagno g.log_agbno, mul-le-mul_right g.blocksize s.log-after)

      ends : (k : ℕ) → k < run.geometry.agcount → head_at run k + head_bytes_of run ≤ tail_start run.geometry.blocksize device
      ends k h =
          let g = run.geometry in
          let bs = g.blocksize in
          let last = (g.agcount - 1) * g.agsize in
          let m : k * g.agsize * bs ≤ last * bs = mul-le-mul_right bs (mul-le-mul_right g.agsize (omega arith)) in
          let room = from_block last g.dblocks bs _ (omega (arith, s.last-room)) s.last-least in
          omega (arith, m, room, byte-sum bs g.agsize k 0, s.inside, mul-le-mul_right bs s.head-most, tail-high bs device (omega (arith, s.block-least)), s.block-most)
