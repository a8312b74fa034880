-- The chunk of a geometry: its numbers in an answer, its refusals, its length.
-- Assumes nothing.
use mathlib.Core.Path.{◌≡◌, refl, sym, ap, ap₂, ◌∙◌}
use mathlib.Core.Bool.{Bool, true, false, not}
use mathlib.Core.List.{List, [], ◌∷◌}
use Prim.Native.Nat.{ℕ, zero, suc, ◌+◌, ◌*◌, ◌-◌, ◌/◌, ◌%◌, ◌^◌, ◌≤◌, ◌<◌}
use native.Mathlib.Omega.{arith}
use native.Mathlib.Nat.{mul-le-mul, mul_assoc, add-mul, div-add-mod', mul-div_cancel, div-lt_iff_lt-mul}
use borrow.Author.Tests.{eq-eqb, ne_eqb, leb-true, eqb-true, not-false}
use lib.Dec.{leb, eqb}
use lib.ListN.{length}
use lib.Pow.{pow-add, pow_mono, pow_pos}
use Rattle.refusals.specs.Numbers.{no_answer, no_place, wrong_length, time_out_of_range}
use Rattle.arith.specs.Choice.{when, bit}
use Rattle.refusals.specs.Table.{◌if◌}
use Rattle.refusals.proofs.Clear.{passed}
use Rattle.structs.specs.Sizes.{is_inode}
use Rattle.structs.specs.Written.{require}
use Rattle.crc.specs.Right.{already_right}
use Rattle.structs.proofs.Written.{written_in}
use Rattle.structs.proofs.Encoded.{not-encoded, encoded}
use Rattle.params.specs.declared.Features.{Features}
use Rattle.params.specs.declared.Timestamp.{Timestamp}
use Rattle.inode.specs.Dinode.{is_big, time_storable}
use Rattle.inode_time.specs.Time.{time_inside, StoredAs}
use Rattle.geometry.specs.declared.Geometry.{Geometry}
use Rattle.geometry_answers.specs.Named.{is_answer}
use Rattle.geometry_layout.specs.Places.{group_blocks, fsb_of, ino_of, chunk_of}
use Rattle.geometry_layout.specs.Bounds.{Bounds}
use Rattle.geometry_layout.proofs.Wide.{whole-blocks}
use Rattle.geometry_layout.proofs.Inside.{inodes-most}
use Rattle.chunk.specs.Inodes.{flags_of}
use Rattle.chunk.specs.Chunk.{contents, chunk_bytes, chunk_length, chunk_number, ChunkMade}
use Rattle.chunk.proofs.Filled.{contents-length}

-- ---- an answer's numbers

inode-power : (k : ℕ) → k ≤ 2 → is_inode (2 ^ (9 + k)) ≡ true
unfolding is_inode
inode-power zero h = refl
inode-power (suc zero) h = refl
inode-power (suc (suc zero)) h = refl
inode-power (suc (suc (suc k))) h = absurd (omega arith)

module _ (g : Geometry) (z : Bounds g) where
  pub size-inode : is_inode g.inodesize ≡ true
  size-inode =
      let e : g.inodelog ≡ 9 + (g.inodelog - 9) = let w = z.sizes.inode-least in omega arith in
      ap is_inode (z.sizes.inode-power ∙ ap (λ (k : ℕ). 2 ^ k) e)
      ∙ inode-power (g.inodelog - 9) (let w = z.sizes.inode-most in omega arith)

  -- a chunk's blocks hold its inodes with nothing left over
  pub whole_chunk : chunk_length g ≡ 64 * g.inodesize
  unfolding chunk_length chunk_of
  whole_chunk =
      let p : 64 * g.inodesize ≡ 1 * 2 ^ (6 + g.inodelog) = ap (λ (x : ℕ). 64 * x) z.sizes.inode-power ∙ omega (arith, pow-add 2 6 g.inodelog) in
      ap₂ (λ (x y : ℕ). x / y * y) p z.sizes.block-power
      ∙ whole-blocks 1 (6 + g.inodelog) g.blocklog (let a = z.sizes.block-most in let b = z.sizes.inode-least in omega arith)
      ∙ sym p

  -- group 0 is never the last
  pub first_group : group_blocks g.dblocks g.agsize g.agcount 0 ≡ g.agsize
  unfolding group_blocks when
  first_group = rw (ne_eqb 0 (g.agcount - 1) (λ e. let c = z.groups.count-least in omega arith)) refl

  pub length-fits : chunk_of g.inodesize g.blocksize * g.blocksize < 2 ^ 64
  length-fits =
      let p : 2 ^ g.blocklog ≤ 2 ^ 14 = pow_mono {j = 14} z.sizes.block-most in
      let e = z.sizes.block-power in
      let w = mul-le-mul z.places.chunk-most (let u : g.blocksize ≤ 16384 = omega arith in u) in
      omega arith

  module _ (agbno : ℕ) where
    pub first-is : agbno * g.inopblock ≡ ino_of g.agblklog g.inopblog 0 agbno 0
    unfolding ino_of fsb_of
    first-is =
        let e : 0 * 2 ^ g.agblklog + agbno ≡ agbno = omega arith in
        ap (λ (x : ℕ). agbno * x) z.sizes.inodes-power ∙ rw e (let w : agbno * 2 ^ g.inopblog ≡ agbno * 2 ^ g.inopblog + 0 = omega arith in w)

    pub first_fits : agbno + chunk_of g.inodesize g.blocksize ≤ group_blocks g.dblocks g.agsize g.agcount 0 → agbno * g.inopblock + 64 < 2 ^ 63
    first_fits h =
        let s = first_group in
        let m = z.groups.group-most in
        let p = z.sizes.inodes-power in
        let q = inodes-most g z in
        let w = mul-le-mul (let u : agbno ≤ 2 ^ 30 = omega arith in u) (let u : g.inopblock ≤ 32 = omega arith in u) in
        omega arith

-- ---- the number

stored : (t : Bool) (n : ℕ) → n ≡ require time_out_of_range t 0 → n ≡ 0 → t ≡ true
stored true n e h = refl
stored false n e h = absurd (omega arith)

pub in-range : (big : Bool) (time : Timestamp) (n v : ℕ) → StoredAs big time.secs time.nsecs n v → n ≡ 0 → time_inside big time.secs time.nsecs ≡ true
in-range big time n v s h = stored (time_inside big time.secs time.nsecs) n s.number_is h

module _ (g : Geometry) (agbno : ℕ) (time : Timestamp) (len : ℕ) where
  abbrev chunk : ℕ
  chunk = chunk_of g.inodesize g.blocksize

  abbrev in_time : Bool
  in_time = time_inside g.features.bigtime time.secs time.nsecs

  pub not-answered : is_answer g ≡ false → no_answer ≡ chunk_number g agbno time len
  unfolding chunk_number when
  not-answered a = rw a refl

  early-or-late : (t : Bool) (n : ℕ) → in_time ≡ t → is_answer g ≡ true → n ≡ require time_out_of_range t 0 → (n ≡ 0 → ⊥) → n ≡ chunk_number g agbno time len
  unfolding chunk_number when
  early-or-late true n i a e h = absurd (h e)
  early-or-late false n i a e h = e ∙ rw (a, i) refl

  -- the number of a time that can't be stored is the answer's
  pub out_of_range : (n v : ℕ) → is_answer g ≡ true → StoredAs g.features.bigtime time.secs time.nsecs n v → (n ≡ 0 → ⊥) → n ≡ chunk_number g agbno time len
  out_of_range n v a s h = early-or-late in_time n refl a s.number_is h

  pub other_length : is_answer g ≡ true → in_time ≡ true → (len ≡ chunk * g.blocksize → ⊥) → wrong_length ≡ chunk_number g agbno time len
  unfolding chunk_number chunk_length when
  other_length a t h = rw (a, t, ne_eqb len (chunk * g.blocksize) h) refl

  module _ (b : Bool) (n : ℕ) (test : b ≡ leb (agbno + n) g.agsize) (its : n ≡ chunk) (group : group_blocks g.dblocks g.agsize g.agcount 0 ≡ g.agsize) where
    tested : leb (agbno + chunk) (group_blocks g.dblocks g.agsize g.agcount 0) ≡ b
    tested = rw group (ap (λ (x : ℕ). leb (agbno + x) g.agsize) (sym its) ∙ sym test)

    pub no_place_lem : is_answer g ≡ true → in_time ≡ true → len ≡ chunk * g.blocksize → b ≡ false → no_place ≡ chunk_number g agbno time len
    unfolding chunk_number chunk_length when
    no_place_lem a t l e = rw (a, t, eq-eqb len (chunk * g.blocksize) l, tested, e) refl

    pub a-place : is_answer g ≡ true → in_time ≡ true → len ≡ chunk * g.blocksize → b ≡ true → 0 ≡ chunk_number g agbno time len
    unfolding chunk_number chunk_length when
    a-place a t l e = rw (a, t, eq-eqb len (chunk * g.blocksize) l, tested, e) refl

-- what an accepted call says
pub record Accepted (g : Geometry) (agbno : ℕ) (time : Timestamp) (len : ℕ) : Type 0 where
  pub answer : is_answer g ≡ true
  pub time-in : time_inside g.features.bigtime time.secs time.nsecs ≡ true
  pub length-is : len ≡ chunk_length g
  pub blocks-in : agbno + chunk_of g.inodesize g.blocksize ≤ group_blocks g.dblocks g.agsize g.agcount 0

pub accepted : (g : Geometry) (agbno : ℕ) (time : Timestamp) (len : ℕ) → chunk_number g agbno time len ≡ 0 → Accepted g agbno time len
unfolding chunk_number
accepted g agbno time len e =
    let c = passed (no_answer if not (is_answer g) ∷ time_out_of_range if not (time_inside g.features.bigtime time.secs time.nsecs) ∷ wrong_length if not (eqb len (chunk_length g)) ∷ no_place if not (leb (agbno + chunk_of g.inodesize g.blocksize) (group_blocks g.dblocks g.agsize g.agcount 0)) ∷ []) tt e in
    record {
      answer = not-false _ c.0;
      time-in = not-false _ c.1.0;
      length-is = eqb-true len (chunk_length g) (not-false _ c.1.1.0);
      blocks-in = leb-true _ _ (not-false _ c.1.1.1.0);
    }

-- ---- the flags

flags-at : (b n : Bool) → is_big (bit b * 8 + bit n * 16) ≡ b
unfolding is_big bit
flags-at true true = refl
flags-at true false = refl
flags-at false true = refl
flags-at false false = refl

-- the flags say how times are stored
pub flags-big : (f : Features) → is_big (flags_of f) ≡ f.bigtime
unfolding flags_of
flags-big f = flags-at f.bigtime f.nrext64

pub flags-inside : (f : Features) (time : Timestamp) → time_inside f.bigtime time.secs time.nsecs ≡ true → time_storable (flags_of f) time ≡ true
flags-inside f time e = ap (λ (b : Bool). time_inside b time.secs time.nsecs) (flags-big f) ∙ e

-- ---- what `root_chunk` answers

pub chunk-refused : {n r next : ℕ} {sums new old : List ℕ} → r ≡ n → (r ≡ 0 → ⊥) → ChunkMade n next sums new old r 0 false old
chunk-refused {r = r} e h =
    record { encoded = not-encoded (sym e) (ne_eqb r 0 h); state-is = rw (← e, ne_eqb r 0 h) refl }

pub chunk-made : {n next state : ℕ} {right : Bool} {sums new old left : List ℕ} → n ≡ 0 → left ≡ new → right ≡ already_right sums old new → state ≡ next
    → ChunkMade n next sums new old 0 state right left
chunk-made e d w s = record { encoded = encoded e d w; state-is = s ∙ rw e refl }

module _ (g : Geometry) (z : Bounds g) (agbno : ℕ) (uuid : List ℕ) (time : Timestamp) (seed : ℕ) where
  pub chunk-bytes : (flags2 : ℕ) (left : List ℕ) → flags2 ≡ flags_of g.features → left ≡ contents (agbno * g.inopblock) g.inodesize flags2 time uuid seed → left ≡ chunk_bytes g agbno uuid time seed
  unfolding chunk_bytes
  chunk-bytes flags2 left f e = e ∙ rw (f, first-is g z agbno) refl

  -- for callers: the chunk has the length of its blocks
  pub chunk-length : length (chunk_bytes g agbno uuid time seed) ≡ chunk_length g
  unfolding chunk_bytes
  chunk-length = contents-length _ _ _ _ _ _ ∙ sym (whole_chunk g z)

-- ---- for callers

-- an accepted call leaves the chunk, and answers the state after the draws
pub chunk_in : {n next number state : ℕ} {right : Bool} {sums new old left : List ℕ} → ChunkMade n next sums new old number state right left → n ≡ 0 → (left ≡ new) × (state ≡ next)
chunk_in m e = (written_in m.encoded.written e, m.state-is ∙ rw e refl)

-- inode i of a chunk is the inode of its block and slot
pub slot-number : (log inolog agbno i : ℕ) → ino_of log inolog 0 agbno 0 + i ≡ ino_of log inolog 0 (agbno + i / 2 ^ inolog) (i % 2 ^ inolog)
unfolding ino_of fsb_of
slot-number log inolog agbno i =
    let d = div-add-mod' i (2 ^ inolog) in
    let a = add-mul agbno (i / 2 ^ inolog) (2 ^ inolog) in
    let e : 0 * 2 ^ log + agbno ≡ agbno = omega arith in
    let f : 0 * 2 ^ log + (agbno + i / 2 ^ inolog) ≡ agbno + i / 2 ^ inolog = omega arith in
    rw (e, f) (let w : agbno * 2 ^ inolog + 0 + i ≡ (agbno + i / 2 ^ inolog) * 2 ^ inolog + i % 2 ^ inolog = omega arith in w)

module _ (g : Geometry) (z : Bounds g) where
  -- the inodes of a chunk's blocks
  chunk-inodes : chunk_of g.inodesize g.blocksize * g.inopblock ≡ 64
  unfolding chunk_length
  chunk-inodes =
      let il = g.inodelog in
      let p : 0 < 2 ^ il = pow_pos il in
      let k : g.inopblog + il ≡ g.blocklog = let h = z.sizes.inode-half in let e = z.sizes.inodes-log in omega arith in
      let b : g.blocksize ≡ g.inopblock * 2 ^ il =
      z.sizes.block-power ∙ ap (λ (x : ℕ). 2 ^ x) (sym k) ∙ pow-add 2 g.inopblog il ∙ ap (λ (x : ℕ). x * 2 ^ il) (sym z.sizes.inodes-power) in
      let w : chunk_of g.inodesize g.blocksize * g.inopblock * 2 ^ il ≡ 64 * 2 ^ il =
      mul_assoc (chunk_of g.inodesize g.blocksize) g.inopblock (2 ^ il)
      ∙ ap (λ (x : ℕ). chunk_of g.inodesize g.blocksize * x) (sym b)
      ∙ whole_chunk g z
      ∙ ap (λ (x : ℕ). 64 * x) z.sizes.inode-power in
      sym (mul-div_cancel _ p) ∙ ap (λ (x : ℕ). x / 2 ^ il) w ∙ mul-div_cancel 64 p

  -- every inode of an accepted chunk lies in a block of group 0
  pub slot-there : (agbno len i : ℕ) (time : Timestamp) → Accepted g agbno time len → i < 64 → agbno + i / g.inopblock < group_blocks g.dblocks g.agsize g.agcount 0
  slot-there agbno len i time a h =
      let p : 0 < g.inopblock = let e = z.sizes.inodes-power in let q = pow_pos g.inopblog in omega arith in
      let d : i / g.inopblock < chunk_of g.inodesize g.blocksize = (div-lt_iff_lt-mul p).1 (let e = chunk-inodes in omega arith) in
      let b = a.blocks-in in
      omega arith
