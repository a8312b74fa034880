-- THE SUPERBLOCK of a head that a run leaves, field by field.
-- Assumes nothing.
use mathlib.Core.Path.{◌≡◌, refl, ap, sym, subst, ◌∙◌}
use mathlib.Core.Bool.{Bool, true, false, not}
use mathlib.Core.List.{List}
use Prim.Native.Nat.{ℕ, zero, suc, ◌+◌, ◌*◌, ◌-◌, ◌/◌, ◌^◌, ◌≤◌, ◌<◌}
use native.Mathlib.Nat.{div-le_self}
use native.Mathlib.Omega.{arith}
use lib.Dec.{T, eqb, ltb, lit<, lit≤, ltb→lt}
use lib.ListN.{length, get_or, replicate, length-replicate}
use lib.Pow.{pow_mono}
use Rattle.arith.specs.Choice.{when, bit}
use Rattle.arith.proofs.Laws.{bit_le}
use Rattle.endian.specs.Bytes.{be_bytes, be_at}
use Rattle.endian.specs.Fields.{field, write_fields, nth, spans, clear}
use Rattle.endian.proofs.Fields.{at_part, write-clear}
use Rattle.crc.proofs.Laws.{stamped-before}
use Rattle.structs.specs.Holds.{Holds}
use Rattle.structs.specs.Written.{null64}
use Rattle.structs.proofs.Reading.{read_number}
use Rattle.params.specs.declared.Features.{Features}
use Rattle.geometry.specs.declared.Geometry.{Geometry}
use Rattle.geometry.specs.declared.Computed.{Computed}
use Rattle.geometry.specs.Compute.{geometry_of}
use Rattle.geometry_answers.specs.Answers.{Answered}
use Rattle.geometry_answers.proofs.Again.{its-geometry}
use Rattle.geometry_layout.specs.Bounds.{Bounds}
use Rattle.geometry_layout.specs.Places.{fsb_of, rext_size, align_of, sparse_align, lsunit_bytes, logsunit_of}
use Rattle.geometry_layout.proofs.Inside.{few-blocks, inodes-most}
use Rattle.geometry_places.specs.Answers.{root_ino}
use Rattle.sb.specs.declared.SbState.{SbState}
use Rattle.sb.specs.Superblock.{sb_magic, large_sector, version_of, features2_bits, ro_compat, in_compat, logstart_of, fields_with, sb_fields, sb_bytes}
use Rattle.sb.proofs.Laws.{answer-fits}
use Rattle.sb.proofs.Read.{sb-holds, uuid-back, label-back}
use Rattle.list_accepted.specs.Superblocks.{root_named, free_named}
use Rattle.list_accepted.proofs.Sizes.{block-least, block-most}
use Rattle.reader_exact.proofs.Heads.{sector-most}
use Rattle.reader_layout.specs.Layouts.{SuperblockAt}

-- ---- bounds of what is stored

when-most : (t : Bool) (a b m : ℕ) → a ≤ m → b ≤ m → when t a b ≤ m
unfolding when
when-most true a b m h l = h
when-most false a b m h l = l

rext-most : (b : ℕ) → rext_size b ≤ 4096
unfolding rext_size
rext-most b = when-most (ltb b 4096) (4096 / b) 1 4096 (div-le_self 4096 b) (lit≤ tt)

unit-most : (sector b : ℕ) → b ≤ 16384 → logsunit_of (lsunit_bytes sector b) ≤ 16384
unfolding logsunit_of lsunit_bytes
unit-most sector b h =
    when-most (eqb (when (ltb 512 sector) b 0) 0) 1 (when (ltb 512 sector) b 0) 16384 (lit≤ tt) (when-most (ltb 512 sector) b 0 16384 h (lit≤ tt))

ro-most : (f : Features) → ro_compat f ≤ 15
unfolding ro_compat
ro-most f = omega (arith, bit_le f.finobt, bit_le f.rmapbt, bit_le f.reflink, bit_le f.inobtcount)

in-most : (f : Features) → in_compat f ≤ 43
unfolding in_compat
in-most f = omega (arith, bit_le f.sparse, bit_le f.bigtime, bit_le f.nrext64)

version-most : (g : Geometry) → version_of g < 256 ^ 2
unfolding version_of
version-most g = omega (arith, bit_le (large_sector g))

module _ (g : Geometry) (z : Bounds g) where
  align-most : align_of g.features.sparse g.inodesize g.blocksize ≤ 32
  unfolding align_of
  align-most = when-most g.features.sparse _ _ 32 z.places.chunk-most z.places.cluster-most

  sparse-most : sparse_align g.features.sparse g.inodesize g.blocksize ≤ 32
  unfolding sparse_align
  sparse-most = when-most g.features.sparse _ 0 32 z.places.cluster-most (lit≤ tt)

  inode-most : g.inodesize ≤ 2048
  inode-most =
      let w : 2 ^ g.inodelog ≤ 2 ^ 11 = pow_mono {j = 11} z.sizes.inode-most in
      omega (arith, z.sizes.inode-power)

-- a directory block is no smaller than a block, and 4096 bytes at least
dir-log : (g : Geometry) → Answered g → g.dirblocklog ≡ when (ltb g.blocksize 4096) 12 g.blocklog
unfolding geometry_of
dir-log g a =
    let n = ap (λ (c : Computed). c.number) a.accepted in
    let e = sym (ap (λ (c : Computed). c.geometry) a.accepted) ∙ its-geometry a.options a.device a.logical a.physical n in
    subst (λ (x : Geometry). x.dirblocklog ≡ when (ltb x.blocksize 4096) 12 x.blocklog) (sym e) refl

-- zeros are the number 0
nth-zero : (m i : ℕ) → ◌≡◌ {A = ℕ} (get_or (replicate m 0) i 0) 0
nth-zero zero i = refl
nth-zero (suc m) zero = refl
nth-zero (suc m) (suc i) = nth-zero m i

at-zeros : (n off m : ℕ) → be_at n off (replicate m 0) ≡ 0
unfolding be_at
at-zeros zero off m = refl
at-zeros (suc n) off m = rw (nth-zero m off, at-zeros n (suc off) m) (let e : 0 * 256 ^ n + 0 ≡ 0 = omega arith in e)

-- ---- the fields

many : (large : Bool) (g : Geometry) (s : SbState) → 48 ≤ length (fields_with large g s)
unfolding fields_with
many true g s = lit≤ tt
many false g s = lit≤ tt

module _ (g : Geometry) (s : SbState) (zs : List ℕ) where
  -- a number before the log's sector
  early : (large : Bool) → Holds (fields_with large g s) zs → (i off n v : ℕ) → T (ltb i 48) → nth (fields_with large g s) i ≡ field off n v → v < 256 ^ n → be_at n off zs ≡ v
  early large held i off n v t e b = read_number (fields_with large g s) zs held i off n v (omega (arith, ltb→lt i 48 t, many large g s)) e b

  -- and one behind it, which stands two fields further on where that is named
  late : (large : Bool) → Holds (fields_with large g s) zs → (i off n v : ℕ) → i + 2 < length (fields_with true g s) → nth (fields_with true g s) (i + 2) ≡ field off n v
      → i < length (fields_with false g s) → nth (fields_with false g s) i ≡ field off n v → v < 256 ^ n → be_at n off zs ≡ v
  late true held i off n v l e m f b = read_number (fields_with true g s) zs held (i + 2) off n v l e b
  late false held i off n v l e m f b = read_number (fields_with false g s) zs held i off n v m f b

-- ---- a superblock with the numbers of group k's

-- what a state and its bytes say, but for the geometry's numbers
pub record Stated (g : Geometry) (u : List ℕ) (k : ℕ) (s : SbState) : Type 0 where
  pub size : length s.uuid ≡ 16
  pub id : s.uuid ≡ u
  pub bitmap : s.rbmino ≡ when (eqb k 0) (root_ino g + 1) null64
  pub bitmap-fits : s.rbmino < 2 ^ 64
  pub summary : s.rsumino ≡ when (eqb k 0) (root_ino g + 2) null64
  pub summary-fits : s.rsumino < 2 ^ 64
  pub mark : bit s.inprogress ≡ bit (not (eqb k 0))
  pub count : s.icount ≡ when (eqb k 0) 64 0
  pub count_fits : s.icount < 2 ^ 64
  pub free : s.ifree ≡ when (eqb k 0) 61 0
  pub free-fits : s.ifree < 2 ^ 64

module _ (g : Geometry) (z : Bounds g) (a : Answered g) (l : length g.label ≡ 12) (u : List ℕ) (k : ℕ) (s : SbState) (m : Stated g u k s) (size : ℕ) (room : 264 ≤ size) where
  abbrev ys : List ℕ
  ys = replicate size 0

  long : 264 ≤ length ys
  long = omega (arith, length-replicate {A = ℕ} size 0)

  abbrev zs : List ℕ
  zs = sb_bytes g s ys

  held : Holds (fields_with (large_sector g) g s) zs
  unfolding sb_fields
  held = sb-holds g s m.size l ys long

  dir-most : g.dirblocklog - g.blocklog ≤ 12
  dir-most =
      let b = z.sizes.block-most in
      let e = dir-log g a in
      let w = when-most (ltb g.blocksize 4096) 12 g.blocklog 14 (lit≤ tt) b in
      let c = z.sizes.block-least in
      omega arith

  -- the log's sector, or the zeros that stood there
  unnamed : (n off : ℕ) → off + n ≤ 224 → T (clear off n (spans (fields_with false g s))) → large_sector g ≡ false → be_at n off zs ≡ 0
  unfolding sb_bytes sb_fields
  unnamed n off h t e =
      let c = subst (λ (b : Bool). T (clear off n (spans (fields_with b g s)))) (sym e) t in
      at_part n off zs
      ∙ ap (be_at n 0) (stamped-before off n 224 (write_fields (fields_with (large_sector g) g s) ys) h ∙ write-clear (fields_with (large_sector g) g s) off n ys c)
      ∙ sym (at_part n off ys)
      ∙ at-zeros n off size

  log-clear : T (clear 193 1 (spans (fields_with false g s)))
  unfolding fields_with be_bytes
  log-clear = rw (m.size, l) tt

  size-clear : T (clear 194 2 (spans (fields_with false g s)))
  unfolding fields_with be_bytes
  size-clear = rw (m.size, l) tt

  log-at : (large : Bool) → large_sector g ≡ large → (be_at 1 193 zs ≡ when large g.lsectlog 0) × (be_at 2 194 zs ≡ when large g.lsectsize 0)
  unfolding fields_with when
  log-at true e =
      let its : Holds (fields_with true g s) zs = subst (λ (b : Bool). Holds (fields_with b g s) zs) e held in (
        read_number (fields_with true g s) zs its 38 193 1 g.lsectlog (lit< tt) refl (omega (arith, z.sizes.log-sector-log, z.sizes.sector-block, z.sizes.block-most)),
        read_number (fields_with true g s) zs its 39 194 2 g.lsectsize (lit< tt) refl (answer-fits g g.sectsize z refl).2,
      )
  log-at false e = (unnamed 1 193 (omega arith) log-clear e, unnamed 2 194 (omega arith) size-clear e)

  pub superblock-at : be_at 8 56 (sb_bytes g s (replicate size 0)) ≡ root_named g k → be_at 8 144 (sb_bytes g s (replicate size 0)) ≡ free_named g k
      → SuperblockAt g u k (sb_bytes g s (replicate size 0))
  unfolding fields_with logstart_of fsb_of
  superblock-at root blocks =
      let large = large_sector g in
      let number = early g s zs large held in
      let behind = late g s zs large held in
      let fits = answer-fits g g.sectsize z refl in
      let bm = block-most g z in
      let sm = sector-most g z in
      let im = inode-most g z in
      let ip = inodes-most g z in
      let sizes = z.sizes in
      let groups = z.groups in
      let few = few-blocks g z in
      record {
        magic = number 0 0 4 sb_magic tt refl (lit< tt);
        blocksize = number 1 4 4 g.blocksize tt refl (omega arith);
        dblocks = number 2 8 8 g.dblocks tt refl (omega arith);
        rblocks = number 3 16 8 0 tt refl (lit< tt);
        rextents = number 4 24 8 0 tt refl (lit< tt);
        uuid = uuid-back g s m.size l ys long ∙ m.id;
        logstart = number 6 48 8 (g.logagno * 2 ^ g.agblklog + g.log_agbno) tt refl fits.1.1;
        rootino = root;
        rbmino = number 8 64 8 s.rbmino tt refl m.bitmap-fits ∙ m.bitmap;
        rsumino = number 9 72 8 s.rsumino tt refl m.summary-fits ∙ m.summary;
        rextsize = number 10 80 4 (rext_size g.blocksize) tt refl (omega (arith, rext-most g.blocksize));
        agblocks = number 11 84 4 g.agsize tt refl (omega (arith, groups.group-most));
        agcount = number 12 88 4 g.agcount tt refl (omega (arith, groups.count_most));
        rbmblocks = number 13 92 4 0 tt refl (lit< tt);
        logblocks = number 14 96 4 g.logblocks tt refl (omega (arith, z.places.log-blocks));
        versionnum = number 15 100 2 (version_of g) tt refl (version-most g);
        sectsize = number 16 102 2 g.sectsize tt refl (omega arith);
        inodesize = number 17 104 2 g.inodesize tt refl (omega arith);
        inopblock = number 18 106 2 g.inopblock tt refl (omega (arith, sizes.inodes-power));
        fname = label-back g s m.size l ys long;
        blocklog = number 20 120 1 g.blocklog tt refl (omega (arith, sizes.block-most));
        sectlog = number 21 121 1 g.sectlog tt refl (omega (arith, sizes.block-most, sizes.sector-block));
        inodelog = number 22 122 1 g.inodelog tt refl (omega (arith, sizes.inode-most));
        inopblog = number 23 123 1 g.inopblog tt refl (omega (arith, sizes.inodes-log, sizes.block-most));
        agblklog = number 24 124 1 g.agblklog tt refl (omega (arith, groups.log-most));
        rextslog = number 25 125 1 0 tt refl (lit< tt);
        inprogress = number 26 126 1 (bit s.inprogress) tt refl (omega (arith, bit_le s.inprogress)) ∙ m.mark;
        imaxpct = number 27 127 1 g.imaxpct tt refl (omega (arith, sizes.imaxpct-most));
        icount = number 28 128 8 s.icount tt refl m.count_fits ∙ m.count;
        ifree = number 29 136 8 s.ifree tt refl m.free-fits ∙ m.free;
        fdblocks = blocks;
        frextents = number 31 152 8 0 tt refl (lit< tt);
        uquotino = number 32 160 8 0 tt refl (lit< tt);
        gquotino = number 33 168 8 0 tt refl (lit< tt);
        inoalignmt = number 34 180 4 (align_of g.features.sparse g.inodesize g.blocksize) tt refl (omega (arith, align-most g z));
        unit = number 35 184 4 0 tt refl (lit< tt);
        width = number 36 188 4 0 tt refl (lit< tt);
        dirblklog = number 37 192 1 (g.dirblocklog - g.blocklog) tt refl (omega (arith, dir-most));
        logsectlog = (log-at large refl).0;
        logsectsize = (log-at large refl).1;
        logsunit = behind 38 196 4 (logsunit_of (lsunit_bytes g.lsectsize g.blocksize)) (lit< tt) refl (lit< tt) refl (omega (arith, unit-most g.lsectsize g.blocksize bm));
        features2 = behind 39 200 4 features2_bits (lit< tt) refl (lit< tt) refl (lit< tt);
        bad-features2 = behind 40 204 4 features2_bits (lit< tt) refl (lit< tt) refl (lit< tt);
        compat = behind 41 208 4 0 (lit< tt) refl (lit< tt) refl (lit< tt);
        ro-compat = behind 42 212 4 (ro_compat g.features) (lit< tt) refl (lit< tt) refl (omega (arith, ro-most g.features));
        incompat = behind 43 216 4 (in_compat g.features) (lit< tt) refl (lit< tt) refl (omega (arith, in-most g.features));
        log-incompat = behind 44 220 4 0 (lit< tt) refl (lit< tt) refl (lit< tt);
        spino-align = behind 45 228 4 (sparse_align g.features.sparse g.inodesize g.blocksize) (lit< tt) refl (lit< tt) refl (omega (arith, sparse-most g z));
        pquotino = behind 46 232 8 0 (lit< tt) refl (lit< tt) refl (lit< tt);
        lsn = behind 47 240 8 0 (lit< tt) refl (lit< tt) refl (lit< tt);
      }
