-- Bytes that begin with a superblock name its geometry and UUID, whatever its state is and whatever stands behind it.
-- Assumes nothing.
use mathlib.Core.Path.{◌≡◌, ap, ap₂, ◌∙◌}
use mathlib.Core.Bool.{true}
use mathlib.Core.List.{List}
use Prim.Native.Nat.{ℕ, ◌+◌, ◌≤◌, ◌<◌, ◌^◌}
use native.Mathlib.Nat.{pow-le-pow_right, le_trans}
use native.Mathlib.Omega.{arith}
use lib.Dec.{lit<, lit≤}
use lib.ListN.{length, take, replicate, length-replicate}
use Rattle.arith.specs.Choice.{bit}
use Rattle.arith.proofs.Laws.{bit_le}
use Rattle.endian.specs.Bytes.{be_at}
use Rattle.endian.specs.Fields.{part}
use Rattle.geometry.specs.declared.Geometry.{Geometry}
use Rattle.geometry_answers.specs.Named.{named_answer, names_of, is_answer}
use Rattle.geometry_answers.proofs.Exact.{sound, answer-again}
use Rattle.geometry_layout.specs.Bounds.{Bounds}
use Rattle.geometry_layout.proofs.Bounding.{answer-bounds}
use Rattle.geometry_layout.proofs.Inside.{few-blocks}
use Rattle.sb.specs.declared.SbState.{SbState}
use Rattle.sb.specs.Superblock.{sb_bytes}
use Rattle.sb.proofs.Read as read
use Rattle.reader_names.specs.Named.{features_at, names_at, named_by, uuid_at}
use Rattle.reader_names.proofs.Inside.{same_at, part-first}
use Rattle.reader_names.proofs.Features.{ro-small, in_small, features-back}

-- what is named fits its field
record Small (g : Geometry) : Type 0 where
  pub dblocks : g.dblocks < 256 ^ 8
  pub agsize : g.agsize < 256 ^ 4
  pub blocksize : g.blocksize < 256 ^ 4
  pub sectsize : g.sectsize < 256 ^ 2
  pub inodesize : g.inodesize < 256 ^ 2
  pub imaxpct : g.imaxpct < 256 ^ 1
  pub logblocks : g.logblocks < 256 ^ 4
  pub sector : 512 ≤ g.sectsize

small : (g : Geometry) → Bounds g → Small g
small g b =
    let s = b.sizes in
    let n = b.groups in
    let block : 2 ^ g.blocklog ≤ 2 ^ 14 = pow-le-pow_right (lit< tt) s.block-most in
    let low : 2 ^ 9 ≤ 2 ^ g.sectlog = pow-le-pow_right (lit< tt) s.sector-least in
    let high : 2 ^ g.sectlog ≤ 2 ^ 14 = pow-le-pow_right (lit< tt) (le_trans s.sector-block s.block-most) in
    let inode : 2 ^ g.inodelog ≤ 2 ^ 11 = pow-le-pow_right (lit< tt) s.inode-most in
    record {
      dblocks = let f = few-blocks g b in omega arith;
      agsize = omega (arith, n.group-most);
      blocksize = omega (arith, s.block-power);
      sectsize = omega (arith, s.sector-power);
      inodesize = omega (arith, s.inode-power);
      imaxpct = omega (arith, s.imaxpct-most);
      logblocks = omega (arith, b.places.log-blocks);
      sector = omega (arith, s.sector-power);
    }

-- a sector of zeros, for the superblock
abbrev lent : Geometry → List ℕ
lent g = replicate g.sectsize 0

module _ (g : Geometry) (s : SbState) (u : length s.uuid ≡ 16) (l : length g.label ≡ 12) (a : is_answer g ≡ true) (xs : List ℕ) (b : take g.sectsize xs ≡ sb_bytes g s (lent g)) where
  fits : Small g
  fits = small g (answer-bounds g l a)

  room : 264 ≤ length (lent g)
  room = let f = fits.sector in let e = length-replicate {A = ℕ} g.sectsize 0 in omega arith

  bytes-are : (off n : ℕ) → off + n ≤ 264 → part off n xs ≡ part off n (sb_bytes g s (lent g))
  bytes-are off n h = part-first g.sectsize off n xs (sb_bytes g s (lent g)) (let f = fits.sector in omega arith) b

  number_is : (n off : ℕ) → off + n ≤ 264 → be_at n off xs ≡ be_at n off (sb_bytes g s (lent g))
  number_is n off h = same_at n off xs (sb_bytes g s (lent g)) (bytes-are off n h)

  -- A SUPERBLOCK NAMES WHAT ITS GEOMETRY NAMES
  pub names-back : names_at xs ≡ names_of g
  unfolding names_at names_of
  names-back =
      let d = number_is 8 8 (lit≤ tt) ∙ read.dblocks-back g s u l (lent g) room fits.dblocks in
      let n = number_is 4 84 (lit≤ tt) ∙ read.agblocks-back g s u l (lent g) room fits.agsize in
      let block = number_is 4 4 (lit≤ tt) ∙ read.blocksize-back g s u l (lent g) room fits.blocksize in
      let sector = number_is 2 102 (lit≤ tt) ∙ read.sectsize-back g s u l (lent g) room fits.sectsize in
      let inode = number_is 2 104 (lit≤ tt) ∙ read.inodesize-back g s u l (lent g) room fits.inodesize in
      let percent = number_is 1 127 (lit≤ tt) ∙ read.imaxpct-back g s u l (lent g) room fits.imaxpct in
      let ro = number_is 4 212 (lit≤ tt) ∙ read.ro-compat-back g s u l (lent g) room (ro-small g.features) in
      let incompat = number_is 4 216 (lit≤ tt) ∙ read.incompat-back g s u l (lent g) room (in_small g.features) in
      let on = ap₂ features_at ro incompat ∙ features-back g.features in
      let label = bytes-are 108 12 (lit≤ tt) ∙ read.label-back g s u l (lent g) room in
      λ i.
      record {
        dblocks = d i;
        agsize = n i;
        blocksize = block i;
        sectsize = sector i;
        inodesize = inode i;
        imaxpct = percent i;
        features = on i;
        label = label i;
      }

  -- WHICH IS ITS GEOMETRY, UNDER ITS SIZING
  pub named_back : named_by g.roomy xs ≡ record { number = 0; geometry = g }
  unfolding named_by
  named_back = ap (named_answer g.roomy) names-back ∙ answer-again g (sound g l a)

  -- AND ITS UUID
  pub uuid-back : uuid_at xs ≡ s.uuid
  unfolding uuid_at
  uuid-back = bytes-are 32 16 (lit≤ tt) ∙ read.uuid-back g s u l (lent g) room

  -- sb_logblocks, which is not read for naming
  pub log_back : be_at 4 96 xs ≡ g.logblocks
  log_back = number_is 4 96 (lit≤ tt) ∙ read.logblocks-back g s u l (lent g) room fits.logblocks

  -- sb_inprogress, which is not read for naming
  pub progress-back : be_at 1 126 xs ≡ bit s.inprogress
  progress-back = number_is 1 126 (lit≤ tt) ∙ read.inprogress-back g s u l (lent g) room (omega (arith, bit_le s.inprogress))
