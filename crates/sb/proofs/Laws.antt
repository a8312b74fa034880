-- What the superblock's own proofs cite.
-- Assumes nothing.
use mathlib.Core.Path.{◌≡◌, refl, ap, ◌∙◌}
use mathlib.Core.List.{List, [], ◌∷◌}
use mathlib.Core.Bool.{Bool, ◌||◌}
use Prim.Native.Nat.{ℕ, ◌+◌, ◌*◌, ◌-◌, ◌^◌, ◌≤◌, ◌<◌}
use native.Mathlib.Nat.{pow-le-pow_right, le_trans, mul-le-mul}
use native.Mathlib.Omega.{arith}
use lib.Dec.{ltb, lit<}
use Rattle.arith.specs.Choice.{bit}
use Rattle.geometry.specs.declared.Geometry.{Geometry}
use Rattle.geometry_layout.specs.Bounds.{Bounds}
use Rattle.geometry_layout.specs.Places.{rext_size, lsunit_bytes, logsunit_of, align_of, sparse_align}
use Rattle.sb.specs.declared.SbState.{SbState}
use Rattle.sb.specs.Superblock.{sb_magic, fixed_version, large_sector, version_of, features2_bits, ro_compat, in_compat, logstart_of}
use Rattle.sb.specs.Numbers.{numbers}

pub version-is : (g : Geometry) (large : Bool) (v : ℕ) → v ≡ fixed_version + 0x800 * bit large → large ≡ (ltb 512 g.sectsize || ltb 512 g.lsectsize) → v ≡ version_of g
unfolding version_of large_sector
version-is g large v e l = e ∙ ap (λ (b : Bool). fixed_version + 0x800 * bit b) l

-- the numbers as the code lists them
pub numbers-are : (g : Geometry) (s : SbState) (start version rext align dirlog sunit ro incompat spino progress block sector inode inodes blocklog sectlog inodelog inopblog agblklog imaxpct : ℕ)
    → start ≡ logstart_of g
    → version ≡ version_of g
    → rext ≡ rext_size g.blocksize
    → align ≡ align_of g.features.sparse g.inodesize g.blocksize
    → dirlog ≡ g.dirblocklog - g.blocklog
    → sunit ≡ logsunit_of (lsunit_bytes g.lsectsize g.blocksize)
    → ro ≡ ro_compat g.features
    → incompat ≡ in_compat g.features
    → spino ≡ sparse_align g.features.sparse g.inodesize g.blocksize
    → progress ≡ bit s.inprogress
    → block ≡ g.blocksize
    → sector ≡ g.sectsize
    → inode ≡ g.inodesize
    → inodes ≡ g.inopblock
    → blocklog ≡ g.blocklog
    → sectlog ≡ g.sectlog
    → inodelog ≡ g.inodelog
    → inopblog ≡ g.inopblog
    → agblklog ≡ g.agblklog
    → imaxpct ≡ g.imaxpct
    → ◌≡◌ {A = List ℕ} (sb_magic ∷ block ∷ g.dblocks ∷ 0 ∷ 0 ∷ start ∷ s.rootino ∷ s.rbmino ∷ s.rsumino ∷ rext ∷ g.agsize ∷ g.agcount ∷ 0 ∷ g.logblocks ∷ version ∷ sector ∷ inode ∷ inodes ∷ blocklog ∷ sectlog ∷ inodelog ∷ inopblog ∷ agblklog ∷ 0 ∷ progress ∷ imaxpct ∷ s.icount ∷ s.ifree ∷ s.fdblocks ∷ 0 ∷ 0 ∷ 0 ∷ align ∷ 0 ∷ 0 ∷ dirlog ∷ sunit ∷ features2_bits ∷ features2_bits ∷ 0 ∷ ro ∷ incompat ∷ 0 ∷ spino ∷ 0 ∷ 0 ∷ []) (numbers g s)
numbers-are g s start version rext align dirlog sunit ro incompat spino progress block sector inode inodes blocklog sectlog inodelog inopblog agblklog imaxpct e0 e1 e2 e3 e4 e5 e6 e7 e8 e9 e10 e11 e12 e13 e14 e15 e16 e17 e18 e19 = rw (e0, e1, e2, e3, e4, e5, e6, e7, e8, e9, e10, e11, e12, e13, e14, e15, e16, e17, e18, e19) refl

-- what the bounds of an answer say of its superblock: it has room in a sector, the log's start fits 64 bits, and the log's sector 16
pub answer-fits : (g : Geometry) (len : ℕ) → Bounds g → len ≡ g.sectsize
    → (264 ≤ len) × ((g.agblklog < 64) × (g.logagno * 2 ^ g.agblklog + g.log_agbno < 2 ^ 64)) × (g.lsectsize < 2 ^ 16)
answer-fits g len b e =
    let s = b.sizes in
    let n = b.groups in
    let p = b.places in
    let low : 2 ^ 9 ≤ 2 ^ g.sectlog = pow-le-pow_right (lit< tt) s.sector-least in
    let high : 2 ^ g.sectlog ≤ 2 ^ 14 = pow-le-pow_right (lit< tt) (le_trans s.sector-block s.block-most) in
    let group : g.logagno ≤ 2 ^ 32 = let i = p.log-inside in let c = n.count_most in omega arith in
    let shift : 2 ^ g.agblklog ≤ 2 ^ 30 = pow-le-pow_right (lit< tt) n.log-most in
    let first : g.log_agbno ≤ 10 = rw p.log-start p.head-most in
    let w = s.sector-power in
    let v = s.log-sector in
    (omega (arith, w), (omega (arith, n.log-most), omega (arith, mul-le-mul group shift)), omega (arith, w, v))
