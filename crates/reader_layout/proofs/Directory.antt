-- THE ROOT DIRECTORY of the root chunk, field by field.
-- Assumes nothing.
use mathlib.Core.Path.{◌≡◌, refl, ap, sym, subst, ◌∙◌}
use mathlib.Core.Bool.{Bool, true, false}
use mathlib.Core.List.{List}
use Prim.Native.Nat.{ℕ, ◌+◌, ◌*◌, ◌^◌, ◌≤◌, ◌<◌}
use native.Mathlib.Omega.{arith}
use borrow.Author.Tests.{ltb-true}
use lib.Dec.{ltb, lit<}
use lib.IntN.{ℤ, pos, negsuc}
use lib.ListN.{length}
use Rattle.arith.proofs.Both.{left-true, right-true}
use Rattle.endian.specs.Bytes.{be_at}
use Rattle.endian.specs.Fields.{field, nth}
use Rattle.structs.proofs.Reading.{read_number}
use Rattle.params.specs.declared.Timestamp.{Timestamp}
use Rattle.inode_time.specs.Time.{second, not_early, shifted, in32, time_inside, time_raw, decoded}
use Rattle.inode_time.proofs.Back.{time-back}
use Rattle.inode.specs.declared.dinode.Dinode.{Dinode}
use Rattle.inode.specs.Dinode.{is_big, raw, dinode_fields, dinode_bytes}
use Rattle.inode.specs.Directory.{empty_dir}
use Rattle.inode.proofs.Held.{dinode-holds, dinode-data}
use Rattle.geometry.specs.declared.Geometry.{Geometry}
use Rattle.geometry_layout.specs.Bounds.{Bounds}
use Rattle.geometry_places.specs.Answers.{root_chunk, root_ino}
use Rattle.chunk.specs.Inodes.{flags_of, root_inode}
use Rattle.chunk.specs.Chunk.{chunk_bytes}
use Rattle.chunk.proofs.Chunks.{flags-big}
use Rattle.reader_layout.specs.Chunk.{inode_in, DirectoryAt}
use Rattle.reader_layout.proofs.Chunk.{free, free-long, first-inode, dir-few, size-least}

-- ---- a time that can be stored has 64 bits

seconds-fit : (s : ℤ) → not_early s ≡ true → shifted s < 2 ^ 32 → in32 s < 2 ^ 32
unfolding shifted in32
seconds-fit (pos n) e h = omega arith
seconds-fit (negsuc n) e h = omega arith

raw-fits : (big : Bool) (s : ℤ) (n : ℕ) → time_inside big s n ≡ true → time_raw big s n < 2 ^ 64
unfolding time_inside time_raw
raw-fits false s n e =
    let a = ltb-true n second (left-true (ltb n second) _ e) in
    let b = right-true (ltb n second) _ e in
    let c = ltb-true (shifted s) (2 ^ 32) (right-true (not_early s) _ b) in
    let d = seconds-fit s (left-true (not_early s) _ b) c in
    omega arith
raw-fits true s n e = ltb-true (shifted s * second + n) (2 ^ 64) (right-true (not_early s) _ (right-true (ltb n second) _ e))

module _ (g : Geometry) (z : Bounds g) (u : List ℕ) (u16 : length u ≡ 16) (t : Timestamp) (inside : time_inside g.features.bigtime t.secs t.nsecs ≡ true) (seed : ℕ) where
  abbrev flags : ℕ
  flags = flags_of g.features

  abbrev d : Dinode
  d = root_inode (root_ino g) flags t

  abbrev fork : List ℕ
  fork = empty_dir (root_ino g)

  abbrev old : List ℕ
  old = free (root_ino g) g.inodesize flags t u seed 0

  abbrev zs : List ℕ
  zs = dinode_bytes d fork u old

  fits : 176 + length fork ≤ length old
  fits = omega (arith, free-long (root_ino g) g.inodesize flags t u seed 0, size-least g z u u16 t seed, dir-few (root_ino g))

  stored-inside : time_inside (is_big flags) t.secs t.nsecs ≡ true
  stored-inside = ap (λ (b : Bool). time_inside b t.secs t.nsecs) (flags-big g.features) ∙ inside

  time-at : (i off : ℕ) → i < 20 → nth (dinode_fields d fork u) i ≡ field off 8 (raw flags t) → decoded g.features.bigtime (be_at 8 off zs) ≡ record { secs = t.secs; nsecs = t.nsecs }
  unfolding dinode_fields
  time-at i off l e =
      ap (decoded g.features.bigtime)
      (read_number (dinode_fields d fork u) zs (dinode-holds d fork u old u16 fits) i off 8 (raw flags t) l e (raw-fits (is_big flags) t.secs t.nsecs stored-inside))
      ∙ ap (λ (b : Bool). decoded b (raw flags t)) (sym (flags-big g.features))
      ∙ time-back (is_big flags) t.secs t.nsecs stored-inside

  directory-there : DirectoryAt g t zs
  unfolding dinode_fields
  directory-there =
      let held = dinode-holds d fork u old u16 fits in
      record {
        mode = read_number (dinode_fields d fork u) zs held 1 2 2 0x41ed (lit< tt) refl (lit< tt);
        format = read_number (dinode_fields d fork u) zs held 3 5 1 1 (lit< tt) refl (lit< tt);
        nlink = read_number (dinode_fields d fork u) zs held 4 16 4 2 (lit< tt) refl (lit< tt);
        atime = time-at 5 32 (lit< tt) refl;
        mtime = time-at 6 40 (lit< tt) refl;
        ctime = time-at 7 48 (lit< tt) refl;
        size = read_number (dinode_fields d fork u) zs held 8 56 8 (length fork) (lit< tt) refl (omega (arith, dir-few (root_ino g)));
        crtime = time-at 16 144 (lit< tt) refl;
        data-fork = dinode-data d fork u old u16 fits;
      }

  pub directory-at : DirectoryAt g t (inode_in g 0 (chunk_bytes g (root_chunk g) u t seed))
  unfolding chunk_bytes inode_in root_ino
  directory-at = subst (λ (xs : List ℕ). DirectoryAt g t xs) (sym (first-inode (root_ino g) g.inodesize flags t u seed)) directory-there
