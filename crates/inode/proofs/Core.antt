-- The four times of an inode, and the order in which its parts are written.
-- Assumes nothing.
use mathlib.Core.Path.{◌≡◌, refl, ap, ◌∙◌}
use mathlib.Core.List.{List, [], ◌∷◌, ◌++◌}
use mathlib.Core.Bool.{Bool, true, false, ◌&&◌}
use Prim.Native.Nat.{ℕ, ◌^◌, ◌≤◌, ◌<◌}
use native.Mathlib.Omega.{arith}
use lib.Dec.{eqb, lit<}
use borrow.Author.Tests.{lt-ltb, le-ltb}
use Rattle.endian.specs.Bytes.{be_bytes, patch}
use Rattle.endian.specs.Fields.{write_fields}
use Rattle.structs.specs.Written.{require}
use Rattle.structs.proofs.Written.{passed}
use Rattle.params.specs.declared.Timestamp.{Timestamp}
use Rattle.inode.specs.declared.dinode.Dinode.{Dinode}
use Rattle.inode_time.specs.Time.{time_inside, value_if, StoredAs}
use Rattle.inode.specs.Dinode.{is_big, time_storable, raw, or_else, times_number, TimesAs, core_fields, dinode_fields}
use Rattle.inode.specs.Directory.{empty_dir, EmptyDir}

-- ---- the number of the times
or-require : (b : Bool) (x y : ℕ) → x ≡ require 26 b 0 → or_else (eqb x 0) x y ≡ require 26 b y
or-require true x y e = rw e refl
or-require false x y e = rw e refl

pub times-are : (flags2 : ℕ) (big : Bool) (a m c r : Timestamp) (na nm nc nr va vm vc vr n1 n2 n : ℕ) → big ≡ is_big flags2
    → StoredAs big a.secs a.nsecs na va → StoredAs big m.secs m.nsecs nm vm → StoredAs big c.secs c.nsecs nc vc → StoredAs big r.secs r.nsecs nr vr
    → n1 ≡ or_else (eqb nc 0) nc nr → n2 ≡ or_else (eqb nm 0) nm n1 → n ≡ or_else (eqb na 0) na n2
    → TimesAs flags2 a m c r n va vm vc vr
unfolding times_number
times-are flags2 big a m c r na nm nc nr va vm vc vr n1 n2 n b sa sm sc sr e1 e2 e =
    let f1 = e1 ∙ or-require (time_inside big c.secs c.nsecs) nc nr sc.number_is ∙ ap (require 26 (time_inside big c.secs c.nsecs)) sr.number_is in
    let f2 = e2 ∙ or-require (time_inside big m.secs m.nsecs) nm n1 sm.number_is ∙ ap (require 26 (time_inside big m.secs m.nsecs)) f1 in
    let f = e ∙ or-require (time_inside big a.secs a.nsecs) na n2 sa.number_is ∙ ap (require 26 (time_inside big a.secs a.nsecs)) f2 in
    record {
      number_is = rw b at f;
      atime-is = rw b at sa.value-is;
      mtime-is = rw b at sm.value-is;
      ctime-is = rw b at sc.value-is;
      crtime-is = rw b at sr.value-is;
    }

-- a time that is refused is refused whatever follows
four-refuse : (a b c d : Bool) (x : ℕ) → (require 26 a (require 26 b (require 26 c (require 26 d 0))) ≡ 0 → ⊥)
    → require 26 a (require 26 b (require 26 c (require 26 d x))) ≡ require 26 a (require 26 b (require 26 c (require 26 d 0)))
four-refuse true true true true x h = absurd (h refl)
four-refuse true true true false x h = refl
four-refuse true true false d x h = refl
four-refuse true false c d x h = refl
four-refuse false b c d x h = refl

pub times-refuse : (flags2 : ℕ) (a m c r : Timestamp) (x : ℕ) → (times_number flags2 a m c r 0 ≡ 0 → ⊥) → times_number flags2 a m c r x ≡ times_number flags2 a m c r 0
unfolding times_number
times-refuse flags2 a m c r x h = four-refuse (time_storable flags2 a) (time_storable flags2 m) (time_storable flags2 c) (time_storable flags2 r) x h

-- times that are accepted
pub record Fit (flags2 : ℕ) (a m c r : Timestamp) : Type 0 where
  pub a-fits : time_storable flags2 a ≡ true
  pub m-fits : time_storable flags2 m ≡ true
  pub c-fits : time_storable flags2 c ≡ true
  pub r-fits : time_storable flags2 r ≡ true

pub times-fit : (flags2 : ℕ) (a m c r : Timestamp) → times_number flags2 a m c r 0 ≡ 0 → Fit flags2 a m c r
unfolding times_number
times-fit flags2 a m c r e =
    let p = passed 26 (require 26 (time_storable flags2 m) (require 26 (time_storable flags2 c) (require 26 (time_storable flags2 r) 0))) (time_storable flags2 a) (lit< tt) e in
    let q = passed 26 (require 26 (time_storable flags2 c) (require 26 (time_storable flags2 r) 0)) (time_storable flags2 m) (lit< tt) p.1 in
    let s = passed 26 (require 26 (time_storable flags2 r) 0) (time_storable flags2 c) (lit< tt) q.1 in
    let t = passed 26 0 (time_storable flags2 r) (lit< tt) s.1 in
    record { a-fits = p.0; m-fits = q.0; c-fits = s.0; r-fits = t.0 }

pub times-pass : (flags2 : ℕ) (a m c r : Timestamp) (x : ℕ) → Fit flags2 a m c r → times_number flags2 a m c r x ≡ x
unfolding times_number
times-pass flags2 a m c r x f = rw (f.a-fits, f.m-fits, f.c-fits, f.r-fits) refl

-- ---- core, UUID, data fork
pub dinode-written : (d : Dinode) (fork_data uuid : List ℕ) (n at mt ct rt : ℕ) (xs ys zs ws : List ℕ)
    → TimesAs d.flags2 d.atime d.mtime d.ctime d.crtime n at mt ct rt → Fit d.flags2 d.atime d.mtime d.ctime d.crtime
    → ys ≡ write_fields (core_fields d.mode d.format d.nlink at mt ct d.size d.flags d.generation d.changecount d.flags2 rt d.ino) xs
    → zs ≡ patch 160 uuid ys → ws ≡ patch 176 fork_data zs → ws ≡ write_fields (dinode_fields d fork_data uuid) xs
unfolding dinode_fields
dinode-written d fork_data uuid n at mt ct rt xs ys zs ws t f a b c =
    let ea : at ≡ raw d.flags2 d.atime = t.atime-is ∙ ap (λ (x : Bool). value_if x (raw d.flags2 d.atime)) f.a-fits in
    let em : mt ≡ raw d.flags2 d.mtime = t.mtime-is ∙ ap (λ (x : Bool). value_if x (raw d.flags2 d.mtime)) f.m-fits in
    let ec : ct ≡ raw d.flags2 d.ctime = t.ctime-is ∙ ap (λ (x : Bool). value_if x (raw d.flags2 d.ctime)) f.c-fits in
    let er : rt ≡ raw d.flags2 d.crtime = t.crtime-is ∙ ap (λ (x : Bool). value_if x (raw d.flags2 d.crtime)) f.r-fits in
    c ∙ ap (patch 176 fork_data) (b ∙ ap (patch 160 uuid) (rw (ea, em, ec, er) at a))

-- ---- an empty directory
pub dir-short : (parent : ℕ) (bytes : List ℕ) (len : ℕ) → parent ≤ 0xffff_ffff → (bytes ≡ 0 ∷ (0 ∷ (be_bytes 4 parent ++ (0 ∷ (0 ∷ (0 ∷ (0 ∷ []))))))) × (len ≡ 6) → EmptyDir parent bytes len
unfolding empty_dir be_bytes
dir-short parent bytes len h p =
    let t = lt-ltb parent (2 ^ 32) (omega arith) in
    record { bytes-are = rw t p.0; len_is = rw t p.1 }

pub dir-long : (parent : ℕ) (bytes : List ℕ) (len : ℕ) → 0xffff_ffff < parent → (bytes ≡ 0 ∷ (1 ∷ be_bytes 8 parent)) × (len ≡ 10) → EmptyDir parent bytes len
unfolding empty_dir be_bytes
dir-long parent bytes len h p =
    let t = le-ltb parent (2 ^ 32) (omega arith) in
    record { bytes-are = rw t p.0; len_is = rw t p.1 }

-- ---- tests
pub both_left : (a b : Bool) → a && b ≡ true → a ≡ true
both_left true b e = refl
both_left false b e = e

pub both_right : (a b : Bool) → a && b ≡ true → b ≡ true
both_right true b e = e
both_right false b e = cc
