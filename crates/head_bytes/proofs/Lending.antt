-- What a lent sector or block leaves in the head.
-- Assumes nothing.
use mathlib.Core.Path.{◌≡◌, refl, ap, ◌∙◌}
use mathlib.Core.Bool.{true}
use mathlib.Core.List.{List}
use Prim.Native.Nat.{ℕ, ◌+◌, ◌*◌, ◌-◌, ◌≤◌}
use native.Mathlib.Omega.{arith}
use lib.ListN.{length, take, drop, replicate, length-drop, length-replicate}
use lib.Seq.{length-take-le}
use borrow.Author.Tests.{le-leb}
use borrow.Rule.Slice.PartMut.{put_mid}
use Rattle.endian.specs.Bytes.{patch}
use Rattle.endian.specs.Fields.{write_fields}
use Rattle.endian.proofs.Laws.{part-back}
use Rattle.endian.proofs.Fields.{write-length}
use Rattle.crc.proofs.Laws.{length-stamped}
use Rattle.structs.specs.Written.{Written}
use Rattle.structs.specs.Sizes.{is_sector, is_block}
use Rattle.structs.proofs.Written.{written_in}
use Rattle.geometry.specs.declared.Geometry.{Geometry}
use Rattle.geometry_layout.specs.Places.{daddr_of}
use Rattle.btree.specs.Leaf.{leaf_number, leaf_fields, leaf_bytes}
use Rattle.head_leaves.specs.Leaves.{list_number}
use Rattle.ag.specs.declared.agf.Agf.{Agf}
use Rattle.ag.specs.declared.agi.Agi.{Agi}
use Rattle.ag.specs.Agf.{agf_fields, agf_bytes}
use Rattle.ag.specs.Agi.{agi_fields, agi_bytes}
use Rattle.ag.specs.Agfl.{agfl_number, agfl_fields, agfl_bytes}
use Rattle.sb.specs.declared.SbState.{SbState}
use Rattle.sb.specs.Superblock.{sb_fields, sb_bytes}
use Rattle.head_frame.specs.declared.Frame.{Frame}
use Rattle.head_bytes.specs.Head.{root_bytes}
use Rattle.head_bytes.specs.Parts.{sector_on}

-- ---- lengths: an encoder leaves as many bytes as it was lent, a leaf has as many as asked

pub sb-length : (g : Geometry) (s : SbState) (xs : List ℕ) → length (sb_bytes g s xs) ≡ length xs
unfolding sb_bytes
sb-length g s xs = length-stamped 224 (write_fields (sb_fields g s) xs) ∙ write-length (sb_fields g s) xs

pub agf-length : (a : Agf) (uuid xs : List ℕ) → length (agf_bytes a uuid xs) ≡ length xs
unfolding agf_bytes
agf-length a uuid xs = length-stamped 216 (write_fields (agf_fields a uuid) xs) ∙ write-length (agf_fields a uuid) xs

pub agi-length : (a : Agi) (uuid xs : List ℕ) → length (agi_bytes a uuid xs) ≡ length xs
unfolding agi_bytes
agi-length a uuid xs = length-stamped 312 (write_fields (agi_fields a uuid) xs) ∙ write-length (agi_fields a uuid) xs

pub agfl-length : (agno : ℕ) (uuid : List ℕ) (first : ℕ) (list xs : List ℕ) → length (agfl_bytes agno uuid first list xs) ≡ length xs
unfolding agfl_bytes
agfl-length agno uuid first list xs =
    length-stamped 32 (write_fields (agfl_fields (length xs) agno uuid first list) xs) ∙ write-length (agfl_fields (length xs) agno uuid first list) xs

pub leaf-length : (magic daddr agno : ℕ) (uuid recs : List ℕ) (n len : ℕ) → length (leaf_bytes magic daddr agno uuid recs n len) ≡ len
unfolding leaf_bytes
leaf-length magic daddr agno uuid recs n len =
    length-stamped 52 (write_fields (leaf_fields magic daddr agno uuid recs n) (replicate len 0)) ∙ write-length (leaf_fields magic daddr agno uuid recs n) (replicate len 0) ∙ length-replicate len 0

-- ---- parts

pub part_length : (a n : ℕ) (xs : List ℕ) → a + n ≤ length xs → length (take (a + n - a) (drop a xs)) ≡ n
part_length a n xs h =
    let z : a + n - a ≡ n = omega arith in
    let d : length (drop a xs) ≡ length xs - a = length-drop a xs in
    rw z (length-take-le n (drop a xs) (omega arith))

-- a sector that its encoder accepts
pub lent-sector : (a n : ℕ) (number : ℕ → ℕ) (f : List ℕ → List ℕ) (xs ys : List ℕ) {r : ℕ} → a + n ≤ length xs → number n ≡ 0 → ((zs : List ℕ) → length (f zs) ≡ length zs)
    → Written (number (length (take (a + n - a) (drop a xs)))) (f (take (a + n - a) (drop a xs))) (take (a + n - a) (drop a xs)) r ys
    → put_mid a (a + n - a) xs ys ≡ sector_on a n f xs
unfolding sector_on
lent-sector a n number f xs ys h e l w =
    let p = part_length a n xs h in
    let k : ys ≡ f (take (a + n - a) (drop a xs)) = written_in w (ap number p ∙ e) in
    let z : a + n - a ≡ n = omega arith in
    part-back a n xs ys h (ap (λ (v : List ℕ). length v) k ∙ l (take (a + n - a) (drop a xs)) ∙ p)
    ∙ ap (λ (v : List ℕ). patch a v xs) (k ∙ ap (λ (m : ℕ). f (take m (drop a xs))) z)

-- a block that its leaf accepts
pub lent-root : (w : Frame) (uuid recs : List ℕ) (magic b n daddr len : ℕ) (number : ℕ → ℕ) (xs ys : List ℕ) {old : List ℕ} {r : ℕ} → len ≡ w.block
    → daddr ≡ daddr_of w.block w.agsize w.agno b → number w.block ≡ 0 → b * w.block + w.block ≤ length xs
    → Written (number len) (leaf_bytes magic daddr w.agno uuid recs n len) old r ys
    → put_mid (b * w.block) (b * w.block + w.block - b * w.block) xs ys ≡ patch (b * w.block) (root_bytes w uuid magic b recs n) xs
unfolding root_bytes
lent-root w uuid recs magic b n daddr len number xs ys e d z h v =
    let k : ys ≡ leaf_bytes magic daddr w.agno uuid recs n len = written_in v (ap number e ∙ z) in
    part-back (b * w.block) w.block xs ys h (ap (λ (l : List ℕ). length l) k ∙ leaf-length magic daddr w.agno uuid recs n len ∙ e)
    ∙ ap (λ (l : List ℕ). patch (b * w.block) l xs) (k ∙ rw (e, d) refl)

-- ---- numbers of blocks that are accepted

pub leaf-accepted : (used len : ℕ) → is_block len ≡ true → 56 + used ≤ len → leaf_number used len ≡ 0
unfolding leaf_number
leaf-accepted used len e h = rw (e, le-leb (56 + used) len h) refl

pub list-accepted : (size n len : ℕ) → is_block len ≡ true → n ≤ 64 → 56 + size * n ≤ len → list_number size n len ≡ 0
unfolding list_number
list-accepted size n len e h k = rw (e, le-leb n 64 h) (leaf-accepted (size * n) len e k)

pub agfl-accepted : (n len : ℕ) → is_sector len ≡ true → n ≤ 64 → agfl_number n len ≡ 0
unfolding agfl_number
agfl-accepted n len e h = rw (e, le-leb n 64 h) refl
