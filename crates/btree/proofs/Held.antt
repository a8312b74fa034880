-- Records and leaf blocks are read back; owners are negative numbers in two's complement.
-- Assumes nothing.
use mathlib.Core.Path.{◌≡◌, refl, ap, ap₂, sym, ◌∙◌}
use mathlib.Core.List.{List, [], ◌∷◌, ◌++◌}
use mathlib.Core.Bool.{true, false}
use Prim.Native.Nat.{ℕ, zero, suc, ◌+◌, ◌*◌, ◌-◌, ◌≤◌, ◌<◌, ◌^◌}
use native.Mathlib.Nat.{mul-suc, add_comm, add-zero}
use native.Mathlib.Omega.{arith}
use lib.Dec.{lit<, lit≤}
use lib.IntN.{negsuc}
use lib.ListN.{length, get_or, take, drop, replicate, length-replicate}
use lib.Seq.{take_at, drop_at}
use mir.Syntax.{w64}
use mir.Val.{of_z}
use Rattle.endian.specs.Bytes.{be_bytes, be_at}
use Rattle.endian.specs.Fields.{part, nth, spans}
use Rattle.endian.proofs.Consecutive.{part-take, part-drop}
use Rattle.crc.proofs.Laws.{read-stamped}
use Rattle.structs.specs.Holds.{Holds}
use Rattle.structs.proofs.Reading.{held, read_number, one-reading}
use Rattle.structs.proofs.Rising.{rises-tidy}
use Rattle.btree.specs.declared.records.AllocRec.{AllocRec}
use Rattle.btree.specs.declared.records.InobtRec.{InobtRec}
use Rattle.btree.specs.declared.records.RmapRec.{RmapRec}
use Rattle.btree.specs.Owners.{negative, negatives, owners}
use Rattle.btree.specs.Records.{records_bytes, alloc_fields, alloc_bytes, inobt_fields, inobt_bytes, rmap_fields, rmap_bytes}
use Rattle.btree.specs.Leaf.{leaf_header, leaf_fields, leaf_bytes}
use Rattle.btree.specs.Decode.{read_records, Each, alloc_of, AllocFits, inobt_of, InobtFits, rmap_rec_in, RmapFits}
use Rattle.btree.proofs.Laws.{no_alloc, no_inobt, no_rmap}

-- ---- the owners: −3 to −8, in 64 bits
negatives-at : (j n k : ℕ) → k < n → get_or (negatives j n) k 0 ≡ negative (j + k)
negatives-at j zero k h = absurd (omega arith)
negatives-at j (suc n) zero h = ap negative (sym (add-zero j))
negatives-at j (suc n) (suc k) h =
    let e : suc j + k ≡ j + suc k = omega arith in
    negatives-at (suc j) n k (omega arith) ∙ ap negative e

pub owners-signed : (k : ℕ) → k < 6 → get_or owners k 0 ≡ of_z w64 (negsuc (2 + k))
unfolding owners negative
owners-signed k h =
    let e : 3 + k ≡ suc (2 + k) = omega arith in
    negatives-at 3 6 k h ∙ ap (λ (m : ℕ). 2 ^ 64 - m) e

-- ---- records one after the other, over the record's type
pub listed_back : {A : Type 0} (f : A → List ℕ) (n : ℕ) (g : List ℕ → A) (ok : A → Type 0) → ((r : A) → length (f r) ≡ n) → ((r : A) → ok r → g (f r) ≡ r)
    → (rs : List A) (off : ℕ) (xs : List ℕ) → Each ok rs → part off (n * length rs) xs ≡ records_bytes f rs → read_records g n (length rs) off xs ≡ rs
listed_back f n g ok size back [] off xs o e = refl
listed_back f n g ok size back (r ∷ rs) off xs o e =
    let m = n * length rs in
    let s : n * suc (length rs) ≡ n + m = mul-suc n (length rs) ∙ add_comm m n in
    let p : part off (n + m) xs ≡ f r ++ records_bytes f rs = rw s at e in
    let a : part off n xs ≡ f r = sym (part-take off n (n + m) xs (omega arith)) ∙ ap (take n) p ∙ take_at (f r) (records_bytes f rs) n (size r) in
    let d : part (off + n) m xs ≡ records_bytes f rs = sym (part-drop off n m xs) ∙ ap (drop n) p ∙ drop_at (f r) (records_bytes f rs) n (size r) in
    ap₂ (λ (x : _) (l : List _). x ∷ l) (ap g a ∙ back r o.0) (listed_back f n g ok size back rs (off + n) xs o.1 d)

-- ---- one record
alloc-holds : (r : AllocRec) → Holds (alloc_fields r) (alloc_bytes r)
unfolding alloc_bytes be_bytes
alloc-holds r = held (spans (alloc_fields no_alloc)) 8 tt (alloc_fields r) refl (replicate 8 0) (lit≤ tt)

pub alloc-back : (r : AllocRec) → AllocFits r → alloc_of (alloc_bytes r) ≡ r
unfolding alloc_of
alloc-back r b =
    let n = read_number (alloc_fields r) (alloc_bytes r) (alloc-holds r) in
    rw (n 0 0 4 r.start (lit< tt) refl b.0, n 1 4 4 r.count (lit< tt) refl b.1) refl

pub sparse-holds : (r : InobtRec) → Holds (inobt_fields true r) (inobt_bytes true r)
unfolding inobt_bytes be_bytes
sparse-holds r = held (spans (inobt_fields true no_inobt)) 16 tt (inobt_fields true r) refl (replicate 16 0) (lit≤ tt)

pub sparse-back : (r : InobtRec) → InobtFits r → inobt_of (inobt_bytes true r) ≡ r
unfolding inobt_of
sparse-back r b =
    let n = read_number (inobt_fields true r) (inobt_bytes true r) (sparse-holds r) in
    rw (
      n 0 0 4 r.startino (lit< tt) refl b.0,
      n 1 4 2 r.holemask (lit< tt) refl b.1,
      n 2 6 1 r.count (lit< tt) refl b.2,
      n 3 7 1 r.freecount (lit< tt) refl b.3,
      n 4 8 8 r.free (lit< tt) refl b.4,
    ) refl

-- the full form stores no holes and no count
pub full-holds : (r : InobtRec) → Holds (inobt_fields false r) (inobt_bytes false r)
unfolding inobt_bytes be_bytes
full-holds r = held (spans (inobt_fields false no_inobt)) 16 tt (inobt_fields false r) refl (replicate 16 0) (lit≤ tt)

rmap-holds : (r : RmapRec) → Holds (rmap_fields r) (rmap_bytes r)
unfolding rmap_bytes be_bytes
rmap-holds r = held (spans (rmap_fields no_rmap)) 24 tt (rmap_fields r) refl (replicate 24 0) (lit≤ tt)

pub rmap-back : (r : RmapRec) → RmapFits r → rmap_rec_in (rmap_bytes r) ≡ r
unfolding rmap_rec_in
rmap-back r b =
    let n = read_number (rmap_fields r) (rmap_bytes r) (rmap-holds r) in
    rw (n 0 0 4 r.start (lit< tt) refl b.0, n 1 4 4 r.count (lit< tt) refl b.1, n 2 8 8 r.owner (lit< tt) refl b.2) refl

-- ---- the leaf block
module _ (magic daddr agno : ℕ) (uuid recs : List ℕ) (numrecs len : ℕ) (u : length uuid ≡ 16) (fits : 56 + length recs ≤ len) where
  leaf-stands : spans (leaf_fields magic daddr agno uuid recs numrecs) ≡ spans (leaf_fields 0 0 0 (replicate 16 0) recs 0)
  unfolding leaf_fields leaf_header be_bytes
  leaf-stands = rw u refl

  pub leaf-holds : Holds (leaf_fields magic daddr agno uuid recs numrecs) (leaf_bytes magic daddr agno uuid recs numrecs len)
  unfolding leaf_bytes leaf_fields leaf_header be_bytes
  leaf-holds k h =
      let w : length (replicate {A = ℕ} len 0) ≡ len = length-replicate len 0 in
      read-stamped (spans (leaf_fields 0 0 0 (replicate 16 0) recs 0)) (56 + length recs) 52
      (rises-tidy 0 (56 + length recs) (spans (leaf_fields 0 0 0 (replicate 16 0) recs 0)) tt (omega arith)) tt
      (leaf_fields magic daddr agno uuid recs numrecs) leaf-stands (replicate len 0) (omega arith) k h

  -- the records stand behind the header
  pub leaf-records : part 56 (length recs) (leaf_bytes magic daddr agno uuid recs numrecs len) ≡ recs
  unfolding leaf_fields leaf_header
  leaf-records = leaf-holds 9 (lit< tt)

  -- the number of records, the block's address and its group
  pub leaf-numrecs : numrecs < 2 ^ 16 → be_at 2 6 (leaf_bytes magic daddr agno uuid recs numrecs len) ≡ numrecs
  unfolding leaf_fields leaf_header
  leaf-numrecs = read_number (leaf_fields magic daddr agno uuid recs numrecs) (leaf_bytes magic daddr agno uuid recs numrecs len) leaf-holds 2 6 2 numrecs (lit< tt) refl

leaf-places : (r r' : List ℕ) → length r ≡ length r' → spans (leaf_fields 0 0 0 (replicate 16 0) r 0) ≡ spans (leaf_fields 0 0 0 (replicate 16 0) r' 0)
unfolding leaf_fields leaf_header be_bytes
leaf-places r r' e = rw e refl

-- Leaf blocks of equal bytes with records of equal length have equal fields.
pub leaf-injective : (m d a n m' d' a' n' len : ℕ) (u r u' r' : List ℕ) → length u ≡ 16 → length u' ≡ 16 → length r ≡ length r' → 56 + length r ≤ len
    → leaf_bytes m d a u r n len ≡ leaf_bytes m' d' a' u' r' n' len → leaf_fields m d a u r n ≡ leaf_fields m' d' a' u' r' n'
leaf-injective m d a n m' d' a' n' len u r u' r' eu eu' er fits e =
    let fits' : 56 + length r' ≤ len = omega arith in
    let same = leaf-stands m d a u r n len eu fits ∙ leaf-places r r' er ∙ sym (leaf-stands m' d' a' u' r' n' len eu' fits') in
    one-reading (leaf_fields m d a u r n) (leaf_fields m' d' a' u' r' n') (leaf_bytes m d a u r n len) same (leaf-holds m d a u r n len eu fits)
    (λ k h. ap (λ (l : List ℕ). part (nth (leaf_fields m' d' a' u' r' n') k).at (length (nth (leaf_fields m' d' a' u' r' n') k).bytes) l) e ∙ leaf-holds m' d' a' u' r' n' len eu' fits' k h)
