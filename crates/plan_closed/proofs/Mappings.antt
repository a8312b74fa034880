-- The reverse mappings of a group: those at first, then the free list, then the root chunk, each behind all others.
-- Assumes nothing.
use mathlib.Core.Path.{◌≡◌, refl, ap, ◌∙◌}
use mathlib.Core.Bool.{Bool, true, false, not, cond, ◌&&◌}
use mathlib.Core.List.{List, [], ◌∷◌, ◌++◌}
use Prim.Native.Nat.{ℕ, ◌+◌, ◌-◌, ◌≤◌, ◌<◌, ◌^◌}
use native.Mathlib.Omega.{arith}
use borrow.Author.Tests.{eq-eqb}
use lib.Dec.{eqb}
use Rattle.arith.specs.Choice.{bit}
use Rattle.btree.specs.Owners.{negative}
use Rattle.btree.specs.declared.records.RmapRec.{RmapRec}
use Rattle.plan_site.specs.declared.Site.{Site}
use Rattle.plan_site.specs.Sites.{SoundSite}
use Rattle.plan_rmap.specs.Rmap.{pack_rmap, joins, inserted}
use Rattle.plan.specs.Plan.{own_fs, own_log, own_ag, own_inobt, own_inodes, own_refc, map_rec, head_map, mapped, rmap_at_first}
use Rattle.plan_closed.specs.Closed.{list_at, head_mappings}
use Rattle.plan_closed.proofs.Insertions.{valid_rmap, valid-nil, valid-cons, inserted-joined, inserted-apart}

bit_at : (t : Bool) → bit t ≡ cond t 1 0
unfolding bit
bit_at true = refl
bit_at false = refl

-- records of different owners never join
apart : (a b : RmapRec) → eqb a.owner b.owner ≡ false → joins a b ≡ false
apart a b e = rw e

refc-ag : eqb own_refc own_ag ≡ false
unfolding negative
refc-ag = refl

log-ag : eqb own_log own_ag ≡ false
unfolding negative
log-ag = refl

ag-inodes : eqb own_ag own_inodes ≡ false
unfolding negative
ag-inodes = refl

-- the parts by the tests that decide them
abbrev pub refc_if : Site → Bool → List RmapRec
refc_if s t = cond t (map_rec s.refc_at 1 own_refc ∷ []) []

abbrev pub log_if : Site → Bool → List RmapRec
log_if s u = cond u (map_rec s.log_at s.log_blocks own_log ∷ []) []

abbrev pub list_if : Site → Bool → ℕ
list_if s u = cond u (s.log_at + s.log_blocks) s.head

-- the reverse mappings with n blocks of the free list
abbrev listed_if : Site → ℕ → Bool → Bool → List RmapRec
listed_if s n t u =
    head_mappings s
    ++ cond (not t && not u) (map_rec s.rmap_at (1 + n) own_ag ∷ [])
    (map_rec s.rmap_at 1 own_ag ∷ (refc_if s t ++ (log_if s u ++ map_rec (list_if s u) n own_ag ∷ [])))

abbrev pub listed_map : Site → ℕ → List RmapRec
listed_map s n = cond s.rmapbt (listed_if s n s.reflink s.has_log) []

-- and with the root chunk behind it
abbrev pub with_chunk : Site → ℕ → List RmapRec
with_chunk s n = cond s.rmapbt (listed_if s n s.reflink s.has_log ++ map_rec s.chunk_at s.chunk_blocks own_inodes ∷ []) []

module _ (s : Site) (ok : SoundSite s) (on : s.rmapbt ≡ true) where
  -- what Sound says where rmapbt is on
  pub refc-is : s.refc_at ≡ s.rmap_at + 1
  refc-is = ok.refc-next on

  pub head-is : (t : Bool) → s.reflink ≡ t → s.head ≡ s.rmap_at + 1 + cond t 1 0
  head-is t e = ok.head-next on ∙ ap (λ (b : Bool). s.rmap_at + 1 + bit b) e ∙ ap (λ (n : ℕ). s.rmap_at + 1 + n) (bit_at t)

  -- the head's parts are valid before what is valid after the rmap root
  pub parts-valid : (rest : List RmapRec) → valid_rmap s.rmap_at rest ≡ true → valid_rmap 0 (head_mappings s ++ rest) ≡ true
  parts-valid rest v =
      let n = ok.ibt-next in
      let a = ok.rmap-after in
      let h = ok.head-next on in
      let m = ok.head-most in
      let e : s.ibt + (s.rmap_at - s.ibt) ≡ s.rmap_at = omega arith in
      valid-cons 0 (map_rec 0 s.bno own_fs) _ (omega arith) ok.bno-least (omega arith)
      (valid-cons (0 + s.bno) (map_rec s.bno 2 own_ag) _ (omega arith) (omega arith) (omega arith)
      (valid-cons (s.bno + 2) (map_rec s.ibt (s.rmap_at - s.ibt) own_inobt) rest (omega arith) (omega arith) (omega arith)
      (rw e v)))

  root-valid : (rest : List RmapRec) → valid_rmap (s.rmap_at + 1) rest ≡ true → valid_rmap 0 (head_map s ++ rest) ≡ true
  root-valid rest v =
      let h = ok.head-next on in
      let m = ok.head-most in
      parts-valid (map_rec s.rmap_at 1 own_ag ∷ rest) (valid-cons s.rmap_at (map_rec s.rmap_at 1 own_ag) rest (omega arith) (omega arith) (omega arith) v)

  module _ (n : ℕ) (some : 0 < n) where
    put-list : (t u : Bool) → s.reflink ≡ t → list_if s u + n < 2 ^ 32
        → inserted (pack_rmap (head_map s ++ (refc_if s t ++ log_if s u))) (map_rec (list_if s u) n own_ag) ≡ record { number = 0; list = pack_rmap (listed_if s n t u) }
    put-list false false r w =
        let h = head-is false r in
        inserted-joined (map_rec s.rmap_at 1 own_ag) (map_rec s.head n own_ag) (omega arith) some w (head_mappings s) (root-valid [] (valid-nil _)) (omega arith)
        (rw (eq-eqb own_ag own_ag refl, eq-eqb (s.rmap_at + 1) s.head (omega arith)))
    put-list true false r w =
        let h = head-is true r in
        let c = refc-is in
        inserted-apart (map_rec s.refc_at 1 own_refc) (map_rec s.head n own_ag) (omega arith) some w (head_map s)
        (root-valid _ (valid-cons _ (map_rec s.refc_at 1 own_refc) [] (omega arith) (omega arith) (omega arith) (valid-nil _))) (omega arith)
        (apart (map_rec s.refc_at 1 own_refc) (map_rec s.head n own_ag) refc-ag)
    put-list false true r w =
        let h = head-is false r in
        let l = ok.log-after in
        inserted-apart (map_rec s.log_at s.log_blocks own_log) (map_rec (s.log_at + s.log_blocks) n own_ag) (omega arith) some w (head_map s)
        (root-valid _ (valid-cons _ (map_rec s.log_at s.log_blocks own_log) [] (omega arith) ok.log-least (omega arith) (valid-nil _))) (omega arith)
        (apart (map_rec s.log_at s.log_blocks own_log) (map_rec (s.log_at + s.log_blocks) n own_ag) log-ag)
    put-list true true r w =
        let h = head-is true r in
        let c = refc-is in
        let l = ok.log-after in
        inserted-apart (map_rec s.log_at s.log_blocks own_log) (map_rec (s.log_at + s.log_blocks) n own_ag) (omega arith) some w (head_map s ++ map_rec s.refc_at 1 own_refc ∷ [])
        (root-valid _ (valid-cons _ (map_rec s.refc_at 1 own_refc) _ (omega arith) (omega arith) (omega arith)
        (valid-cons _ (map_rec s.log_at s.log_blocks own_log) [] (omega arith) ok.log-least (omega arith) (valid-nil _)))) (omega arith)
        (apart (map_rec s.log_at s.log_blocks own_log) (map_rec (s.log_at + s.log_blocks) n own_ag) log-ag)

    -- the root chunk behind the free list, where the log is elsewhere
    put-chunk : (t : Bool) → s.reflink ≡ t → s.head + n ≤ s.chunk_at
        → inserted (pack_rmap (listed_if s n t false)) (map_rec s.chunk_at s.chunk_blocks own_inodes) ≡ record { number = 0; list = pack_rmap (listed_if s n t false ++ map_rec s.chunk_at s.chunk_blocks own_inodes ∷ []) }
    put-chunk false r k =
        let h = head-is false r in
        let e = ok.chunk-ends in
        inserted-apart (map_rec s.rmap_at (1 + n) own_ag) (map_rec s.chunk_at s.chunk_blocks own_inodes) (omega arith) ok.chunk-least (omega arith) (head_mappings s)
        (parts-valid _ (valid-cons _ (map_rec s.rmap_at (1 + n) own_ag) [] (omega arith) (omega arith) (omega arith) (valid-nil _))) (omega arith)
        (apart (map_rec s.rmap_at (1 + n) own_ag) (map_rec s.chunk_at s.chunk_blocks own_inodes) ag-inodes)
    put-chunk true r k =
        let h = head-is true r in
        let c = refc-is in
        let e = ok.chunk-ends in
        inserted-apart (map_rec s.head n own_ag) (map_rec s.chunk_at s.chunk_blocks own_inodes) (omega arith) ok.chunk-least (omega arith) (head_map s ++ map_rec s.refc_at 1 own_refc ∷ [])
        (root-valid _ (valid-cons _ (map_rec s.refc_at 1 own_refc) _ (omega arith) (omega arith) (omega arith)
        (valid-cons _ (map_rec s.head n own_ag) [] (omega arith) some (omega arith) (valid-nil _)))) (omega arith)
        (apart (map_rec s.head n own_ag) (map_rec s.chunk_at s.chunk_blocks own_inodes) ag-inodes)

-- ---- with rmapbt or without

module _ (s : Site) (ok : SoundSite s) (n : ℕ) (some : 0 < n) where
  list_at_lem : (b : Bool) → s.rmapbt ≡ b → list_at s + n < 2 ^ 32
      → mapped b (pack_rmap (cond b (head_map s ++ (refc_if s s.reflink ++ log_if s s.has_log)) [])) (map_rec (list_at s) n own_ag) ≡ record { number = 0; list = pack_rmap (cond b (listed_if s n s.reflink s.has_log) []) }
  unfolding list_at
  list_at_lem true on w = put-list s ok on n some s.reflink s.has_log refl w
  list_at_lem false on w = refl

  pub list-mapped : list_at s + n < 2 ^ 32 → mapped s.rmapbt (pack_rmap (rmap_at_first s)) (map_rec (list_at s) n own_ag) ≡ record { number = 0; list = pack_rmap (listed_map s n) }
  unfolding rmap_at_first
  list-mapped w = list_at_lem s.rmapbt refl w

  abbrev chunk_rec : RmapRec
  chunk_rec = map_rec s.chunk_at s.chunk_blocks own_inodes

  chunk-at : (b : Bool) → s.rmapbt ≡ b → s.has_log ≡ false → s.head + n ≤ s.chunk_at
      → mapped b (pack_rmap (cond b (listed_if s n s.reflink s.has_log) [])) chunk_rec ≡ record { number = 0; list = pack_rmap (cond b (listed_if s n s.reflink s.has_log ++ chunk_rec ∷ []) []) }
  chunk-at true on e k = rw e (put-chunk s ok on n some s.reflink refl k)
  chunk-at false on e k = refl

  pub chunk-mapped : s.has_log ≡ false → s.head + n ≤ s.chunk_at
      → mapped s.rmapbt (pack_rmap (listed_map s n)) chunk_rec ≡ record { number = 0; list = pack_rmap (with_chunk s n) }
  chunk-mapped e k = chunk-at s.rmapbt refl e k
