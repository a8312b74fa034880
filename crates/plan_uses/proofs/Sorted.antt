-- The reverse mappings in closed form are valid, joined where they can be, and the free list has a record of its own unless it
-- follows the rmap root.
-- Assumes nothing.
use mathlib.Core.Path.{◌≡◌, refl, ap, ◌∙◌}
use mathlib.Core.Bool.{Bool, true, false, not, cond, ◌&&◌}
use mathlib.Core.List.{List, [], ◌∷◌, ◌++◌}
use Prim.Native.Nat.{ℕ, ◌+◌, ◌-◌, ◌≤◌, ◌<◌}
use native.Mathlib.Omega.{arith}
use borrow.Author.Tests.{eqb-true, ne_eqb, eq-eqb}
use Rattle.btree.specs.Owners.{negative}
use Rattle.btree.specs.declared.records.RmapRec.{RmapRec}
use Rattle.plan_site.specs.declared.Site.{Site}
use Rattle.plan_site.specs.Sites.{SoundSite}
use Rattle.plan.specs.Plan.{own_fs, own_log, own_ag, own_inobt, own_inodes, own_refc, map_rec}
use Rattle.plan_closed.specs.Closed.{has_root_chunk, is_joined, list_at, head_mappings, closed_rmap}
use Rattle.plan_closed.proofs.Insertions.{valid_rmap, valid-nil, valid-cons}
use Rattle.plan_closed.proofs.Mappings.{list_if, parts-valid, refc-is, head-is}
use Rattle.plan_uses.specs.Uses.{none_joins, starts_at}
use Rattle.plan_uses.proofs.Owned.{chunk_if, rest_if, map_if, by_cases}

-- ---- joined where they can be

none-joins-at : (s : Site) (z t u : Bool) → none_joins (map_if s z t u) ≡ true
unfolding none_joins negative
none-joins-at s true true true = refl
none-joins-at s true true false = refl
none-joins-at s true false true = refl
none-joins-at s true false false = refl
none-joins-at s false true true = refl
none-joins-at s false true false = refl
none-joins-at s false false true = refl
none-joins-at s false false false = refl

pub none-joins : (s : Site) → s.rmapbt ≡ true → none_joins (closed_rmap s) ≡ true
none-joins s on = by_cases (λ (rs : List RmapRec). none_joins rs ≡ true) s on (none-joins-at s (has_root_chunk s) s.reflink s.has_log)

module _ (s : Site) (ok : SoundSite s) (on : s.rmapbt ≡ true) where
  -- ---- valid

  -- the root chunk lies behind all others
  chunk-valid : (z : Bool) (lo : ℕ) → (z ≡ true → lo ≤ s.chunk_at) → valid_rmap lo (chunk_if s z) ≡ true
  chunk-valid true lo h =
      let e = ok.chunk-ends in
      valid-cons lo (map_rec s.chunk_at s.chunk_blocks own_inodes) [] (h refl) ok.chunk-least (omega arith) (valid-nil _)
  chunk-valid false lo h = valid-nil lo

  -- group 0 has no log
  never_both : {X : Type 0} (z : Bool) → has_root_chunk s ≡ z → s.has_log ≡ true → z ≡ true → X
  never_both z i e q = let n = ok.log-not-first (eqb-true s.agno 0 (i ∙ q)) in let o : ◌≡◌ {A = ℕ} 0 1 = cc in absurd (omega arith)

  rest-valid : (z t u : Bool) → has_root_chunk s ≡ z → s.reflink ≡ t → s.has_log ≡ u → valid_rmap s.rmap_at (rest_if s z t u) ≡ true
  rest-valid z false false i r e =
      let h = head-is s ok on false r in
      let m = ok.head-most in
      let n = ok.need-most in
      let c = ok.chunk-after in
      valid-cons s.rmap_at (map_rec s.rmap_at (1 + s.need) own_ag) (chunk_if s z) (omega arith) (omega arith) (omega arith)
      (chunk-valid z (s.rmap_at + (1 + s.need)) (λ q. omega arith))
  rest-valid z true false i r e =
      let h = head-is s ok on true r in
      let k = refc-is s ok on in
      let m = ok.head-most in
      let n = ok.need-most in
      let l = ok.need-least in
      let c = ok.chunk-after in
      valid-cons s.rmap_at (map_rec s.rmap_at 1 own_ag) _ (omega arith) (omega arith) (omega arith)
      (valid-cons (s.rmap_at + 1) (map_rec s.refc_at 1 own_refc) _ (omega arith) (omega arith) (omega arith)
      (valid-cons (s.refc_at + 1) (map_rec s.head s.need own_ag) (chunk_if s z) (omega arith) (omega arith) (omega arith)
      (chunk-valid z (s.head + s.need) (λ q. c))))
  rest-valid z false true i r e =
      let h = head-is s ok on false r in
      let m = ok.head-most in
      let n = ok.need-most in
      let l = ok.need-least in
      let a = ok.log-after in
      let b = ok.log-most in
      valid-cons s.rmap_at (map_rec s.rmap_at 1 own_ag) _ (omega arith) (omega arith) (omega arith)
      (valid-cons (s.rmap_at + 1) (map_rec s.log_at s.log_blocks own_log) _ (omega arith) ok.log-least (omega arith)
      (valid-cons (s.log_at + s.log_blocks) (map_rec (s.log_at + s.log_blocks) s.need own_ag) (chunk_if s z) (omega arith) (omega arith) (omega arith)
      (chunk-valid z (s.log_at + s.log_blocks + s.need) (never_both z i e))))
  rest-valid z true true i r e =
      let h = head-is s ok on true r in
      let k = refc-is s ok on in
      let m = ok.head-most in
      let n = ok.need-most in
      let l = ok.need-least in
      let a = ok.log-after in
      let b = ok.log-most in
      valid-cons s.rmap_at (map_rec s.rmap_at 1 own_ag) _ (omega arith) (omega arith) (omega arith)
      (valid-cons (s.rmap_at + 1) (map_rec s.refc_at 1 own_refc) _ (omega arith) (omega arith) (omega arith)
      (valid-cons (s.refc_at + 1) (map_rec s.log_at s.log_blocks own_log) _ (omega arith) ok.log-least (omega arith)
      (valid-cons (s.log_at + s.log_blocks) (map_rec (s.log_at + s.log_blocks) s.need own_ag) (chunk_if s z) (omega arith) (omega arith) (omega arith)
      (chunk-valid z (s.log_at + s.log_blocks + s.need) (never_both z i e)))))

  pub map-valid : valid_rmap 0 (closed_rmap s) ≡ true
  map-valid =
      by_cases (λ (rs : List RmapRec). valid_rmap 0 rs ≡ true) s on
      (parts-valid s ok on (rest_if s (has_root_chunk s) s.reflink s.has_log) (rest-valid (has_root_chunk s) s.reflink s.has_log refl refl refl))

  -- ---- the free list's own record

  -- a record that starts elsewhere, and one that starts there
  other : (b a n o : ℕ) (rs : List RmapRec) → (a ≡ b → ⊥) → starts_at b (map_rec a n o ∷ rs) ≡ starts_at b rs
  unfolding starts_at
  other b a n o rs h = rw (ne_eqb a b h) (omega arith)

  there : (b a n o : ℕ) (rs : List RmapRec) → a ≡ b → starts_at b (map_rec a n o ∷ rs) ≡ 1 + starts_at b rs
  unfolding starts_at
  there b a n o rs h = rw (eq-eqb a b h)

  chunk-elsewhere : (z : Bool) (b : ℕ) → (z ≡ true → s.chunk_at ≡ b → ⊥) → starts_at b (chunk_if s z) ≡ 0
  unfolding starts_at
  chunk-elsewhere true b h = rw (ne_eqb s.chunk_at b (h refl))
  chunk-elsewhere false b h = refl

  parts-elsewhere : (b : ℕ) (rs : List RmapRec) → s.rmap_at < b → starts_at b (head_mappings s ++ rs) ≡ starts_at b rs
  parts-elsewhere b rs h =
      let i = ok.ibt-next in
      let a = ok.rmap-after in
      other b 0 s.bno own_fs _ (λ e. omega arith)
      ∙ other b s.bno 2 own_ag _ (λ e. omega arith)
      ∙ other b s.ibt (s.rmap_at - s.ibt) own_inobt rs (λ e. omega arith)

  starts-at : (z t u : Bool) → has_root_chunk s ≡ z → s.reflink ≡ t → s.has_log ≡ u → starts_at (list_if s u) (rest_if s z t u) ≡ cond (not t && not u) 0 1
  starts-at z false false i r e =
      let h = head-is s ok on false r in
      let n = ok.need-least in
      let c = ok.chunk-after in
      other s.head s.rmap_at (1 + s.need) own_ag _ (λ q. omega arith) ∙ chunk-elsewhere z s.head (λ q p. omega arith)
  starts-at z true false i r e =
      let h = head-is s ok on true r in
      let k = refc-is s ok on in
      let n = ok.need-least in
      let c = ok.chunk-after in
      other s.head s.rmap_at 1 own_ag _ (λ q. omega arith)
      ∙ other s.head s.refc_at 1 own_refc _ (λ q. omega arith)
      ∙ there s.head s.head s.need own_ag (chunk_if s z) refl
      ∙ ap (λ (m : ℕ). 1 + m) (chunk-elsewhere z s.head (λ q p. omega arith))
  starts-at z false true i r e =
      let h = head-is s ok on false r in
      let a = ok.log-after in
      let b = ok.log-least in
      other (list_if s true) s.rmap_at 1 own_ag _ (λ q. omega arith)
      ∙ other (list_if s true) s.log_at s.log_blocks own_log _ (λ q. omega arith)
      ∙ there (list_if s true) (list_if s true) s.need own_ag (chunk_if s z) refl
      ∙ ap (λ (m : ℕ). 1 + m) (chunk-elsewhere z (list_if s true) (λ q p. never_both z i e q))
  starts-at z true true i r e =
      let h = head-is s ok on true r in
      let k = refc-is s ok on in
      let a = ok.log-after in
      let b = ok.log-least in
      other (list_if s true) s.rmap_at 1 own_ag _ (λ q. omega arith)
      ∙ other (list_if s true) s.refc_at 1 own_refc _ (λ q. omega arith)
      ∙ other (list_if s true) s.log_at s.log_blocks own_log _ (λ q. omega arith)
      ∙ there (list_if s true) (list_if s true) s.need own_ag (chunk_if s z) refl
      ∙ ap (λ (m : ℕ). 1 + m) (chunk-elsewhere z (list_if s true) (λ q p. never_both z i e q))

  after-root : (u : Bool) → s.rmap_at < list_if s u
  after-root true = let n = ok.head-next on in let a = ok.log-after in omega arith
  after-root false = let n = ok.head-next on in omega arith

  -- the free list's record starts at its first block, unless it is joined with the rmap root
  pub list-starts : starts_at (list_at s) (closed_rmap s) ≡ cond (is_joined s) 0 1
  unfolding list_at
  list-starts =
      by_cases (λ (rs : List RmapRec). starts_at (list_if s s.has_log) rs ≡ cond (is_joined s) 0 1) s on
      (parts-elsewhere (list_if s s.has_log) (rest_if s (has_root_chunk s) s.reflink s.has_log) (after-root s.has_log)
      ∙ starts-at (has_root_chunk s) s.reflink s.has_log refl refl refl)
