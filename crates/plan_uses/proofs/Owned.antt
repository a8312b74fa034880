-- The reverse mappings in closed form, weighed by their owners.
-- Assumes nothing.
use mathlib.Core.Path.{◌≡◌, refl, ap, ◌∙◌}
use mathlib.Core.Bool.{Bool, true, false, not, cond, ◌&&◌}
use mathlib.Core.List.{List, [], ◌∷◌, ◌++◌}
use Prim.Native.Nat.{ℕ, ◌+◌, ◌-◌}
use native.Mathlib.Omega.{arith}
use native.Mathlib.Nat.{add-zero, zero-add}
use lib.Dec.{eqb}
use Rattle.seqs.proofs.Weights.{Additive}
use Rattle.btree.specs.Owners.{negative}
use Rattle.btree.specs.declared.records.RmapRec.{RmapRec}
use Rattle.plan_site.specs.declared.Site.{Site}
use Rattle.plan_site.specs.Sites.{SoundSite}
use Rattle.plan.specs.Plan.{own_fs, own_log, own_ag, own_inobt, own_inodes, own_refc, map_rec}
use Rattle.plan_closed.specs.Closed.{has_root_chunk, list_at, head_mappings, closed_rmap, closed_ag_plan}
use Rattle.plan_closed.proofs.Mappings.{refc_if, log_if, list_if, refc-is, head-is}
use Rattle.plan_uses.specs.Uses.{weigh_owned, any_owner, only_owner, Owners, used_parts}
use Rattle.plan_uses.proofs.Parts.{list-weighs, chunk-weighs}

-- the parts by the tests that decide them: z group 0, t reflink, u the log is here
abbrev pub chunk_if : Site → Bool → List RmapRec
chunk_if s z = cond z (map_rec s.chunk_at s.chunk_blocks own_inodes ∷ []) []

abbrev pub rest_if : Site → Bool → Bool → Bool → List RmapRec
rest_if s z t u =
    cond (not t && not u) (map_rec s.rmap_at (1 + s.need) own_ag ∷ [])
    (map_rec s.rmap_at 1 own_ag ∷ (refc_if s t ++ (log_if s u ++ map_rec (list_if s u) s.need own_ag ∷ [])))
    ++ chunk_if s z

abbrev pub map_if : Site → Bool → Bool → Bool → List RmapRec
map_if s z t u = head_mappings s ++ rest_if s z t u

-- a fact of the closed list from that of its cases
pub by_cases : (P : List RmapRec → Type 0) (s : Site) → s.rmapbt ≡ true → P (map_if s (has_root_chunk s) s.reflink s.has_log) → P (closed_rmap s)
unfolding closed_rmap list_at
by_cases P s on p = rw on p

-- ---- weights by owner

module _ (h : ℕ → ℕ → ℕ → ℕ) (add : (o : ℕ) → Additive (h o)) (s : Site) (ok : SoundSite s) (on : s.rmapbt ≡ true) where
  -- the records' parts, each with its owner
  abbrev before : ℕ
  before = h own_fs 0 s.bno + h own_ag s.bno (s.bno + 2) + h own_inobt s.ibt s.rmap_at

  abbrev root : ℕ
  root = h own_ag s.rmap_at (s.rmap_at + 1)

  abbrev counts : Bool → ℕ
  counts t = cond t (h own_refc s.refc_at (s.refc_at + 1)) 0

  abbrev log : Bool → ℕ
  log u = cond u (h own_log s.log_at (s.log_at + s.log_blocks)) 0

  abbrev list : Bool → ℕ
  list u = h own_ag (list_if s u) (list_if s u + s.need)

  abbrev inodes : Bool → ℕ
  inodes z = cond z (h own_inodes s.chunk_at (s.chunk_at + s.chunk_blocks)) 0

  head-weighs : (rest : List RmapRec) → weigh_owned h (head_mappings s ++ rest) ≡ before + weigh_owned h rest
  unfolding weigh_owned
  head-weighs rest =
      let a = ok.rmap-after in
      let e : s.ibt + (s.rmap_at - s.ibt) ≡ s.rmap_at = omega arith in
      let x : h own_inobt s.ibt (s.ibt + (s.rmap_at - s.ibt)) ≡ h own_inobt s.ibt s.rmap_at = ap (h own_inobt s.ibt) e in
      let y : h own_fs 0 (0 + s.bno) ≡ h own_fs 0 s.bno = ap (h own_fs 0) (zero-add s.bno) in
      omega arith

  chunk-weighed : (z : Bool) → weigh_owned h (chunk_if s z) ≡ inodes z
  unfolding weigh_owned
  chunk-weighed true = add-zero _
  chunk-weighed false = refl

  rest-weighs : (z t u : Bool) → s.reflink ≡ t → weigh_owned h (rest_if s z t u) ≡ root + counts t + log u + list u + inodes z
  unfolding weigh_owned
  rest-weighs z false false r =
      let i = chunk-weighed z in
      let n = head-is s ok on false r in
      let e : s.head ≡ s.rmap_at + 1 = omega arith in
      let p = (add own_ag).split s.rmap_at (s.rmap_at + 1) (s.rmap_at + (1 + s.need)) (omega arith) (omega arith) in
      let q : h own_ag (s.rmap_at + 1) (s.rmap_at + (1 + s.need)) ≡ h own_ag s.head (s.head + s.need) =
      let j : s.rmap_at + (1 + s.need) ≡ s.rmap_at + 1 + s.need = omega arith in rw (e, j) in
      omega arith
  rest-weighs z true false r = let i = chunk-weighed z in omega arith
  rest-weighs z false true r = let i = chunk-weighed z in omega arith
  rest-weighs z true true r = let i = chunk-weighed z in omega arith

  pub map-weighs : weigh_owned h (closed_rmap s) ≡ before + root + counts s.reflink + log s.has_log + list s.has_log + inodes (has_root_chunk s)
  map-weighs =
      by_cases (λ (rs : List RmapRec). weigh_owned h rs ≡ before + root + counts s.reflink + log s.has_log + list s.has_log + inodes (has_root_chunk s)) s on
      (let a = head-weighs (rest_if s (has_root_chunk s) s.reflink s.has_log) in let b = rest-weighs (has_root_chunk s) s.reflink s.has_log refl in omega arith)

none : (t : Bool) → cond {A = ℕ} t 0 0 ≡ 0
none true = refl
none false = refl

module _ (f : ℕ → ℕ → ℕ) (add : Additive f) where
  only_at : (t : Bool) → Additive (λ a c. cond t (f a c) 0)
  only_at true = record { split = λ a m c i j. add.split a m c i j; none = λ a c i. add.none a c i }
  only_at false = record { split = λ a m c i j. refl; none = λ a c i. refl }

  only-additive : (o p : ℕ) → Additive (only_owner o f p)
  only-additive o p = only_at (eqb p o)

  module _ (s : Site) (ok : SoundSite s) (on : s.rmapbt ≡ true) where
    -- the head is its parts
    head_at : (t : Bool) → s.reflink ≡ t
        → f 0 s.bno + f s.bno (s.bno + 2) + f s.ibt s.rmap_at + f s.rmap_at (s.rmap_at + 1) + cond t (f s.refc_at (s.refc_at + 1)) 0 ≡ f 0 s.head
    head_at t r =
        let i = ok.ibt-next in
        let a = ok.rmap-after in
        let x = add.split 0 s.bno (s.bno + 2) (omega arith) (omega arith) in
        let y = add.split 0 (s.bno + 2) s.rmap_at (omega arith) (omega arith) in
        let z = add.split 0 s.rmap_at (s.rmap_at + 1) (omega arith) (omega arith) in
        let e : f s.ibt s.rmap_at ≡ f (s.bno + 2) s.rmap_at = ap (λ (n : ℕ). f n s.rmap_at) i in
        let w = last-root t r in
        omega arith
      where
        last-root : (t : Bool) → s.reflink ≡ t → f 0 (s.rmap_at + 1) + cond t (f s.refc_at (s.refc_at + 1)) 0 ≡ f 0 s.head
        last-root true r =
            let n = head-is s ok on true r in
            let m = add.split 0 (s.rmap_at + 1) (s.rmap_at + 1 + 1) (omega arith) (omega arith) in
            let p : f s.refc_at (s.refc_at + 1) ≡ f (s.rmap_at + 1) (s.rmap_at + 1 + 1) = ap (λ (n : ℕ). f n (n + 1)) (refc-is s ok on) in
            let q : f 0 s.head ≡ f 0 (s.rmap_at + 1 + 1) = ap (f 0) n in
            omega arith
        last-root false r =
            let n = head-is s ok on false r in
            let q : f 0 s.head ≡ f 0 (s.rmap_at + 1) = ap (f 0) (n ∙ add-zero (s.rmap_at + 1)) in
            omega arith

    -- the records weigh what is used, every block of it once
    pub used-weighs : weigh_owned (any_owner f) (closed_rmap s) ≡ used_parts f s (closed_ag_plan s)
    unfolding list_at
    used-weighs =
        let m = map-weighs (any_owner f) (λ o. add) s ok on in
        let h = head_at s.reflink refl in
        rw (list-weighs f add s ok, chunk-weighs f add s ok) (omega arith)

    pub owners-weigh : Owners f s (closed_ag_plan s) (λ o. weigh_owned (only_owner o f) (closed_rmap s))
    unfolding negative list_at
    owners-weigh =
        let a = none s.reflink in
        let b = none s.has_log in
        let c = none (has_root_chunk s) in
        record {
          fs = let m = map-weighs (only_owner own_fs f) (only-additive own_fs) s ok on in omega arith;
          ag = let m = map-weighs (only_owner own_ag f) (only-additive own_ag) s ok on in let n = list-weighs f add s ok in omega arith;
          inobt = let m = map-weighs (only_owner own_inobt f) (only-additive own_inobt) s ok on in omega arith;
          refc = let m = map-weighs (only_owner own_refc f) (only-additive own_refc) s ok on in omega arith;
          log = let m = map-weighs (only_owner own_log f) (only-additive own_log) s ok on in omega arith;
          inodes = let m = map-weighs (only_owner own_inodes f) (only-additive own_inodes) s ok on in let n = chunk-weighs f add s ok in omega arith;
        }
