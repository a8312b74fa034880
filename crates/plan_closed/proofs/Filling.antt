-- The free list filled from one free record: in one turn where the record has all that is wanted, else 25 in the second.
-- Assumes nothing.
use mathlib.Core.Path.{◌≡◌, refl, ap, ◌∙◌}
use mathlib.Core.Bool.{Bool, true, false, cond}
use mathlib.Core.List.{List, [], ◌∷◌}
use Prim.Native.Nat.{ℕ, zero, suc, ◌+◌, ◌-◌, ◌≤◌, ◌<◌, ◌^◌}
use native.Mathlib.Omega.{arith}
use borrow.Author.Tests.{eq-eqb, ne_eqb, le-leb, lt-leb, le-ltb}
use lib.Dec.{eqb}
use lib.ListN.{length}
use Rattle.refusals.specs.Numbers.{free_list_short}
use Rattle.seqs.specs.Lists.{appended, turns, up_from}
use Rattle.seqs.proofs.Laws.{appended-packed, turns-step}
use Rattle.btree.specs.declared.records.AllocRec.{AllocRec}
use Rattle.btree.specs.declared.records.RmapRec.{RmapRec}
use Rattle.plan_free.specs.Free.{pack_free}
use Rattle.plan_rmap.specs.Rmap.{pack_rmap}
use Rattle.plan.specs.declared.Work.{Work}
use Rattle.plan.specs.Plan.{to_agfl, of_agfl, pack_agfl, own_ag, gap, map_rec, failed, mapped, noted, moved, smaller_of, list_turn}
use Rattle.plan_closed.proofs.Takings.{one-picked, none-picked, one-taken}

-- ---- turns that do nothing: none is wanted any more, or a number was given

still-at : (t : Bool) (w : Work) → cond t w w ≡ w
still-at true w = refl
still-at false w = refl

turn-done : (w : Work) → w.want ≡ 0 → list_turn w ≡ w
unfolding list_turn
turn-done w e = rw (eq-eqb w.want 0 e) (still-at (eqb w.number 0) w)

pub turns-done : (k : ℕ) (w : Work) → w.want ≡ 0 → turns list_turn k w ≡ w
unfolding turns
turns-done zero w e = refl
turns-done (suc k) w e = rw (turn-done w e) (turns-done k w e)

turn-stuck : (w : Work) → eqb w.number 0 ≡ false → list_turn w ≡ w
unfolding list_turn
turn-stuck w e = rw e

pub turns-stuck : (k : ℕ) (w : Work) → eqb w.number 0 ≡ false → turns list_turn k w ≡ w
unfolding turns
turns-stuck zero w e = refl
turns-stuck (suc k) w e = rw (turn-stuck w e) (turns-stuck k w e)

-- ---- a turn

abbrev pub work : ℕ → Bool → List AllocRec → List ℕ → List RmapRec → Work
work want b free list map =
    record { number = 0; want = want; rmapbt = b; free = pack_free free; agfl = pack_agfl list; rmap = pack_rmap map }

-- nothing is free
turn-none : (want : ℕ) (b : Bool) (list : List ℕ) (map : List RmapRec) → 0 < want → (list_turn (work want b [] list map)).number ≡ free_list_short
unfolding list_turn failed
turn-none want b list map h = rw (ne_eqb want 0 (λ e. omega arith), none-picked want)

pub length_up : (a n : ℕ) → length (up_from a n) ≡ n
unfolding up_from
length_up a zero = refl
length_up a (suc n) = ap suc (length_up (a + 1) n)

-- n blocks from the record's start
module _ (want a c n : ℕ) (b : Bool) (map map' : List RmapRec)
    (wanted : 0 < want) (some : 0 < c) (inside : n ≤ c) (small : n ≤ 64) (wide : a + c < 2 ^ 32)
    (is : smaller_of want c ≡ n) (noting : mapped b (pack_rmap map) (map_rec a n own_ag) ≡ record { number = 0; list = pack_rmap map' }) where
  list-is : to_agfl (appended (of_agfl (pack_agfl [])) (up_from a n)) ≡ pack_agfl (up_from a n)
  list-is = let l = length_up a n in ap to_agfl (appended-packed 0 [] (up_from a n) (omega arith))

  moved-one : moved (work want b (record { start = a; count = c } ∷ []) [] map) a n ≡ work (want - n) b (gap (a + n) (a + c)) (up_from a n) map'
  unfolding moved noted
  moved-one = rw (one-taken a c a n some (omega arith) (omega arith) wide, noting, list-is, le-ltb a a (omega arith))

  pub turn_one : list_turn (work want b (record { start = a; count = c } ∷ []) [] map) ≡ work (want - n) b (gap (a + n) (a + c)) (up_from a n) map'
  unfolding list_turn
  turn_one = rw (ne_eqb want 0 (λ e. omega arith), one-picked (record { start = a; count = c }) want, is) moved-one

-- ---- all turns

module _ (want a c : ℕ) (b : Bool) (map map' : List RmapRec) (wide : a + c < 2 ^ 32) (small : want ≤ 64) where
  -- the record has all that is wanted
  pub filled : 0 < want → want ≤ c → mapped b (pack_rmap map) (map_rec a want own_ag) ≡ record { number = 0; list = pack_rmap map' }
      → turns list_turn want (work want b (record { start = a; count = c } ∷ []) [] map) ≡ work 0 b (gap (a + want) (a + c)) (up_from a want) map'
  filled h k m =
      let z : want - want ≡ 0 = omega arith in
      let o = turn_one want a c want b map map' h (omega arith) k small wide (rw (le-leb want c k)) m in
      turns-step list_turn want _ h ∙ ap (turns list_turn (want - 1)) o ∙ turns-done (want - 1) _ z ∙ ap (λ (n : ℕ). work n b (gap (a + want) (a + c)) (up_from a want) map') z

  -- it has some, but not all: the first turn takes what there is, and the second finds nothing
  pub emptied : 0 < c → c < want → mapped b (pack_rmap map) (map_rec a c own_ag) ≡ record { number = 0; list = pack_rmap map' }
      → (turns list_turn want (work want b (record { start = a; count = c } ∷ []) [] map)).number ≡ free_list_short
  emptied h k m =
      let o = turn_one want a c c b map map' (omega arith) h (omega arith) (omega arith) wide (rw (lt-leb want c k)) m in
      let g : gap (a + c) (a + c) ≡ [] = rw (le-ltb (a + c) (a + c) (omega arith)) in
      let n = turn-none (want - c) b (up_from a c) map' (omega arith) in
      let e : (list_turn (list_turn (work want b (record { start = a; count = c } ∷ []) [] map))).number ≡ free_list_short = rw (o, g) n in
      rw (turns-step list_turn want (work want b (record { start = a; count = c } ∷ []) [] map) (omega arith), turns-step list_turn (want - 1) (list_turn (work want b (record { start = a; count = c } ∷ []) [] map)) (omega arith))
      (ap (λ (w : Work). w.number) (turns-stuck (want - 1 - 1) (list_turn (list_turn (work want b (record { start = a; count = c } ∷ []) [] map))) (rw e)) ∙ e)

-- nothing was free from the start
pub starved : (want : ℕ) (b : Bool) (map : List RmapRec) → 0 < want → (turns list_turn want (work want b [] [] map)).number ≡ free_list_short
starved want b map h =
    let e = turn-none want b [] map h in
    rw (turns-step list_turn want (work want b [] [] map) h)
    (ap (λ (w : Work). w.number) (turns-stuck (want - 1) (list_turn (work want b [] [] map)) (rw e)) ∙ e)
