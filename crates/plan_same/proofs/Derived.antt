-- What `==` compares is what the tests' definitions do, in another order.
-- Assumes nothing.
use Rattle.std.specs.Prelude.{Option, Some, None, ℕ}
use mathlib.Core.Path.{◌≡◌, refl, sym, ap, ◌∙◌}
use mathlib.Core.Bool.{Bool, ◌&&◌}
use mathlib.Core.List.{List, [], ◌∷◌}
use lib.Dec.{eqb}
use lib.Pointwise.{pointwise}
use Rattle.std.proofs.Math.Bool.{and_comm, and_assoc}
use Rattle.std.specs.Option.{option_eq}
use Rattle.btree.specs.declared.records.AllocRec.{AllocRec}
use Rattle.btree.specs.declared.records.RmapRec.{RmapRec}
use Rattle.btree.specs.contracts.records.AllocRecPartialEq.TheImpl as allocs
use Rattle.btree.specs.contracts.records.RmapRecPartialEq.TheImpl as maps
use Rattle.plan_free.specs.declared.FreeList.{FreeList}
use Rattle.plan_rmap.specs.declared.RmapList.{RmapList}
use Rattle.plan.specs.declared.Agfl.{Agfl}
use Rattle.plan_same.specs.Same.{eq_list, same_alloc, same_map, same_chunk, same_free, same_agfl, same_rmap}

pub points : {A : Type 0} (e same : A → A → Bool) → ((x y : A) → e x y ≡ same x y) → (xs ys : List A) → pointwise e xs ys ≡ eq_list same xs ys
unfolding eq_list
points e same h [] [] = refl
points e same h [] (y ∷ ys) = refl
points e same h (x ∷ xs) [] = refl
points e same h (x ∷ xs) (y ∷ ys) = rw (h x y, points e same h xs ys)

-- the array first, then the count
pub counted : {A : Type 0} (e same : A → A → Bool) → ((x y : A) → e x y ≡ same x y) → (xs ys : List A) (t : Bool) → (pointwise e xs ys && t) ≡ (t && eq_list same xs ys)
counted e same h xs ys t = and_comm (pointwise e xs ys) t ∙ ap (λ (b : Bool). t && b) (points e same h xs ys)

pub alloc-is : (a b : AllocRec) → (allocs.eq-value).it a b ≡ same_alloc a b
unfolding same_alloc
alloc-is a b = refl

map-is : (a b : RmapRec) → (maps.eq-value).it a b ≡ same_map a b
unfolding same_map
map-is a b = sym (and_assoc (eqb a.start b.start) (eqb a.count b.count) (eqb a.owner b.owner))

pub chunk-is : (a b : Option ℕ) → option_eq eqb a b ≡ same_chunk a b
unfolding same_chunk
chunk-is None None = refl
chunk-is None (Some y) = refl
chunk-is (Some x) None = refl
chunk-is (Some x) (Some y) = refl

pub free-is : (a b : FreeList) → (pointwise (allocs.eq-value).it a.recs b.recs && eqb a.len b.len) ≡ same_free a b
unfolding same_free
free-is a b = counted _ same_alloc alloc-is a.recs b.recs (eqb a.len b.len)

pub agfl-is : (a b : Agfl) → (pointwise eqb a.blocks b.blocks && eqb a.len b.len) ≡ same_agfl a b
unfolding same_agfl
agfl-is a b = counted eqb eqb (λ x y. refl) a.blocks b.blocks (eqb a.len b.len)

pub rmap-is : (a b : RmapList) → (pointwise (maps.eq-value).it a.recs b.recs && eqb a.len b.len) ≡ same_rmap a b
unfolding same_rmap
rmap-is a b = counted _ same_map map-is a.recs b.recs (eqb a.len b.len)
