-- Free extents in the order of the tree by size.
-- Assumes nothing.
use Rattle.std.specs.Prelude.{◌≡◌, Bool, true, cond, List, [], ◌∷◌, ℕ, eqb, leb, ltb}
use Rattle.btree.specs.declared.records.AllocRec.{AllocRec}

-- a has fewer blocks than b, or as many and does not start behind it
unfoldable pub in_order : AllocRec → AllocRec → Bool
in_order a b = cond (eqb a.count b.count) (leb a.start b.start) (ltb a.count b.count)

-- each before the next
abbrev pub Sorted : List AllocRec → Type 0
Sorted [] = Unit {0}
Sorted (a ∷ []) = Unit {0}
Sorted (a ∷ b ∷ rs) = (in_order a b ≡ true) × Sorted (b ∷ rs)
