-- `geometry_answers::same::same_geometry` meets its contract: what `==` compares is what the definition does, in another order.
-- Assumes nothing.
use mathlib.Core.Path.{◌≡◌, refl, sym, ◌∙◌}
use mathlib.Core.Bool.{Bool, true, false, ◌&&◌, beq}
use mathlib.Core.List.{List}
use Prim.Native.Nat.{ℕ}
use borrow.Author.Rules.{rules}
use lib.Dec.{eqb}
use lib.ListN.{length}
use Rattle.std.proofs.Math.Bool.{and_assoc}
use Rattle.std.specs.Bool.{Decides}
use Rattle.std.specs.Cmp.Lexicographic.{pointwise}
use Rattle.std.proofs.lemmas.Slice.Eq.{bytes_eq-Decides}
use Rattle.arith.specs.Choice.{same_bool}
use Rattle.params.specs.declared.Features.{Features}
use Rattle.geometry_answers.specs.Same.{same_geometry, same_features, same_from, numbers_of}
use Rattle.geometry_answers.proofs.Equal.{label-decides}
use Rattle.geometry_answers.proofs.same.same_geometry.Goals as goal

bools : (a b : Bool) → same_bool a b ≡ beq a b
bools true true = refl
bools true false = refl
bools false true = refl
bools false false = refl

labels : (a b : List ℕ) → length a ≡ 12 → length b ≡ 12 → same_from 12 0 a b ≡ pointwise eqb a b
labels a b x y = let h : Decides (same_from 12 0 a b) (a ≡ b) = label-decides a b x y in search (rules, bytes_eq-Decides)

-- the last comes first
turned : (x y z : Bool) → (x && y && z) ≡ (y && (x && z))
turned true y z = refl
turned false true z = refl
turned false false z = refl

with-true : (x : Bool) → x ≡ (x && true)
with-true true = refl
with-true false = refl

features : (a b : Features)
    → (beq a.finobt b.finobt && (beq a.rmapbt b.rmapbt && (beq a.reflink b.reflink && (beq a.inobtcount b.inobtcount && (beq a.bigtime b.bigtime && (beq a.nrext64 b.nrext64 && beq a.sparse b.sparse)))))) ≡ same_features a b
unfolding same_features
features a b = with-true _ ∙ simp (turned, bools)

-- the numbers stand first in the one, last in the other
ends : (n f l r : Bool) → (n && (f && (l && r))) ≡ (r && (f && (l && n)))
ends true f l true = refl
ends false true true true = refl
ends false true true false = refl
ends false true false true = refl
ends false true false false = refl
ends false false l true = refl
ends false false l false = refl
ends true true true false = refl
ends true true false false = refl
ends true false l false = refl

numbers-first : (c : goal.After-eq)
    → c.eq.result
    ≡ (same_from 19 0 (numbers_of c.args.a) (numbers_of c.args.b)
    && (same_features c.args.a.features c.args.b.features && (pointwise eqb c.args.a.label c.args.b.label && beq c.args.a.roomy c.args.b.roomy)))
unfolding same_from numbers_of
numbers-first c = (rw (features c.args.a.features c.args.b.features) at c.eq.ensures) ∙ sym (simp and_assoc)

pub returns : goal.returns
unfolding same_geometry
returns c =
    let x : length c.args.a.label ≡ 12 = search rules in
    let y : length c.args.b.label ≡ 12 = search rules in
    rw (bools c.args.a.roomy c.args.b.roomy, labels c.args.a.label c.args.b.label x y)
    (numbers-first c
    ∙ ends (same_from 19 0 (numbers_of c.args.a) (numbers_of c.args.b)) (same_features c.args.a.features c.args.b.features)
    (pointwise eqb c.args.a.label c.args.b.label) (beq c.args.a.roomy c.args.b.roomy))
