-- `head::places_of` meets its contract.
-- Assumes nothing.
use mathlib.Core.Path.{refl}
use native.Mathlib.Omega.{arith}
use Rattle.head_bytes.proofs.Asked.{places-are, header-bytes}
use Rattle.head.proofs.places_of.Goals as goal

pub overflow_mul-bno : goal.overflow_mul-bno
overflow_mul-bno c = omega (arith, header-bytes c.args.w c.requires, c.requires.block-most)

pub overflow_add-bno : goal.overflow_add-bno
overflow_add-bno c = omega (arith, header-bytes c.args.w c.requires, c.requires.block-most)

pub overflow_add-cnt : goal.overflow_add-cnt
overflow_add-cnt c = omega (arith, header-bytes c.args.w c.requires, c.requires.block-most)

pub overflow_add-ino : goal.overflow_add-ino
overflow_add-ino c = omega (arith, header-bytes c.args.w c.requires, c.requires.block-most)

pub overflow_add-fourth : goal.overflow_add-fourth
overflow_add-fourth c = omega (arith, header-bytes c.args.w c.requires, c.requires.block-most)

pub overflow_add-fifth : goal.overflow_add-fifth
overflow_add-fifth c = omega (arith, header-bytes c.args.w c.requires, c.requires.block-most)

pub overflow_add-result : goal.overflow_add-result
overflow_add-result c = omega (arith, header-bytes c.args.w c.requires, c.requires.block-most)

pub returns : goal.returns
returns c = let w = c.args.w in (
  places-are w.header w.sector w.block _ _ _ w.features c.flag.ensures.0 c.flag-2.ensures.0 c.flag-3.ensures.0,
  omega (arith, c.flag.ensures.1, c.flag-2.ensures.1, c.flag-3.ensures.1),
  refl,
)
