-- `inquire_lines::put_followed` meets its contract.
-- Assumes nothing.
use Rattle.inquire_lines.proofs.Items.{put_whole, put-none}
use Rattle.table_lines.proofs.Putting.{number-length}
use Rattle.table_lines.proofs.Stores.{patch-snoc}
use Rattle.endian.proofs.Laws.{put_in}
use borrow.Author.Tests.{leb-true}
use lib.ListN.{length, length-set}
use lib.Dec.{leb}
use native.Mathlib.Omega.{arith}
use Prim.Native.Nat.{ℕ, ◌+◌}
use mathlib.Core.Path.{refl, sym, ap, ◌∙◌}
use mathlib.Core.List.{[], ◌∷◌, ◌++◌}
use Rattle.inquire_lines.proofs.put_followed.Goals as goal

pub overflow_add-end : goal.overflow_add-end
overflow_add-end c = let a = c.args in let h = leb-true (a.at + (length a.word.now + 1)) (length a.buf.now) (sym c.inside.ensures ∙ c.if-inside.true) in omega arith

pub bounds-buf-end : goal.bounds-buf-end
bounds-buf-end c = let a = c.args in let h = leb-true (a.at + (length a.word.now + 1)) (length a.buf.now) (sym c.inside.ensures ∙ c.if-inside.true) in omega arith

pub overflow_add-result : goal.overflow_add-result
overflow_add-result c = let a = c.args in let h = leb-true (a.at + (length a.word.now + 1)) (length a.buf.now) (sym c.inside.ensures ∙ c.if-inside.true) in omega arith

pub shape_of-buf-then-inside : goal.shape_of-buf-then-inside
shape_of-buf-then-inside c = simp length-set at c.buf-1.given

pub returns-then-inside : goal.returns-then-inside
returns-then-inside c = let a = c.args in let w = a.word.now in let t = sym c.inside.ensures ∙ c.if-inside.true in let h = leb-true (a.at + (length w + 1)) (length a.buf.now) t in let e = number-length w a.byte (length w) refl in put_whole a.at (w ++ (a.byte ∷ [])) a.buf.now (ap (λ (k : ℕ). leb (a.at + k) (length a.buf.now)) (sym e) ∙ t) refl (omega (arith, e)) (put_in c.put_bytes.ensures (simp length-set (omega arith)) ∙ sym (patch-snoc _ _ _ w _ refl))

pub returns : goal.returns
returns c = let a = c.args in let w = a.word.now in let e = number-length w a.byte (length w) refl in put-none a.at (w ++ (a.byte ∷ [])) a.buf.now (ap (λ (k : ℕ). leb (a.at + k) (length a.buf.now)) (sym e) ∙ (sym c.inside.ensures ∙ c.if-inside.false)) c.refused.ensures.0 c.refused.ensures.1 refl
