-- `crc_loops::eightfold::eights` meets its contract. Invariant: c with the bytes from chunk i on gives what `from` gives with all of them.
-- Assumes nothing.
use Rattle.crc_register.proofs.Words.{eight-turn}
use Rattle.crc_register.specs.Register.{crc_bits, crc_bytes}
use lib.ListN.{length, drop}
use Rattle.crc_loops.proofs.Chunks.{chunk-number}
use lib.Bits.{bit_xor}
use lib.Dec.{lit<}
use native.Mathlib.Omega.{arith}
use Prim.Native.Nat.{ℕ, ◌+◌, ◌*◌, ◌/◌, ◌≤◌, ◌<◌}
use mathlib.Core.Path.{◌≡◌, refl, ap, ◌∙◌}
use Rattle.crc_loops.proofs.eightfold.eights.Goals as goal

pub loop-eight-init : goal.loop-eight-init
loop-eight-init c = refl

pub fold-a-requires : goal.fold-a-requires
fold-a-requires c = (c.requires, lit< tt)

pub fold-b-requires : goal.fold-b-requires
fold-b-requires c = (c.requires, lit< tt)

pub loop-eight-preserved : goal.loop-eight-preserved
loop-eight-preserved c = let a = c.args in
    let s = a.s.now in
    let l = c.loop-eight in
    let i = l.eight-index in
    let f = c.as_chunks.ensures.front in
    let n = c.as_chunks.ensures.front_len in
    let h : i < length s / 8 = omega arith in
    let u : 8 * i + 8 ≤ length s = omega arith in
    let d : 8 * i + 8 ≡ 8 * (i + 1) = omega arith in
    rw d at (eight-turn l.c (8 * i) c.fold-a.result c.fold-b.result a.from s u (λ k. omega (arith, c.type_inv.s k))
    (c.fold-a.ensures ∙ ap (λ (k : ℕ). crc_bits 64 (bit_xor l.c k) 0) (c.word.ensures ∙ chunk-number 0 i (length s / 8) (8 * i) _ s _ f h (omega arith) (omega arith)))
    (c.fold-b.ensures ∙ ap (λ (k : ℕ). crc_bits 32 k 0) (c.word-in-loop-eight.ensures ∙ chunk-number 4 i (length s / 8) (8 * i + 4) _ s _ f h (omega arith) refl)) l.invariant)

pub tail-requires : goal.tail-requires
tail-requires c = c.requires

pub returns : goal.returns
returns c = let s = c.args.s.now in
    let l = c.loop-eight in
    let n = c.as_chunks.ensures.front_len in
    let d : length s / 8 * 8 ≡ 8 * l.eight-index = omega arith in
    c.tail.ensures ∙ ap (crc_bytes l.c) (c.as_chunks.ensures.back ∙ ap (λ (j : ℕ). drop j s) d) ∙ l.invariant
