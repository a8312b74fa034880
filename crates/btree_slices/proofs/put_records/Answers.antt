-- `btree_slices::put_records` meets its contract: an accepted list has as many bytes as the buffer.
-- Assumes nothing.
use Rattle.std.proofs.Common.{◌≡◌, sym, ◌∙◌, ap, ℕ, ◌*◌, ◌≤◌, List, length, arith, rules}
use native.Mathlib.Nat.{mul-le-mul_left}
use Rattle.std.proofs.lemmas.List.{take_all}
use Rattle.structs.proofs.Written.{done}
use Rattle.endian.specs.Bytes.{patch}
use Rattle.btree.specs.Records.{recs_number, records_bytes}
use Rattle.btree.proofs.Laws.{accepted}
use Rattle.btree_slices.proofs.Laws.{written-whole}
use Rattle.btree_slices.proofs.put_records.Goals as goal

-- what an accepted list says
taken : {size r n : ℕ} (count len : ℕ) → size ≡ n → r ≡ recs_number size count len → r ≡ 0 → (recs_number n count len ≡ 0) × (len ≡ n * count)
taken {size} {r} {n} count len s e z =
    let k : recs_number n count len ≡ 0 = ap (λ (m : ℕ). recs_number m count len) (sym s) ∙ sym e ∙ z in
    (k, (accepted n count len k).0)

-- a list no longer than the accepted one has room
room-for : (n : ℕ) {count more len : ℕ} → count ≤ more → len ≡ n * more → n * count ≤ len
room-for n l e = omega (arith, mul-le-mul_left n l, e)

-- the same records have the same bytes
placed : {A : Type 0} (f : A → List ℕ) {xs ys : List A} (before : List ℕ) {after : List ℕ} → xs ≡ ys → after ≡ patch 0 (records_bytes f xs) before → after ≡ patch 0 (records_bytes f ys) before
placed {A} f before e s = s ∙ ap (λ (rs : List A). patch 0 (records_bytes f rs) before) e

pub put_all-requires : goal.put_all-requires
put_all-requires g c =
    let t = taken (length c.args.recs.now) (length c.args.out.now) c.SIZE.ensures c.number-refusal.ensures c.if-refusal-ne0.false in
    room-for g.R.Record.SIZE (omega arith) t.1

pub returns : goal.returns
returns g c =
    let t = taken (length c.args.recs.now) (length c.args.out.now) c.SIZE.ensures c.number-refusal.ensures c.if-refusal-ne0.false in
    done t.0
    (placed g.R.Record.stored c.args.out.now (search (rules, take_all)) c.put_all.ensures ∙ written-whole g.R.Record.stored g.R.Record.SIZE g.met.R.Record.fills c.args.recs.now c.args.out.now t.1)
