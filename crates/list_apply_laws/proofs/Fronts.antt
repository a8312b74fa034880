-- The first bytes of a list: every whole record is taken up, and nothing is done of the one in which they end.
-- Assumes nothing.
use mathlib.Core.Path.{◌≡◌, refl, sym, ap, subst, fun_ext, ◌∙◌}
use mathlib.Core.Bool.{Bool, true, false}
use mathlib.Core.List.{List, [], ◌∷◌, ◌++◌, append_assoc, append-nil}
use mathlib.Core.Logic.{inl, inr}
use Prim.Native.Nat.{ℕ, zero, suc, ◌+◌, ◌-◌, ◌≤◌, ◌<◌}
use native.Mathlib.Omega.{arith}
use lib.Dec.{leb, ltb, eqb}
use lib.ListN.{length, take, drop}
use lib.Seq.{take-nil, take-append-add}
use borrow.Author.Tests.{ltb-true, ltb-false}
use Rattle.list_records.specs.Records.{Record, WZ, Wb, FL, All, by_kind, record_bytes, list_bytes}
use Rattle.list_records.proofs.Sizes.{zeros-bytes, flush-bytes, list-nil, list-cons}
use Rattle.list_records.specs.Device.{Device, step_record, applied}
use Rattle.list_records.proofs.Applying.{step-miss, applied-append}
use Rattle.list_read.specs.Records.{zeros_kind, bytes, head_said, RecordFits}
use Rattle.list_read.specs.Flushes.{ruled, WholeList}
use Rattle.list_read.specs.Whole.{AllFit}
use Rattle.list_read.proofs.Ending.{as_many, went_on, whole-list}
use Rattle.list_apply.specs.declared.Applying.{Applying as State}
use Rattle.list_apply.specs.Applying.{goes_on, ended, first_to_come, held, past, applying_begun, state, following_of, head_next, waits_def}
use Rattle.list_apply_laws.specs.Lists.{Point, point, Reach, Within, InOne, FlushedFirst, AppliesFront}
use Rattle.list_apply.proofs.Steps.{waits-none}
use Rattle.list_apply_laws.proofs.Ended.{two_past}
use Rattle.list_apply_laws.proofs.Pieces.{reach-none, reach_step, Body}
use Rattle.list_apply_laws.proofs.Applied.{bytes-marked, mark-turn, record-body, applied-same, waited, held-mark, held-head, free-by, no-flush, end-turn}
use Rattle.list_apply_laws.proofs.Halts.{Halt, halt-head, halt-body, part-head, part-18, part-few, head_in, next-free, halt-record}

-- Turns that take up so many records, and stop.
record Front (size : ℕ) (s : State) (ws : List Record) (i : ℕ) : Type 0 where
  end : State
  rest : List ℕ
  pieces : List Record
  records : ℕ
  go : (done : List Record) → Reach size (point s (take i (list_bytes ws)) done) (point end rest (done ++ pieces))
  stops : end.stop ≡ goes_on → ⊥
  same : (d : Device) (x : ℕ) → applied pieces d x ≡ applied (take records ws) d x
  here : length (list_bytes (take records ws)) ≤ i
  no-fewer : (m : ℕ) → m ≤ length ws → length (list_bytes (take m ws)) ≤ i → m ≤ records

-- none, where they end in the first
none-fewer : (i : ℕ) (w : Record) (ws : List Record) → i < length (record_bytes w) → (m : ℕ) → m ≤ length (w ∷ ws) → length (list_bytes (take m (w ∷ ws))) ≤ i → m ≤ 0
none-fewer i w ws h zero l k = omega arith
none-fewer i w ws h (suc m) l k = let c = list-cons w (take m ws) in absurd (omega arith)

front-none : (size : ℕ) (s : State) (w : Record) (ws : List Record) (i : ℕ) → i < length (record_bytes w) → Halt size s (take i (record_bytes w ++ list_bytes ws)) → Front size s (w ∷ ws) i
unfolding list_bytes applied
front-none size s w ws i h t =
    record {
      end = t.end;
      rest = t.rest;
      pieces = [];
      records = 0;
      go = λ done.
          subst (λ (ds : List Record). Reach size (point s (take i (record_bytes w ++ list_bytes ws)) done) (point t.end t.rest ds)) (sym (append-nil done)) (t.go done);
      stops = t.stops;
      same = λ d x. refl;
      here = omega arith;
      no-fewer = none-fewer i w ws h;
    }

-- the first of them, and a front of the rest
cut-behind : (w : Record) (ys : List ℕ) (i j : ℕ) → i ≡ length (record_bytes w) + j → take i (record_bytes w ++ ys) ≡ record_bytes w ++ take j ys
cut-behind w ys i j e = ap (λ (k : ℕ). take k (record_bytes w ++ ys)) e ∙ take-append-add (record_bytes w) ys j

one_more : (w : Record) (ws : List Record) (i j n : ℕ) → i ≡ length (record_bytes w) + j → ((m : ℕ) → m ≤ length ws → length (list_bytes (take m ws)) ≤ j → m ≤ n)
    → (m : ℕ) → m ≤ length (w ∷ ws) → length (list_bytes (take m (w ∷ ws))) ≤ i → m ≤ suc n
one_more w ws i j n e f zero l k = omega arith
one_more w ws i j n e f (suc m) l k = let c = list-cons w (take m ws) in let h = f m (omega arith) (omega arith) in omega arith

front-join : (size limit flushes i j : ℕ) (s : State) (w : Record) (ws : List Record) → i ≡ length (record_bytes w) + j
    → (b : Body size limit flushes s (record_bytes w ++ take j (list_bytes ws)) (take j (list_bytes ws)) w)
    → Front size (state limit past goes_on false b.o flushes b.kind b.off 0) ws j → Front size s (w ∷ ws) i
unfolding list_bytes applied
front-join size limit flushes i j s w ws e b t =
    let xs = take j (list_bytes ws) in
    let m = state limit past goes_on false b.o flushes b.kind b.off 0 in
    let c = list-cons w (take t.records ws) in
    let h = t.here in
    record {
      end = t.end;
      rest = t.rest;
      pieces = b.pieces ++ t.pieces;
      records = suc t.records;
      go = λ done.
          let last = point t.end t.rest (done ++ (b.pieces ++ t.pieces)) in
          subst (λ (ys : List ℕ). Reach size (point s ys done) last) (sym (cut-behind w (list_bytes ws) i j e))
          (b.go done last
          (subst (λ (ds : List Record). Reach size (point m xs (done ++ b.pieces)) (point t.end t.rest ds)) (append_assoc done b.pieces t.pieces)
          (t.go (done ++ b.pieces))));
      stops = t.stops;
      same = λ d x.
          rw (applied-append b.pieces t.pieces d)
          (t.same (applied b.pieces d) x ∙ applied-same (take t.records ws) (applied b.pieces d) (step_record w d) (b.same d) x);
      here = omega arith;
      no-fewer = one_more w ws i j t.records e t.no-fewer;
    }

module _ (size limit : ℕ) (some : 0 < size) where
  front-step : (first o flushes kind off : ℕ) → eqb first held ≡ false → flushes < 2 → (w : Record) (ws : List Record) (i : ℕ) → RecordFits w → Within limit w → InOne size w
      → waits_def first (head_said w).kind ≡ false → ((j o' kind' off' : ℕ) → Front size (state limit past goes_on false o' (flushes + by_kind 0 0 1 w) kind' off' 0) ws j)
      → (b : Bool) → ltb i (length (record_bytes w)) ≡ b → Front size (state limit first goes_on false o flushes kind off 0) (w ∷ ws) i
  front-step first o flushes kind off free before w ws i f n q v behind true e =
      let h = ltb-true i (length (record_bytes w)) e in
      front-none size (state limit first goes_on false o flushes kind off 0) w ws i h
      (halt-record size limit first o flushes kind off free before (list_bytes ws) w i f n q v h (ltb i (head_said w).size) refl)
  front-step first o flushes kind off free before w ws i f n q v behind false e =
      let h = ltb-false i (length (record_bytes w)) e in
      let j = i - length (record_bytes w) in
      let b = record-body size limit some first o flushes kind off free before (take j (list_bytes ws)) w f n v in
      front-join size limit (flushes + by_kind 0 0 1 w) i j (state limit first goes_on false o flushes kind off 0) w ws (omega arith) b (behind j b.o b.kind b.off)

  -- no record is left
  front-end : (i o kind off : ℕ) → Front size (state limit past goes_on false o 2 kind off 0) [] i
  unfolding list_bytes applied
  front-end i o kind off =
      let s = state limit past goes_on false o 2 kind off 0 in
      let t = state limit past ended false o 2 kind off 0 in
      record {
        end = t;
        rest = [];
        pieces = [];
        records = 0;
        go = λ done.
            subst (λ (xs : List ℕ). Reach size (point s xs done) (point t [] (done ++ []))) (sym (take-nil i))
            (reach_step size (point s [] done) (point t [] (done ++ [])) (point t [] (done ++ [])) (end-turn size limit o kind off done) (reach-none size (point t [] (done ++ []))));
        stops = λ e. omega arith;
        same = λ d x. refl;
        here = omega arith;
        no-fewer = λ m l k. l;
      }

  front-from : (ws : List Record) (i o flushes kind off : ℕ) → ruled flushes ws ≡ 0 → AllFit ws → All (Within limit) ws → All (InOne size) ws
      → Front size (state limit past goes_on false o flushes kind off 0) ws i
  unfolding ruled
  front-from [] i o flushes kind off z f n q =
      let e : flushes ≡ 2 = two_past flushes (eqb flushes 2) refl (ap (λ (k : ℕ). eqb k 0) z) in
      rw e (front-end i o kind off)
  front-from (w ∷ ws) i o flushes kind off z f n q =
      let on = went_on flushes w ws (leb 2 flushes) refl z in
      front-step past o flushes kind off refl on.0 w ws i f.0 n.0 q.0 (sym (waits-none past (head_said w).kind (λ e. omega arith)))
      (λ j o' kind' off'. front-from ws j o' (flushes + by_kind 0 0 1 w) kind' off' on.1 f.1 n.1 q.1) (ltb i (length (record_bytes w))) refl

  -- a first record that needn't wait
  at_once : (w : Record) (ws : List Record) (i : ℕ) → waits_def first_to_come (head_said w).kind ≡ false → ruled 0 (w ∷ ws) ≡ 0 → AllFit (w ∷ ws) → All (Within limit) (w ∷ ws)
      → All (InOne size) (w ∷ ws) → Front size (applying_begun limit) (w ∷ ws) i
  at_once w ws i v z f n q =
      let on = went_on 0 w ws false refl z in
      front-step first_to_come 1 0 0 0 refl on.0 w ws i f.0 n.0 q.0 v
      (λ j o' kind' off'. front-from ws j o' (0 + by_kind 0 0 1 w) kind' off' on.1 f.1 n.1 q.1) (ltb i (length (record_bytes w))) refl

-- ---- zeros at the list's start, which wait for the next head

-- two records and more have no fewer bytes than the two
two_bytes : (z w : Record) (ws : List Record) (m : ℕ) → 2 ≤ m → length (record_bytes z) + length (record_bytes w) ≤ length (list_bytes (take m (z ∷ w ∷ ws)))
two_bytes z w ws zero h = absurd (omega arith)
two_bytes z w ws (suc zero) h = absurd (omega arith)
two_bytes z w ws (suc (suc m)) h = let c = list-cons z (w ∷ take m ws) in let d = list-cons w (take m ws) in omega arith

module _ (size limit a n : ℕ) (w : Record) (ws : List Record) (f : RecordFits (WZ a n)) (k : Within limit (WZ a n)) where
  -- nothing was done
  nothing_yet : (i : ℕ) → i < 18 + length (record_bytes w) → Halt size (applying_begun limit) (take i (record_bytes (WZ a n) ++ (record_bytes w ++ list_bytes ws))) → AppliesFront size limit (WZ a n ∷ w ∷ ws) i
  unfolding list_bytes
  nothing_yet i h t =
      record {
        last = point t.end t.rest [];
        reached = t.go [];
        stops = t.stops;
        records = 0;
        left = λ d. refl;
        here = omega arith;
        no-fewer = λ m two l b. let z = zeros-bytes a n in let c = two_bytes (WZ a n) w ws m two in absurd (omega arith);
        flushed = inl refl;
      }

  abbrev o : ℕ
  o = following_of 1 0

  -- they end in the zeros' record, or in the next one's head
  in-zeros : (i : ℕ) → i < 18 → AppliesFront size limit (WZ a n ∷ w ∷ ws) i
  in-zeros i h =
      nothing_yet i (omega arith)
      (halt-head size limit first_to_come 1 0 0 0 0 (omega arith) (next-free size limit first_to_come 1 0 0 0 refl (omega arith) []) (mark-turn size limit first_to_come 1 0 0 0 refl (omega arith)) (WZ a n) i
      (record_bytes w ++ list_bytes ws) h)

  next-held : head_next (state limit held goes_on false o 0 zeros_kind a n) ≡ true
  unfolding head_next
  next-held = refl

  in_head : (i j : ℕ) → i ≡ 18 + j → j < (head_said w).size → AppliesFront size limit (WZ a n ∷ w ∷ ws) i
  in_head i j e h =
      let ys = record_bytes w ++ list_bytes ws in
      let z = zeros-bytes a n in
      let l = head_in w in
      let t = halt-head size limit held o 0 zeros_kind a n (omega arith) next-held (held-mark size limit o a n) w j (list_bytes ws) h in
      nothing_yet i (omega arith)
      (record {
        end = t.end;
        rest = t.rest;
        go = λ done.
            subst (λ (xs : List ℕ). Reach size (point (applying_begun limit) xs done) (point t.end t.rest done)) (sym (cut-behind (WZ a n) ys i j (omega arith)))
            (waited size limit a n f k (take j ys) done (point t.end t.rest done) (t.go done));
        stops = t.stops;
      })

-- they end in the next one's bytes: the zeros are done, and flushed
module _ (size limit a n b : ℕ) (bs : List ℕ) (ws : List Record) (f : RecordFits (WZ a n)) (k : Within limit (WZ a n)) (g : RecordFits (Wb b bs)) (l : Within limit (Wb b bs)) (q : length bs ≤ size) where
  abbrev zf : List Record
  zf = WZ a n ∷ FL ∷ []

  abbrev body : State
  body = state limit past goes_on false (following_of (following_of 1 0) (length bs)) 0 bytes b (length bs)

  body-reached : (j : ℕ) → 18 ≤ j → (last : Point) → Reach size (point body (drop 18 (take j (record_bytes (Wb b bs) ++ list_bytes ws))) zf) last
      → Reach size (point (state limit held goes_on false (following_of 1 0) 0 zeros_kind a n) (take j (record_bytes (Wb b bs) ++ list_bytes ws)) []) last
  unfolding record_bytes
  body-reached zero h last r = absurd (omega arith)
  body-reached (suc zero) h last r = absurd (omega arith)
  body-reached (suc (suc j)) h last r =
      let i = suc (suc j) in
      let xs = take i (record_bytes (Wb b bs) ++ list_bytes ws) in
      let s = state limit held goes_on false (following_of 1 0) 0 zeros_kind a n in
      let m = state limit held goes_on true (following_of 1 0) 0 zeros_kind a n in
      reach_step size (point s xs []) (point m xs []) last (held-mark size limit (following_of 1 0) a n 0x42 _ [] bytes-marked)
      (reach_step size (point m xs []) (point body (drop 18 xs) zf) last
      (held-head size limit (following_of 1 0) a n xs bytes b (length bs) [] (part-head b i bs (list_bytes ws) g h) (part-18 b i bs (list_bytes ws) g h) refl
      (as_many 0 bytes (omega arith) (λ e. omega arith)) l) r)

  in_body : (i j : ℕ) → i ≡ 18 + j → 18 ≤ j → j < length (record_bytes (Wb b bs)) → AppliesFront size limit (WZ a n ∷ Wb b bs ∷ ws) i
  unfolding list_bytes applied
  in_body i j e h m =
      let w = Wb b bs in
      let ys = record_bytes w ++ list_bytes ws in
      let z = zeros-bytes a n in
      let c = list-cons (WZ a n) [] in
      let v = list-nil in
      let t = halt-body size limit (following_of (following_of 1 0) (length bs)) 0 b (length bs) (drop 18 (take j ys)) (part-few b j bs (list_bytes ws) g h m) q in
      let last = point t.end t.rest zf in
      record {
        last = last;
        reached =
            subst (λ (xs : List ℕ). Reach size (point (applying_begun limit) xs []) last) (sym (cut-behind (WZ a n) ys i j (omega arith)))
            (waited size limit a n f k (take j ys) [] last (body-reached j h last (t.go zf)));
        stops = t.stops;
        records = 1;
        left = λ d. fun_ext (λ x. step-miss FL (step_record (WZ a n) d) x (λ p r. omega arith));
        here = omega arith;
        no-fewer = λ x two y u. let d = two_bytes (WZ a n) w ws x two in absurd (omega arith);
        flushed = inr ([], refl);
      }

-- they end behind the next one
module _ (size limit : ℕ) (some : 0 < size) (a n : ℕ) (w : Record) (ws : List Record) (z : ruled 0 (WZ a n ∷ w ∷ ws) ≡ 0) (f : AllFit (WZ a n ∷ w ∷ ws)) (k : All (Within limit) (WZ a n ∷ w ∷ ws))
    (q : All (InOne size) (WZ a n ∷ w ∷ ws)) where
  two-more : (i j m : ℕ) → i ≡ 18 + (length (record_bytes w) + j) → ((x : ℕ) → x ≤ length ws → length (list_bytes (take x ws)) ≤ j → x ≤ m)
      → (x : ℕ) → x ≤ length (WZ a n ∷ w ∷ ws) → length (list_bytes (take x (WZ a n ∷ w ∷ ws))) ≤ i → x ≤ suc (suc m)
  two-more i j m e h =
      let y = zeros-bytes a n in
      one_more (WZ a n) (w ∷ ws) i (length (record_bytes w) + j) (suc m) (omega arith) (one_more w ws (length (record_bytes w) + j) j m refl h)

  behind-both : (i j : ℕ) → i ≡ 18 + (length (record_bytes w) + j) → AppliesFront size limit (WZ a n ∷ w ∷ ws) i
  unfolding list_bytes applied
  behind-both i j e =
      let on = went_on 0 (WZ a n) (w ∷ ws) false refl z in
      let on2 = went_on 0 w ws false refl on.1 in
      let x : by_kind 0 0 1 w ≡ 0 + by_kind 0 0 1 w = omega arith in
      let xs = take j (list_bytes ws) in
      let ys = record_bytes w ++ list_bytes ws in
      let y = zeros-bytes a n in
      let u = free-by size limit some (following_of 1 0) a n xs w f.1.0 k.1.0 in
      let b = u.body in
      let t = front-from size limit some ws j b.o (by_kind 0 0 1 w) b.kind b.off (ap (λ (c : ℕ). ruled c ws) x ∙ on2.1) f.1.1 k.1.1 q.1.1 in
      let zs : List Record = WZ a n ∷ FL ∷ [] in
      let m = state limit past goes_on false b.o (by_kind 0 0 1 w) b.kind b.off 0 in
      let last = point t.end t.rest (WZ a n ∷ FL ∷ (b.pieces ++ t.pieces)) in
      let c1 = list-cons (WZ a n) (w ∷ take t.records ws) in
      let c2 = list-cons w (take t.records ws) in
      let h = t.here in
      record {
        last = last;
        reached =
            subst (λ (vs : List ℕ). Reach size (point (applying_begun limit) vs []) last)
            (sym (cut-behind (WZ a n) ys i (length (record_bytes w) + j) (omega arith) ∙ ap (λ (vs : List ℕ). record_bytes (WZ a n) ++ vs) (cut-behind w (list_bytes ws) (length (record_bytes w) + j) j refl)))
            (waited size limit a n f.0 k.0 (record_bytes w ++ xs) [] last
            (u.go [] last (b.go zs last
            (subst (λ (ds : List Record). Reach size (point m xs (zs ++ b.pieces)) (point t.end t.rest ds)) (append_assoc zs b.pieces t.pieces) (t.go (zs ++ b.pieces))))));
        stops = t.stops;
        records = suc (suc t.records);
        left = λ d. fun_ext (λ p. left_by d b.pieces t.pieces (take t.records ws) b.same t.same p);
        here = omega arith;
        no-fewer = λ v two l r. two-more i j t.records e t.no-fewer v l r;
        flushed = inr (b.pieces ++ t.pieces, refl {a = WZ a n ∷ FL ∷ (b.pieces ++ t.pieces)});
      }
    where
      -- the flush behind the zeros changes nothing
      left_by : (d : Device) (ps rs vs : List Record) → ((c : Device) (p : ℕ) → applied ps c p ≡ step_record w c p) → ((c : Device) (p : ℕ) → applied rs c p ≡ applied vs c p)
          → (p : ℕ) → applied (WZ a n ∷ FL ∷ (ps ++ rs)) d p ≡ applied (WZ a n ∷ w ∷ vs) d p
      left_by d ps rs vs one rest p =
          let c = step_record (WZ a n) d in
          let e = step_record FL c in
          rw (applied-append ps rs e)
          (rest (applied ps e) p ∙ applied-same vs (applied ps e) (step_record w e) (one e) p ∙ applied-same (w ∷ vs) e c (λ y. step-miss FL c y (λ m o. omega arith)) p)

  in-second : (i j : ℕ) → i ≡ 18 + j → (c b : Bool) → ltb j (length (record_bytes w)) ≡ c → ltb j (head_said w).size ≡ b → AppliesFront size limit (WZ a n ∷ w ∷ ws) i
  in-second i j e false b p r = let h = ltb-false j (length (record_bytes w)) p in behind-both i (j - length (record_bytes w)) (omega arith)
  in-second i j e true true p r = in_head size limit a n w ws f.0 k.0 i j e (ltb-true j (head_said w).size r)
  in-second i j e true false p r = in_bytes w ws f.1.0 k.1.0 q.1.0 (ltb-true j (length (record_bytes w)) p) (ltb-false j (head_said w).size r)
    where
      in_bytes : (v : Record) (vs : List Record) → RecordFits v → Within limit v → InOne size v → j < length (record_bytes v) → (head_said v).size ≤ j → AppliesFront size limit (WZ a n ∷ v ∷ vs) i
      in_bytes FL vs g l m h s = let y = flush-bytes in absurd (omega arith)
      in_bytes (WZ b x) vs g l m h s = let y = zeros-bytes b x in absurd (omega arith)
      in_bytes (Wb b bs) vs g l m h s = in_body size limit a n b bs vs f.0 k.0 g l m i j e s h

  held-front : (i : ℕ) (b : Bool) → ltb i 18 ≡ b → AppliesFront size limit (WZ a n ∷ w ∷ ws) i
  held-front i true e = in-zeros size limit a n w ws f.0 k.0 i (ltb-true i 18 e)
  held-front i false e =
      let h = ltb-false i 18 e in
      let j = i - 18 in
      in-second i j (omega arith) (ltb j (length (record_bytes w))) (ltb j (head_said w).size) refl refl

-- ---- any whole list

fronted : (size limit : ℕ) (ws : List Record) (i : ℕ) → ((done : List Record) → FlushedFirst ws done) → Front size (applying_begun limit) ws i → AppliesFront size limit ws i
fronted size limit ws i any t =
    record {
      last = point t.end t.rest t.pieces;
      reached = t.go [];
      stops = t.stops;
      records = t.records;
      left = λ d. fun_ext (t.same d);
      here = t.here;
      no-fewer = λ m two. t.no-fewer m;
      flushed = any t.pieces;
    }

module _ (size limit : ℕ) (some : 0 < size) where
  by_first : (ws : List Record) (i : ℕ) → ruled 0 ws ≡ 0 → AllFit ws → All (Within limit) ws → All (InOne size) ws → AppliesFront size limit ws i
  unfolding waits_def
  by_first [] i z f k q = absurd (no-flush z)
  by_first (FL ∷ ws) i z f k q = fronted size limit (FL ∷ ws) i (λ done. tt) (at_once size limit some FL ws i refl z f k q)
  by_first (Wb b bs ∷ ws) i z f k q = fronted size limit (Wb b bs ∷ ws) i (λ done. tt) (at_once size limit some (Wb b bs) ws i refl z f k q)
  by_first (WZ a n ∷ []) i z f k q = absurd (no-flush (went_on 0 (WZ a n) [] false refl z).1)
  by_first (WZ a n ∷ w ∷ ws) i z f k q = held-front size limit some a n w ws z f k q i (ltb i 18) refl

  -- OF HOWEVER MANY BYTES OF A WHOLE LIST, WHOLE RECORDS ALONE ARE APPLIED, through a buffer that holds a block
  pub list-front : (ws : List Record) → WholeList ws → AllFit ws → All (Within limit) ws → All (InOne size) ws → (i : ℕ) → AppliesFront size limit ws i
  list-front ws w f k q i = by_first ws i ((whole-list ws).1 w) f k q
