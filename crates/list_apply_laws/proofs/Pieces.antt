-- A write in pieces: the turns that take its bytes or zeros from a list, and what they leave on a device.
-- Assumes nothing.
use mathlib.Core.Path.{◌≡◌, refl, sym, ap, ap₂, ◌∙◌}
use mathlib.Core.Bool.{Bool, true, false}
use mathlib.Core.List.{List, [], ◌∷◌, ◌++◌, append_assoc, append-nil}
use Prim.Native.Nat.{ℕ, zero, suc, ◌+◌, ◌-◌, ◌%◌, ◌^◌, ◌≤◌, ◌<◌, min}
use native.Mathlib.Omega.{arith}
use native.Mathlib.Nat.{mod-eq_of_lt}
use lib.Dec.{leb, ltb, eqb}
use lib.ListN.{length, take, drop, get_or, length-drop}
use lib.Seq.{length-take-le, take-append-le, drop-append-le, take-take, get_or-take, get_or-drop}
use borrow.Author.Tests.{eqb-true, eqb-false, leb-true, leb-false, ltb-true, ltb-false, ne_eqb, le-ltb}
use Rattle.seqs.specs.Lists.{turns}
use Rattle.list_records.specs.Records.{Record, WZ, Wb}
use Rattle.list_records.specs.Device.{Device, at, len, byte, step_record, applied}
use Rattle.list_records.proofs.Applying.{step-hit, step-miss}
use Rattle.list_read.specs.Records.{zeros_kind, bytes}
use Rattle.list_apply.specs.declared.Applying.{Applying as State}
use Rattle.list_apply.specs.Applying.{goes_on, past, state, following_of, head_next, applying_wanted, put_piece, fed_bytes, applying_fed}
use Rattle.list_apply_laws.specs.Lists.{Point, point, asked, turn_on, Reach}

-- ---- two records that lie one behind the other, and one that does the same
module _ (r p q : Record) (d : Device) (first : at p ≡ at r) (second : at q ≡ at r + len p) (both : len p + len q ≡ len r)
    (f : (i : ℕ) → i < len p → byte p i ≡ byte r i) (g : (i : ℕ) → i < len q → byte q i ≡ byte r (len p + i)) where
  split_by : (x : ℕ) (a b c : Bool) → leb (at r) x ≡ a → ltb x (at q) ≡ b → ltb x (at r + len r) ≡ c → step_record q (step_record p d) x ≡ step_record r d x
  split_by x false b c e i k =
      let h = leb-false (at r) x e in
      step-miss q (step_record p d) x (λ m n. omega arith) ∙ step-miss p d x (λ m n. omega arith) ∙ sym (step-miss r d x (λ m n. omega arith))
  split_by x true true c e i k =
      let h = leb-true (at r) x e in
      let j = ltb-true x (at q) i in
      let o : x - at p ≡ x - at r = omega arith in
      step-miss q (step_record p d) x (λ m n. omega arith) ∙ step-hit p d x (omega arith) (omega arith) ∙ f (x - at p) (omega arith) ∙ ap (byte r) o
      ∙ sym (step-hit r d x h (omega arith))
  split_by x true false true e i k =
      let h = leb-true (at r) x e in
      let j = ltb-false x (at q) i in
      let l = ltb-true x (at r + len r) k in
      let o : len p + (x - at q) ≡ x - at r = omega arith in
      step-hit q (step_record p d) x j (omega arith) ∙ g (x - at q) (omega arith) ∙ ap (byte r) o ∙ sym (step-hit r d x h l)
  split_by x true false false e i k =
      let j = ltb-false x (at q) i in
      let l = ltb-false x (at r + len r) k in
      step-miss q (step_record p d) x (λ m n. omega arith) ∙ step-miss p d x (λ m n. omega arith) ∙ sym (step-miss r d x (λ m n. omega arith))

  split : (x : ℕ) → step_record q (step_record p d) x ≡ step_record r d x
  split x = split_by x (leb (at r) x) (ltb x (at q)) (ltb x (at r + len r)) refl refl refl

split-zeros : (off m n : ℕ) (d : Device) (x : ℕ) → m ≤ n → step_record (WZ (off + m) (n - m)) (step_record (WZ off m) d) x ≡ step_record (WZ off n) d x
split-zeros off m n d x h = split (WZ off n) (WZ off m) (WZ (off + m) (n - m)) d refl refl (omega arith) (λ i l. refl) (λ i l. refl) x

split-bytes : (off m : ℕ) (bs : List ℕ) (d : Device) (x : ℕ) → m ≤ length bs → step_record (Wb (off + m) (drop m bs)) (step_record (Wb off (take m bs)) d) x ≡ step_record (Wb off bs) d x
split-bytes off m bs d x h =
    let t = length-take-le m bs h in
    let l = length-drop m bs in
    split (Wb off bs) (Wb off (take m bs)) (Wb (off + m) (drop m bs)) d refl (omega arith) (omega arith) (λ i k. get_or-take m bs i 0 (omega arith))
    (λ i k. get_or-drop m bs i 0 ∙ ap (λ (j : ℕ). get_or bs (j + i) 0) (sym t)) x

-- ---- turns
pub reach_step : (size : ℕ) (p q r : Point) → turn_on size p ≡ q → Reach size q r → Reach size p r
unfolding turns
reach_step size p q r e h = (suc h.0, ap (turns (turn_on size) h.0) e ∙ h.1)

pub reach-none : (size : ℕ) (p : Point) → Reach size p p
unfolding turns
reach-none size p = (0, refl)

-- a piece of zeros
module _ (size limit o flushes off left n : ℕ) (rest : List ℕ) (done : List Record) (some : left ≡ 0 → ⊥) (is : min left size ≡ n) where
  zeros-turn : turn_on size (point (state limit past goes_on false o flushes zeros_kind off left) rest done)
      ≡ point (state limit past goes_on false (following_of o (left - n)) flushes zeros_kind ((off + n) % 2 ^ 64) (left - n)) rest (done ++ (WZ off n ∷ []))
  unfolding turn_on applying_wanted head_next applying_fed put_piece asked
  zeros-turn = rw (ne_eqb left 0 some, is) refl

-- a piece of a block's bytes
module _ (size limit o flushes off n : ℕ) (bs rest : List ℕ) (done : List Record) (some : length bs ≡ 0 → ⊥) (is : min (length bs) size ≡ n) (fit : n ≤ length bs) where
  bytes-turn : turn_on size (point (state limit past goes_on false o flushes bytes off (length bs)) (bs ++ rest) done)
      ≡ point (state limit past goes_on false (following_of o (length bs - n)) flushes bytes ((off + n) % 2 ^ 64) (length bs - n)) (drop n bs ++ rest) (done ++ (Wb off (take n bs) ∷ []))
  unfolding turn_on applying_wanted head_next applying_fed fed_bytes put_piece asked
  bytes-turn =
      let t = length-take-le n bs fit in
      rw (
        ne_eqb (length bs) 0 some,
        is,
        take-append-le n bs rest fit,
        drop-append-le n bs rest fit,
        le-ltb (length (take n bs)) n (omega arith),
        take-take n n bs (omega arith),
      ) refl

-- ---- a whole write
least-some : (a b : ℕ) → (a ≡ 0 → ⊥) → 0 < b → 0 < min a b
least-some zero b h k = absurd (h refl)
least-some (suc a) b h k = omega arith

-- From a state with a record in hand, turns that bring its bytes from `before` to `behind`, do the pieces, and leave what the record leaves.
pub record Body (size limit flushes : ℕ) (s : State) (before behind : List ℕ) (w : Record) : Type 0 where
  pub o : ℕ
  pub kind : ℕ
  pub off : ℕ
  pub pieces : List Record
  pub go : (done : List Record) (r : Point) → Reach size (point (state limit past goes_on false o flushes kind off 0) behind (done ++ pieces)) r → Reach size (point s before done) r
  pub same : (d : Device) (x : ℕ) → applied pieces d x ≡ step_record w d x

-- nothing is left of it
pub no-piece : (size limit o flushes kind off : ℕ) (rest : List ℕ) (w : Record) → len w ≡ 0 → Body size limit flushes (state limit past goes_on false o flushes kind off 0) rest rest w
unfolding applied
no-piece size limit o flushes kind off rest w z =
    record {
      o = o;
      kind = kind;
      off = off;
      pieces = [];
      go = λ done r h. rw append-nil at h;
      same = λ d x. sym (step-miss w d x (λ m n. omega arith));
    }

-- a turn that asks for nothing
pub no-piece-yet : (size limit flushes : ℕ) (s t : State) (before between behind : List ℕ) (w : Record)
    → ((done : List Record) → turn_on size (point s before done) ≡ point t between (done ++ [])) → Body size limit flushes t between behind w → Body size limit flushes s before behind w
no-piece-yet size limit flushes s t before between behind w turn b =
    record {
      o = b.o;
      kind = b.kind;
      off = b.off;
      pieces = b.pieces;
      go = λ done r h. reach_step size (point s before done) (point t between done) r (turn done ∙ ap (point t between) (append-nil done)) (b.go done r h);
      same = b.same;
    }

-- one piece, and the rest
module _ (size limit flushes : ℕ) (s t : State) (before between behind : List ℕ) (p q w : Record)
    (turn : (done : List Record) → turn_on size (point s before done) ≡ point t between (done ++ (p ∷ [])))
    (joined : (d : Device) (x : ℕ) → step_record q (step_record p d) x ≡ step_record w d x) where
  pub more-pieces : Body size limit flushes t between behind q → Body size limit flushes s before behind w
  unfolding applied
  more-pieces b =
      record {
        o = b.o;
        kind = b.kind;
        off = b.off;
        pieces = p ∷ b.pieces;
        go = λ done r h.
            reach_step size (point s before done) (point t between (done ++ (p ∷ []))) r (turn done)
            (b.go (done ++ (p ∷ [])) r (rw (append_assoc done (p ∷ []) b.pieces) h));
        same = λ d x. b.same (step_record p d) x ∙ joined d x;
      }

module _ (size limit : ℕ) (some : 0 < size) where
  zeros_by : (k o flushes off left : ℕ) (rest : List ℕ) (b : Bool) → eqb left 0 ≡ b → left ≤ suc k → off + left < 2 ^ 64
      → ((o off left : ℕ) → left ≤ k → off + left < 2 ^ 64 → Body size limit flushes (state limit past goes_on false o flushes zeros_kind off left) rest rest (WZ off left))
      → Body size limit flushes (state limit past goes_on false o flushes zeros_kind off left) rest rest (WZ off left)
  zeros_by k o flushes off left rest true e h m behind =
      let z = eqb-true left 0 e in
      rw z (no-piece size limit o flushes zeros_kind off rest (WZ off 0) refl)
  zeros_by k o flushes off left rest false e h m behind =
      let z = eqb-false left 0 e in
      let n = min left size in
      let a : n ≤ left = omega arith in
      let b : 0 < n = least-some left size z some in
      let j : (off + n) % 2 ^ 64 ≡ off + n = mod-eq_of_lt (omega arith) in
      more-pieces size limit flushes (state limit past goes_on false o flushes zeros_kind off left) (state limit past goes_on false (following_of o (left - n)) flushes zeros_kind (off + n) (left - n)) rest rest rest
      (WZ off n) (WZ (off + n) (left - n)) (WZ off left)
      (λ done. zeros-turn size limit o flushes off left n rest done z refl ∙ ap (λ (i : ℕ). point (state limit past goes_on false (following_of o (left - n)) flushes zeros_kind i (left - n)) rest (done ++ (WZ off n ∷ []))) j)
      (λ d x. split-zeros off n left d x a)
      (behind (following_of o (left - n)) (off + n) (left - n) (omega arith) (omega arith))

  pub zeros-body : (k o flushes off left : ℕ) (rest : List ℕ) → left ≤ k → off + left < 2 ^ 64
      → Body size limit flushes (state limit past goes_on false o flushes zeros_kind off left) rest rest (WZ off left)
  zeros-body zero o flushes off left rest h m = let z : left ≡ 0 = omega arith in rw z (no-piece size limit o flushes zeros_kind off rest (WZ off 0) refl)
  zeros-body (suc k) o flushes off left rest h m = zeros_by k o flushes off left rest (eqb left 0) refl h m (λ o' off' left' h' m'. zeros-body k o' flushes off' left' rest h' m')

  bytes-by : (k o flushes off : ℕ) (bs rest : List ℕ) → length bs ≤ suc k → off + length bs < 2 ^ 64
      → ((o off : ℕ) (cs : List ℕ) → length cs ≤ k → off + length cs < 2 ^ 64 → Body size limit flushes (state limit past goes_on false o flushes bytes off (length cs)) (cs ++ rest) rest (Wb off cs))
      → Body size limit flushes (state limit past goes_on false o flushes bytes off (length bs)) (bs ++ rest) rest (Wb off bs)
  bytes-by k o flushes off [] rest h m behind = no-piece size limit o flushes bytes off rest (Wb off []) refl
  bytes-by k o flushes off (c ∷ cs) rest h m behind =
      let bs = c ∷ cs in
      let z : length bs ≡ 0 → ⊥ = λ q. omega arith in
      let n = min (length bs) size in
      let a : n ≤ length bs = omega arith in
      let i : 0 < n = least-some (length bs) size z some in
      let l = length-drop n bs in
      let j : (off + n) % 2 ^ 64 ≡ off + n = mod-eq_of_lt (omega arith) in
      more-pieces size limit flushes (state limit past goes_on false o flushes bytes off (length bs)) (state limit past goes_on false (following_of o (length bs - n)) flushes bytes (off + n) (length (drop n bs)))
      (bs ++ rest) (drop n bs ++ rest) rest
      (Wb off (take n bs)) (Wb (off + n) (drop n bs)) (Wb off bs)
      (λ done. bytes-turn size limit o flushes off n bs rest done z refl a
      ∙ ap₂ (λ (i k : ℕ). point (state limit past goes_on false (following_of o (length bs - n)) flushes bytes i k) (drop n bs ++ rest) (done ++ (Wb off (take n bs) ∷ []))) j (sym l))
      (λ d x. split-bytes off n bs d x a)
      (behind (following_of o (length bs - n)) (off + n) (drop n bs) (omega arith) (omega arith))

  pub bytes-body : (k o flushes off : ℕ) (bs rest : List ℕ) → length bs ≤ k → off + length bs < 2 ^ 64
      → Body size limit flushes (state limit past goes_on false o flushes bytes off (length bs)) (bs ++ rest) rest (Wb off bs)
  bytes-body zero o flushes off [] rest h m = no-piece size limit o flushes bytes off rest (Wb off []) refl
  bytes-body zero o flushes off (c ∷ cs) rest h m = absurd (omega arith)
  bytes-body (suc k) o flushes off bs rest h m = bytes-by k o flushes off bs rest h m (λ o' off' cs h' m'. bytes-body k o' flushes off' cs rest h' m')
