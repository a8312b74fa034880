-- `request_texts::leading` meets its contract.
-- Assumes nothing.
use mathlib.Core.Path.{◌≡◌, ◌∙◌}
use mathlib.Core.Bool.{not}
use Prim.Native.Nat.{ℕ}
use Rattle.request_texts.specs.Texts.{is_digit, leading}
use Rattle.request_texts.proofs.Saying.{found_first, first-within}
use Rattle.request_texts.proofs.leading.Goals as goal

pub returns : goal.returns
unfolding leading
returns c =
    let e : c.unwrap_or.result ≡ leading c.args.text.now = c.unwrap_or.ensures ∙ rw c.first_other.ensures (found_first (λ (b : ℕ). not (is_digit b)) c.args.text.now) in
    (e, rw e (first-within (λ (b : ℕ). not (is_digit b)) c.args.text.now))
