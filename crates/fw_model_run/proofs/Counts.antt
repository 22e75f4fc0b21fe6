-- Counts of data packets: those of plugs that talk, and 0.
use Rattle.fw_model_run.proofs.Common.{◌≡◌, ℕ, cond, Bool, true, false, refl, ap, sym, ◌∙◌, IsTrue, IsFalse, PlugAt, Account, talks, while_talking}
use Rattle.std.proofs.Math.Path.{fun_ext}

pub silent : (l : Account) (counts : PlugAt → ℕ) (p : PlugAt) → IsFalse (talks l p) → while_talking l counts p ≡ 0
silent l counts p off = ap (λ b. cond b (counts p) 0) off

pub heard_on : (l : Account) (counts : PlugAt → ℕ) (p : PlugAt) → IsTrue (talks l p) → while_talking l counts p ≡ counts p
heard_on l counts p on = ap (λ b. cond b (counts p) 0) on

-- if each plug that does not talk has 0 already
pub same_counts : (l : Account) (counts : PlugAt → ℕ) → ((p : PlugAt) → IsFalse (talks l p) → counts p ≡ 0) → while_talking l counts ≡ counts
same_counts l counts none = fun_ext (λ p. go p (talks l p) refl)
  where
    go : (p : PlugAt) (b : Bool) → talks l p ≡ b → while_talking l counts p ≡ counts p
    go p true on = heard_on l counts p on
    go p false off = silent l counts p off ∙ sym (none p off)
