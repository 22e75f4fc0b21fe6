-- The channels that are held, one by one.
use Rattle.fw_holders.proofs.Common.{◌≡◌, ◌+◌, ◌≤◌, ◌<◌, ◌++◌, ◌∙◌, ℕ, [], None, refl, ap, sym, arith, Account, nodes_of, channel_lines}
use Rattle.std.proofs.Common.{◌-◌, zero, suc, add-one}
use Rattle.fw_holders.specs.Held.{holding, with_holding, held_below}
use Rattle.fw_holders.specs.Table.{channel_line}

pub none_held : (l : Account) → held_below 0 l ≡ []
unfolding held_below
none_held l = refl

pub next_held : (n : ℕ) (l : Account) → held_below (n + 1) l ≡ with_holding (nodes_of l.latest) n (holding l n) (held_below n l)
unfolding held_below
next_held n l = rw add-one refl

skipped : (n a : ℕ) (l : Account) → ((ch : ℕ) → a ≤ ch → ch < a + n → holding l ch ≡ None) → held_below (a + n) l ≡ held_below a l
skipped zero a l free = let e : a + 0 ≡ a = omega arith in ap (λ k. held_below k l) e
skipped (suc n) a l free =
    let e : a + suc n ≡ (a + n) + 1 = omega arith in
    ap (λ k. held_below k l) e ∙ next_held (a + n) l
    ∙ ap (λ o. with_holding (nodes_of l.latest) (a + n) o (held_below (a + n) l)) (free (a + n) (omega arith) (omega arith))
    ∙ skipped n a l (λ ch from below. free ch from (omega arith))

-- channels between two that are not held
pub none_between : (a b : ℕ) (l : Account) → a ≤ b → ((ch : ℕ) → a ≤ ch → ch < b → holding l ch ≡ None) → held_below b l ≡ held_below a l
none_between a b l le free =
    let e : a + (b - a) ≡ b = omega arith in
    ap (λ k. held_below k l) (sym e) ∙ skipped (b - a) a l (λ ch from below. free ch from (omega arith))

pub no_lines : (l : Account) → channel_lines 0 l ≡ []
unfolding channel_lines
no_lines l = refl

pub next_line : (n : ℕ) (l : Account) → channel_lines (n + 1) l ≡ channel_lines n l ++ channel_line (nodes_of l.latest) n (holding l n)
unfolding channel_lines
next_line n l = rw add-one refl
