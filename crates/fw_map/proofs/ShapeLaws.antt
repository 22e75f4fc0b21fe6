-- What hangs if in a tree, and the ways down to its nodes.
use Rattle.fw_map.proofs.Common.{◌≡◌, ◌⊎◌, inl, inr, ℕ, List, Option, Some, None, true, false, refl, ap, ◌∙◌, number_at, is_there, Tree, Hangs, at_root, down_to}
use Rattle.fw_map.specs.Trees.{LeadsDown}

pub some_of : (o : Option ℕ) → is_there o ≡ true → (d : ℕ) × (o ≡ Some d)
some_of None h = absurd (let z : ⊥ = cc in z)
some_of (Some d) h = (d, refl)

pub none_of : (o : Option ℕ) → is_there o ≡ false → o ≡ None
none_of None h = refl
none_of (Some d) h = absurd (let z : ⊥ = cc in z)

pub there : (o : Option ℕ) (d : ℕ) → o ≡ Some d → is_there o ≡ true
there o d e = ap is_there e

pub same_some : (o : Option ℕ) (c d : ℕ) → o ≡ Some c → o ≡ Some d → c ≡ d
same_some o c d e f = cc

-- if a parent is, a port is
pub hangs_of : (t : Tree) (c d : ℕ) → is_there (number_at t.parent_port c) ≡ is_there (number_at t.parent c) → number_at t.parent c ≡ Some d → (p : ℕ) × Hangs t c d p
hangs_of t c d same h = let w = some_of (number_at t.parent_port c) (same ∙ there (number_at t.parent c) d h) in (w.0, record { parent = h; port = w.1 })

-- one way leads down to a node
pub one_way : (t : Tree) (root : ℕ) (v w : List ℕ) (c d : ℕ) → number_at t.parent root ≡ None → LeadsDown t root v c → LeadsDown t root w d → c ≡ d → v ≡ w
one_way t root v w c d top at_root at_root same = refl
one_way t root v w c d top at_root (down_to u p h split) same =
    absurd (let x = h.parent in let y : number_at t.parent root ≡ number_at t.parent d = ap (number_at t.parent) same in let z : ⊥ = cc in z)
one_way t root v w c d top (down_to u p h split) at_root same =
    absurd (let x = h.parent in let y : number_at t.parent c ≡ number_at t.parent root = ap (number_at t.parent) same in let z : ⊥ = cc in z)
one_way t root v w c d top (down_to {k = k} {d = a} u p h split) (down_to {k = j} {d = b} x q i apart) same =
    let up = ap (number_at t.parent) same in
    let at = ap (number_at t.parent_port) same in
    let node : a ≡ b = same_some (number_at t.parent c) a b h.parent (up ∙ i.parent) in
    let port : p ≡ q = same_some (number_at t.parent_port c) p q h.port (at ∙ i.port) in
    let rest : k ≡ j = one_way t root k j a b top u x node in
    cc

-- a node to which a way leads is the root or hangs on another
pub root_or_hangs : (t : Tree) (root : ℕ) (v : List ℕ) (c : ℕ) → LeadsDown t root v c → (c ≡ root) ⊎ ((d p : ℕ) × Hangs t c d p)
root_or_hangs t root v c at_root = inl refl
root_or_hangs t root v c (down_to {d = d} u p h split) = inr (d, p, h)
