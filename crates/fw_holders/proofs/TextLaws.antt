-- Texts that are appended one after another.
use Rattle.fw_holders.proofs.Common.{◌≡◌, ◌++◌, ◌∙◌, ap, sym, List, ℕ, Ok}
use Rattle.std.proofs.Common.{Result, Err, append_assoc}
use Rattle.std.specs.Result.{OnOk}

-- one more
pub both_put : (t0 t1 t2 a b : List ℕ) → t1 ≡ t0 ++ a → t2 ≡ t1 ++ b → t2 ≡ t0 ++ (a ++ b)
both_put t0 t1 t2 a b e f = f ∙ ap (λ (x : List ℕ). x ++ b) e ∙ append_assoc t0 a b

-- one more, if there is memory for it
pub then_put : {X E : Type 0} (r : Result X E) (t0 t1 t2 a b : List ℕ) → t1 ≡ t0 ++ a → OnOk r (t2 ≡ t1 ++ b) → OnOk r (t2 ≡ t0 ++ (a ++ b))
then_put (Ok x) t0 t1 t2 a b e f = both_put t0 t1 t2 a b e f
then_put (Err x) t0 t1 t2 a b e f = f

-- four texts after another
pub five_put : (a u l h n : List ℕ) → a ++ (u ++ l ++ h ++ n) ≡ a ++ u ++ l ++ h ++ n
five_put a u l h n =
    sym (append_assoc a (u ++ l ++ h) n)
    ∙ ap (λ (x : List ℕ). x ++ n) (sym (append_assoc a (u ++ l) h) ∙ ap (λ (x : List ℕ). x ++ h) (sym (append_assoc a u l)))

-- a line
pub line_put : (a w u l h n : List ℕ) → a ++ w ++ (u ++ l) ++ h ++ n ≡ a ++ (w ++ u ++ l ++ h ++ n)
line_put a w u l h n =
    append_assoc ((a ++ w) ++ (u ++ l)) h n ∙ append_assoc (a ++ w) (u ++ l) (h ++ n) ∙ append_assoc a w ((u ++ l) ++ (h ++ n))
    ∙ ap (λ (x : List ℕ). a ++ x) (ap (λ (y : List ℕ). w ++ y) (sym (append_assoc (u ++ l) h n)) ∙ five_put w u l h n)
