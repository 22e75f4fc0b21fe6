-- A line of a prefix, an arrow and what is told: each is found in it again.
use Rattle.std.proofs.Common.{◌≡◌, ap, ◌∙◌, ℕ, zero, suc, ◌+◌, List, [], ◌∷◌, ◌++◌, length, take, drop, Some, append_assoc, arith}
use Rattle.std.proofs.lemmas.List.{length-append, append-nil}
use Rattle.fw_log_requests.specs.declared.asked.Asked.{Asked}
use Rattle.fw_trace_requests.specs.Held.{DeferredRequest}

-- the first so many bytes of a row after others
pub row_cut : (a b : List ℕ) (size k : ℕ) → k ≡ length a + size → take k (a ++ b) ≡ a ++ take size b
row_cut [] b size k e = ap (λ n. take n b) (omega (arith, e))
row_cut (x ∷ xs) b size zero e = absurd (omega (arith, e))
row_cut (x ∷ xs) b size (suc k) e = ap (λ (l : List ℕ). x ∷ l) (row_cut xs b size k (omega (arith, e)))

-- what stands before a place, and after it
pub before_is : (a b : List ℕ) (k : ℕ) → k ≡ length a → take k (a ++ b) ≡ a
before_is a b k e = row_cut a b 0 k (omega (arith, e)) ∙ append-nil a

pub after_is : (a b : List ℕ) (k : ℕ) → k ≡ length a → drop k (a ++ b) ≡ b
after_is [] b k e =
    let none : k ≡ 0 = omega (arith, e) in
    ap (λ (n : ℕ). drop n b) none
after_is (x ∷ xs) b zero e = absurd (omega (arith, e))
after_is (x ∷ xs) b (suc k) e = after_is xs b k (omega (arith, e))

-- a line of a prefix, an arrow of four bytes and what is told
pub prefix_is : (f a t line line' line'' : List ℕ) (arrow : ℕ) → line ≡ f → arrow ≡ length line → line' ≡ line ++ a → line'' ≡ line' ++ t → take arrow line'' ≡ f
prefix_is f a t line line' line'' arrow e n m l =
    let whole : line'' ≡ line ++ (a ++ t) = l ∙ ap (λ (x : List ℕ). x ++ t) m ∙ append_assoc line a t in
    ap (take arrow) whole ∙ before_is line (a ++ t) arrow n ∙ e

pub told_is : (a t line line' line'' : List ℕ) (arrow : ℕ) → length a ≡ 4 → arrow ≡ length line → line' ≡ line ++ a → line'' ≡ line' ++ t → drop (arrow + 4) line'' ≡ t
told_is a t line line' line'' arrow four n m l =
    let long : arrow + 4 ≡ length line' = omega (arith, four, n, ap length m, length-append line a) in
    ap (drop (arrow + 4)) l ∙ after_is line' t (arrow + 4) long

-- a request that is held back, of these parts
abbrev of_parts : Asked → List ℕ → List ℕ → List ℕ → DeferredRequest
of_parts q f t c = record { asked = q; prefix = f; told = t; changes = c }

pub held_same : (q : Asked) (f f' t t' c c' : List ℕ) → f ≡ f' → t ≡ t' → c ≡ c' → Some (of_parts q f t c) ≡ Some (of_parts q f' t' c')
held_same q f f' t t' c c' e g h = λ i. Some (of_parts q (e i) (g i) (h i))

-- a line with its arrow, put part by part
pub line_put : (text cycle left arrow right blank asked frame more feed : List ℕ)
    → text ++ (cycle ++ left ++ arrow ++ right ++ blank) ++ (asked ++ (frame ++ more)) ++ feed ≡ text ++ (cycle ++ left ++ arrow ++ (right ++ blank ++ asked ++ frame) ++ more ++ feed)
line_put text cycle left arrow right blank asked frame more feed = simp append_assoc

-- a line with its arrow, of what it begins with and one piece after it
pub line_whole : (text cycle left arrow right blank asked frame more piece feed : List ℕ) → piece ≡ asked ++ (frame ++ more)
    → text ++ ((cycle ++ left ++ arrow ++ right ++ blank) ++ (piece ++ feed)) ≡ text ++ (cycle ++ left ++ arrow ++ (right ++ blank ++ asked ++ frame) ++ more ++ feed)
line_whole text cycle left arrow right blank asked frame more piece feed e =
    ap (λ (x : List ℕ). text ++ ((cycle ++ left ++ arrow ++ right ++ blank) ++ (x ++ feed))) e ∙ simp append_assoc
