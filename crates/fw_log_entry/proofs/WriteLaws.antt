-- What was written, by another name.
use Rattle.std.proofs.Common.{◌≡◌, ℕ, List, ◌++◌, ◌≤◌, Option, Result, subst, ap, ◌∙◌, append_assoc, append-nil, length, drop, arith, length-append}
use Rattle.std.proofs.lemmas.List.{drop-drop, drop_all, take_at}
use borrow.Rule.Slice.PartMut.{put_mid}
use Rattle.fw_outside.specs.Outside.{Writes}

pub writes_same : {T E : Type 0} (old new : Option (List ℕ)) (r : Result T E) (x y : List ℕ) → x ≡ y → Writes old new r x → Writes old new r y
writes_same old new r x y e h = let P : List ℕ → Type 0 = λ b. Writes old new r b in subst P e h

pub one_more : (new old part prefix more : List ℕ) → new ≡ old ++ part → old ≡ prefix → part ≡ more → new ≡ prefix ++ more
one_more new old part prefix more e f g = e ∙ ap (λ t. t ++ part) f ∙ ap (λ t. prefix ++ t) g

-- a head, what stands after it, and a block or none
pub entry_after : (old head heads prefix now block all : List ℕ) → prefix ≡ head ++ heads → now ≡ old ++ prefix → all ≡ now ++ block → all ≡ old ++ (head ++ (heads ++ block))
entry_after old head heads prefix now block all e f g =
    g ∙ ap (λ t. t ++ block) (f ∙ ap (λ t. old ++ t) e) ∙ append_assoc old (head ++ heads) block ∙ ap (λ t. old ++ t) (append_assoc head heads block)

-- sixteen bytes, and then twelve over the zeros after them
pub twelve_after : (a b x y zeros : List ℕ) → x ≡ a → y ≡ b → length x ≡ 16 → length zeros ≡ 12 → put_mid 16 12 (x ++ zeros) y ≡ a ++ b
twelve_after a b x y zeros e f n m =
    let past : length (x ++ zeros) ≤ 28 = omega (arith, length-append x zeros, n, m) in
    ap (λ l. l ++ (y ++ drop 12 (drop 16 (x ++ zeros)))) (take_at x zeros 16 n)
    ∙ (ap (λ l. x ++ (y ++ l)) (drop-drop 12 16 (x ++ zeros) ∙ drop_all 28 (x ++ zeros) past) ∙ (ap (λ l. x ++ l) (append-nil y ∙ f) ∙ ap (λ l. l ++ b) e))
