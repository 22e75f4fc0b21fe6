-- Channels that are told one after another, each with what separates it from the next.
use Rattle.fw_holders.proofs.Common.{◌≡◌, ◌++◌, ◌∙◌, ◌∷◌, ◌+◌, ℕ, List, [], Ok, Option, Some, codes, length, refl, ap, sym, arith, NodeRow}
use Rattle.std.proofs.Common.{◌-◌, Result, Err, append_assoc, length-append, take}
use Rattle.std.specs.Result.{OnOk}
use Rattle.std.proofs.Math.Seq.{take-append_seam}
use Rattle.fw_holders_text.specs.declared.holding.Holding.{Holding}
use Rattle.fw_holders_text.specs.Holdings.{holding_text}
use Rattle.fw_holders.specs.Held.{separator, listed, with_holding}

-- after a channel
after_one : (told more : List ℕ) → separator (told ++ separator told ++ more) ≡ codes ", "
unfolding separator
after_one [] more = refl
after_one (c ∷ cs) more = refl

-- before the first
pub none_listed : listed [] ≡ codes ": "
unfolding separator
none_listed = refl

separator_size : (told : List ℕ) → length (separator told) ≡ 2
unfolding separator
separator_size [] = refl
separator_size (c ∷ cs) = refl

-- one more
pub listed_more : (nodes : List NodeRow) (ch : ℕ) (h : Holding) (told : List ℕ) → listed told ++ (holding_text nodes ch h ++ codes ", ") ≡ listed (with_holding nodes ch (Some h) told)
listed_more nodes ch h told =
    sym (append_assoc (listed told) (holding_text nodes ch h) (codes ", "))
    ∙ ap (λ (s : List ℕ). (listed told ++ holding_text nodes ch h) ++ s) (sym (after_one told (holding_text nodes ch h)))

-- the same after a text
pub then_listed : (nodes : List NodeRow) (ch : ℕ) (h : Holding) (before told t0 t1 : List ℕ) → t0 ≡ before ++ listed told → t1 ≡ t0 ++ (holding_text nodes ch h ++ codes ", ")
    → t1 ≡ before ++ listed (with_holding nodes ch (Some h) told)
then_listed nodes ch h before told t0 t1 e f =
    f ∙ ap (λ (t : List ℕ). t ++ (holding_text nodes ch h ++ codes ", ")) e ∙ append_assoc before (listed told) (holding_text nodes ch h ++ codes ", ")
    ∙ ap (λ (t : List ℕ). before ++ t) (listed_more nodes ch h told)

-- the same of a channel that is held
pub row_listed : (nodes : List NodeRow) (ch : ℕ) (h : Holding) (o : Option Holding) (before told t0 t1 : List ℕ) → o ≡ Some h → t0 ≡ before ++ listed told
    → t1 ≡ t0 ++ (holding_text nodes ch h ++ codes ", ") → t1 ≡ before ++ listed (with_holding nodes ch o told)
row_listed nodes ch h o before told t0 t1 is e f =
    then_listed nodes ch h before told t0 t1 e f ∙ ap (λ (x : Option Holding). before ++ listed (with_holding nodes ch x told)) (sym is)

-- the same if there is memory for it
pub put_listed : {X E : Type 0} (r : Result X E) (nodes : List NodeRow) (ch : ℕ) (h : Holding) (o : Option Holding) (before told t0 t1 : List ℕ) → o ≡ Some h → t0 ≡ before ++ listed told
    → OnOk r (t1 ≡ t0 ++ (holding_text nodes ch h ++ codes ", ")) → OnOk r (t1 ≡ before ++ listed (with_holding nodes ch o told))
put_listed (Ok x) nodes ch h o before told t0 t1 is e f = row_listed nodes ch h o before told t0 t1 is e f
put_listed (Err x) nodes ch h o before told t0 t1 is e f = f

-- without what separates the last from the next
pub cut_listed : (before told t : List ℕ) (n : ℕ) → t ≡ before ++ listed told → n ≡ length t - 2 → take n t ≡ before ++ told
cut_listed before told t n e is =
    let all : t ≡ (before ++ told) ++ separator told = e ∙ sym (append_assoc before told (separator told)) in
    let size : length t ≡ length (before ++ told) + length (separator told) = ap length all ∙ length-append (before ++ told) (separator told) in
    let two : length (separator told) ≡ 2 = separator_size told in
    let end : n ≡ length (before ++ told) = omega (arith, is, size, two) in
    ap (λ (k : ℕ). take k t) end ∙ ap (λ (x : List ℕ). take (length (before ++ told)) x) all ∙ take-append_seam (before ++ told) (separator told)

pub some_listed : (before told t : List ℕ) → t ≡ before ++ listed told → length t ≡ length (before ++ told) + 2
some_listed before told t e =
    let all : t ≡ (before ++ told) ++ separator told = e ∙ sym (append_assoc before told (separator told)) in
    let two : length (separator told) ≡ 2 = separator_size told in
    omega (arith, ap length all, length-append (before ++ told) (separator told), two)
