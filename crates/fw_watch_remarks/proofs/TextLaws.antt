-- Text that is appended in two or three parts.
use Rattle.std.proofs.Common.{◌≡◌, ℕ, List, ◌++◌, refl, ap, ◌∙◌, append_assoc, Bool, true, false, if◌then◌else◌, codes, Result, Ok, Err, OnOk}
use Rattle.fw_words.specs.Quadlet.{field}
use Rattle.fw_watch_remarks.specs.declared.register.At.{At}
use Rattle.fw_watch_remarks.specs.Knowing.{is_connected}
use Rattle.fw_watch_remarks.specs.Parts.{part}
use Rattle.fw_watch_remarks.specs.Remarks.{done_text, plug_text}

pub two : {A E : Type 0} → (r : Result A E) (s t u a b : List ℕ) → OnOk r (u ≡ t ++ b) → t ≡ s ++ a → OnOk r (u ≡ s ++ (a ++ b))
two (Ok v) s t u a b f e = f ∙ ap (λ x. x ++ b) e ∙ append_assoc s a b
two (Err x) s t u a b f e = tt

regrouped : (s a b c : List ℕ) → ((s ++ a) ++ b) ++ c ≡ s ++ ((a ++ b) ++ c)
regrouped s a b c = simp append_assoc

pub three : {A E : Type 0} → (r : Result A E) (s t u v a b c : List ℕ) → OnOk r (v ≡ u ++ c) → t ≡ s ++ a → u ≡ t ++ b → OnOk r (v ≡ s ++ ((a ++ b) ++ c))
three (Ok z) s t u v a b c g e f = g ∙ ap (λ x. x ++ c) (f ∙ ap (λ x. x ++ b) e) ∙ regrouped s a b c
three (Err z) s t u v a b c g e f = tt

-- of four texts by two facts, that if the first holds alone
first_alone : (a b : Bool) (x y z w : List ℕ) → a ≡ true → b ≡ false → (if a then (if b then x else y) else (if b then z else w)) ≡ y
first_alone true true x y z w e f = cc
first_alone true false x y z w e f = refl
first_alone false true x y z w e f = cc
first_alone false false x y z w e f = cc

-- and that if the second holds alone
second_alone : (a b : Bool) (x y z w : List ℕ) → a ≡ false → b ≡ true → (if a then (if b then x else y) else (if b then z else w)) ≡ z
second_alone true true x y z w e f = cc
second_alone true false x y z w e f = cc
second_alone false true x y z w e f = refl
second_alone false false x y z w e f = cc

pub plug_disconnects : (by : ℕ) (at : At) (old new : ℕ) → is_connected old ≡ true → is_connected new ≡ false
    → plug_text by at old new ≡ done_text by (codes " disconnects ") at ++ part (codes " from channel ") (field old 10 15)
unfolding plug_text
plug_disconnects by at old new e f = first_alone (is_connected old) (is_connected new) _ _ _ _ e f

pub plug_connects : (by : ℕ) (at : At) (old new : ℕ) → is_connected old ≡ false → is_connected new ≡ true
    → plug_text by at old new ≡ done_text by (codes " connects ") at ++ part (codes " on channel ") (field new 10 15)
unfolding plug_text
plug_connects by at old new e f = second_alone (is_connected old) (is_connected new) _ _ _ _ e f
