-- The texts of plugs of one digit.
use Rattle.std.proofs.Common.{◌≡◌, refl, ℕ, ◌+◌, ◌/◌, ◌%◌, ◌<◌, ◌≤◌, List, [], ◌∷◌, ◌++◌, codes, decimal, if◌then◌else◌, Result, Ok, Err, OnOk}
use Rattle.std.specs.Result.{is_ok}
use Rattle.std.proofs.lemmas.Fmt.{decimal_digit}
use Rattle.fw_text.proofs.DecimalLaws.{two_digits}
use Rattle.fw_log_registers.specs.Words.{place_text}
use Rattle.fw_watch_remarks.specs.declared.register.At.{At}
use Rattle.fw_watch_remarks.specs.declared.register.WatchedRegister.TheVariants.{Output, Input}
use Rattle.fw_watch_remarks.specs.Registers.{at_text}

-- what is appended stands there, if there was memory for it
pub appended : {A E : Type 0} → (r : Result A E) (s t u : List ℕ) → u ≡ (if is_ok r then s else t) → OnOk r (u ≡ s)
appended (Ok v) s t u e = e
appended (Err x) s t u e = tt

-- all before the number of the node
pub to_node : (letter number : ℕ) → number < 10
    → letter ∷ codes "PCR[" ++ decimal number ++ codes "] of node "
    ≡ letter ∷ 80 ∷ 67 ∷ 82 ∷ 91 ∷ (48 + number) ∷ 93 ∷ 32 ∷ 111 ∷ 102 ∷ 32 ∷ 110 ∷ 111 ∷ 100 ∷ 101 ∷ 32 ∷ []
to_node letter number h = rw (decimal_digit number h) refl

-- and with a number of two digits
pub with_node : (letter number node : ℕ) → number < 10 → 10 ≤ node → node < 100
    → letter ∷ codes "PCR[" ++ decimal number ++ codes "] of node " ++ decimal node
    ≡ letter ∷ 80 ∷ 67 ∷ 82 ∷ 91 ∷ (48 + number) ∷ 93 ∷ 32 ∷ 111 ∷ 102 ∷ 32 ∷ 110 ∷ 111 ∷ 100 ∷ 101 ∷ 32 ∷ (48 + node / 10) ∷ (48 + node % 10) ∷ []
with_node letter number node h more less = rw (decimal_digit number h, two_digits node more less) refl

-- an oPCR
pub output_text : (at : At) (number : ℕ) → at.register ≡ Output number → number < 10
    → at_text at ≡ 111 ∷ codes "PCR[" ++ decimal number ++ codes "] of node " ++ decimal at.node
unfolding at_text place_text
output_text at number e h = rw (e, decimal_digit number h) refl

-- an iPCR
pub input_text : (at : At) (number : ℕ) → at.register ≡ Input number → number < 10
    → at_text at ≡ 105 ∷ codes "PCR[" ++ decimal number ++ codes "] of node " ++ decimal at.node
unfolding at_text place_text
input_text at number e h = rw (e, decimal_digit number h) refl
