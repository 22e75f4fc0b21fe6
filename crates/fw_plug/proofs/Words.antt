-- The fields of a plug register are those that it was made of.
use Rattle.std.proofs.Common.{◌≡◌, ◌<◌, ◌≤◌, eqb, arith}
use Rattle.std.proofs.lemmas.Bool.Decides.{nat_tests}
use Rattle.fw_words.specs.Quadlet.{field}
use Rattle.fw_plug.specs.Words.{OutFields, flag, out_word, out_fields, FitsRegister, InFields, in_word, in_fields}

pub fields_of_word : (f : OutFields) → f.counter < 64 → FitsRegister f.settings → out_fields (out_word f) ≡ f
fields_of_word f most r =
    let below : flag f.broadcast ≤ 1 = grind arith in
    let b : field (out_word f) 1 1 ≡ flag f.broadcast = omega arith in
    let counter : field (out_word f) 2 7 ≡ f.counter = omega arith in
    let channel : field (out_word f) 10 15 ≡ f.settings.channel = omega arith in
    let rate : field (out_word f) 16 17 ≡ f.settings.rate = omega arith in
    let overhead : field (out_word f) 18 21 ≡ f.settings.overhead = omega arith in
    let broadcast : eqb (field (out_word f) 1 1) 1 ≡ f.broadcast = grind (arith, nat_tests, b) in
    λ i. record { broadcast = broadcast i; counter = counter i; settings = record { channel = channel i; rate = rate i; overhead = overhead i } }

pub in_fields_of_word : (f : InFields) → f.counter < 64 → f.channel < 64 → in_fields (in_word f) ≡ f
in_fields_of_word f most small =
    let below : flag f.broadcast ≤ 1 = grind arith in
    let b : field (in_word f) 1 1 ≡ flag f.broadcast = omega arith in
    let counter : field (in_word f) 2 7 ≡ f.counter = omega arith in
    let channel : field (in_word f) 10 15 ≡ f.channel = omega arith in
    let broadcast : eqb (field (in_word f) 1 1) 1 ≡ f.broadcast = grind (arith, nat_tests, b) in
    λ i. record { broadcast = broadcast i; counter = counter i; channel = channel i }
