-- The words of plugs after a bus reset.
use Rattle.fw_ledger.proofs.Common.{◌≡◌, ◌<◌, ◌+◌, ◌*◌, ◌/◌, ◌%◌, ◌^◌, ◌==◌, ◌||◌, ◌≤◌, not, nat_lt, ℕ, List, slice_index, false, ◌∙◌, sym, ap, arith, nat_tests, field, flag, out_word}
use Rattle.fw_ledger.proofs.Common.{in_word, is_connected}
use Rattle.std.proofs.lemmas.Nat.{mod_low}
use Rattle.fw_plug.specs.Words.{OutFields, InFields, FitsRegister}
use Rattle.fw_plug.proofs.Words.{fields_of_word, in_fields_of_word}
use Rattle.fw_plug.specs.Plugs.{disconnected}

-- the places of a device after its plugs have none
pub no_plug_at : (counts : List ℕ) (d count j : ℕ) → ((n : ℕ) → n < 31 → nat_lt n count ≡ nat_lt n (slice_index counts d)) → d * 31 + count ≤ j → j < (d + 1) * 31
    → nat_lt (j % 31) (slice_index counts (j / 31)) ≡ false
no_plug_at counts d count j same low high =
    let e : j / 31 ≡ d = omega arith in
    let small : j % 31 < 31 = omega arith in
    let far : count ≤ j % 31 = omega arith in
    let none : nat_lt (j % 31) count ≡ false = grind (arith, nat_tests) in
    ap (λ k. nat_lt (j % 31) (slice_index counts k)) e ∙ sym (same (j % 31) small) ∙ none

-- the lower 24 bits of a word
low_bits : (high low : ℕ) → low < 2 ^ 24 → field (high * 2 ^ 24 + low) 8 31 ≡ low
low_bits high low lt = let e : (high * 2 ^ 24 + low) / 2 ^ 0 ≡ high * 2 ^ 24 + low = omega arith in rw e (mod_low high 24 low lt)

-- an output plug keeps its settings
pub output_disconnected : (f : OutFields) → f.counter < 64 → FitsRegister f.settings → disconnected (out_word f) ≡ out_word (record { broadcast = false; counter = 0; settings = f.settings })
output_disconnected f most r =
    let below : flag f.broadcast ≤ 1 = grind arith in
    let on : field (out_word f) 0 0 ≡ 1 = let a = r.channel in let b = r.rate in let d = r.overhead in omega arith in
    let low : ℕ = f.settings.channel * 2 ^ 16 + f.settings.rate * 2 ^ 14 + f.settings.overhead * 2 ^ 10 + 122 in
    let lt : low < 2 ^ 24 = omega arith in
    let e : out_word f ≡ (128 + flag f.broadcast * 64 + f.counter) * 2 ^ 24 + low = omega arith in
    ap (λ n. n * 2 ^ 31 + field (out_word f) 8 31) on ∙ ap (λ w. 2 ^ 31 + field w 8 31) e ∙ ap (λ n. 2 ^ 31 + n) (low_bits (128 + flag f.broadcast * 64 + f.counter) low lt) ∙ omega arith

-- an input plug keeps its channel
pub input_disconnected : (f : InFields) → f.counter < 64 → f.channel < 64 → disconnected (in_word f) ≡ in_word (record { broadcast = false; counter = 0; channel = f.channel })
input_disconnected f most small =
    let below : flag f.broadcast ≤ 1 = grind arith in
    let on : field (in_word f) 0 0 ≡ 1 = omega arith in
    let low : ℕ = f.channel * 2 ^ 16 in
    let lt : low < 2 ^ 24 = omega arith in
    let e : in_word f ≡ (128 + flag f.broadcast * 64 + f.counter) * 2 ^ 24 + low = omega arith in
    ap (λ n. n * 2 ^ 31 + field (in_word f) 8 31) on ∙ ap (λ w. 2 ^ 31 + field w 8 31) e ∙ ap (λ n. 2 ^ 31 + n) (low_bits (128 + flag f.broadcast * 64 + f.counter) low lt) ∙ omega arith

-- a connection stands if one is counted
pub output_connected : (f : OutFields) → f.counter < 64 → FitsRegister f.settings → is_connected (out_word f) ≡ (f.broadcast || not (f.counter == 0))
output_connected f most r = ap (λ (g : OutFields). g.broadcast || not (g.counter == 0)) (fields_of_word f most r)

pub input_connected : (f : InFields) → f.counter < 64 → f.channel < 64 → is_connected (in_word f) ≡ (f.broadcast || not (f.counter == 0))
input_connected f most small = ap (λ (g : InFields). g.broadcast || not (g.counter == 0)) (in_fields_of_word f most small)
