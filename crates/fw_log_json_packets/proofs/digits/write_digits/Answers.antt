use Rattle.std.proofs.Common.{◌≡◌, ◌++◌, ◌+◌, ◌*◌, ◌<◌, ◌∙◌, List, ℕ, [], ◌∷◌, length, take, get_or, arith, ap, sym, append_assoc}
use Rattle.std.proofs.lemmas.List.{take_more}
use Rattle.std.proofs.lemmas.Grind.{flat_map-append}
use Rattle.fw_text.specs.Digits.{byte_digits}
use Rattle.fw_text.specs.Texts.{hex_bytes}
use Rattle.fw_log_json_packets.proofs.digits.write_digits.Goals as goal

-- the digits of a byte more
byte_more : (base bytes : List ℕ) (place d : ℕ) (before digits row : List ℕ) → place < length bytes → before ≡ base ++ hex_bytes (take place bytes)
    → digits ≡ byte_digits (get_or bytes place d) → row ≡ before ++ digits → row ≡ base ++ hex_bytes (take (place + 1) bytes)
byte_more base bytes place d before digits row within e f g =
    let prefix : List ℕ = take place bytes in
    g ∙ ap (λ (t : List ℕ). t ++ digits) e ∙ append_assoc base (hex_bytes prefix) digits
    ∙ ap (λ (t : List ℕ). base ++ t) (ap (λ (t : List ℕ). hex_bytes prefix ++ t) f
    ∙ sym (flat_map-append byte_digits prefix (get_or bytes place d ∷ [])) ∙ ap (λ (b : List ℕ). hex_bytes b) (sym (take_more bytes place d within)))

pub loop-place-preserved : goal.loop-place-preserved
loop-place-preserved c =
    let i = c.loop-place.invariant in
    let place : ℕ = c.loop-place.place in
    let within : place < length c.args.bytes.now = omega (arith, c.loop-place-test.true, c.loop-place.auto.place-end) in
    let end : c.args.at + 2 * (place + 1) ≡ c.args.at + 2 * place + 2 = omega arith in
    record {
      size = c.write_two.ensures.size ∙ i.size;
      text = ap (λ (k : ℕ). take k c.write_two.new.out) end
          ∙ byte_more (take c.args.at c.args.out.now) c.args.bytes.now place _ _ _ _ within i.text c.digits_of_byte.ensures c.write_two.ensures.text;
    }
