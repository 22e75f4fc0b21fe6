-- The words that are read and written, as words of plugs with their fields.
use Rattle.std.proofs.Common.{◌≡◌, ℕ, ◌+◌, ◌-◌, ◌<◌, ◌==◌, true, false, refl, ap, arith}
use Rattle.fw_terms.specs.declared.plug.ConnectionKind.{ConnectionKind}
use Rattle.fw_terms.specs.declared.plug.ConnectionKind.TheVariants.{PointToPoint, Broadcast}
use Rattle.fw_words.specs.Quadlet.{field}
use Rattle.fw_plug.specs.Words.{Settings, OutFields, InFields, FitsRegister, out_word, in_word, units_of}
use Rattle.fw_plug.proofs.Words.{fields_of_word, in_fields_of_word}
use Rattle.fw_plug.specs.Changes.{has_broadcast, counter_of, channel_of, overhead_of, is_full, one_more, one_less, with_channel, with_overhead}
use Rattle.fw_plug.specs.Units.{units_with}

-- ---- output plugs

pub broadcast_of_word : (f : OutFields) → f.counter < 64 → FitsRegister f.settings → has_broadcast (out_word f) ≡ f.broadcast
broadcast_of_word f c s = ap (λ (g : OutFields). g.broadcast) (fields_of_word f c s)

pub counter_of_word : (f : OutFields) → f.counter < 64 → FitsRegister f.settings → counter_of (out_word f) ≡ f.counter
counter_of_word f c s = ap (λ (g : OutFields). g.counter) (fields_of_word f c s)

pub channel_of_word : (f : OutFields) → f.counter < 64 → FitsRegister f.settings → channel_of (out_word f) ≡ f.settings.channel
channel_of_word f c s = ap (λ (g : OutFields). g.settings.channel) (fields_of_word f c s)

pub rate_of_word : (f : OutFields) → f.counter < 64 → FitsRegister f.settings → field (out_word f) 16 17 ≡ f.settings.rate
rate_of_word f c s = ap (λ (g : OutFields). g.settings.rate) (fields_of_word f c s)

pub overhead_of_word : (f : OutFields) → f.counter < 64 → FitsRegister f.settings → overhead_of (out_word f) ≡ f.settings.overhead
overhead_of_word f c s = ap (λ (g : OutFields). g.settings.overhead) (fields_of_word f c s)

pub counted_word : (f : OutFields) → one_more PointToPoint (out_word f) ≡ out_word (record f { counter = f.counter + 1 })
counted_word f = omega arith

pub broadcast_word : (f : OutFields) → f.broadcast ≡ false → one_more Broadcast (out_word f) ≡ out_word (record f { broadcast = true })
broadcast_word f e = rw e (omega arith)

pub uncounted_word : (f : OutFields) → 0 < f.counter → one_less PointToPoint (out_word f) ≡ out_word (record f { counter = f.counter - 1 })
uncounted_word f lt = omega arith

pub unbroadcast_word : (f : OutFields) → f.broadcast ≡ true → one_less Broadcast (out_word f) ≡ out_word (record f { broadcast = false })
unbroadcast_word f e = rw e (omega arith)

pub channel_word : (f : OutFields) (ch : ℕ) → f.counter < 64 → FitsRegister f.settings → with_channel (out_word f) ch ≡ out_word (record f { settings = record f.settings { channel = ch } })
channel_word f ch c s = rw (channel_of_word f c s) (omega arith)

pub overhead_word : (f : OutFields) (o : ℕ) → f.counter < 64 → FitsRegister f.settings → with_overhead (out_word f) o ≡ out_word (record f { settings = record f.settings { overhead = o } })
overhead_word f o c s = rw (overhead_of_word f c s) (omega arith)

pub payload_of_word : (f : OutFields) → f.counter < 64 → FitsRegister f.settings → field (out_word f) 22 31 ≡ 122
payload_of_word f c s = omega (arith, s.channel, s.rate, s.overhead)

pub units_of_word : (f : OutFields) (o : ℕ) → f.counter < 64 → FitsRegister f.settings → units_with o (out_word f) ≡ units_of (record f.settings { overhead = o })
units_of_word f o c s = rw (payload_of_word f c s) (rw (rate_of_word f c s) refl)

-- ---- input plugs

pub in_broadcast_of_word : (f : InFields) → f.counter < 64 → f.channel < 64 → has_broadcast (in_word f) ≡ f.broadcast
in_broadcast_of_word f c ch = ap (λ (g : InFields). g.broadcast) (in_fields_of_word f c ch)

pub in_counter_of_word : (f : InFields) → f.counter < 64 → f.channel < 64 → counter_of (in_word f) ≡ f.counter
in_counter_of_word f c ch = ap (λ (g : InFields). g.counter) (in_fields_of_word f c ch)

pub in_channel_of_word : (f : InFields) → f.counter < 64 → f.channel < 64 → channel_of (in_word f) ≡ f.channel
in_channel_of_word f c ch = ap (λ (g : InFields). g.channel) (in_fields_of_word f c ch)

pub in_counted_word : (f : InFields) → one_more PointToPoint (in_word f) ≡ in_word (record f { counter = f.counter + 1 })
in_counted_word f = omega arith

pub in_broadcast_word : (f : InFields) → f.broadcast ≡ false → one_more Broadcast (in_word f) ≡ in_word (record f { broadcast = true })
in_broadcast_word f e = rw e (omega arith)

pub in_uncounted_word : (f : InFields) → 0 < f.counter → one_less PointToPoint (in_word f) ≡ in_word (record f { counter = f.counter - 1 })
in_uncounted_word f lt = omega arith

pub in_unbroadcast_word : (f : InFields) → f.broadcast ≡ true → one_less Broadcast (in_word f) ≡ in_word (record f { broadcast = false })
in_unbroadcast_word f e = rw e (omega arith)

pub in_channel_word : (f : InFields) (ch : ℕ) → f.counter < 64 → f.channel < 64 → with_channel (in_word f) ch ≡ in_word (record f { channel = ch })
in_channel_word f ch c lt = rw (in_channel_of_word f c lt) (omega arith)

-- a plug without connections has room for one of each kind
pub first_has_room : (kind : ConnectionKind) (k : Settings) → FitsRegister k → is_full kind (out_word (record { broadcast = false; counter = 0; settings = k })) ≡ false
first_has_room PointToPoint k s = ap (λ n. n == 63) (counter_of_word (record { broadcast = false; counter = 0; settings = k }) (omega arith) s)
first_has_room Broadcast k s = broadcast_of_word (record { broadcast = false; counter = 0; settings = k }) (omega arith) s
