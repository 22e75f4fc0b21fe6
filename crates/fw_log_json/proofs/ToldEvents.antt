-- The fields of events, outcomes and shown words tell them.
use Rattle.fw_log_json.proofs.Common.{◌≡◌, ℕ, ◌+◌, ◌^◌, ◌<◌, ◌==◌, Bool, true, false, if◌then◌else◌, [], codes, decimal, Some, None, IfSome, refl, ap, sym, ◌∙◌, arith, nat_tests, code, number_value}
use Rattle.std.proofs.lemmas.Bool.{false≢true}
use Rattle.fw_csr.specs.declared.offset.TheConstants.{REGISTER_SPACE}
use Rattle.fw_log_entry.specs.Log.{EventFits, OutcomeFits, ShownFits}
use Rattle.fw_log_entry.specs.Rows.{event_form, has_tape, may_have}
use Rattle.fw_log_entry.specs.declared.codes.TheConstants.{NO_DEVICE}
use Rattle.fw_log_entry.specs.declared.entry.EventEntry.{EventEntry}
use Rattle.fw_log_entry.specs.declared.entry.OutcomeEntry.{OutcomeEntry}
use Rattle.fw_log_entry.specs.declared.entry.ShownEntry.{ShownEntry}
use Rattle.fw_log_entry.proofs.RowLaws.{event_code, outcome_code, no_tape, small_system}
use Rattle.fw_log_names.specs.Names.{system_name, event_name, outcome_name}
use Rattle.fw_log_json.specs.Objects.{device_of, inserted_fields, tape_fields, event_fields, outcome_fields, shown_fields}
use Rattle.fw_log_json.proofs.Told.{Value, Told, Stops, next, knowing, means, comma, comma_then, coded, number, nothing}
use Rattle.fw_log_json.proofs.ToldValues.{eight, twelve, perhaps}

device_tells : (x y : ℕ) → device_of x ≡ device_of y → x ≡ y
device_tells x y e = grind (arith, nat_tests)

pub few_device : (x : ℕ) → x < 2 ^ 8 → IfSome (device_of x) (λ n. n < 2 ^ 64)
few_device x h = by (x == NO_DEVICE)
  where
    by : (b : Bool) → IfSome (if b then None else Some x) (λ n. n < 2 ^ 64)
    by true = tt
    by false = omega (arith, h)

devices : (x y : ℕ) → x < 2 ^ 8 → y < 2 ^ 8 → Value (number_value (device_of x)) (number_value (device_of y)) (x ≡ y)
devices x y a b = record {
  by = λ r s h k e.
      let f = (perhaps (device_of x) (device_of y) (few_device x a) (few_device y b)).by r s h k e in (device_tells x y f.0, f.1);
}

inserted : (e d : EventEntry) → e.tape < 2 ^ 16 → d.tape < 2 ^ 16 → e.system < 2 ^ 16 → d.system < 2 ^ 16
    → Told (inserted_fields e) (inserted_fields d) ((e.tape ≡ d.tape) × (e.system ≡ d.system))
inserted e d a b c f =
    next (comma (codes "\"tape\":") (number e.tape d.tape (omega (arith, a)) (omega (arith, b))))
    (coded (codes "\"system\":") (codes "\"system_name\":") system_name e.system d.system (omega (arith, c)) (omega (arith, f)))

tapes_by : (x y : Bool) (e d : EventEntry) → x ≡ y → e.tape < 2 ^ 16 → d.tape < 2 ^ 16 → e.system < 2 ^ 16 → d.system < 2 ^ 16
    → (x ≡ false → (e.tape ≡ 0) × (e.system ≡ 0)) → (y ≡ false → (d.tape ≡ 0) × (d.system ≡ 0))
    → Value (if x then inserted_fields e else []) (if y then inserted_fields d else []) ((e.tape ≡ d.tape) × (e.system ≡ d.system))
tapes_by true true e d same a b c f g h = (inserted e d a b c f).value
tapes_by true false e d same a b c f g h = absurd (false≢true (sym same))
tapes_by false true e d same a b c f g h = absurd (false≢true same)
tapes_by false false e d same a b c f g h = (means nothing (λ p. ((g refl).0 ∙ sym (h refl).0, (g refl).1 ∙ sym (h refl).1))).value

-- no tape begins with a digit
tape_stops : (e : EventEntry) → Stops (tape_fields e)
tape_stops e = by (has_tape (event_form e.code))
  where
    by : (b : Bool) → Stops (if b then inserted_fields e else [])
    by true = comma_then (codes "\"tape\":") (decimal e.tape) (code (codes ",\"system\":") e.system (codes ",\"system_name\":") (system_name e.system))
    by false = record { by = λ r h. h }

pub events : (e d : EventEntry) → EventFits e → EventFits d → Told (event_fields e) (event_fields d) (e ≡ d)
events e d a b =
    let c : e.code < 256 = event_code e.code e.device e.tape e.system a.shape in
    let f : d.code < 256 = event_code d.code d.device d.tape d.system b.shape in
    let s : e.system < 2 ^ 16 = small_system (may_have (event_form e.code) e.device) (has_tape (event_form e.code)) e.tape e.system a.shape in
    let t : d.system < 2 ^ 16 = small_system (may_have (event_form d.code) d.device) (has_tape (event_form d.code)) d.tape d.system b.shape in
    means
    (knowing (next (coded (codes "\"code\":") (codes "\"code_name\":") event_name e.code d.code (omega (arith, c)) (omega (arith, f)))
    (comma (codes "\"device\":") (devices e.device d.device a.device b.device)))
    (tape_stops e) (tape_stops d) (λ same.
    tapes_by (has_tape (event_form e.code)) (has_tape (event_form d.code)) e d (ap (λ (n : ℕ). has_tape (event_form n)) same.0) a.tape b.tape s t
    (no_tape (may_have (event_form e.code) e.device) (has_tape (event_form e.code)) e.tape e.system a.shape)
    (no_tape (may_have (event_form d.code) d.device) (has_tape (event_form d.code)) d.tape d.system b.shape)))
    (λ p. λ i. record { code = p.0.0 i; device = p.0.1 i; tape = p.1.0 i; system = p.1.1 i })

pub outcomes : (o q : OutcomeEntry) → OutcomeFits o → OutcomeFits q → Told (outcome_fields o) (outcome_fields q) (o ≡ q)
outcomes o q a b =
    let c : o.code < 256 = outcome_code o.code o.value a.shape in
    let d : q.code < 256 = outcome_code q.code q.value b.shape in
    means
    (next (next (next (coded (codes "\"code\":") (codes "\"code_name\":") outcome_name o.code q.code (omega (arith, c)) (omega (arith, d)))
    (comma (codes "\"device\":") (number o.device q.device (omega (arith, a.device)) (omega (arith, b.device)))))
    (comma (codes "\"slot\":") (number o.slot q.slot (omega (arith, a.slot)) (omega (arith, b.slot)))))
    (comma (codes "\"value\":") (eight o.value q.value a.value b.value)))
    (λ p. λ i. record { code = p.0.0.0 i; device = p.0.0.1 i; slot = p.0.1 i; value = p.1 i })

pub shown_words : (s t : ShownEntry) → ShownFits s → ShownFits t → Told (shown_fields s) (shown_fields t) (s ≡ t)
shown_words s t a b =
    means
    (next (next (comma (codes "\"device\":") (number s.device t.device (omega (arith, a.device)) (omega (arith, b.device))))
    (comma (codes "\"offset\":") (twelve (REGISTER_SPACE + s.offset) (REGISTER_SPACE + t.offset) (omega (arith, a.offset)) (omega (arith, b.offset)))))
    (comma (codes "\"word\":") (eight s.word t.word a.word b.word)))
    (λ p. let same : s.offset ≡ t.offset = omega (arith, p.0.1) in λ i. record { device = p.0.0 i; offset = same i; word = p.1 i })
