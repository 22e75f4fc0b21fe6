-- One list of bytes is of one body, and of one cycle with a body.
use Rattle.fw_log.proofs.Common.{◌≡◌, ℕ, ◌^◌, ◌<◌, List, [], ◌∷◌, ◌++◌, get_or, drop, Bool, true, false, arith, refl, ap, sym, ◌∙◌, if◌then◌else◌, to_be_bytes, w32, packed, quadlet_at, Version, One}
use Rattle.fw_log.proofs.Common.{Two, head_size, quads, kind_of, body, cycle_of, Entry, Reset, Async, Iso, Event, Outcome, Shown, End, Timed}
use Rattle.std.proofs.lemmas.Nat.{from_be_bytes-to_be_bytes_8}
use Rattle.fw_async.proofs.SameLaws.{same_packet}
use Rattle.fw_cip.proofs.SameLaws.{same_packet as same_iso}
use Rattle.fw_log_entry.specs.Log.{event_quads, outcome_quads, shown_quads, EventFits, OutcomeFits, ShownFits, Fits, TimedFits, entry_bytes}
use Rattle.fw_log_entry.specs.Rows.{event_form, has_tape, may_have}
use Rattle.fw_log_entry.proofs.RowLaws.{event_code, outcome_code, no_tape, small_system}
use Rattle.fw_log_entry.specs.declared.entry.EventEntry.{EventEntry}
use Rattle.fw_log_entry.specs.declared.entry.OutcomeEntry.{OutcomeEntry}
use Rattle.fw_log_entry.specs.declared.entry.ShownEntry.{ShownEntry}
use Rattle.fw_log.proofs.IdsLaws.{back}
use Rattle.fw_log.proofs.ResetLaws.{same_reset, shape_of}

-- events, outcomes and shown words are their quadlets
event : ℕ → ℕ → ℕ → ℕ → EventEntry
event a b c d = record { code = a; device = b; tape = c; system = d }

event_is : (e : EventEntry) → e ≡ event e.code e.device e.tape e.system
unfolding event
event_is e = refl

halves : (a b c d : ℕ) → b < 2 ^ 16 → d < 2 ^ 16 → packed ((16, a) ∷ (16, b) ∷ []) 0 ≡ packed ((16, c) ∷ (16, d) ∷ []) 0 → (a ≡ c) × (b ≡ d)
halves a b c d p q e = (omega arith, omega arith)

first_two : (a b c d : ℕ) → a < 256 → b < 256 → c < 256 → d < 256 → packed ((8, a) ∷ (8, b) ∷ (16, 0) ∷ []) 0 ≡ packed ((8, c) ∷ (8, d) ∷ (16, 0) ∷ []) 0 → (a ≡ c) × (b ≡ d)
first_two a b c d p q r s e = (omega arith, omega arith)

prefix : (q r : ℕ) (xs ys : List ℕ) → q < 2 ^ 32 → r < 2 ^ 32 → to_be_bytes w32 q ++ xs ≡ to_be_bytes w32 r ++ ys → q ≡ r
prefix q r xs ys a b e = sym (back q xs a) ∙ ap (λ t. quadlet_at t 0) e ∙ back r ys b

-- the tape and the system, which are 0 if they do not stand
tape_of : (x y : Bool) (a b c d : ℕ) → x ≡ y → a < 2 ^ 16 → b < 2 ^ 16 → c < 2 ^ 16 → d < 2 ^ 16 → (x ≡ false → (a ≡ 0) × (b ≡ 0)) → (y ≡ false → (c ≡ 0) × (d ≡ 0))
    → quads (if x then packed ((16, a) ∷ (16, b) ∷ []) 0 ∷ [] else []) ≡ quads (if y then packed ((16, c) ∷ (16, d) ∷ []) 0 ∷ [] else []) → (a ≡ c) × (b ≡ d)
tape_of true true a b c d e p q r s none never h = halves a b c d q s (prefix (packed ((16, a) ∷ (16, b) ∷ []) 0) (packed ((16, c) ∷ (16, d) ∷ []) 0) [] [] (omega arith) (omega arith) h)
tape_of true false a b c d e p q r s none never h = cc e
tape_of false true a b c d e p q r s none never h = cc e
tape_of false false a b c d e p q r s none never h = let m = none refl in let n = never refl in (m.0 ∙ sym n.0, m.1 ∙ sym n.1)

same_event : (e g : EventEntry) → EventFits e → EventFits g → quads (event_quads e) ≡ quads (event_quads g) → e ≡ g
same_event e g f h same =
    let a = event_code e.code e.device e.tape e.system f.shape in
    let b = event_code g.code g.device g.tape g.system h.shape in
    let first : packed ((8, e.code) ∷ (8, e.device) ∷ (16, 0) ∷ []) 0 ≡ packed ((8, g.code) ∷ (8, g.device) ∷ (16, 0) ∷ []) 0 =
    prefix _ _ _ _ (omega (arith, a, f.device)) (omega (arith, b, h.device)) same in
    let two = first_two e.code e.device g.code g.device a f.device b h.device first in
    let code : e.code ≡ g.code = two.0 in
    let device : e.device ≡ g.device = two.1 in
    let others = tape_of (has_tape (event_form e.code)) (has_tape (event_form g.code)) e.tape e.system g.tape g.system (ap (λ n. has_tape (event_form n)) two.0)
    f.tape (small_system (may_have (event_form e.code) e.device) (has_tape (event_form e.code)) e.tape e.system f.shape)
    h.tape (small_system (may_have (event_form g.code) g.device) (has_tape (event_form g.code)) g.tape g.system h.shape)
    (no_tape (may_have (event_form e.code) e.device) (has_tape (event_form e.code)) e.tape e.system f.shape)
    (no_tape (may_have (event_form g.code) g.device) (has_tape (event_form g.code)) g.tape g.system h.shape) (ap (drop 4) same) in
    let tape : e.tape ≡ g.tape = others.0 in
    let system : e.system ≡ g.system = others.1 in
    cc (event_is e, event_is g)

outcome : ℕ → ℕ → ℕ → ℕ → OutcomeEntry
outcome a b c d = record { code = a; device = b; slot = c; value = d }

outcome_is : (o : OutcomeEntry) → o ≡ outcome o.code o.device o.slot o.value
unfolding outcome
outcome_is o = refl

three_fields : (a b c d e f : ℕ) → a < 256 → b < 256 → c < 256 → d < 256 → e < 256 → f < 256
    → packed ((8, a) ∷ (8, b) ∷ (8, c) ∷ (8, 0) ∷ []) 0 ≡ packed ((8, d) ∷ (8, e) ∷ (8, f) ∷ (8, 0) ∷ []) 0 → (a ≡ d) × (b ≡ e) × (c ≡ f)
three_fields a b c d e f p q r s t u h = (omega arith, omega arith, omega arith)

same_outcome : (o p : OutcomeEntry) → OutcomeFits o → OutcomeFits p → quads (outcome_quads o) ≡ quads (outcome_quads p) → o ≡ p
same_outcome o p f g same =
    let a = outcome_code o.code o.value f.shape in
    let b = outcome_code p.code p.value g.shape in
    let first = prefix (packed ((8, o.code) ∷ (8, o.device) ∷ (8, o.slot) ∷ (8, 0) ∷ []) 0) (packed ((8, p.code) ∷ (8, p.device) ∷ (8, p.slot) ∷ (8, 0) ∷ []) 0) (quads (o.value ∷ []))
    (quads (p.value ∷ [])) (omega (arith, a, f.device, f.slot)) (omega (arith, b, g.device, g.slot)) same in
    let h = three_fields o.code o.device o.slot p.code p.device p.slot a f.device f.slot b g.device g.slot first in
    let code : o.code ≡ p.code = h.0 in
    let device : o.device ≡ p.device = h.1 in
    let slot : o.slot ≡ p.slot = h.2 in
    let value : o.value ≡ p.value = prefix o.value p.value [] [] f.value g.value (ap (drop 4) same) in
    cc (outcome_is o, outcome_is p)

shown : ℕ → ℕ → ℕ → ShownEntry
shown a b c = record { device = a; offset = b; word = c }

shown_is : (s : ShownEntry) → s ≡ shown s.device s.offset s.word
unfolding shown
shown_is s = refl

shown_fields : (a b c d : ℕ) → a < 256 → b < 2 ^ 16 → c < 256 → d < 2 ^ 16 → packed ((8, a) ∷ (8, 0) ∷ (16, b) ∷ []) 0 ≡ packed ((8, c) ∷ (8, 0) ∷ (16, d) ∷ []) 0 → (a ≡ c) × (b ≡ d)
shown_fields a b c d p q r s e = (omega arith, omega arith)

same_shown : (s t : ShownEntry) → ShownFits s → ShownFits t → quads (shown_quads s) ≡ quads (shown_quads t) → s ≡ t
same_shown s t f g same =
    let first = prefix (packed ((8, s.device) ∷ (8, 0) ∷ (16, s.offset) ∷ []) 0) (packed ((8, t.device) ∷ (8, 0) ∷ (16, t.offset) ∷ []) 0) (quads (s.word ∷ [])) (quads (t.word ∷ []))
    (omega (arith, f.device, f.offset)) (omega (arith, g.device, g.offset)) same in
    let h = shown_fields s.device s.offset t.device t.offset f.device (omega (arith, f.offset)) g.device (omega (arith, g.offset)) first in
    let device : s.device ≡ t.device = h.0 in
    let offset : s.offset ≡ t.offset = h.1 in
    let word : s.word ≡ t.word = prefix s.word t.word [] [] f.word g.word (ap (drop 4) same) in
    cc (shown_is s, shown_is t)

pub same_body : (e g : Entry) → Fits e → Fits g → kind_of e ≡ kind_of g → body e ≡ body g → e ≡ g
same_body (Reset r) (Reset s) f h k same = ap Reset (same_reset r s (shape_of r f) (shape_of s h) same)
same_body (Async p) (Async q) f h k same = ap Async (same_packet p q f h same)
same_body (Iso p) (Iso q) f h k same = ap Iso (same_iso p q f h same)
same_body (Event e) (Event g) f h k same = ap Event (same_event e g f h same)
same_body (Outcome o) (Outcome p) f h k same = ap Outcome (same_outcome o p f h same)
same_body (Shown s) (Shown t) f h k same = ap Shown (same_shown s t f h same)
same_body End End f h k same = refl
same_body e g f h k same = cc k

timed : ℕ → Entry → Timed
timed c e = record { cycle = c; what = e }

timed_is : (t : Timed) → t ≡ timed t.cycle t.what
unfolding timed
timed_is t = refl

pub cycle_is : (v : Version) (epoch : ℕ) (t : Timed) → TimedFits t → cycle_of v (entry_bytes v epoch t) ≡ t.cycle
cycle_is One epoch t f = from_be_bytes-to_be_bytes_8 t.cycle f.cycle
cycle_is Two epoch t f = from_be_bytes-to_be_bytes_8 t.cycle f.cycle

pub body_is : (v : Version) (epoch : ℕ) (t : Timed) → drop (head_size v) (entry_bytes v epoch t) ≡ body t.what
body_is One epoch t = refl
body_is Two epoch t = refl

pub same_timed : (v : Version) (a b : ℕ) (t u : Timed) → TimedFits t → TimedFits u → entry_bytes v a t ≡ entry_bytes v b u → t ≡ u
same_timed v a b t u f g same =
    let kind : kind_of t.what ≡ kind_of u.what = ap (λ e. get_or e 0 0) same in
    let cycle : t.cycle ≡ u.cycle = sym (cycle_is v a t f) ∙ ap (cycle_of v) same ∙ cycle_is v b u g in
    let what : t.what ≡ u.what = same_body t.what u.what f.entry g.entry kind (sym (body_is v a t) ∙ ap (drop (head_size v)) same ∙ body_is v b u) in
    cc (timed_is t, timed_is u)
