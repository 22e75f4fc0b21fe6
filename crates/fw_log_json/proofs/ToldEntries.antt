-- The object of an entry tells the entry.
use Rattle.fw_log_json.proofs.Common.{◌≡◌, ℕ, ◌^◌, ◌<◌, ◌≤◌, List, ◌++◌, length, codes, Option, Some, None, IfSome, refl, ap, sym, ◌∙◌, append_assoc, arith, Reset, field, code, prefix_fields, object}
use Rattle.fw_log_entry.specs.Log.{kind_of, Fits, ResetFits, TimedFits}
use Rattle.fw_log_entry.specs.declared.entry.ResetEntry.{ResetEntry}
use Rattle.fw_log_entry.specs.declared.entry.Entry.{Entry}
use Rattle.fw_log_entry.specs.declared.entry.Entry.TheVariants.{Async, Iso, Event, Outcome, Shown, End}
use Rattle.fw_log_entry.specs.declared.entry.Timed.{Timed}
use Rattle.fw_log_names.specs.Names.{kind_name}
use Rattle.fw_log_json.specs.Objects.{reset_fields, what_fields}
use Rattle.fw_log_json.proofs.Told.{Value, Told, Stops, next, means, comma, brace, coded, number, nothing}
use Rattle.fw_log_json.proofs.ToldValues.{perhaps, cycle}
use Rattle.fw_log_json.proofs.ToldIds.{nodes_tell, ids_tell}
use Rattle.fw_log_json.proofs.ToldPackets.{packets}
use Rattle.fw_log_json.proofs.ToldIso.{isos}
use Rattle.fw_log_json.proofs.ToldEvents.{events, outcomes, shown_words}

pub few_manager : (m : Option ℕ) (n : ℕ) → n ≤ 63 → IfSome m (λ k. k < n) → IfSome m (λ k. k < 2 ^ 64)
few_manager None n few h = h
few_manager (Some k) n few h = omega (arith, few, h)

resets : (r q : ResetEntry) → ResetFits r → ResetFits q → Told (reset_fields r) (reset_fields q) (r ≡ q)
resets r q a b =
    means
    (next (next (next (next (comma (codes "\"epoch\":") (number r.epoch q.epoch (omega (arith, a.epoch)) (omega (arith, b.epoch))))
    (comma (codes "\"root\":") (number r.root q.root (omega (arith, a.root, a.few)) (omega (arith, b.root, b.few)))))
    (comma (codes "\"manager\":") (perhaps r.manager q.manager (few_manager r.manager (length r.nodes) a.few a.manager) (few_manager q.manager (length q.nodes) b.few b.manager))))
    (comma (codes "\"initiator\":") (number r.initiator q.initiator (omega (arith, a.initiator, a.few)) (omega (arith, b.initiator, b.few)))))
    (next (comma (codes "\"nodes\":") (nodes_tell r.nodes q.nodes a.few b.few a.rows b.rows))
    (comma (codes "\"self_ids\":") (ids_tell r.ids q.ids (length r.nodes) (length q.nodes) a.packets b.packets a.ids b.ids))))
    (λ p. λ i. record { epoch = p.0.0.0.0 i; root = p.0.0.0.1 i; manager = p.0.0.1 i; initiator = p.0.1 i; nodes = p.1.0 i; ids = p.1.1 i })

-- ---- entries

whats : (x y : Entry) → Fits x → Fits y → kind_of x ≡ kind_of y → Value (what_fields x) (what_fields y) (x ≡ y)
whats (Reset r) (Reset q) a b e = (means (resets r q a b) (ap Reset)).value
whats (Async p) (Async q) a b e = record { by = λ r s h k f. let g = (packets p q a b).by r s h k f in (ap Async g.0, g.1) }
whats (Iso p) (Iso q) a b e = (means (isos p q a b) (ap Iso)).value
whats (Event v) (Event w) a b e = (means (events v w a b) (ap Event)).value
whats (Outcome o) (Outcome q) a b e = (means (outcomes o q a b) (ap Outcome)).value
whats (Shown s) (Shown t) a b e = (means (shown_words s t a b) (ap Shown)).value
whats End End a b e = (means nothing (λ _. refl)).value
whats x y a b e = absurd (omega (arith, e))

what_stops : (x : Entry) → Stops (what_fields x)
unfolding field code
what_stops (Reset r) = record { by = λ u h. refl }
what_stops (Async p) = record { by = λ u h. refl }
what_stops (Iso p) = record { by = λ u h. refl }
what_stops (Event v) = record { by = λ u h. refl }
what_stops (Outcome o) = record { by = λ u h. refl }
what_stops (Shown s) = record { by = λ u h. refl }
what_stops End = record { by = λ u h. h }

pub small_kind : (x : Entry) → kind_of x < 2 ^ 64
small_kind (Reset r) = omega arith
small_kind (Async p) = omega arith
small_kind (Iso p) = omega arith
small_kind (Event v) = omega arith
small_kind (Outcome o) = omega arith
small_kind (Shown s) = omega arith
small_kind End = omega arith

fronts : (c d k l : ℕ) → c < 2 ^ 64 → d < 2 ^ 64 → k < 2 ^ 64 → l < 2 ^ 64 → Told (prefix_fields c k) (prefix_fields d l) ((c ≡ d) × (k ≡ l))
unfolding prefix_fields
fronts c d k l a b e f = next (brace (codes "\"cycle\":") (cycle c d a b)) (coded (codes "\"kind\":") (codes "\"kind_name\":") kind_name k l e f)

pub object_tells : (t u : Timed) → TimedFits t → TimedFits u → object t ≡ object u → t ≡ u
object_tells t u a b e =
    let end : List ℕ = codes "}\n" in
    let prefix = fronts t.cycle u.cycle (kind_of t.what) (kind_of u.what) a.cycle b.cycle (small_kind t.what) (small_kind u.what) in
    let f = prefix.value.by (what_fields t.what ++ end) (what_fields u.what ++ end) ((what_stops t.what).by end refl) ((what_stops u.what).by end refl)
    (sym (append_assoc (prefix_fields t.cycle (kind_of t.what)) (what_fields t.what) end) ∙ e ∙ append_assoc (prefix_fields u.cycle (kind_of u.what)) (what_fields u.what) end) in
    let g = (whats t.what u.what a.entry b.entry f.0.1).by end end refl refl f.1 in
    λ i. record { cycle = f.0.0 i; what = g.0 i }
