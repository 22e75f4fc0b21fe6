-- The last bus reset of entries, one after another.
use Rattle.std.proofs.Common.{◌≡◌, ℕ, Bool, true, false, List, [], ◌∷◌, ◌++◌, Option, Some, None, Result, Ok, Err, refl, ap, sym, subst, ◌∙◌}
use Rattle.std.proofs.lemmas.Bool.{false≢true}
use Rattle.std.specs.Result.{OnOk}
use Rattle.fw_log_entry.specs.declared.entry.Entry.{Entry}
use Rattle.fw_log_entry.specs.declared.entry.Entry.TheVariants.{Reset, Async, Iso, Event, Outcome, Shown, End}
use Rattle.fw_log_entry.specs.declared.entry.ResetEntry.{ResetEntry}
use Rattle.fw_log_entry.specs.declared.entry.Timed.{Timed}
use Rattle.fw_log_entry.specs.Log.{ResetFits, body}
use Rattle.fw_log.specs.Passing.{HasBody, IsAnnotation}
use Rattle.fw_log.specs.declared.plain.PlainBody.{PlainBody}
use Rattle.fw_log.specs.declared.plain.PlainBody.TheVariants as Bodies
use Rattle.fw_log_reports.specs.Trees.{reset_or, last_from, last_reset, KeepsLast}

last_one : (before : Option ResetEntry) (entries : List Timed) (t : Timed) → last_from before (entries ++ t ∷ []) ≡ reset_or t.what (last_from before entries)
last_one before [] t = refl
last_one before (x ∷ xs) t = last_one (reset_or x.what before) xs t

-- an entry that is a reset is the last
pub last_is : (entries : List Timed) (t : Timed) (e : ResetEntry) → t.what ≡ Reset e → last_reset (entries ++ t ∷ []) ≡ Some e
last_is entries t e is = last_one None entries t ∙ ap (λ w. reset_or w (last_reset entries)) is

not_reset : (w : Entry) (before : Option ResetEntry) → ((e : ResetEntry) → w ≡ Reset e → ⊥) → reset_or w before ≡ before
not_reset (Reset e) before no_reset = absurd (no_reset e refl)
not_reset (Async p) before no_reset = refl
not_reset (Iso p) before no_reset = refl
not_reset (Event e) before no_reset = refl
not_reset (Outcome o) before no_reset = refl
not_reset (Shown s) before no_reset = refl
not_reset End before no_reset = refl

-- another changes nothing
pub last_stays : (entries : List Timed) (t : Timed) (there : Bool) (kept : List ℕ) → ((e : ResetEntry) → t.what ≡ Reset e → ⊥) → KeepsLast entries there kept
    → KeepsLast (entries ++ t ∷ []) there kept
last_stays entries t false kept other h = last_one None entries t ∙ (not_reset t.what (last_reset entries) other ∙ h)
last_stays entries t true kept other h = (h.0, last_one None entries t ∙ (not_reset t.what (last_reset entries) other ∙ h.1), h.2, h.3)

-- the body of an entry that is a reset is kept
pub last_kept : (entries : List Timed) (t : Timed) (e : ResetEntry) (there : Bool) (kept : List ℕ) → t.what ≡ Reset e → ResetFits e → there ≡ true → body (Reset e) ≡ kept
    → KeepsLast (entries ++ t ∷ []) there kept
last_kept entries t e false kept is fits set same = absurd (false≢true set)
last_kept entries t e true kept is fits set same = (e, last_is entries t e is, fits, same)

-- a body of another kind is that of no reset
pub no_reset_body : (b : PlainBody) (w : Entry) → HasBody b w → ((bytes : List ℕ) → b ≡ Bodies.Reset bytes → ⊥) → (e : ResetEntry) → w ≡ Reset e → ⊥
no_reset_body (Bodies.Packet bytes) w h other e is = cc (h.1, is)
no_reset_body (Bodies.Iso bytes) w h other e is = cc (h.1, is)
no_reset_body (Bodies.Reset bytes) w h other e is = other bytes refl

-- and an annotation is none
pub no_reset_annotation : (w : Entry) → IsAnnotation w → (e : ResetEntry) → w ≡ Reset e → ⊥
no_reset_annotation w h e is = subst IsAnnotation is h

-- ---- the same of a call that may fail

pub kept_on_ok : {T E : Type 0} (r : Result T E) (entries : List Timed) (t : Timed) (e : ResetEntry) (there : Bool) (kept bytes : List ℕ) → t.what ≡ Reset e → ResetFits e
    → body (Reset e) ≡ bytes → OnOk r (there ≡ true) → OnOk r (kept ≡ bytes) → OnOk r (KeepsLast (entries ++ t ∷ []) there kept)
kept_on_ok (Ok x) entries t e there kept bytes is fits same set copied = last_kept entries t e there kept is fits set (same ∙ sym copied)
kept_on_ok (Err x) entries t e there kept bytes is fits same set copied = tt
