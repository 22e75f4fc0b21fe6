-- The lines of an entry in a page, put one after another.
use Rattle.std.proofs.Common.{◌≡◌, ℕ, List, [], ◌∷◌, ◌++◌, Bool, Option, Some, None, Result, Ok, Err, refl, ap, sym, ◌∙◌, append_assoc}
use Rattle.std.proofs.lemmas.List.{append-nil}
use Rattle.std.specs.Result.{IfOk, OnOk}
use Rattle.std.specs.declared.alloc.AllocError.{AllocError}
use Rattle.fw_log_entry.specs.declared.entry.Timed.{Timed}
use Rattle.fw_page.specs.Marks.{marked}
use Rattle.fw_log_json.specs.Objects.{object}
use Rattle.fw_log_explain.specs.Explained.{explained}
use Rattle.fw_log_explain.specs.Lines.{line}
use Rattle.fw_log_requests.specs.Requests.{standing}
use Rattle.fw_log_requests.specs.declared.asked.Asked.{Asked}
use Rattle.fw_watch.specs.Watched.{watched}
use Rattle.fw_log_loop.specs.Readings.{Text, TakesEntry}
use Rattle.fw_log_reports.specs.declared.refusal.LogRefusal.{LogRefusal}
use Rattle.fw_log_words.specs.Texts.{all_of}
use Rattle.fw_log_words.specs.Pages.{explain_mark, watch_mark, held_lines, entry_lines, page_lines}

-- four texts, appended in turn
four : (t0 t1 t2 t3 t4 o e h w : List ℕ) → t1 ≡ t0 ++ o → t2 ≡ t1 ++ e → t3 ≡ t2 ++ h → t4 ≡ t3 ++ w → t4 ≡ t0 ++ (o ++ (e ++ (h ++ w)))
four t0 t1 t2 t3 t4 o e h w a b c d =
    d ∙ ap (λ (l : List ℕ). l ++ w) (c ∙ ap (λ (l : List ℕ). l ++ h) (b ∙ ap (λ (l : List ℕ). l ++ e) a))
    ∙ append_assoc ((t0 ++ o) ++ e) h w ∙ append_assoc (t0 ++ o) e (h ++ w) ∙ append_assoc t0 o (e ++ (h ++ w))

-- what a word gathered that had nothing gathered before
alone : (old new x : List ℕ) → old ≡ [] → new ≡ old ++ x → new ≡ x
alone old new x empty e = e ∙ ap (λ (l : List ℕ). l ++ x) empty

-- the lines of an entry, by what each word gathered of it
pub entry_put : (t0 t1 t2 t3 t4 o0 o e0 e w0 w : List ℕ) (entries : List Timed) (t : Timed) → o0 ≡ [] → e0 ≡ [] → w0 ≡ [] → o ≡ o0 ++ object t → e ≡ e0 ++ explained entries (t ∷ [])
    → w ≡ w0 ++ watched entries (t ∷ []) → t1 ≡ t0 ++ o → t2 ≡ t1 ++ marked explain_mark e → t3 ≡ t2 ++ held_lines entries t → t4 ≡ t3 ++ marked watch_mark w → t4 ≡ t0 ++ entry_lines entries t
entry_put t0 t1 t2 t3 t4 o0 o e0 e w0 w entries t n0 n1 n2 so se sw a b c d =
    four t0 t1 t2 t3 t4 (object t) (marked explain_mark (explained entries (t ∷ []))) (held_lines entries t) (marked watch_mark (watched entries (t ∷ [])))
    (a ∙ ap (λ (l : List ℕ). t0 ++ l) (alone o0 o (object t) n0 so)) (b ∙ ap (λ (l : List ℕ). t1 ++ marked explain_mark l) (alone e0 e (explained entries (t ∷ [])) n1 se)) c
    (d ∙ ap (λ (l : List ℕ). t3 ++ marked watch_mark l) (alone w0 w (watched entries (t ∷ [])) n2 sw))

-- they are those of the entry alone
pub one_entry : (text new : List ℕ) (entries : List Timed) (t : Timed) → new ≡ text ++ entry_lines entries t → new ≡ text ++ page_lines entries (t ∷ [])
one_entry text new entries t e = e ∙ ap (λ (l : List ℕ). text ++ l) (sym (append-nil (entry_lines entries t)))

-- an object, and a line in words, as the texts of one entry
pub one_object : (old new : List ℕ) (t : Timed) → new ≡ old ++ all_of object (t ∷ []) → new ≡ old ++ object t
one_object old new t e = e ∙ ap (λ (l : List ℕ). old ++ l) (append-nil (object t))

pub one_line : (old new : List ℕ) (requests : List Asked) (entries : List Timed) (t : Timed) → requests ≡ standing entries → new ≡ old ++ line requests t → new ≡ old ++ explained entries (t ∷ [])
one_line old new requests entries t took e = e ∙ ap (λ (r : List Asked). old ++ line r t) took ∙ ap (λ (l : List ℕ). old ++ l) (sym (append-nil (line (standing entries) t)))

-- ---- what a word took that refuses nothing

pub told : (text : Text) (Took : List Timed → Type 0) (old new : List ℕ) (entries : List Timed) (t : Timed) (o : Option LogRefusal)
    → TakesEntry text (λ es refusal. ⊥) Took old new entries t o → Took (entries ++ t ∷ []) × (new ≡ old ++ text entries (t ∷ []))
told text Took old new entries t None x = x
told text Took old new entries t (Some refusal) x = absurd x.0

-- ---- calls that may fail

pub all_ok : {A B C D : Type 0} (r : Result (Unit {0}) AllocError) → (A → B → C → D) → OnOk r A → OnOk r B → OnOk r C → OnOk r D
all_ok (Err e) f a b c = tt
all_ok (Ok x) f a b c = f a b c

pub weaker : {P Q : Bool → Type 0} (r : Result Bool AllocError) → ((b : Bool) → P b → Q b) → IfOk r P → IfOk r Q
weaker (Err e) f p = tt
weaker (Ok b) f p = f b p
