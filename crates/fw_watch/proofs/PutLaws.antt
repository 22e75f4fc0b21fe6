-- What is told, and what is known, after one entry more.
use Rattle.std.proofs.Common.{◌≡◌, subst, Result, Ok, Err, OnOk, ap, sym, ◌∙◌, ℕ, List, [], ◌∷◌, ◌++◌, if◌then◌else◌}
use Rattle.std.proofs.lemmas.List.{append-nil}
use Rattle.fw_log_entry.specs.declared.entry.Timed.{Timed}
use Rattle.fw_watch_remarks.specs.Remarks.{Said, WatchOutput, told, with_line, is_finding, counted}
use Rattle.fw_watch_known.specs.declared.state.State.{State}
use Rattle.fw_watch_known.specs.States.{no_state}
use Rattle.fw_watch.specs.Steps.{remarks, after}
use Rattle.fw_watch.specs.Watched.{known, all_remarks, lines, watched, findings_from, WatchState, Watches, judged_text, last_text, watched_end}
use Rattle.fw_watch.proofs.WatchLaws.{told_more, known_from_more, remarks_from_more, told_text}

-- an entry's text is that of its lines
pub put_lines : (old new : WatchOutput) (s : State) (before : List Timed) (t : Timed) → s ≡ known before → new ≡ told old (remarks s t) → new.text ≡ old.text ++ watched before (t ∷ [])
put_lines old new s before t is e =
    ap (λ (x : WatchOutput). x.text) e ∙ told_text old (remarks s t)
    ∙ ap (λ (x : State). old.text ++ lines (remarks x t)) is ∙ ap (λ (xs : List Said). old.text ++ lines xs) (sym (append-nil (remarks (known before) t)))

-- how many findings were told does not depend on the text
same_findings : (t u : WatchOutput) (xs : List Said) → t.findings ≡ u.findings → (told t xs).findings ≡ (told u xs).findings
unfolding with_line
same_findings t u [] e = e
same_findings t u (x ∷ xs) e = same_findings (with_line t x) (with_line u x) xs (ap (λ (n : ℕ). if is_finding x.remark then counted n else n) e)

none_told : WatchOutput
none_told = record { text = []; findings = 0 }

-- and so one entry more was taken
pub put_watches : (old new : WatchState) (before : List Timed) (t : Timed) → Watches old before → new.told ≡ told old.told (remarks old.state t) → new.state ≡ after old.state t
    → Watches new (before ++ t ∷ [])
unfolding none_told
put_watches old new before t w e f =
    let all : List Said = all_remarks before in
    let more : all_remarks (before ++ t ∷ []) ≡ all ++ remarks (known before) t =
    remarks_from_more no_state before (t ∷ []) ∙ ap (λ (xs : List Said). all ++ xs) (append-nil (remarks (known before) t)) in
    record {
      known = f ∙ ap (λ (s : State). after s t) w.known ∙ sym (known_from_more no_state before (t ∷ []));
      findings =
          ap (λ (x : WatchOutput). x.findings) e
          ∙ same_findings old.told (told none_told all) (remarks old.state t) w.findings
          ∙ ap (λ (s : State). (told (told none_told all) (remarks s t)).findings) w.known
          ∙ ap (λ (x : WatchOutput). x.findings) (sym (told_more none_told all (remarks (known before) t)))
          ∙ ap (findings_from 0) (sym more);
    }

-- what follows of a fact, follows if all went well
pub on_ok : {A E P Q : Type 0} → (r : Result A E) → (P → Q) → OnOk r P → OnOk r Q
on_ok (Ok v) f p = f p
on_ok (Err e) f p = tt

pub on_both : {A E P Q R : Type 0} → (r : Result A E) → (P → Q → R) → OnOk r P → OnOk r Q → OnOk r R
on_both (Ok v) f p q = f p q
on_both (Err e) f p q = tt

-- a room of what was told and what is known
abbrev pub room : WatchOutput → State → WatchState
room j s = record { told = j; state = s }

pub room_lines : (w : WatchState) (j : WatchOutput) (s s1 : State) (new : WatchOutput) (before : List Timed) (t : Timed) → room j s ≡ w → s1 ≡ s → Watches w before → new ≡ told j (remarks s1 t)
    → new.text ≡ w.told.text ++ watched before (t ∷ [])
room_lines w j s s1 new before t e f watches n =
    put_lines j new s1 before t (f ∙ ap (λ (r : WatchState). r.state) e ∙ watches.known) n ∙ ap (λ (r : WatchState). r.told.text ++ watched before (t ∷ [])) e

pub room_watches : (w new : WatchState) (j : WatchOutput) (s s1 : State) (before : List Timed) (t : Timed) → room j s ≡ w → s1 ≡ s → Watches w before → new.told ≡ told j (remarks s1 t)
    → new.state ≡ after s1 t → Watches new (before ++ t ∷ [])
room_watches w new j s s1 before t e f watches n m =
    let P : WatchState → Type 0 = λ r. Watches r before in
    put_watches (room j s) new before t (subst P (sym e) watches)
    (n ∙ ap (λ (x : State). told j (remarks x t)) f) (m ∙ ap (λ (x : State). after x t) f)

-- the last line
pub end_is : (w : WatchState) (entries : List Timed) (s1 s2 : State) (n : ℕ) (t0 t1 t2 : List ℕ) → Watches w entries → t0 ≡ [] → s1 ≡ w.state → s2 ≡ w.state
    → n ≡ w.told.findings → t1 ≡ t0 ++ judged_text s1.counts → t2 ≡ t1 ++ last_text s2.counts.packets n → t2 ≡ watched_end entries
unfolding watched_end
end_is w entries s1 s2 n t0 t1 t2 watches none e f g first last =
    last ∙ ap (λ (x : List ℕ). x ++ last_text s2.counts.packets n) (first ∙ ap (λ (x : List ℕ). x ++ judged_text s1.counts) none)
    ∙ ap (λ (x : State). judged_text x.counts ++ last_text s2.counts.packets n) (e ∙ watches.known)
    ∙ ap (λ (x : State). judged_text (known entries).counts ++ last_text x.counts.packets n) (f ∙ watches.known)
    ∙ ap (λ (k : ℕ). judged_text (known entries).counts ++ last_text (known entries).counts.packets k) (g ∙ watches.findings)
