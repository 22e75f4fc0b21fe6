-- The lines of `holders` in a page, entry by entry.
use Rattle.std.proofs.Common.{◌≡◌, ℕ, Bool, true, false, List, [], ◌∷◌, ◌++◌, Option, Some, None, Result, Ok, Err, refl, ap, sym, subst, ◌∙◌}
use Rattle.std.proofs.lemmas.List.{append-nil}
use Rattle.std.specs.Option.{is_some}
use Rattle.std.specs.Result.{OnOk}
use Rattle.std.specs.declared.alloc.AllocError.{AllocError}
use Rattle.fw_log_entry.specs.declared.entry.Timed.{Timed}
use Rattle.fw_holders.specs.Told.{holders}
use Rattle.fw_page.specs.Marks.{marked}
use Rattle.fw_log_loop.specs.Readings.{TakesEntry}
use Rattle.fw_log_reports.specs.Holdings.{holders_form, Takes, TakesText}
use Rattle.fw_log_reports.specs.Verdicts.{RejectsUnsound, IsUnsound}
use Rattle.fw_log_reports.specs.declared.holding.Holding.{Holding}
use Rattle.fw_log_reports.specs.declared.refusal.Unsound.{Unsound}
use Rattle.fw_log_reports.specs.declared.refusal.LogRefusal.{LogRefusal}
use Rattle.fw_log_reports.specs.declared.refusal.LogRefusal.TheVariants.{Audit, Map}
use Rattle.fw_log_words.specs.Stops.{stop_of}
use Rattle.fw_log_words.specs.Pages.{holders_mark, stop_line, held_by, held_lines, held_end}
use Rattle.fw_log_words.specs.Paged.{Follows, Passed}
use Rattle.fw_log_words.specs.declared.held.Held.{Held}
use Rattle.fw_log_words.proofs.StopLaws.{goes_on, stops, stop_stays}

some_of : (o : Option Unsound) → is_some o ≡ true → (u : Unsound) × (o ≡ Some u)
some_of None e = absurd (cc e)
some_of (Some u) e = (u, refl)

none_of : (o : Option Unsound) → is_some o ≡ false → o ≡ None
none_of None e = refl
none_of (Some u) e = absurd (cc e)

-- it has not stopped
pub is_on : (h : Held) (entries : List Timed) → Follows h entries → h.stopped ≡ false → stop_of entries ≡ None
is_on h entries f e = none_of (stop_of entries) (sym f.stopped ∙ e)

-- it has
pub is_off : (h : Held) (entries : List Timed) → Follows h entries → h.stopped ≡ true → (u : Unsound) × (stop_of entries ≡ Some u)
is_off h entries f e = some_of (stop_of entries) (sym f.stopped ∙ e)

no_stop : (entries : List Timed) (u : Unsound) {A : Type 0} → stop_of entries ≡ Some u → stop_of entries ≡ None → A
no_stop entries u e none = absurd (cc (e, none))

-- after it has stopped nothing is written, and nothing changes
pub stays_off : (h : Held) (text : List ℕ) (entries : List Timed) (t : Timed) → Follows h entries → h.stopped ≡ true → (text ≡ text ++ held_lines entries t) × Follows h (entries ++ t ∷ [])
stays_off h text entries t f e =
    let off = is_off h entries f e in
    let later = stop_stays off.0 entries (t ∷ []) off.1 in
    let lines : held_lines entries t ≡ [] = ap (λ (o : Option Unsound). held_by o (stop_of (entries ++ t ∷ [])) (holders entries (t ∷ []))) off.1 in (
      sym (append-nil text) ∙ ap (λ (l : List ℕ). text ++ l) (sym lines),
      record { stopped = e ∙ sym (ap (λ (o : Option Unsound). is_some o) later); holds = λ none. no_stop (entries ++ t ∷ []) off.0 later none; empty = f.empty },
    )

-- the table of one that has stopped
pub no_table : (h : Held) (text table : List ℕ) (entries : List Timed) → Follows h entries → h.stopped ≡ true → text ≡ text ++ held_end (stop_of entries) table
no_table h text table entries f e =
    let off = is_off h entries f e in
    sym (append-nil text) ∙ ap (λ (o : Option Unsound). text ++ held_end o table) (sym off.1)

-- and of one that has not
pub table_put : (r : Result (Unit {0}) AllocError) (h : Held) (text new table given : List ℕ) (entries : List Timed) → Follows h entries → h.stopped ≡ false → given ≡ table
    → OnOk r (new ≡ text ++ marked holders_mark given) → OnOk r (new ≡ text ++ held_end (stop_of entries) table)
table_put (Err e) h text new table given entries f off same put = tt
table_put (Ok _) h text new table given entries f off same put =
    put ∙ ap (λ (l : List ℕ). text ++ marked holders_mark l) same ∙ ap (λ (o : Option Unsound). text ++ held_end o table) (sym (is_on h entries f off))

-- ---- the entry that was taken

-- it has a fault
pub stop_put : (r : Result (Unit {0}) AllocError) (before : Holding) (old new : Held) (u : Unsound) (text text' : List ℕ) (entries : List Timed) (t : Timed) → stop_of entries ≡ None
    → Takes before entries → before.holders.text ≡ [] → TakesEntry holders_form.text RejectsUnsound (Takes old.holding) before.holders.text old.holding.holders.text entries t (Some (Audit u))
    → new.holding ≡ old.holding → new.stopped ≡ true → OnOk r (text' ≡ text ++ stop_line u) → OnOk r ((text' ≡ text ++ held_lines entries t) × Follows new (entries ++ t ∷ []))
stop_put (Err e) before old new u text text' entries t none h empty taken same stopped put = tt
stop_put (Ok _) before old new u text text' entries t none h empty taken same stopped put =
    let at = stops entries t h.holds.account u h.holds.is_account h.holds.stands.sound none taken.0 in
    let lines : held_lines entries t ≡ stop_line u =
    ap (λ (o : Option Unsound). held_by o (stop_of (entries ++ t ∷ [])) (holders entries (t ∷ []))) none ∙ ap (λ (o : Option Unsound). held_by None o (holders entries (t ∷ []))) at
    in (
      put ∙ ap (λ (l : List ℕ). text ++ l) (sym lines),
      record {
        stopped = stopped ∙ sym (ap (λ (o : Option Unsound). is_some o) at);
        holds = λ next. no_stop (entries ++ t ∷ []) u at next;
        empty = ap (λ (v : Holding). v.holders.text) same ∙ taken.1 ∙ empty;
      },
    )

-- it has none
pub line_put : (r : Result (Unit {0}) AllocError) (before : Holding) (old new : Held) (text text' : List ℕ) (entries : List Timed) (t : Timed) → stop_of entries ≡ None
    → Takes before entries → before.holders.text ≡ [] → TakesEntry holders_form.text RejectsUnsound (Takes old.holding) before.holders.text old.holding.holders.text entries t None
    → new.stopped ≡ false → OnOk r (text' ≡ text ++ marked holders_mark old.holding.holders.text) → OnOk r (new.holding.holders.text ≡ [])
    → ((es : List Timed) → Takes old.holding es → OnOk r (Takes new.holding es)) → OnOk r ((text' ≡ text ++ held_lines entries t) × Follows new (entries ++ t ∷ []))
line_put (Err e) before old new text text' entries t none h empty taken on put cleared took = tt
line_put (Ok _) before old new text text' entries t none h empty taken on put cleared took =
    let at = goes_on entries t h.holds.account h.holds.is_account h.holds.stands.sound none taken.0.holds.audited in
    let lines : held_lines entries t ≡ marked holders_mark (holders entries (t ∷ [])) =
    ap (λ (o : Option Unsound). held_by o (stop_of (entries ++ t ∷ [])) (holders entries (t ∷ []))) none ∙ ap (λ (o : Option Unsound). held_by None o (holders entries (t ∷ []))) at
    in
    let said : old.holding.holders.text ≡ holders entries (t ∷ []) = taken.1 ∙ ap (λ (l : List ℕ). l ++ holders entries (t ∷ [])) empty in (
      put ∙ ap (λ (l : List ℕ). text ++ marked holders_mark l) said ∙ ap (λ (l : List ℕ). text ++ l) (sym lines),
      record { stopped = on ∙ sym (ap (λ (o : Option Unsound). is_some o) at); holds = λ next. took (entries ++ t ∷ []) taken.0; empty = cleared },
    )

-- ---- the entry that was passed

-- it has stopped, or it goes on
pub off_passed : (h : Held) (entries : List Timed) (t : Timed) → Follows h entries → h.stopped ≡ true → Passed entries t h
off_passed h entries t f e =
    let off = is_off h entries f e in record {
      stopped = f.stopped;
      holds = λ none. no_stop entries off.0 off.1 none;
      empty = λ stopped. f.empty;
      before = λ none. no_stop entries off.0 off.1 none;
    }

pub on_passed : (old new : Held) (entries : List Timed) (t : Timed) → Follows old entries → old.stopped ≡ false → new.stopped ≡ old.stopped
    → TakesText entries t old.holding new.holding → Passed entries t new
on_passed old new entries t f e same x =
    let on = is_on old entries f e in
    let taken = f.holds on in
    let h = taken.holds in record {
      stopped = same ∙ f.stopped;
      holds = λ none. (x.takes, x.text ∙ ap (λ (l : List ℕ). l ++ holders entries (t ∷ [])) f.empty);
      empty = λ stopped. absurd (cc (e, same, stopped));
      before = λ none. (h.account, h.is_account, h.stands.sound);
    }

pub passed_put : (r : Result (Unit {0}) AllocError) (old new : Held) (text text' : List ℕ) (entries : List Timed) (t : Timed) → Passed entries t old → new.stopped ≡ old.stopped
    → OnOk r (text' ≡ text ++ marked holders_mark old.holding.holders.text) → OnOk r (new.holding.holders.text ≡ [])
    → ((es : List Timed) → Takes old.holding es → OnOk r (Takes new.holding es)) → OnOk r ((text' ≡ text ++ held_lines entries t) × Follows new (entries ++ t ∷ []))
passed_put (Err e) old new text text' entries t p same put cleared took = tt
passed_put (Ok _) old new text text' entries t p same put cleared took = go (stop_of entries) refl
  where
    go : (o : Option Unsound) → stop_of entries ≡ o → (text' ≡ text ++ held_lines entries t) × Follows new (entries ++ t ∷ [])
    go None none =
        let before = p.before none in
        let held = p.holds none in
        let at = goes_on entries t before.0 before.1 before.2 none held.0.holds.audited in
        let lines : held_lines entries t ≡ marked holders_mark (holders entries (t ∷ [])) =
        ap (λ (o : Option Unsound). held_by o (stop_of (entries ++ t ∷ [])) (holders entries (t ∷ []))) none ∙ ap (λ (o : Option Unsound). held_by None o (holders entries (t ∷ []))) at
        in
        let off : new.stopped ≡ is_some (stop_of (entries ++ t ∷ [])) = same ∙ p.stopped ∙ ap (λ (o : Option Unsound). is_some o) none ∙ sym (ap (λ (o : Option Unsound). is_some o) at) in (
          put ∙ ap (λ (l : List ℕ). text ++ marked holders_mark l) held.1 ∙ ap (λ (l : List ℕ). text ++ l) (sym lines),
          record { stopped = off; holds = λ next. took (entries ++ t ∷ []) held.0; empty = cleared },
        )
    go (Some u) some =
        let later = stop_stays u entries (t ∷ []) some in
        let stopped : old.stopped ≡ true = p.stopped ∙ ap (λ (o : Option Unsound). is_some o) some in
        let nothing : old.holding.holders.text ≡ [] = p.empty stopped in
        let lines : held_lines entries t ≡ [] = ap (λ (o : Option Unsound). held_by o (stop_of (entries ++ t ∷ [])) (holders entries (t ∷ []))) some in (
          put ∙ ap (λ (l : List ℕ). text ++ marked holders_mark l) nothing ∙ ap (λ (l : List ℕ). text ++ l) (sym lines),
          record { stopped = same ∙ stopped ∙ sym (ap (λ (o : Option Unsound). is_some o) later); holds = λ next. no_stop (entries ++ t ∷ []) u later next; empty = cleared },
        )
