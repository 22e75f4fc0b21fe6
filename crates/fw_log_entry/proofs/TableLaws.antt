-- What the tables of events and outcomes come to, code by code; after their codes they have no row.
use Rattle.std.proofs.Common.{◌≡◌, ℕ, ◌<◌, ◌≤◌, ◌==◌, ◌&&◌, ◌||◌, nat_le, nat_lt, zero, suc, Bool, true, false}
use Rattle.std.proofs.Common.{List, [], ◌∷◌, Option, Some, None, option_map, if◌then◌else◌, refl, sym, ap, subst, ◌∙◌, arith}
use Rattle.std.proofs.lemmas.Bool.Decides.{nat_tests}
use Rattle.std.specs.List.{find}
use Rattle.fw_log_entry.specs.Laws.{EventsAreListed, TapesAreInserted, OutcomesAreListed}
use Rattle.fw_log_entry.specs.Rows.{has_tape, may_have, may_bring}
use Rattle.fw_log_entry.specs.declared.rows.EventForm.{EventForm}
use Rattle.fw_log_entry.specs.declared.rows.OutcomeForm.{OutcomeForm}
use Rattle.fw_log_entry.specs.declared.rows.TheConstants.{EVENTS, OUTCOMES}
use Rattle.fw_log_entry.proofs.RowLaws.{all_below, rest_below}

other_code : (n m code : ℕ) (b : Bool) → (nat_lt n m && b) ≡ true → m ≤ code → (n == code) ≡ false
other_code n m code b e h = grind (arith, nat_tests)

none_following : {F : Type 0} (m : ℕ) (rows : List (ℕ × F)) (code : ℕ) → all_below m rows ≡ true → m ≤ code → find (λ (r : ℕ × F). r.0 == code) rows ≡ None
none_following m [] code e h = refl
none_following {F} m (r ∷ rows) code e h =
    let Found : Bool → Type 0 = λ b. (if b then Some r else find (λ (x : ℕ × F). x.0 == code) rows) ≡ None in
    subst Found (sym (other_code r.0 m code (all_below m rows) e h)) (none_following m rows code (rest_below (nat_lt r.0 m) (all_below m rows) e) h)

-- a code above the highest is not listed
unlisted : (low high code : ℕ) (a b : Bool) → high < code → (nat_le low code && nat_le code high && a && b) ≡ false
unlisted low high code a b h = grind (arith, nat_tests)

unlisted_one : (low high code : ℕ) (a : Bool) → high < code → (nat_le low code && nat_le code high && a) ≡ false
unlisted_one low high code a h = grind (arith, nat_tests)

other_than : (n code : ℕ) → n < code → (code == n) ≡ false
other_than n code h = grind (arith, nat_tests)

no_event : (n : ℕ) → find (λ (r : ℕ × EventForm). r.0 == (suc (suc (suc (suc (suc (suc (suc (suc (suc (suc (suc (suc n))))))))))))) EVENTS ≡ None
no_event n = none_following 12 EVENTS (suc (suc (suc (suc (suc (suc (suc (suc (suc (suc (suc (suc n)))))))))))) refl (omega arith)

no_outcome : (n : ℕ) → find (λ (r : ℕ × OutcomeForm). r.0 == (suc (suc (suc (suc (suc (suc (suc (suc (suc (suc (suc (suc (suc n)))))))))))))) OUTCOMES ≡ None
no_outcome n = none_following 13 OUTCOMES (suc (suc (suc (suc (suc (suc (suc (suc (suc (suc (suc (suc (suc n))))))))))))) refl (omega arith)

pub events_are_listed : EventsAreListed
events_are_listed zero device tape system = refl
events_are_listed (suc zero) device tape system = refl
events_are_listed (suc (suc zero)) device tape system = refl
events_are_listed (suc (suc (suc zero))) device tape system = refl
events_are_listed (suc (suc (suc (suc zero)))) device tape system = refl
events_are_listed (suc (suc (suc (suc (suc zero))))) device tape system = refl
events_are_listed (suc (suc (suc (suc (suc (suc zero)))))) device tape system = refl
events_are_listed (suc (suc (suc (suc (suc (suc (suc zero))))))) device tape system = refl
events_are_listed (suc (suc (suc (suc (suc (suc (suc (suc zero)))))))) device tape system = refl
events_are_listed (suc (suc (suc (suc (suc (suc (suc (suc (suc zero))))))))) device tape system = refl
events_are_listed (suc (suc (suc (suc (suc (suc (suc (suc (suc (suc zero)))))))))) device tape system = refl
events_are_listed (suc (suc (suc (suc (suc (suc (suc (suc (suc (suc (suc zero))))))))))) device tape system = refl
events_are_listed (suc (suc (suc (suc (suc (suc (suc (suc (suc (suc (suc (suc n)))))))))))) device tape system =
    ap (λ (o : Option (ℕ × EventForm)). may_have (option_map (λ (r : ℕ × EventForm). r.1) o) device
    && (if has_tape (option_map (λ (r : ℕ × EventForm). r.1) o) then (system == 525) || (system == 625) else (tape == 0) && (system == 0))) (no_event n)
    ∙ sym (unlisted 1 11 (suc (suc (suc (suc (suc (suc (suc (suc (suc (suc (suc (suc n)))))))))))) _ _ (omega arith))

pub tapes_are_inserted : TapesAreInserted
tapes_are_inserted zero = refl
tapes_are_inserted (suc zero) = refl
tapes_are_inserted (suc (suc zero)) = refl
tapes_are_inserted (suc (suc (suc zero))) = refl
tapes_are_inserted (suc (suc (suc (suc zero)))) = refl
tapes_are_inserted (suc (suc (suc (suc (suc zero))))) = refl
tapes_are_inserted (suc (suc (suc (suc (suc (suc zero)))))) = refl
tapes_are_inserted (suc (suc (suc (suc (suc (suc (suc zero))))))) = refl
tapes_are_inserted (suc (suc (suc (suc (suc (suc (suc (suc zero)))))))) = refl
tapes_are_inserted (suc (suc (suc (suc (suc (suc (suc (suc (suc zero))))))))) = refl
tapes_are_inserted (suc (suc (suc (suc (suc (suc (suc (suc (suc (suc zero)))))))))) = refl
tapes_are_inserted (suc (suc (suc (suc (suc (suc (suc (suc (suc (suc (suc zero))))))))))) = refl
tapes_are_inserted (suc (suc (suc (suc (suc (suc (suc (suc (suc (suc (suc (suc n)))))))))))) =
    ap (λ (o : Option (ℕ × EventForm)). has_tape (option_map (λ (r : ℕ × EventForm). r.1) o)) (no_event n)
    ∙ sym (other_than 4 (suc (suc (suc (suc (suc (suc (suc (suc (suc (suc (suc (suc n)))))))))))) (omega arith))

pub outcomes_are_listed : OutcomesAreListed
outcomes_are_listed zero value = refl
outcomes_are_listed (suc zero) value = refl
outcomes_are_listed (suc (suc zero)) value = refl
outcomes_are_listed (suc (suc (suc zero))) value = refl
outcomes_are_listed (suc (suc (suc (suc zero)))) value = refl
outcomes_are_listed (suc (suc (suc (suc (suc zero))))) value = refl
outcomes_are_listed (suc (suc (suc (suc (suc (suc zero)))))) value = refl
outcomes_are_listed (suc (suc (suc (suc (suc (suc (suc zero))))))) value = refl
outcomes_are_listed (suc (suc (suc (suc (suc (suc (suc (suc zero)))))))) value = refl
outcomes_are_listed (suc (suc (suc (suc (suc (suc (suc (suc (suc zero))))))))) value = refl
outcomes_are_listed (suc (suc (suc (suc (suc (suc (suc (suc (suc (suc zero)))))))))) value = refl
outcomes_are_listed (suc (suc (suc (suc (suc (suc (suc (suc (suc (suc (suc zero))))))))))) value = refl
outcomes_are_listed (suc (suc (suc (suc (suc (suc (suc (suc (suc (suc (suc (suc zero)))))))))))) value = refl
outcomes_are_listed (suc (suc (suc (suc (suc (suc (suc (suc (suc (suc (suc (suc (suc n))))))))))))) value =
    ap (λ (o : Option (ℕ × OutcomeForm)). may_bring (option_map (λ (r : ℕ × OutcomeForm). r.1) o) value) (no_outcome n)
    ∙ sym (unlisted_one 1 12 (suc (suc (suc (suc (suc (suc (suc (suc (suc (suc (suc (suc (suc n))))))))))))) _ (omega arith))
