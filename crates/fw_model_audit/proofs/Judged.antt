-- The tests find the first fault of what is looked at, but for a swap that is no move.
use Rattle.fw_log_entry.specs.declared.codes.event.TheConstants.{SECOND_OVER, WITHHELD}
use Rattle.fw_log_entry.specs.declared.entry.EventEntry.{EventEntry}
use Rattle.fw_log_entry.specs.declared.entry.ShownEntry.{ShownEntry}
use Rattle.fw_log_entry.specs.declared.entry.ResetEntry.{ResetEntry}
use Rattle.std.proofs.Common.{◌≡◌, ◌<◌, ℕ, ◌==◌, ◌&&◌, ◌||◌, not, Bool, true, false, Option, Some, None, is_some, option_map, refl, ap, sym, ◌∙◌, true≢false, arith, cond, IsTrue, IsFalse}
use Rattle.std.proofs.lemmas.Bool.Decides.{nat_tests}
use Rattle.std.proofs.lemmas.Option.{same_Some}
use Rattle.fw_model_account.specs.Account.{Account}
use Rattle.fw_model_account.specs.Refused.{IsEventRefused, NoSecond, TooLate}
use Rattle.fw_model_account.specs.Words.{Register, word_of}
use Rattle.fw_model_audit.specs.Looked.{Looked, Asks, Replies, Shows, Happens, Other, is_watched, register_shown}
use Rattle.fw_model_audit.specs.Faults.{HasFault, IsNotAllowed, IsWrongWord, rank, shown_id}
use Rattle.fw_model_audit.specs.Judged.{judged, judged_word, judged_shown, judged_event}
use Rattle.fw_model_audit.specs.declared.fault.AuditFault.{AuditFault}
use Rattle.fw_model_audit.specs.declared.fault.AuditFault.TheVariants.{NoNode, Overlap, Orphan, NotAllowed, WrongWord, NoMove, NoEvent}
use Rattle.fw_model_audit.proofs.Requests.{is_no_move, IsJudged, no_some, request_judged}
use Rattle.fw_model_audit.proofs.Responses.{response_judged}

-- ---- shown words

pub shown_judged : (l : Account) (s : ShownEntry) → IsJudged l (Shows s) (judged_shown l s)
shown_judged l s = test (is_watched s.offset) refl
  where
    clear : ((i o : ℕ) → IsNotAllowed l (Shows s) i o → ⊥) → ((a b : ℕ) → IsWrongWord l (Shows s) a b → ⊥) → (g : AuditFault) → IsFalse (is_no_move g) → HasFault l (Shows s) g → ⊥
    clear allowed right (NoNode k) n h = h
    clear allowed right (Overlap k) n h = h
    clear allowed right (Orphan k) n h = h
    clear allowed right (NotAllowed k o) n h = allowed k o h
    clear allowed right (WrongWord a b) n h = right a b h
    clear allowed right (NoMove a b) n h = h
    clear allowed right (NoEvent k) n h = h

    below_allowed : (g : AuditFault) → rank g < 4 → HasFault l (Shows s) g → ⊥
    below_allowed (NoNode k) lt h = h
    below_allowed (Overlap k) lt h = h
    below_allowed (Orphan k) lt h = h
    below_allowed (NotAllowed k o) lt h = omega arith
    below_allowed (WrongWord a b) lt h = omega arith
    below_allowed (NoMove a b) lt h = h
    below_allowed (NoEvent k) lt h = h

    below_word : ((i o : ℕ) → IsNotAllowed l (Shows s) i o → ⊥) → (g : AuditFault) → rank g < 5 → HasFault l (Shows s) g → ⊥
    below_word allowed (NoNode k) lt h = h
    below_word allowed (Overlap k) lt h = h
    below_word allowed (Orphan k) lt h = h
    below_word allowed (NotAllowed k o) lt h = allowed k o h
    below_word allowed (WrongWord a b) lt h = omega arith
    below_word allowed (NoMove a b) lt h = h
    below_word allowed (NoEvent k) lt h = h

    word : IsTrue (is_watched s.offset) → (o : Option Register) → register_shown l.latest s ≡ o
        → IsJudged l (Shows s) (judged_word (shown_id l.latest s.device) s.offset s.word (option_map (word_of l) o))
    word w None at = ((refl, w, at, refl), below_allowed)
    word w (Some register) at = same (s.word == word_of l register) refl
      where
        allowed : (i o : ℕ) → IsNotAllowed l (Shows s) i o → ⊥
        allowed i o h = no_some register (sym h.2 ∙ at)

        right : s.word ≡ word_of l register → (a b : ℕ) → IsWrongWord l (Shows s) a b → ⊥
        right e a b h =
            let place : register ≡ h.2.0 = same_Some register h.2.0 (sym at ∙ h.2.1) in
            h.3 (sym h.1 ∙ (e ∙ (ap (word_of l) place ∙ h.2.2)))

        equal : (v : ℕ) → (v == v) ≡ true
        equal v = grind (arith, nat_tests)

        same : (b : Bool) → (s.word == word_of l register) ≡ b → IsJudged l (Shows s) (cond b None (Some (WrongWord s.word (word_of l register))))
        same true t = clear allowed (right (grind (arith, nat_tests)))
        same false t = ((w, refl, (register, at, refl), λ e. true≢false (sym (ap (λ v. s.word == v) (sym e) ∙ equal s.word) ∙ t)), below_word allowed)

    test : (b : Bool) → is_watched s.offset ≡ b → IsJudged l (Shows s) (cond b (judged_word (shown_id l.latest s.device) s.offset s.word (option_map (word_of l) (register_shown l.latest s))) None)
    test true w = word w (register_shown l.latest s) refl
    test false w = clear (λ i o h. true≢false (sym h.1 ∙ (ap is_watched (sym h.0) ∙ w))) (λ a b h. true≢false (sym h.0 ∙ w))

-- ---- events

pub event_judged : (l : Account) (e : EventEntry) → IsJudged l (Happens e) (judged_event l e)
event_judged l e = test (e.code == SECOND_OVER) l.reclaiming (e.code == WITHHELD) l.latest refl refl refl refl
  where
    clear : ((k : ℕ) → HasFault l (Happens e) (NoEvent k) → ⊥) → (g : AuditFault) → IsFalse (is_no_move g) → HasFault l (Happens e) g → ⊥
    clear never (NoNode k) n h = h
    clear never (Overlap k) n h = h
    clear never (Orphan k) n h = h
    clear never (NotAllowed k o) n h = h
    clear never (WrongWord a b) n h = h
    clear never (NoMove a b) n h = h
    clear never (NoEvent k) n h = never k h

    below : (g : AuditFault) → rank g < 7 → HasFault l (Happens e) g → ⊥
    below (NoNode k) lt h = h
    below (Overlap k) lt h = h
    below (Orphan k) lt h = h
    below (NotAllowed k o) lt h = h
    below (WrongWord a b) lt h = h
    below (NoMove a b) lt h = h
    below (NoEvent k) lt h = omega arith

    second : (b : Bool) → (e.code == SECOND_OVER) ≡ b → e.code ≡ SECOND_OVER → b ≡ true
    second b s is = grind (arith, nat_tests)

    late : (b : Bool) → (e.code == WITHHELD) ≡ b → e.code ≡ WITHHELD → b ≡ true
    late b s is = grind (arith, nat_tests)

    -- it is no such event
    never : (a b c : Bool) (o : Option ResetEntry) → (e.code == SECOND_OVER) ≡ a → l.reclaiming ≡ b → (e.code == WITHHELD) ≡ c → l.latest ≡ o
        → ((a && not b) || (c && is_some o)) ≡ false → IsEventRefused e l → ⊥
    never a b c o s t u v none (NoSecond is runs) = absurd (grind (arith, second a s is, sym t ∙ runs))
    never a b c None s t u v none (TooLate is some) = some v
    never a b c (Some r) s t u v none (TooLate is some) = absurd (grind (arith, late c u is))

    test : (a b c : Bool) (o : Option ResetEntry) → (e.code == SECOND_OVER) ≡ a → l.reclaiming ≡ b → (e.code == WITHHELD) ≡ c → l.latest ≡ o
        → IsJudged l (Happens e) (cond ((a && not b) || (c && is_some o)) (Some (NoEvent e.code)) None)
    test true false c o s t u v = ((refl, NoSecond (grind (arith, nat_tests)) t), below)
    test true true true (Some r) s t u v = ((refl, TooLate (grind (arith, nat_tests)) (λ f. absurd (let g = sym v ∙ f in cc))), below)
    test false b true (Some r) s t u v = ((refl, TooLate (grind (arith, nat_tests)) (λ f. absurd (let g = sym v ∙ f in cc))), below)
    test true true true None s t u v = clear (λ k h. never true true true None s t u v refl h.1)
    test true true false o s t u v = clear (λ k h. never true true false o s t u v refl h.1)
    test false b true None s t u v = clear (λ k h. never false b true None s t u v refl h.1)
    test false b false o s t u v = clear (λ k h. never false b false o s t u v refl h.1)

-- ---- whatever is looked at

pub all_judged : (l : Account) (x : Looked) → IsJudged l x (judged l x)
all_judged l (Asks id) = request_judged l id
all_judged l (Replies r) = response_judged l r
all_judged l (Shows s) = shown_judged l s
all_judged l (Happens e) = event_judged l e
all_judged l Other = clear
  where
    clear : (g : AuditFault) → IsFalse (is_no_move g) → HasFault l Other g → ⊥
    clear (NoNode k) n h = h
    clear (Overlap k) n h = h
    clear (Orphan k) n h = h
    clear (NotAllowed k o) n h = h
    clear (WrongWord a b) n h = h
    clear (NoMove a b) n h = h
    clear (NoEvent k) n h = h
