-- A half step over the account is one over registers that stand still, unless it makes progress.
use Rattle.fw_model_rounds.proofs.Common.{◌≡◌, ℕ, Bool, true, false, Option, Some, None, eqb, refl, ap, sym}
use Rattle.fw_model_rounds.proofs.Common.{◌∙◌, arith, cond, Account, Current, Nothing, Asking, Hearing, Overtaken, Directory, Job, Target}
use Rattle.fw_model_rounds.proofs.Common.{Stage, ControllerState, swap_of, words_of, answer_of, shown, succeeds, after_half_step, progresses}
use Rattle.fw_csr.specs.declared.reply.Reply.{Reply}
use Rattle.fw_words.specs.declared.swap.Swap.{Swap}
use Rattle.fw_csr.specs.Replies.{complete}
use Rattle.fw_model_account.specs.Words.{word_of}
use Rattle.fw_cmp.specs.Controllers.{IsHeard}
use Rattle.fw_cmp.specs.Resets.{after_hear}
use Rattle.fw_cmp.specs.Turns.{after_next}
use Rattle.fw_model_controllers.specs.Moves.{carried_out, after_move, move_of}
use Rattle.fw_model_controllers.specs.Registers.{IsAnswer, register_at, succeeds as is_carried}
use Rattle.fw_model_controllers.specs.Together.{Becomes}
use Rattle.fw_model_rounds.specs.Accounts.{situation_of, Hears}
use Rattle.fw_model_rounds.specs.Distance.{is_success}
use Rattle.fw_model_rounds.specs.Rounds.{HalfStep}

-- the answer shows the register's word
is_complete : (l : Account) (c : ControllerState) (j : Job) (s : Stage) (t : Target) (r : Reply) → Hears l c j s t → IsAnswer l t r → r ≡ complete (answer_of (words_of l) j s)
is_complete l c j s t r h a =
    let own : answer_of (words_of l) j s ≡ word_of l (register_at t) = ap (shown (words_of l)) h.target in
    let known = a.complete h.stands in
    reply_is r (answer_of (words_of l) j s) known.0 (known.1 ∙ sym own)
  where
    reply_is : (r : Reply) (v : ℕ) → r.rcode ≡ 0 → r.value ≡ v → r ≡ complete v
    reply_is r v e f = grind (arith, e, f)

hears_turned : (words : Target → ℕ) (now : ℕ) (d : Directory) (c : ControllerState) (j : Job) (s : Stage) → c.current ≡ Hearing j s
    → after_half_step words now d c ≡ after_hear c (complete (answer_of words j s))
hears_turned words now d c j s e = rw e refl

hears_progress : (words : Target → ℕ) (now : ℕ) (d : Directory) (c : ControllerState) (j : Job) (s : Stage) → c.current ≡ Hearing j s → progresses words now d c ≡ succeeds words j s
hears_progress words now d c j s e = rw e refl

-- a swap that does not succeed leaves the account
not_carried : (k : ℕ) (l : Account) (j : Job) (s : Stage) (v : ℕ) → is_success (swap_of j s) v ≡ false → carried_out k j s (complete v) l ≡ l
not_carried k l j s v e = go (swap_of j s) e
  where
    swapped : (b : Bool) → b ≡ false → cond b (after_move k (move_of j s) l) l ≡ l
    swapped true x = grind arith
    swapped false x = refl

    go : (o : Option Swap) → is_success o v ≡ false → cond (is_carried o (complete v)) (after_move k (move_of j s) l) l ≡ l
    go None x = refl
    go (Some w) x = swapped (eqb v w.argument) x

pub answer_is_half_step : (now : ℕ) (d : Directory) (k : ℕ) (l m : Account) (at after : ℕ → ControllerState) (j : Job) (s : Stage) (t : Target) (r : Reply) → Hears l (at k) j s t → IsAnswer l t r
    → words_of m ≡ words_of (carried_out k j s r l) → Becomes at k (after_hear (at k) r) after → HalfStep now d k (situation_of l at) (situation_of m after)
answer_is_half_step now d k l m at after j s t r h a w b = record {
  own = b.new ∙ ap (after_hear (at k)) (is_complete l (at k) j s t r h a) ∙ sym (hears_turned (words_of l) now d (at k) j s h.current);
  others = b.others;
  still = λ e. w ∙ ap words_of (ap (λ (x : Reply). carried_out k j s x l) (is_complete l (at k) j s t r h a)
      ∙ not_carried k l j s (answer_of (words_of l) j s) (sym (hears_progress (words_of l) now d (at k) j s h.current) ∙ e));
}

next_turned : (words : Target → ℕ) (now : ℕ) (d : Directory) (c : ControllerState) (current : Current) → c.current ≡ current → IsHeard current → after_half_step words now d c ≡ after_next now d c
next_turned words now d c Nothing e h = rw e refl
next_turned words now d c (Asking j s) e h = rw e refl
next_turned words now d c (Hearing j s) e h = absurd h
next_turned words now d c (Overtaken i o) e h = rw e refl

-- a request, an outcome, or nothing: the words of the registers stay
pub next_is_half_step : (now : ℕ) (d : Directory) (k : ℕ) (l m : Account) (at after : ℕ → ControllerState) → IsHeard (at k).current → words_of m ≡ words_of l
    → Becomes at k (after_next now d (at k)) after → HalfStep now d k (situation_of l at) (situation_of m after)
next_is_half_step now d k l m at after h w b = record {
  own = b.new ∙ sym (next_turned (words_of l) now d (at k) (at k).current refl h);
  others = b.others;
  still = λ e. w;
}
