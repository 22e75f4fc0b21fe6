-- Channels that are late, one after another.
use Rattle.std.proofs.Common.{◌≡◌, refl, ap, sym, ◌∙◌, ℕ, zero, suc, [], ◌++◌, Option, Some, None, is_some, false}
use Rattle.fw_watch_remarks.specs.Remarks.{WatchOutput, told}
use Rattle.fw_watch_known.specs.declared.channels.Late.{Late}
use Rattle.fw_watch_known.specs.declared.state.State.{State}
use Rattle.fw_watch_known.specs.Channels.{late_to}
use Rattle.fw_watch.specs.Holding.{late_remarks, after_late, held_remarks, after_held}
use Rattle.fw_watch.proofs.WatchLaws.{told_more}

-- the remarks of one more
pub held_more : (n m cycle : ℕ) (s : State) (t : WatchOutput) → n ≡ suc m
    → told t (held_remarks n cycle s) ≡ told (told t (late_remarks (late_to 64 s.channels cycle))) (held_remarks m cycle (after_late (late_to 64 s.channels cycle) s))
unfolding held_remarks
held_more n m cycle s t e =
    ap (λ (k : ℕ). told t (held_remarks k cycle s)) e
    ∙ told_more t (late_remarks (late_to 64 s.channels cycle)) (held_remarks m cycle (after_late (late_to 64 s.channels cycle) s))

-- what is known after one more
pub after_more : (n m cycle : ℕ) (s : State) → n ≡ suc m → after_held n cycle s ≡ after_held m cycle (after_late (late_to 64 s.channels cycle) s)
unfolding after_held
after_more n m cycle s e = ap (λ (k : ℕ). after_held k cycle s) e

-- if none is late, none is told
pub none_held : (n cycle : ℕ) (s : State) → late_to 64 s.channels cycle ≡ None → held_remarks n cycle s ≡ []
unfolding held_remarks
none_held zero cycle s e = refl
none_held (suc n) cycle s e = ap (λ (o : Option Late). late_remarks o ++ held_remarks n cycle (after_late o s)) e ∙ none_held n cycle s e

pub none_after : (n cycle : ℕ) (s : State) → late_to 64 s.channels cycle ≡ None → after_held n cycle s ≡ s
unfolding after_held
none_after zero cycle s e = refl
none_after (suc n) cycle s e = ap (λ (o : Option Late). after_held n cycle (after_late o s)) e ∙ none_after n cycle s e

pub held_last : (cycle : ℕ) (s : State) → held_remarks 0 cycle s ≡ []
unfolding held_remarks
held_last cycle s = refl

pub after_last : (cycle : ℕ) (s : State) → after_held 0 cycle s ≡ s
unfolding after_held
after_last cycle s = refl

pub no_late : (o : Option Late) → is_some o ≡ false → o ≡ None
no_late None e = refl
no_late (Some late) e = cc

-- if none is late, the rest tells nothing
pub stop_lines : (m cycle : ℕ) (s : State) (j j' : WatchOutput) → j' ≡ told j (late_remarks (late_to 64 s.channels cycle)) → late_to 64 s.channels cycle ≡ None
    → j' ≡ told j (held_remarks m cycle s)
stop_lines m cycle s j j' e none = e ∙ ap (λ (o : Option Late). told j (late_remarks o)) none ∙ ap (told j) (sym (none_held m cycle s none))

pub stop_known : (m cycle : ℕ) (s s' : State) → s' ≡ after_late (late_to 64 s.channels cycle) s → late_to 64 s.channels cycle ≡ None → s' ≡ after_held m cycle s
stop_known m cycle s s' e none = e ∙ ap (λ (o : Option Late). after_late o s) none ∙ sym (none_after m cycle s none)

-- one more was told
pub next_lines : (n m cycle : ℕ) (s s' : State) (j j' : WatchOutput) → n ≡ suc m → j' ≡ told j (late_remarks (late_to 64 s.channels cycle))
    → s' ≡ after_late (late_to 64 s.channels cycle) s → told j (held_remarks n cycle s) ≡ told j' (held_remarks m cycle s')
next_lines n m cycle s s' j j' e f g =
    held_more n m cycle s j e
    ∙ ap (λ (t : WatchOutput). told t (held_remarks m cycle (after_late (late_to 64 s.channels cycle) s))) (sym f)
    ∙ ap (λ (t : State). told j' (held_remarks m cycle t)) (sym g)

pub next_known : (n m cycle : ℕ) (s s' : State) → n ≡ suc m → s' ≡ after_late (late_to 64 s.channels cycle) s → after_held n cycle s ≡ after_held m cycle s'
next_known n m cycle s s' e g = after_more n m cycle s e ∙ ap (after_held m cycle) (sym g)

pub end_lines : (n cycle : ℕ) (s : State) (j : WatchOutput) → n ≡ 0 → told j (held_remarks n cycle s) ≡ j
end_lines n cycle s j e = ap (λ (k : ℕ). told j (held_remarks k cycle s)) e ∙ ap (told j) (held_last cycle s)

pub end_known : (n cycle : ℕ) (s : State) → n ≡ 0 → after_held n cycle s ≡ s
end_known n cycle s e = ap (λ (k : ℕ). after_held k cycle s) e ∙ after_last cycle s
