-- The history with a move, by what was kept.
use Rattle.fw_explore.proofs.Common.{ℕ, ◌≡◌, List, [], ◌++◌, Ok, refl, sym, ap, subst, ◌∙◌, Timed, History, Had}
use Rattle.std.proofs.Common.{Err, IfOk, append-nil}
use Rattle.std.specs.declared.result.Result.{Result}
use Rattle.std.specs.List.{All}
use Rattle.fw_log_entry.specs.Log.{entries_bytes, TimedFits}
use Rattle.fw_log_entry.specs.declared.version.Version.TheVariants.{Two}
use Rattle.fw_kept_parts.specs.declared.full.Full.{Full}
use Rattle.fw_kept_parts.specs.Tables.{Keeps}
use Rattle.fw_explore_movers.specs.declared.mover.MoverKind.{MoverKind}
use Rattle.fw_explore_movers.specs.declared.mover.MoverKind.TheVariants.{HalfSteps}
use Rattle.fw_explore_told.specs.declared.past.ToldEntry.{ToldEntry}
use Rattle.fw_explore_told.specs.Histories.{told_entries}
use Rattle.fw_explore_meaning.specs.Steps.{history_after}
use Rattle.fw_explore.specs.Arriving.{IsPastAfter, IsSame}
use Rattle.fw_explore.proofs.Numbers.{history_by}

-- a history with what was written, of which nothing is told
still : (past : History) (out : List Timed) (kind : MoverKind) (p : ℕ) → kind ≡ HalfSteps → told_entries out ≡ [] → past ≡ history_after kind p out past
still past out kind p half none = subst (λ k. past ≡ history_after k p out past) (sym half)
    (history_by past past (told_entries out) refl (sym (append-nil past.said) ∙ ap (λ (z : List ToldEntry). past.said ++ z) (sym none)))

-- it is one that was kept before
pub after_none : (old : List History) (here : ℕ) (written : List ℕ) (kind : MoverKind) (p n : ℕ) (past : History) → Had old here past → n ≡ here → kind ≡ HalfSteps
    → ((epoch : ℕ) (out : List Timed) → All TimedFits out → written ≡ entries_bytes Two epoch out → told_entries out ≡ []) → IsPastAfter old old here written kind p n
after_none old here written kind p n past had at half none = subst (IsPastAfter old old here written kind p) (sym at) (record {
  after = past;
  keeps = record { more = []; is = sym (append-nil old); within = had.within; at = had.at };
  is = λ epoch out other fits held h.
      subst (λ (z : History). z ≡ history_after kind p out other) (sym (h.at past) ∙ had.at past) (still other out kind p half (none epoch out fits held));
})

-- it is kept now
pub after_more : (old new : List History) (here : ℕ) (written : List ℕ) (kind : MoverKind) (p : ℕ) (r : Result ℕ Full) (after : History)
    → ((epoch : ℕ) (out : List Timed) (past : History) → All TimedFits out → written ≡ entries_bytes Two epoch out → Had old here past → after ≡ history_after kind p out past)
    → IfOk r (Keeps IsSame old new after) → IfOk r (IsPastAfter old new here written kind p)
after_more old new here written kind p (Ok n) after is keeps = record { after = after; keeps = keeps; is = is }
after_more old new here written kind p (Err e) after is keeps = tt
