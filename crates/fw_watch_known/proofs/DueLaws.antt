-- Since when channels are due, and that none is late before its time.
use Rattle.std.proofs.Common.{◌≡◌, refl, sym, subst, ap, ◌∙◌, false, ℕ, zero, suc, ◌+◌, ◌≤◌, ◌<◌, List, Option, Some, None, IfSome, replicate, arith}
use Rattle.std.proofs.lemmas.Bool.Decides.{nat_tests}
use Rattle.fw_watch_known.specs.declared.channel.Channel.{Channel}
use Rattle.fw_watch_known.specs.declared.channel.Due.{Due}
use Rattle.fw_watch_known.specs.declared.channels.Late.{Late}
use Rattle.fw_watch_known.specs.Channels.{AreDueFrom, fresh, channel_at, is_late, next_late, late_to}

-- none of channels of which nothing was seen is due
all_fresh : (n k : ℕ) → channel_at (replicate n fresh) k ≡ fresh
all_fresh zero k = refl
all_fresh (suc n) zero = refl
all_fresh (suc n) (suc k) = all_fresh n k

pub fresh_due : (n first : ℕ) (channels : List Channel) → channels ≡ replicate n fresh → AreDueFrom first channels
fresh_due n first channels is k =
    subst (λ (row : Channel). IfSome row.due (λ due. first ≤ due.since)) (sym (ap (λ cs. channel_at cs k) is ∙ all_fresh n k)) tt

-- one that has been due since a cycle at most 8000 before is not late
early : (best : Option Late) (n : ℕ) (due : Option Due) (first cycle : ℕ) → IfSome due (λ d. first ≤ d.since) → cycle < first + 8000 → next_late best n due cycle ≡ best
unfolding next_late
early best n None first cycle h lt = refl
early best n (Some d) first cycle h lt = let not_late : is_late d cycle ≡ false = grind (arith, nat_tests, h, lt) in rw not_late refl

pub none_before : (n : ℕ) (channels : List Channel) (first cycle : ℕ) → AreDueFrom first channels → cycle < first + 8000 → late_to n channels cycle ≡ None
unfolding late_to
none_before zero channels first cycle h lt = refl
none_before (suc n) channels first cycle h lt =
    early (late_to n channels cycle) n (channel_at channels n).due first cycle (h n) lt ∙ none_before n channels first cycle h lt
