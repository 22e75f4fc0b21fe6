-- An entry tells nothing of swaps if each swap that it has made is followed, and nothing in it is odd.
use Rattle.fw_watch_laws.proofs.Common.{◌≡◌, refl, ap, sym, ◌∙◌, subst, ℕ, ◌==◌, Bool, false, List, Option, Some, None, Swap, Packet, Entry, Reset, Async, Iso, Event, Outcome, Shown, End, Timed}
use Rattle.fw_watch_laws.proofs.Common.{
  Known,
  At,
  WatchedRegister,
  Bandwidth,
  ChannelsHigh,
  ChannelsLow,
  Output,
  Input,
  Unseen,
  all_known,
  differing,
  Said,
  said,
  Answer,
  Channel,
  Second,
  State,
  judged,
}
use Rattle.fw_watch_laws.proofs.Common.{answer_of, known_of, with_known, with_known_plug, Heed, Ignore, Refuse, Follow, heed, made, with_manager, with_packet, held_remarks, judge_remarks, shown_at}
use Rattle.fw_watch_laws.proofs.Common.{packet_of, ticked, remarks}
use Rattle.fw_watch_remarks.specs.declared.remark.Remark.TheVariants.{Reset as ResetRemark}
use Rattle.fw_watch.specs.Answering.{refused_swap, not_manager_remarks, made_remarks, found_remarks}
use Rattle.fw_watch.specs.Answering.{shown_by, followed_remarks, heeded_remarks, answer_remarks, answered_remarks, packet_remarks}
use Rattle.fw_watch.specs.Steps.{reset_remarks, word_remarks, shown_remarks, what_remarks}
use Rattle.fw_watch_laws.proofs.Frames.{manager_only, aside, ticked_only}
use Rattle.fw_watch_laws.proofs.Passing.{IsNone, both_none}
use Rattle.fw_watch_laws.proofs.Remarked.{OfReset, OfWord, OfSwap, OfChannel, IsFree}
use Rattle.fw_watch_laws.proofs.Quiet.{one_unless, NoneOdd, made_none, heard_none, held_none}

-- the test passes neither bus resets, words that changed, channels nor swaps in which nothing is odd
pub record IsOfSwaps (q : Said → Bool) : Type 0 where
  pub reset : IsFree q OfReset
  pub word : IsFree q OfWord
  pub swap : IsFree q OfSwap
  pub channel : IsFree q OfChannel

-- ---- the second stays as words are judged

pub put_second : (r : WatchedRegister) (s : State) (n : ℕ) (k : Known) → (with_known s (record { node = n; register = r }) k).second ≡ s.second
unfolding with_known with_known_plug
put_second Bandwidth s n k = refl
put_second ChannelsHigh s n k = refl
put_second ChannelsLow s n k = refl
put_second (Output x) s n k = refl
put_second (Input x) s n k = refl

pub judged_second : (s : State) (at : At) (found : ℕ) → (judged s at found).second ≡ s.second
unfolding judged
judged_second s at found = put_second at.register _ at.node (all_known found)

pub manager_second : (at : At) (s : State) → (with_manager at s).second ≡ s.second
manager_second at s = ap (λ (x : State). x.second) (manager_only at s).1

-- ---- answers

judge_none : (q : Said → Bool) (s : State) (cycle : ℕ) (at : At) (found : ℕ) → IsFree q OfWord → IsNone q (judge_remarks s cycle at found)
unfolding judge_remarks
judge_none q s cycle at found f = one_unless q (differing (known_of s at) found == 0) (said cycle (Unseen at (known_of s at) found)) (f _ refl)

-- each swap of an answer is followed, and nothing in it is odd
abbrev pub SwapIsSilent : (Said → Bool) → ℕ → Answer → State → Type 0
SwapIsSilent q cycle a s = (swap : Swap) → a.swap ≡ Some swap → (heed s a.at ≡ Refuse → ⊥) × ((u : State) → u.second ≡ s.second → NoneOdd q a.at.register u (made cycle a swap))

shown_none : (o : Option ℕ) (q : Said → Bool) (cycle : ℕ) (a : Answer) (s : State) → IsOfSwaps q
    → ((swap : Swap) → a.swap ≡ Some swap → (u : State) → u.second ≡ s.second → NoneOdd q a.at.register u (made cycle a swap)) → IsNone q (shown_by o cycle a s)
unfolding found_remarks
shown_none None q cycle a s f g = refl
shown_none (Some found) q cycle a s f g =
    both_none q (judge_remarks s cycle a.at found) (made_remarks cycle a a.swap (judged s a.at found)) (judge_none q s cycle a.at found f.word)
    (made_none q cycle a a.swap (judged s a.at found) f.swap (λ swap e. g swap e (judged s a.at found) (judged_second s a.at found)))

refused_none : (o : Option Swap) (q : Said → Bool) (s : State) (cycle : ℕ) (a : Answer) → ((swap : Swap) → o ≡ Some swap → ⊥) → IsNone q (refused_swap o s cycle a)
refused_none None q s cycle a g = refl
refused_none (Some swap) q s cycle a g = absurd (g swap refl)

heeded_none : (h : Heed) (q : Said → Bool) (cycle : ℕ) (a : Answer) (s : State) → IsOfSwaps q → heed s a.at ≡ h → SwapIsSilent q cycle a s → IsNone q (heeded_remarks h cycle a s)
unfolding not_manager_remarks followed_remarks
heeded_none Ignore q cycle a s f e g = refl
heeded_none Refuse q cycle a s f e g = refused_none a.swap q s cycle a (λ swap x. (g swap x).0 e)
heeded_none Follow q cycle a s f e g =
    shown_none a.found q cycle a (with_manager a.at s) f (λ swap x u y. (g swap x).1 u (y ∙ manager_second a.at s))

answered_none : (o : Option Answer) (q : Said → Bool) (cycle : ℕ) (s : State) → IsOfSwaps q → ((a : Answer) → o ≡ Some a → SwapIsSilent q cycle a s) → IsNone q (answered_remarks o cycle s)
unfolding answer_remarks
answered_none None q cycle s f g = refl
answered_none (Some a) q cycle s f g = heeded_none (heed s a.at) q cycle a s f refl (g a refl)

word_none : (o : Option At) (q : Said → Bool) (cycle word : ℕ) (s : State) → IsFree q OfWord → IsNone q (word_remarks o cycle word s)
word_none None q cycle word s f = refl
word_none (Some at) q cycle word s f = judge_none q s cycle at word f

-- ---- entries

-- so is each swap of an entry
abbrev pub EntryIsSilent : (Said → Bool) → ℕ → Entry → State → Type 0
EntryIsSilent q cycle e s = (p : Packet) (a : Answer) → e ≡ Async p → answer_of s.standing p ≡ Some a → SwapIsSilent q cycle a s

what_none : (q : Said → Bool) (cycle : ℕ) (e : Entry) (s : State) (c : List Channel) (d : Second) → IsOfSwaps q → EntryIsSilent q cycle e (aside s c d)
    → IsNone q (what_remarks cycle e (aside s c d))
unfolding what_remarks reset_remarks packet_remarks shown_remarks heed
what_none q cycle (Reset r) s c d f g = one_unless q false (said cycle (ResetRemark r.epoch _ r.manager)) (f.reset _ refl)
what_none q cycle (Async p) s c d f g = answered_none (answer_of s.standing p) q cycle (with_packet p (aside s c d)) f (λ a e. g p a refl e)
what_none q cycle (Iso p) s c d f g = heard_none q (aside s c d) (packet_of cycle p) f.channel
what_none q cycle (Event e) s c d f g = refl
what_none q cycle (Outcome o) s c d f g = refl
what_none q cycle (Shown w) s c d f g = word_none (shown_at (aside s c d) w) q cycle w.word (aside s c d) f.word
what_none q cycle End s c d f g = refl

pub entry_none : (q : Said → Bool) (s : State) (t : Timed) → IsOfSwaps q → ((c : List Channel) (d : Second) → ticked t.cycle s ≡ aside s c d → EntryIsSilent q t.cycle t.what (aside s c d))
    → IsNone q (remarks s t)
unfolding remarks
entry_none q s t f g =
    let o = ticked_only t.cycle s in
    let P : State → Type 0 = λ x. IsNone q (what_remarks t.cycle t.what x) in
    both_none q (held_remarks 64 t.cycle s) (what_remarks t.cycle t.what (ticked t.cycle s)) (held_none q 64 t.cycle s f.channel)
    (subst P (sym o.2) (what_none q t.cycle t.what s o.0 o.1 f (g o.0 o.1 o.2)))
