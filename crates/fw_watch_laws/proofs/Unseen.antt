-- Which remarks tell that a word changed unseen.
use Rattle.fw_watch_laws.proofs.Common.{◌≡◌, refl, ap, ◌∙◌, subst, ℕ, ◌==◌, Bool, true, false, List, [], ◌∷◌, ◌++◌, if◌then◌else◌, Option, Some, None, IfSome, filter, Swap, Entry, Reset, Async, Iso}
use Rattle.fw_watch_laws.proofs.Common.{
  Event,
  Outcome,
  Shown,
  End,
  Timed,
  InOrder,
  Known,
  At,
  WatchedRegister,
  Bandwidth,
  ChannelsHigh,
  ChannelsLow,
  Output,
  Input,
  Unseen,
  differing,
  Said,
  said,
  Answer,
}
use Rattle.fw_watch_laws.proofs.Common.{Channel, Second, State, Made, judged, answer_of, known_of, Heed, Ignore, Refuse, Follow, judge_remarks, held_remarks, made, with_manager, heed, with_packet}
use Rattle.fw_watch_laws.proofs.Common.{shown_at, packet_of, ticked, remarks, known, IsPlace, Glimpse, glimpse_by, answer_glimpse, word_glimpse, glimpse}
use Rattle.std.proofs.lemmas.List.{append-nil}
use Rattle.std.proofs.lemmas.List.Elements.{filter-append}
use Rattle.fw_watch.specs.Answering.{made_remarks, found_remarks, shown_by, followed_remarks, refused_swap}
use Rattle.fw_watch.specs.Answering.{not_manager_remarks, heeded_remarks, answer_remarks, answered_remarks, packet_remarks}
use Rattle.fw_watch.specs.Steps.{reset_remarks, word_remarks, shown_remarks, what_remarks}
use Rattle.fw_watch_laws.specs.ChangedUnseen.{is_unseen, found_due, glimpse_due, unseen_due}
use Rattle.fw_watch_laws.proofs.Frames.{manager_known, aside, ticked_only}
use Rattle.fw_watch_laws.proofs.Keeps.{whole_known, kept}
use Rattle.fw_watch_laws.proofs.Nodes.{few_known, IsSeen, glimpse_seen}
use Rattle.fw_watch_laws.proofs.Passing.{IsNone}
use Rattle.fw_watch_laws.proofs.Tests.{is_of_word, tells_unseen_by}
use Rattle.fw_watch_laws.proofs.Remarked.{Kind, OfSwap, OfMany, OfUnits, OfNew, OfSeveral, OfMore, OfChannel, IsFree}
use Rattle.fw_watch_laws.proofs.Quiet.{NoneOdd, many_free, units_free, new_free, several_free, more_free, made_none, heard_none, held_none}

-- it is told of words alone
free : (k : Kind) → is_of_word k ≡ false → IsFree is_unseen k
free k n x e = tells_unseen_by x.remark ∙ ap is_of_word e ∙ n

odd_by : (r : WatchedRegister) (s : State) (m : Made) → NoneOdd is_unseen r s m
odd_by Bandwidth s m = (many_free is_unseen m (free OfMany refl), units_free is_unseen s m (free OfUnits refl))
odd_by ChannelsHigh s m = (new_free is_unseen s m 0 (free OfNew refl), several_free is_unseen m (free OfSeveral refl))
odd_by ChannelsLow s m = (new_free is_unseen s m 32 (free OfNew refl), several_free is_unseen m (free OfSeveral refl))
odd_by (Output x) s m = more_free is_unseen m (free OfMore refl)
odd_by (Input x) s m = more_free is_unseen m (free OfMore refl)

-- ---- words

judge_if : (b : Bool) (x : Said) → is_unseen x ≡ true → filter is_unseen (if b then [] else x ∷ []) ≡ (if b then [] else x ∷ [])
judge_if true x e = refl
judge_if false x e = rw e refl

judge_all : (s : State) (cycle : ℕ) (at : At) (found : ℕ) → filter is_unseen (judge_remarks s cycle at found) ≡ judge_remarks s cycle at found
unfolding judge_remarks
judge_all s cycle at found = judge_if (differing (known_of s at) found == 0) (said cycle (Unseen at (known_of s at) found)) refl

-- what is told of what is found, by what is known in the state
unfoldable pub found_by : State → ℕ → At → Option ℕ → List Said
found_by s cycle at None = []
found_by s cycle at (Some found) = judge_remarks s cycle at found

unfoldable pub seen_by : State → ℕ → Option Glimpse → List Said
seen_by s cycle None = []
seen_by s cycle (Some g) = found_by s cycle g.at g.found

judge_same : (s t : State) (cycle : ℕ) (at : At) (found : ℕ) → known_of s at ≡ known_of t at → judge_remarks s cycle at found ≡ judge_remarks t cycle at found
unfolding judge_remarks
judge_same s t cycle at found e = ap (λ (k : Known). if differing k found == 0 then [] else said cycle (Unseen at k found) ∷ []) e

shown_unseen : (o : Option ℕ) (cycle : ℕ) (a : Answer) (s : State) → filter is_unseen (shown_by o cycle a s) ≡ found_by s cycle a.at o
unfolding found_by found_remarks
shown_unseen None cycle a s = refl
shown_unseen (Some found) cycle a s =
    filter-append is_unseen (judge_remarks s cycle a.at found) (made_remarks cycle a a.swap (judged s a.at found))
    ∙ ap (λ (xs : List Said). filter is_unseen (judge_remarks s cycle a.at found) ++ xs)
    (made_none is_unseen cycle a a.swap (judged s a.at found) (free OfSwap refl) (λ swap e. odd_by a.at.register (judged s a.at found) (made cycle a swap)))
    ∙ append-nil (filter is_unseen (judge_remarks s cycle a.at found)) ∙ judge_all s cycle a.at found

found_same : (o : Option ℕ) (s t : State) (cycle : ℕ) (at : At) → known_of s at ≡ known_of t at → found_by s cycle at o ≡ found_by t cycle at o
unfolding found_by
found_same None s t cycle at e = refl
found_same (Some found) s t cycle at e = judge_same s t cycle at found e

refused_none : (o : Option Swap) (s : State) (cycle : ℕ) (a : Answer) → IsNone is_unseen (refused_swap o s cycle a)
refused_none None s cycle a = refl
refused_none (Some swap) s cycle a = refl

heeded_unseen : (h : Heed) (cycle : ℕ) (a : Answer) (s : State) → filter is_unseen (heeded_remarks h cycle a s) ≡ seen_by s cycle (glimpse_by h a)
unfolding seen_by not_manager_remarks followed_remarks
heeded_unseen Ignore cycle a s = refl
heeded_unseen Refuse cycle a s = refused_none a.swap s cycle a
heeded_unseen Follow cycle a s =
    shown_unseen a.found cycle a (with_manager a.at s) ∙ found_same a.found (with_manager a.at s) s cycle a.at (manager_known a.at a.at s)

answered_unseen : (o : Option Answer) (cycle : ℕ) (s : State) → filter is_unseen (answered_remarks o cycle s) ≡ seen_by s cycle (answer_glimpse s o)
unfolding seen_by answer_remarks
answered_unseen None cycle s = refl
answered_unseen (Some a) cycle s = heeded_unseen (heed s a.at) cycle a s

word_unseen : (o : Option At) (cycle word : ℕ) (s : State) → filter is_unseen (word_remarks o cycle word s) ≡ seen_by s cycle (word_glimpse o word)
unfolding seen_by found_by
word_unseen None cycle word s = refl
word_unseen (Some at) cycle word s = judge_all s cycle at word

-- ---- entries

what_unseen : (cycle : ℕ) (e : Entry) (s : State) (c : List Channel) (d : Second)
    → filter is_unseen (what_remarks cycle e (aside s c d)) ≡ seen_by s cycle (glimpse s e)
unfolding what_remarks reset_remarks packet_remarks shown_remarks seen_by found_by shown_at judge_remarks known_of heed
what_unseen cycle (Reset r) s c d = refl
what_unseen cycle (Async q) s c d = answered_unseen (answer_of s.standing q) cycle (with_packet q (aside s c d))
what_unseen cycle (Iso q) s c d = heard_none is_unseen (aside s c d) (packet_of cycle q) (free OfChannel refl)
what_unseen cycle (Event e) s c d = refl
what_unseen cycle (Outcome o) s c d = refl
what_unseen cycle (Shown w) s c d = word_unseen (shown_at s w) cycle w.word (aside s c d)
what_unseen cycle End s c d = refl

pub step_unseen : (s : State) (t : Timed) → filter is_unseen (remarks s t) ≡ seen_by s t.cycle (glimpse s t.what)
unfolding remarks
step_unseen s t =
    let o = ticked_only t.cycle s in
    filter-append is_unseen (held_remarks 64 t.cycle s) (what_remarks t.cycle t.what (ticked t.cycle s))
    ∙ ap (λ (xs : List Said). xs ++ filter is_unseen (what_remarks t.cycle t.what (ticked t.cycle s))) (held_none is_unseen 64 t.cycle s (free OfChannel refl))
    ∙ ap (λ (x : State). filter is_unseen (what_remarks t.cycle t.what x)) o.2 ∙ what_unseen t.cycle t.what s o.0 o.1

-- what is known in the state is what was last known
found_last : (prefix : List Timed) (cycle : ℕ) (at : At) (o : Option ℕ) → IsPlace at → found_by (known prefix) cycle at o ≡ found_due prefix cycle at o
unfolding found_by judge_remarks
found_last prefix cycle at None p = refl
found_last prefix cycle at (Some found) p = ap (λ (k : Known). if differing k found == 0 then [] else said cycle (Unseen at k found) ∷ []) (kept prefix at p)

seen_last : (prefix : List Timed) (cycle : ℕ) (o : Option Glimpse) → IfSome o IsSeen → seen_by (known prefix) cycle o ≡ glimpse_due prefix cycle o
unfolding seen_by
seen_last prefix cycle None p = refl
seen_last prefix cycle (Some g) p = found_last prefix cycle g.at g.found p

pub told_of : (prefix rest : List Timed) (t : Timed) → InOrder 0 (prefix ++ t ∷ rest) → filter is_unseen (remarks (known prefix) t) ≡ unseen_due prefix t
unfolding unseen_due
told_of prefix rest t h =
    step_unseen (known prefix) t
    ∙ seen_last prefix t.cycle (glimpse (known prefix) t.what) (glimpse_seen (known prefix) t.what (few_known prefix (t ∷ rest) h) (whole_known prefix).standing)

pub told : (entries prefix rest : List Timed) (t : Timed) → InOrder 0 entries → entries ≡ prefix ++ t ∷ rest → filter is_unseen (remarks (known prefix) t) ≡ unseen_due prefix t
told entries prefix rest t h e = told_of prefix rest t (subst (InOrder 0) e h)
