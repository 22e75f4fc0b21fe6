-- No swap is told as made at a node that is not the resource manager; and what else is not told of swaps.
use Rattle.fw_watch_laws.proofs.Common.{◌≡◌, refl, ap, sym, ◌∙◌, ℕ, ◌&&◌, not, nat_le, Bool, true, false, List, [], ◌∷◌, ◌++◌, if◌then◌else◌, Option, Some, None, ⊤, list_any, Swap, ResetEntry, Timed}
use Rattle.fw_watch_laws.proofs.Common.{
  Account,
  no_account,
  Place,
  place_at,
  is_node,
  At,
  WatchedRegister,
  Bandwidth,
  ChannelsHigh,
  ChannelsLow,
  Output,
  Input,
  is_managed,
  Said,
  Answer,
  Channel,
  Second,
}
use Rattle.fw_watch_laws.proofs.Common.{State, Made, manager_by, is_manager, Ignore, Refuse, Follow, heed, made, ticked, known, IsOrderly, offset_of, HasNone}
use Rattle.fw_watch_known.specs.declared.state.Manager.{Manager}
use Rattle.fw_watch_known.specs.States.{manager_of}
use Rattle.fw_watch.specs.Watched.{all_remarks}
use Rattle.fw_watch_laws.specs.Orderly.{is_not_manager}
use Rattle.fw_watch_laws.proofs.Frames.{aside}
use Rattle.fw_watch_laws.proofs.Agrees.{IsManager}
use Rattle.fw_watch_laws.proofs.Offsets.{managed_place}
use Rattle.fw_watch_laws.proofs.Remarked.{Kind, OfReset, OfWord, OfSwap, OfMany, OfUnits, OfNew, OfSeveral, OfMore, OfChannel, IsFree}
use Rattle.fw_watch_laws.proofs.Tests.{is_of_refused, is_not_manager_by}
use Rattle.fw_watch_laws.proofs.Quiet.{NoneOdd, many_free, units_free, new_free, several_free, more_free}
use Rattle.fw_watch_laws.proofs.Silent.{IsOfSwaps, entry_none}
use Rattle.fw_watch_laws.proofs.Passing.{Passes, none_in}
use Rattle.fw_watch_laws.proofs.Swaps.{IsAccountSwap, swap_in}

-- ---- a swap of the account is followed

pub is_there : (o : Option ℕ) (n : ℕ) (m : Manager) → is_node n o ≡ true → m ≡ manager_of o → is_manager n (manager_by n m) ≡ true
is_there None n m h e = cc
is_there (Some k) n m h e = ap (λ (x : Manager). is_manager n (manager_by n x)) e ∙ h

not_refused : (a b : Bool) → b ≡ false → (if a then Ignore else if b then Refuse else Follow) ≡ Refuse → ⊥
not_refused true b e f = cc
not_refused false true e f = cc
not_refused false false e f = cc

pub at_node : (b c : Bool) → (b ≡ true → c ≡ true) → (b && not c) ≡ false
at_node false c f = refl
at_node true c f = rw (f refl) refl

followed_by : (o : Option ResetEntry) (s : State) (c : List Channel) (d : Second) (at : At) (v : Place) → IsManager o s → place_at o at.node (offset_of at.register) ≡ Some v
    → heed (aside s c d) at ≡ Refuse → ⊥
unfolding heed
followed_by None s c d at v m e f = cc
followed_by (Some r) s c d at v m e f =
    not_refused (nat_le s.count at.node) (is_managed at.register && not (is_manager at.node (manager_by at.node s.manager)))
    (at_node (is_managed at.register) (is_manager at.node (manager_by at.node s.manager)) (λ g. is_there r.manager at.node s.manager (managed_place at.register r at.node v g e).0 m)) f

-- ---- what is not told of swaps

-- a test that passes something odd in swaps alone, and that in none of the moves of the account, passes nothing of a log
pub silent : (q : Said → Bool) (entries : List Timed) (P : List Timed → Account → Type 0) → IsOrderly entries → IsOfSwaps q
    → ((prefix rest : List Timed) (t : Timed) (l m : Account) → Passes entries prefix rest t l m → P prefix l → P (prefix ++ t ∷ []) m) → P [] no_account
    → ((prefix rest : List Timed) (t : Timed) (l m : Account) (a : Answer) (swap : Swap) (u : State) → Passes entries prefix rest t l m → P prefix l → IsAccountSwap l m a swap
    → u.second ≡ (ticked t.cycle (known prefix)).second → NoneOdd q a.at.register u (made t.cycle a swap))
    → list_any q (all_remarks entries) ≡ false
silent q entries P o f step first odd =
    none_in q entries P o step
    (λ prefix rest t l m y p. entry_none q (known prefix) t f
    (λ c d e k a w g swap x.
    let i : IsAccountSwap l m a swap = swap_in entries prefix rest t l m k a swap y w g x in (
      followed_by l.latest (known prefix) c d a.at i.register y.agrees.manager i.place,
      λ u z. odd prefix rest t l m a swap u y p i (z ∙ ap (λ (v : State). v.second) (sym e)),
    )))
    first

-- what is told of one kind is not told of another
abbrev pub refuses : Said → Bool
refuses s = is_not_manager s.remark

free : (k : Kind) → is_of_refused k ≡ false → IsFree refuses k
free k n x e = is_not_manager_by x.remark ∙ ap is_of_refused e ∙ n

of_swaps : IsOfSwaps refuses
of_swaps = record { reset = free OfReset refl; word = free OfWord refl; swap = free OfSwap refl; channel = free OfChannel refl }

none_odd : (r : WatchedRegister) (s : State) (m : Made) → NoneOdd refuses r s m
none_odd Bandwidth s m = (many_free refuses m (free OfMany refl), units_free refuses s m (free OfUnits refl))
none_odd ChannelsHigh s m = (new_free refuses s m 0 (free OfNew refl), several_free refuses m (free OfSeveral refl))
none_odd ChannelsLow s m = (new_free refuses s m 32 (free OfNew refl), several_free refuses m (free OfSeveral refl))
none_odd (Output x) s m = more_free refuses m (free OfMore refl)
none_odd (Input x) s m = more_free refuses m (free OfMore refl)

pub swap_at_manager : (entries : List Timed) → IsOrderly entries → HasNone is_not_manager entries
swap_at_manager entries o =
    silent refuses entries (λ prefix l. ⊤) o of_swaps (λ prefix rest t l m y p. tt) tt
    (λ prefix rest t l m a swap u y p i e. none_odd a.at.register u (made t.cycle a swap))
