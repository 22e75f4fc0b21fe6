-- What swaps, isochronous packets and time tell nothing of.
use Rattle.fw_watch_laws.proofs.Common.{
  ◌≡◌,
  refl,
  ℕ,
  zero,
  suc,
  ◌+◌,
  ◌==◌,
  ◌&&◌,
  ◌<◌,
  ◌≤◌,
  nat_lt,
  arith,
  Bool,
  true,
  false,
  List,
  [],
  ◌∷◌,
  ◌++◌,
  if◌then◌else◌,
  Option,
  Some,
  None,
  Swap,
  WatchedRegister,
}
use Rattle.fw_watch_laws.proofs.Common.{Bandwidth, ChannelsHigh, ChannelsLow, Output, Input, UnitsInSecond, NewInSecond, bit_of, Said, said, Answer, State, Made, channel_at, held_remarks, made}
use Rattle.fw_watch_remarks.specs.declared.remark.Remark.TheVariants.{Units, Takes, Returns, Plug, TooMany, Several, MoreThanMove, Sends, UnusedChannel, TwoSenders, NotTaken, OtherPlug}
use Rattle.fw_watch_known.specs.declared.channels.Late.{Late}
use Rattle.fw_watch_known.specs.declared.hear.Heard.{Heard}
use Rattle.fw_watch_known.specs.declared.hear.Packet.{Packet}
use Rattle.fw_watch_known.specs.Channels.{late_to}
use Rattle.fw_watch_known.specs.Heard.{heard}
use Rattle.fw_watch.specs.Swaps.{is_new, epoch_of, taken_with, units_held, units_beyond, new_units_remarks, many_remarks, units_remarks, taken_remarks}
use Rattle.fw_watch.specs.Swaps.{change_remarks, changes_remarks, changes_to, several_remarks, channels_remarks, is_move, plug_remarks, remarks_by, swap_remarks}
use Rattle.fw_watch.specs.Hearing.{start_remarks, two_remarks, free_remarks, owners_remarks, wrong_remarks, heard_remarks}
use Rattle.fw_watch.specs.Holding.{late_remarks, after_late}
use Rattle.fw_watch.specs.Answering.{made_remarks}
use Rattle.fw_watch_laws.proofs.Passing.{IsNone, both_none}
use Rattle.fw_watch_laws.proofs.Remarked.{OfSwap, OfMany, OfUnits, OfNew, OfSeveral, OfMore, OfChannel, IsFree}

-- one remark, if any
pub one_if : (q : Said → Bool) (b : Bool) (x : Said) → q x ≡ false → IsNone q (if b then x ∷ [] else [])
one_if q true x e = rw e refl
one_if q false x e = refl

pub one_unless : (q : Said → Bool) (b : Bool) (x : Said) → q x ≡ false → IsNone q (if b then [] else x ∷ [])
one_unless q true x e = refl
one_unless q false x e = rw e refl

one_more : (q : Said → Bool) (x : Said) (xs : List Said) → q x ≡ false → IsNone q xs → IsNone q (x ∷ xs)
one_more q x xs e n = rw e n

-- ---- swaps

pub many_free : (q : Said → Bool) (m : Made) → IsFree q OfMany → IsNone q (many_remarks m)
unfolding many_remarks
many_free q m f = one_if q (nat_lt 4915 m.new) (said m.cycle (TooMany m.by m.new)) (f _ refl)

beyond_free : (q : Said → Bool) (o : Option ℕ) (s : State) (m : Made) → IsFree q OfUnits → IsNone q (units_beyond o s m)
beyond_free q None s m f = refl
beyond_free q (Some held) s m f =
    one_if q (nat_lt m.new m.old && nat_lt held (taken_with m s.second)) (said m.cycle (UnitsInSecond m.by (epoch_of s) (taken_with m s.second) held)) (f _ refl)

pub units_free : (q : Said → Bool) (s : State) (m : Made) → IsFree q OfUnits → IsNone q (new_units_remarks s m)
unfolding new_units_remarks
units_free q s m f = beyond_free q (units_held s.second.before) s m f

-- that a channel is new in the second
abbrev pub new_remarks : State → Made → ℕ → ℕ → List Said
new_remarks s m first at = if is_new s.second.before m.at.register at then said m.cycle (NewInSecond m.by (first + at) (epoch_of s)) ∷ [] else []

-- of no channel that is taken
abbrev pub NoneNew : (Said → Bool) → State → Made → ℕ → Type 0
NoneNew q s m first = (at : ℕ) → at < 32 → bit_of m.old at ≡ true → bit_of m.new at ≡ false → IsNone q (new_remarks s m first at)

pub new_free : (q : Said → Bool) (s : State) (m : Made) (first : ℕ) → IsFree q OfNew → NoneNew q s m first
new_free q s m first f at h o n = one_if q (is_new s.second.before m.at.register at) (said m.cycle (NewInSecond m.by (first + at) (epoch_of s))) (f _ refl)

pub several_free : (q : Said → Bool) (m : Made) → IsFree q OfSeveral → IsNone q (several_remarks m)
several_free q m f = one_if q (nat_lt 1 (changes_to 32 m.old m.new)) (said m.cycle (Several m.by (changes_to 32 m.old m.new))) (f _ refl)

-- that a swap of a plug is no move
abbrev pub more_remarks : Made → List Said
more_remarks m = if is_move m.at.register m.old m.new then [] else said m.cycle (MoreThanMove m.by m.at m.old m.new) ∷ []

pub more_free : (q : Said → Bool) (m : Made) → IsFree q OfMore → IsNone q (more_remarks m)
more_free q m f = one_unless q (is_move m.at.register m.old m.new) (said m.cycle (MoreThanMove m.by m.at m.old m.new)) (f _ refl)

-- what is odd in a swap is not told, by its register
abbrev pub NoneOdd : (Said → Bool) → WatchedRegister → State → Made → Type 0
NoneOdd q Bandwidth s m = IsNone q (many_remarks m) × IsNone q (new_units_remarks s m)
NoneOdd q ChannelsHigh s m = NoneNew q s m 0 × IsNone q (several_remarks m)
NoneOdd q ChannelsLow s m = NoneNew q s m 32 × IsNone q (several_remarks m)
NoneOdd q (Output x) s m = IsNone q (more_remarks m)
NoneOdd q (Input x) s m = IsNone q (more_remarks m)

units_none : (q : Said → Bool) (s : State) (m : Made) → IsFree q OfSwap → IsNone q (many_remarks m) → IsNone q (new_units_remarks s m) → IsNone q (units_remarks s m)
unfolding units_remarks
units_none q s m f g h = one_more q (said m.cycle (Units m.by m.old m.new)) (many_remarks m ++ new_units_remarks s m) (f _ refl) (both_none q (many_remarks m) (new_units_remarks s m) g h)

change_if : (q : Said → Bool) (b c : Bool) (xs : List Said) (x : Said) → (b ≡ true → c ≡ false → IsNone q xs) → q x ≡ false
    → IsNone q (if b then (if c then [] else xs) else (if c then x ∷ [] else []))
change_if q true true xs x e f = refl
change_if q true false xs x e f = e refl refl
change_if q false c xs x e f = one_if q c x f

changes_none : (q : Said → Bool) (n : ℕ) (s : State) (m : Made) (first : ℕ) → n ≤ 32 → IsFree q OfSwap → NoneNew q s m first → IsNone q (changes_remarks n s m first)
unfolding changes_remarks change_remarks taken_remarks
changes_none q zero s m first l f g = refl
changes_none q (suc n) s m first l f g =
    both_none q (changes_remarks n s m first) (change_remarks s m first n) (changes_none q n s m first (omega (arith, l)) f g)
    (change_if q (bit_of m.old n) (bit_of m.new n) (taken_remarks s m first n) (said m.cycle (Returns m.by (first + n)))
    (λ o w. one_more q (said m.cycle (Takes m.by (first + n))) (new_remarks s m first n) (f _ refl) (g n (omega (arith, l)) o w)) (f _ refl))

channels_none : (q : Said → Bool) (s : State) (m : Made) (first : ℕ) → IsFree q OfSwap → NoneNew q s m first → IsNone q (several_remarks m) → IsNone q (channels_remarks s m first)
unfolding channels_remarks
channels_none q s m first f g h = both_none q (changes_remarks 32 s m first) (several_remarks m) (changes_none q 32 s m first (omega arith) f g) h

plug_none : (q : Said → Bool) (m : Made) → IsFree q OfSwap → IsNone q (more_remarks m) → IsNone q (plug_remarks m)
unfolding plug_remarks
plug_none q m f g = one_more q (said m.cycle (Plug m.by m.at m.old m.new)) (more_remarks m) (f _ refl) g

by_none : (r : WatchedRegister) (q : Said → Bool) (s : State) (m : Made) → IsFree q OfSwap → NoneOdd q r s m → IsNone q (remarks_by r s m)
by_none Bandwidth q s m f o = units_none q s m f o.0 o.1
by_none ChannelsHigh q s m f o = channels_none q s m 0 f o.0 o.1
by_none ChannelsLow q s m f o = channels_none q s m 32 f o.0 o.1
by_none (Output x) q s m f o = plug_none q m f o
by_none (Input x) q s m f o = plug_none q m f o

-- a swap that was made, in which nothing is odd
pub made_none : (q : Said → Bool) (cycle : ℕ) (a : Answer) (o : Option Swap) (s : State) → IsFree q OfSwap
    → ((swap : Swap) → o ≡ Some swap → NoneOdd q a.at.register s (made cycle a swap)) → IsNone q (made_remarks cycle a o s)
unfolding made_remarks swap_remarks
made_none q cycle a None s f g = refl
made_none q cycle a (Some swap) s f g = by_none a.at.register q s (made cycle a swap) f (g swap refl)

-- ---- packets, and time

start_none : (q : Said → Bool) (o : Option ℕ) (p : Packet) → IsFree q OfChannel → IsNone q (start_remarks o p)
unfolding start_remarks
start_none q None p f = one_if q true (said p.cycle (Sends p.sid p.channel)) (f _ refl)
start_none q (Some sender) p f = refl

two_none : (q : Said → Bool) (o : Option ℕ) (p : Packet) → IsFree q OfChannel → IsNone q (two_remarks o p)
unfolding two_remarks
two_none q None p f = refl
two_none q (Some first) p f = one_if q true (said p.cycle (TwoSenders p.channel first p.sid)) (f _ refl)

free_none : (q : Said → Bool) (b : Bool) (p : Packet) → IsFree q OfChannel → IsNone q (free_remarks b p)
unfolding free_remarks
free_none q b p f = one_if q b (said p.cycle (NotTaken p.channel p.sid)) (f _ refl)

owners_none : (q : Said → Bool) (n : ℕ) (p : Packet) → IsFree q OfChannel → IsNone q (owners_remarks n p)
unfolding owners_remarks
owners_none q n p f = one_unless q (n == 0) (said p.cycle (OtherPlug p.channel p.sid n)) (f _ refl)

pub heard_none : (q : Said → Bool) (s : State) (p : Packet) → IsFree q OfChannel → IsNone q (heard_remarks s p)
unfolding heard_remarks wrong_remarks
heard_none q s p f =
    let h : Heard = heard s p in
    both_none q (start_remarks (channel_at s.channels p.channel).sender p) _ (start_none q (channel_at s.channels p.channel).sender p f)
    (both_none q (two_remarks h.first p) _ (two_none q h.first p f)
    (both_none q (free_remarks h.free p) (owners_remarks h.owners p) (free_none q h.free p f) (owners_none q h.owners p f)))

late_none : (q : Said → Bool) (o : Option Late) → IsFree q OfChannel → IsNone q (late_remarks o)
late_none q None f = refl
late_none q (Some late) f = one_if q true (said (late.due.since + 8000) (UnusedChannel late.due.holder late.channel)) (f _ refl)

pub held_none : (q : Said → Bool) (n cycle : ℕ) (s : State) → IsFree q OfChannel → IsNone q (held_remarks n cycle s)
unfolding held_remarks
held_none q zero cycle s f = refl
held_none q (suc n) cycle s f =
    both_none q (late_remarks (late_to 64 s.channels cycle)) _ (late_none q (late_to 64 s.channels cycle) f) (held_none q n cycle (after_late (late_to 64 s.channels cycle) s) f)
