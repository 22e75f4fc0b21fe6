-- A word that is found and known: it is counted, and a channel that its plug is on is used.
use Rattle.std.proofs.Common.{◌≡◌, refl, ap, sym, ◌∙◌, ℕ, ◌==◌, Bool, true, false, bit_and, List, Option, Some, None, if◌then◌else◌, arith}
use Rattle.std.specs.Int.Bits.{and_self, and_zero_l, xor_self}
use Rattle.std.proofs.Math.ListN.{set}
use Rattle.std.proofs.lemmas.Bool.{eq-eqb}
use Rattle.std.proofs.lemmas.List.{set-get_or}
use Rattle.fw_watch_remarks.specs.declared.known.Known.{Known}
use Rattle.fw_watch_remarks.specs.declared.register.At.{At}
use Rattle.fw_watch_remarks.specs.declared.register.WatchedRegister.{WatchedRegister}
use Rattle.fw_watch_remarks.specs.declared.register.WatchedRegister.TheVariants.{Bandwidth, ChannelsHigh, ChannelsLow, Output, Input}
use Rattle.fw_watch_remarks.specs.Registers.{is_managed, plug_index}
use Rattle.fw_watch_remarks.specs.Knowing.{all_known, channel_of, differing, nothing_known}
use Rattle.fw_watch_remarks.specs.Remarks.{counted}
use Rattle.fw_watch_known.specs.declared.channel.Channel.{Channel}
use Rattle.fw_watch_known.specs.declared.counts.Counts.{Counts}
use Rattle.fw_watch_known.specs.declared.state.State.{State}
use Rattle.fw_watch_known.specs.Channels.{freshened, plug_at, plug_moved, quieted, same_channel, unused}
use Rattle.fw_watch_known.specs.Judging.{judged, judged_counts, weighed}
use Rattle.fw_watch_known.specs.States.{known_by, known_of, with_known, with_known_by, with_known_plug}
use Rattle.fw_watch_known.proofs.Keeping.{none_forgotten, keeps_channels}

never_differs : (k : Known) → differing k k.word ≡ 0
never_differs k = ap (λ (n : ℕ). bit_and n k.mask) (xor_self k.word) ∙ and_zero_l k.mask

all_of : (k : Known) → k.mask ≡ 0xFFFFFFFF → all_known k.word ≡ k
all_of k e = ap (λ (n : ℕ). record k { mask = n }) (sym e)

never_zero : (n : ℕ) → n ≡ 0xFFFFFFFF → (n == 0) ≡ false
never_zero n e = ap (λ (m : ℕ). m == 0) e

-- it was judged
same_counts : (k : Known) (c : Counts) (n : ℕ) → k.mask ≡ 0xFFFFFFFF → n ≡ counted c.judged → record c { judged = n } ≡ judged_counts k k.word c
unfolding judged_counts
same_counts k c n e f =
    ap (λ (m : ℕ). record c { judged = m }) f
    ∙ sym (ap (λ (b : Bool). if b then record c { not_known = counted c.not_known } else record c { judged = counted c.judged }) (never_zero k.mask e))
    ∙ sym (ap (λ (b : Bool). if b then weighed k c else record (weighed k c) { unseen = counted (weighed k c).unseen }) (eq-eqb (differing k k.word) 0 (never_differs k)))

same_half : (first : ℕ) (k : Known) (cs : List Channel) → freshened 32 first k k cs ≡ cs
same_half first k cs = keeps_channels 32 first k k cs (omega arith) (none_forgotten k k (and_self k.mask) (never_differs k))

same_itself : (o : Option ℕ) → same_channel o o ≡ true
same_itself None = refl
same_itself (Some k) = eq-eqb k k refl

stays_on : (o : Option ℕ) (cs : List Channel) → plug_moved o o cs ≡ unused o cs
unfolding plug_moved
stays_on o cs = ap (λ (b : Bool). unused o (if b then cs else quieted o (quieted o cs))) (same_itself o)

-- one of the resource manager's registers stays as it is
by_managed : (r : WatchedRegister) (s : State) (at : At) (k : Known) → is_managed r ≡ true → k ≡ known_by r s.managed (plug_at s.plugs at) → with_known_by r s at k ≡ s
by_managed Bandwidth s at k m e = ap (λ (x : Known). record s { managed = record s.managed { bandwidth = x } }) e
by_managed ChannelsHigh s at k m e =
    ap (λ (x : Known). with_known_by ChannelsHigh s at x) e ∙ ap (λ (cs : List Channel). record s { channels = cs }) (same_half 0 s.managed.high s.channels)
by_managed ChannelsLow s at k m e =
    ap (λ (x : Known). with_known_by ChannelsLow s at x) e ∙ ap (λ (cs : List Channel). record s { channels = cs }) (same_half 32 s.managed.low s.channels)
by_managed (Output n) s at k m e = cc m
by_managed (Input n) s at k m e = cc m

-- of a plug the channel that it is on is used
plug_stays : (s : State) (at : At) (k : Known) → k ≡ plug_at s.plugs at → with_known_plug s at k ≡ record s { channels = unused (channel_of k) s.channels }
unfolding with_known_plug
plug_stays s at k e =
    ap (λ (x : Known). record s { channels = plug_moved (channel_of (plug_at s.plugs at)) (channel_of x) s.channels; plugs = set s.plugs (plug_index at.node at.register) x }) e
    ∙ ap (λ (cs : List Channel). record s { channels = cs; plugs = set s.plugs (plug_index at.node at.register) (plug_at s.plugs at) }) (stays_on (channel_of (plug_at s.plugs at)) s.channels)
    ∙ ap (λ (ps : List Known). record s { channels = unused (channel_of (plug_at s.plugs at)) s.channels; plugs = ps }) (set-get_or s.plugs (plug_index at.node at.register) nothing_known)
    ∙ ap (λ (x : Known). record s { channels = unused (channel_of x) s.channels }) (sym e)

by_plug : (r : WatchedRegister) (s : State) (at : At) (k : Known) → is_managed r ≡ false → k ≡ known_by r s.managed (plug_at s.plugs at)
    → with_known_by r s at k ≡ record s { channels = unused (channel_of k) s.channels }
by_plug Bandwidth s at k m e = cc m
by_plug ChannelsHigh s at k m e = cc m
by_plug ChannelsLow s at k m e = cc m
by_plug (Output n) s at k m e = plug_stays s at k e
by_plug (Input n) s at k m e = plug_stays s at k e

with_counts : State → Counts → State
with_counts s c = record s { counts = c }

judged_is : (s : State) (at : At) (k : Known) (n : ℕ) → k.mask ≡ 0xFFFFFFFF → k ≡ known_of s at → n ≡ counted s.counts.judged
    → judged s at k.word ≡ with_known_by at.register (with_counts s (record s.counts { judged = n })) at k
unfolding judged with_known with_counts
judged_is s at k n all e f =
    ap (λ (x : Known). with_known_by at.register (record s { counts = judged_counts x k.word s.counts }) at (all_known k.word)) (sym e)
    ∙ ap (λ (c : Counts). with_known_by at.register (record s { counts = c }) at (all_known k.word)) (sym (same_counts k s.counts n all f))
    ∙ ap (λ (x : Known). with_known_by at.register (record s { counts = record s.counts { judged = n } }) at x) (all_of k all)

pub managed_same : (s : State) (at : At) (k : Known) (n : ℕ) → is_managed at.register ≡ true → k.mask ≡ 0xFFFFFFFF → k ≡ known_of s at → n ≡ counted s.counts.judged
    → record s { counts = record s.counts { judged = n } } ≡ judged s at k.word
unfolding known_of with_counts
managed_same s at k n m all e f =
    sym (judged_is s at k n all e f ∙ by_managed at.register (with_counts s (record s.counts { judged = n })) at k m e)

pub plug_same : (s : State) (at : At) (k : Known) (n : ℕ) (cs : List Channel) → is_managed at.register ≡ false → k.mask ≡ 0xFFFFFFFF → k ≡ known_of s at → n ≡ counted s.counts.judged
    → cs ≡ unused (channel_of k) s.channels → record s { channels = cs; counts = record s.counts { judged = n } } ≡ judged s at k.word
unfolding known_of with_counts
plug_same s at k n cs m all e f g =
    ap (λ (x : List Channel). record s { channels = x; counts = record s.counts { judged = n } }) g
    ∙ sym (judged_is s at k n all e f ∙ by_plug at.register (with_counts s (record s.counts { judged = n })) at k m e)
