-- The lines that tell remarks, and which of them are findings.
use Rattle.std.specs.Prelude.{ℕ, ◌+◌, ◌-◌, ◌^◌, ◌==◌, nat_lt, Bool, true, false, bit_and, min, List, [], ◌∷◌, ◌++◌, codes, decimal, Option, if◌then◌else◌}
use Rattle.fw_words.specs.Quadlet.{field}
use Rattle.fw_text.specs.Texts.{hex}
use Rattle.fw_watch_remarks.specs.declared.register.WatchedRegister.{WatchedRegister}
use Rattle.fw_watch_remarks.specs.declared.register.At.{At}
use Rattle.fw_watch_remarks.specs.declared.known.Known.{Known}
use Rattle.fw_watch_remarks.specs.declared.remark.Remark.{Remark}
use Rattle.fw_watch_remarks.specs.declared.remark.Remark.TheVariants.{Reset, Units, Takes, Returns, Plug, Unseen, Sends, UnusedChannel, NotManager}
use Rattle.fw_watch_remarks.specs.declared.remark.Remark.TheVariants.{TooMany, UnitsInSecond, NewInSecond, Several, MoreThanMove, TwoSenders, NotTaken, OtherPlug}
use Rattle.fw_watch_remarks.specs.Registers.{at_text}
use Rattle.fw_watch_remarks.specs.Knowing.{is_connected}
use Rattle.fw_watch_remarks.specs.Parts.{who_text, units_text, either, part, apart, moved_text, mask_text, owners_to, manager_text, manager_clause}

-- it is a finding
abbrev pub is_finding : Remark → Bool
is_finding (Reset epoch nodes manager) = false
is_finding (Units by old new) = false
is_finding (Takes by channel) = false
is_finding (Returns by channel) = false
is_finding (Plug by at old new) = false
is_finding (Unseen at known found) = false
is_finding (Sends node channel) = false
is_finding (UnusedChannel node channel) = true
is_finding (NotManager by at manager) = true
is_finding (TooMany by left) = true
is_finding (UnitsInSecond by epoch taken held) = true
is_finding (NewInSecond by channel epoch) = true
is_finding (Several by count) = true
is_finding (MoreThanMove by at old new) = true
is_finding (TwoSenders channel first second) = true
is_finding (NotTaken channel node) = true
is_finding (OtherPlug channel node owners) = true

-- ---- what happened

-- a bus reset
unfoldable pub reset_text : ℕ → ℕ → Option ℕ → List ℕ
reset_text epoch nodes manager =
    part (codes "bus reset ") epoch ++ part (codes ": ") nodes ++ (if nodes == 1 then codes " node" else codes " nodes") ++ codes ", resource manager " ++ manager_text manager

-- who took units or gave them back
unfoldable pub mover_text : ℕ → ℕ → ℕ → List ℕ
mover_text by old new = who_text by ++ either (nat_lt new old) (codes " takes ") (codes " gives back ") ++ units_text (apart old new)

-- units that were taken or given back, and how many are left
unfoldable pub unit_text : ℕ → ℕ → ℕ → List ℕ
unit_text by old new = mover_text by old new ++ part (codes ", ") new ++ codes " left"

-- a channel after who does something with it
unfoldable pub channel_text : ℕ → List ℕ → ℕ → List ℕ
channel_text by does channel = who_text by ++ part does channel

-- the counts of a plug that was connected and stays so
unfoldable pub counts_text : ℕ → List ℕ
counts_text word =
    part (codes " to ") (field word 2 7) ++ part (codes " point-to-point, ") (field word 1 1) ++ part (codes " broadcast, channel ") (field word 10 15)

-- who does what to a plug
unfoldable pub done_text : ℕ → List ℕ → At → List ℕ
done_text by does at = who_text by ++ does ++ at_text at

-- a plug whose word became another: it was connected or not, and is or is not
unfoldable pub plug_text : ℕ → At → ℕ → ℕ → List ℕ
plug_text by at old new =
    if is_connected old
    then (if is_connected new then done_text by (codes " changes ") at ++ counts_text new
    else done_text by (codes " disconnects ") at ++ part (codes " from channel ") (field old 10 15))
    else (if is_connected new then done_text by (codes " connects ") at ++ part (codes " on channel ") (field new 10 15)
    else done_text by (codes " changes ") at ++ counts_text new)

-- where a word was found
unfoldable pub place_found : At → List ℕ
place_found at = codes "? " ++ at_text at ++ codes " is "

-- what was known of it
unfoldable pub known_text : Known → List ℕ
known_text known = codes ", " ++ hex 8 (bit_and known.word known.mask) ++ codes " was known"

-- what was found in a register, and what was known of it
unfoldable pub found_text : At → Known → ℕ → List ℕ
found_text at known found = place_found at ++ hex 8 found ++ known_text known

-- that it changed, and what
unfoldable pub changed_text : WatchedRegister → Known → ℕ → List ℕ
changed_text register known found = mask_text known.mask ++ codes ": changed unseen" ++ moved_text register known found

-- a word that changed unseen
unfoldable pub unseen_text : At → Known → ℕ → List ℕ
unseen_text at known found = found_text at known found ++ changed_text at.register known found

-- a node that began to send
unfoldable pub sends_text : ℕ → ℕ → List ℕ
sends_text node channel = part (codes "node ") node ++ part (codes " sends on channel ") channel

-- ---- findings

-- the sign of a finding, and who asked for what it is of
unfoldable pub asker_text : ℕ → List ℕ
asker_text by = codes "! " ++ who_text by

-- a channel was taken a second ago, and nobody has used it
unfoldable pub held_text : ℕ → ℕ → List ℕ
held_text node channel =
    part (codes "! node ") node ++ part (codes " has held channel ") channel ++ codes " for 8000 cycles, and no plug and no packet was on it"

-- who swapped a register
unfoldable pub swapper_text : ℕ → At → List ℕ
swapper_text by at = asker_text by ++ codes " swaps " ++ at_text at

-- a swap at a node that is not the resource manager
unfoldable pub not_manager_text : ℕ → At → Option ℕ → List ℕ
not_manager_text by at manager =
    swapper_text by at ++ codes " as of the resource manager, and " ++ manager_clause manager

-- more units are left than there are
unfoldable pub too_many_text : ℕ → ℕ → List ℕ
too_many_text by left = asker_text by ++ codes " leaves " ++ units_text left ++ codes ", and there are 4915"

-- who takes units in the second
unfoldable pub unit_taker_text : ℕ → ℕ → List ℕ
unit_taker_text by epoch = asker_text by ++ part (codes " takes units in the second after bus reset ") epoch

-- how many are taken, and how many were held
unfoldable pub held_units_text : ℕ → ℕ → List ℕ
held_units_text taken held = part (codes ": ") taken ++ part (codes " are taken in it, and ") held ++ codes " were held before"

-- more units are taken in the second than were held before
unfoldable pub units_in_second_text : ℕ → ℕ → ℕ → ℕ → List ℕ
units_in_second_text by epoch taken held = unit_taker_text by epoch ++ held_units_text taken held

-- who takes a channel
unfoldable pub channel_taker_text : ℕ → ℕ → List ℕ
channel_taker_text by channel = asker_text by ++ part (codes " takes channel ") channel

-- a channel is taken in the second that was free before
unfoldable pub new_in_second_text : ℕ → ℕ → ℕ → List ℕ
new_in_second_text by channel epoch =
    channel_taker_text by channel ++ part (codes " in the second after bus reset ") epoch ++ codes ", and it was free before"

-- a swap changes more than one channel
unfoldable pub several_text : ℕ → ℕ → List ℕ
several_text by count = asker_text by ++ part (codes " changes ") count ++ codes " channels at once"

-- who changed a plug
unfoldable pub changer_text : ℕ → At → List ℕ
changer_text by at = asker_text by ++ codes " changes more than a connection of " ++ at_text at

-- the word that it became
unfoldable pub to_text : ℕ → List ℕ
to_text new = codes " to " ++ hex 8 new

-- the two words of a swap
unfoldable pub words_text : ℕ → ℕ → List ℕ
words_text old new = codes ": " ++ hex 8 old ++ to_text new

-- a swap of a plug changes more than a connection
unfoldable pub more_text : ℕ → At → ℕ → ℕ → List ℕ
more_text by at old new = changer_text by at ++ words_text old new

-- two senders
unfoldable pub two_text : ℕ → ℕ → ℕ → List ℕ
two_text channel first second = part (codes "! channel ") channel ++ part (codes " has two senders, node ") first ++ part (codes " and node ") second

-- a channel that is free, and whose packets these are
unfoldable pub carries_text : ℕ → ℕ → List ℕ
carries_text channel node = part (codes "! channel ") channel ++ part (codes " carries packets of node ") node

-- a node sends on a free channel
unfoldable pub not_taken_text : ℕ → ℕ → List ℕ
not_taken_text channel node = carries_text channel node ++ codes ", and nobody was seen to take it"

-- a node sends if others have output plugs
unfoldable pub other_plug_text : ℕ → ℕ → ℕ → List ℕ
other_plug_text channel node owners = carries_text channel node ++ codes ", and the plug on it is of node" ++ owners_to 63 owners

-- ---- all

-- what a remark tells
unfoldable pub remark_text : Remark → List ℕ
remark_text (Reset epoch nodes manager) = reset_text epoch nodes manager
remark_text (Units by old new) = unit_text by old new
remark_text (Takes by channel) = channel_text by (codes " takes channel ") channel
remark_text (Returns by channel) = channel_text by (codes " gives back channel ") channel
remark_text (Plug by at old new) = plug_text by at old new
remark_text (Unseen at known found) = unseen_text at known found
remark_text (Sends node channel) = sends_text node channel
remark_text (UnusedChannel node channel) = held_text node channel
remark_text (NotManager by at manager) = not_manager_text by at manager
remark_text (TooMany by left) = too_many_text by left
remark_text (UnitsInSecond by epoch taken held) = units_in_second_text by epoch taken held
remark_text (NewInSecond by channel epoch) = new_in_second_text by channel epoch
remark_text (Several by count) = several_text by count
remark_text (MoreThanMove by at old new) = more_text by at old new
remark_text (TwoSenders channel first second) = two_text channel first second
remark_text (NotTaken channel node) = not_taken_text channel node
remark_text (OtherPlug channel node owners) = other_plug_text channel node owners

-- a remark, and its cycle
pub record Said : Type 0 where
  pub cycle : ℕ
  pub remark : Remark

-- a remark in a cycle
abbrev pub said : ℕ → Remark → Said
said cycle remark = record { cycle = cycle; remark = remark }

-- the line of a remark: its cycle, what it tells, and a line feed
unfoldable pub line : Said → List ℕ
line s = decimal s.cycle ++ codes " " ++ remark_text s.remark ++ 10 ∷ []

-- a count, which stays at the greatest that a number of 64 bits has
unfoldable pub counted : ℕ → ℕ
counted n = min (n + 1) (2 ^ 64 - 1)

-- what was told: the bytes of the lines, and how many of them are findings
pub record WatchOutput : Type 0 where
  pub text : List ℕ
  pub findings : ℕ

-- one line more
unfoldable pub with_line : WatchOutput → Said → WatchOutput
with_line t s = record { text = t.text ++ line s; findings = if is_finding s.remark then counted t.findings else t.findings }

-- more lines
abbrev pub told : WatchOutput → List Said → WatchOutput
told t [] = t
told t (s ∷ rest) = told (with_line t s) rest
