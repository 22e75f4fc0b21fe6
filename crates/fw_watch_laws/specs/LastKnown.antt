-- What was last known of a register, by looking back over the entries of a log.
use Rattle.std.specs.Prelude.{ℕ, ◌==◌, ◌&&◌, ◌<◌, ⊤, Bool, true, false, List, [], ◌∷◌, Option, Some, None, unwrap_or, if◌then◌else◌}
use Rattle.fw_words.specs.declared.swap.Swap.{Swap}
use Rattle.fw_log_entry.specs.declared.entry.Entry.{Entry}
use Rattle.fw_log_entry.specs.declared.entry.Entry.TheVariants.{Reset, Async, Iso, Event, Outcome, Shown, End}
use Rattle.fw_log_entry.specs.declared.entry.Timed.{Timed}
use Rattle.fw_watch_remarks.specs.declared.known.Known.{Known}
use Rattle.fw_watch_remarks.specs.declared.register.At.{At}
use Rattle.fw_watch_remarks.specs.declared.register.WatchedRegister.{WatchedRegister}
use Rattle.fw_watch_remarks.specs.declared.register.WatchedRegister.TheVariants.{Bandwidth, ChannelsHigh, ChannelsLow, Output, Input}
use Rattle.fw_watch_remarks.specs.Knowing.{nothing_known, all_known, reset_managed, after_reset}
use Rattle.fw_watch_requests.specs.declared.asked.Answer.{Answer}
use Rattle.fw_watch_known.specs.declared.state.State.{State}
use Rattle.fw_watch_requests.specs.Standing.{answer_of}
use Rattle.fw_watch_known.specs.States.{known_by, no_state}
use Rattle.fw_watch.specs.declared.answer.Heed.{Heed}
use Rattle.fw_watch.specs.declared.answer.Heed.TheVariants.{Ignore, Refuse, Follow}
use Rattle.fw_watch.specs.Answering.{heed}
use Rattle.fw_watch.specs.Steps.{after, shown_at}

-- ---- registers

-- a plug's number is one of 31
abbrev pub IsNumber : WatchedRegister → Type 0
IsNumber Bandwidth = ⊤
IsNumber ChannelsHigh = ⊤
IsNumber ChannelsLow = ⊤
IsNumber (Output number) = number < 31
IsNumber (Input number) = number < 31

-- a watched register that a bus may have: of one of 63 nodes
pub record IsPlace (at : At) : Type 0 where
  pub node : at.node < 63
  pub number : IsNumber at.register

-- two registers are one, of the same node or of different ones; of the resource manager's there is one each, whichever node it is
abbrev pub is_same_by : WatchedRegister → WatchedRegister → Bool → Bool
is_same_by Bandwidth Bandwidth node = true
is_same_by ChannelsHigh ChannelsHigh node = true
is_same_by ChannelsLow ChannelsLow node = true
is_same_by (Output n) (Output m) node = node && (n == m)
is_same_by (Input n) (Input m) node = node && (n == m)
is_same_by _ _ node = false

-- two registers are one
abbrev pub is_same : At → At → Bool
is_same a b = is_same_by a.register b.register (a.node == b.node)

-- ---- what entries show of registers

-- what an entry shows of a register: the word that is found there, if one is, and what is known of the register from then on
pub record Glimpse : Type 0 where
  pub at : At
  pub found : Option ℕ
  pub left : Known

-- a word is known after an answer: the new one of a swap that was made and changed it, or else the one that was found
abbrev pub word_left : ℕ → Option Swap → ℕ
word_left found None = found
word_left found (Some swap) = swap.new

-- after an answer that shows no word nothing is known
abbrev pub known_left : Option ℕ → Option Swap → Known
known_left None swap = nothing_known
known_left (Some found) swap = all_known (word_left found swap)

-- what an answer shows, if it is followed: of a node that is there, and of a managed register at the resource manager
abbrev pub glimpse_by : Heed → Answer → Option Glimpse
glimpse_by Ignore a = None
glimpse_by Refuse a = None
glimpse_by Follow a = Some (record { at = a.at; found = a.found; left = known_left a.found a.swap })

-- what an answer shows, if a packet is one
abbrev pub answer_glimpse : State → Option Answer → Option Glimpse
answer_glimpse s None = None
answer_glimpse s (Some a) = glimpse_by (heed s a.at) a

-- what a shown word shows, if its register is watched
abbrev pub word_glimpse : Option At → ℕ → Option Glimpse
word_glimpse None word = None
word_glimpse (Some at) word = Some (record { at = at; found = Some word; left = all_known word })

-- what an entry shows of a register; which request a packet answers, and which node is the resource manager, the entries before it say
abbrev pub glimpse : State → Entry → Option Glimpse
glimpse s (Reset r) = None
glimpse s (Async p) = answer_glimpse s (answer_of s.standing p)
glimpse s (Iso p) = None
glimpse s (Event e) = None
glimpse s (Outcome o) = None
glimpse s (Shown w) = word_glimpse (shown_at s w) w.word
glimpse s End = None

-- ---- looking back

-- what a bus reset fixes of a register
abbrev pub fixed : At → Known
fixed at = known_by at.register reset_managed after_reset

-- what a look at a register leaves known of one, if it is that
abbrev pub left_by : Option Glimpse → At → Option Known
left_by None at = None
left_by (Some g) at = if is_same g.at at then Some g.left else None

-- what an entry leaves known of a register, if it says anything of it
abbrev pub left : State → Entry → At → Option Known
left s (Reset r) at = Some (fixed at)
left s (Async p) at = left_by (glimpse s (Async p)) at
left s (Iso p) at = None
left s (Event e) at = None
left s (Outcome o) at = None
left s (Shown w) at = left_by (glimpse s (Shown w)) at
left s End at = None

-- the later of two, if there is one
abbrev pub later : Option Known → Option Known → Option Known
later None early = early
later (Some known) early = Some known

-- what the last of some entries that says anything of a register leaves known of it
abbrev pub latest : State → List Timed → At → Option Known
latest s [] at = None
latest s (t ∷ ts) at = later (latest (after s t) ts at) (left s t.what at)

-- what was last known of a register after the entries of a log
unfoldable pub last_known : List Timed → At → Known
last_known entries at = unwrap_or (latest no_state entries at) nothing_known
