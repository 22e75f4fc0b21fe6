-- The parts of the lines that tell remarks.
use Rattle.std.specs.Prelude.{ℕ, zero, suc, ◌+◌, ◌-◌, ◌^◌, ◌/◌, ◌%◌, ◌==◌, ◌||◌, nat_lt, Bool, false, bit_and, List, [], ◌++◌, codes, decimal, Option, Some, None, if◌then◌else◌}
use Rattle.fw_text.specs.Texts.{hex}
use Rattle.fw_log_names.specs.Names.{node_text}
use Rattle.fw_watch_remarks.specs.declared.register.WatchedRegister.{WatchedRegister}
use Rattle.fw_watch_remarks.specs.declared.register.WatchedRegister.TheVariants.{Bandwidth, ChannelsHigh, ChannelsLow, Output, Input}
use Rattle.fw_watch_remarks.specs.declared.known.Known.{Known}
use Rattle.fw_watch_remarks.specs.Knowing.{bit_of}

-- who asked: a node of the local bus by its number, or a node_ID
unfoldable pub who_text : ℕ → List ℕ
who_text by = if by == 65535 then codes "node_ID ffff" else node_text by

-- so many units
unfoldable pub units_text : ℕ → List ℕ
units_text count = decimal count ++ (if count == 1 then codes " unit" else codes " units")

-- one word or another
unfoldable pub either : Bool → List ℕ → List ℕ → List ℕ
either flag one other = if flag then one else other

-- a word and a number
abbrev pub part : List ℕ → ℕ → List ℕ
part word number = word ++ decimal number

-- the channel at a bit of a set that begins with this channel, if the bit is 1
abbrev pub channel_at : ℕ → ℕ → ℕ → List ℕ
channel_at n first set = if bit_of set n then part (codes " ") (first + n) else []

-- the channels among the first n bits of a set
unfoldable pub channels_to : ℕ → ℕ → ℕ → List ℕ
channels_to zero first set = []
channels_to (suc n) first set = channels_to n first set ++ channel_at n first set

-- the channels of a set after a word, if there are any
unfoldable pub set_text : List ℕ → ℕ → ℕ → List ℕ
set_text word first set = if set == 0 then [] else word ++ channels_to 32 first set

-- the bits of a word that are 0
abbrev pub inverted : ℕ → ℕ
inverted word = 2 ^ 32 - 1 - word

-- the channels that were taken and given back between what was known of a set and another
unfoldable pub moved_channels : Known → ℕ → ℕ → List ℕ
moved_channels known found first =
    set_text (codes ", channels taken") first (bit_and (bit_and known.word (inverted found)) known.mask)
    ++ set_text (codes ", channels given back") first (bit_and (bit_and found (inverted known.word)) known.mask)

-- how far two numbers are apart
abbrev pub apart : ℕ → ℕ → ℕ
apart old new = if nat_lt new old then old - new else new - old

-- by how much the units left differ
unfoldable pub moved_units : ℕ → ℕ → List ℕ
moved_units old new =
    codes ", " ++ units_text (apart old new) ++ either (nat_lt new old) (codes " taken") (codes " given back")

-- what changed unseen in a register
unfoldable pub moved_text : WatchedRegister → Known → ℕ → List ℕ
moved_text Bandwidth known found = moved_units known.word found
moved_text ChannelsHigh known found = moved_channels known found 0
moved_text ChannelsLow known found = moved_channels known found 32
moved_text (Output number) known found = []
moved_text (Input number) known found = []

-- which bits were known, unless all were
unfoldable pub mask_text : ℕ → List ℕ
mask_text mask = if mask == 0xFFFFFFFF then [] else codes " of bits " ++ hex 8 mask

-- a node of a set has a bit
abbrev pub has_bit : ℕ → ℕ → Bool
has_bit owners n = owners / 2 ^ n % 2 == 1

-- a node among the first n has a bit
unfoldable pub any_to : ℕ → ℕ → Bool
any_to zero owners = false
any_to (suc n) owners = any_to n owners || has_bit owners n

-- a node of a set, if it has a bit, after others or as the first
abbrev pub next_owner : ℕ → ℕ → Bool → List ℕ
next_owner owners n others = if has_bit owners n then part (if others then codes " and " else codes " ") n else []

-- the nodes among the first n that have a bit
unfoldable pub owners_to : ℕ → ℕ → List ℕ
owners_to zero owners = []
owners_to (suc n) owners = owners_to n owners ++ next_owner owners n (any_to n owners)

-- the manager, or that there is none
unfoldable pub manager_text : Option ℕ → List ℕ
manager_text None = codes "none"
manager_text (Some node) = part (codes "node ") node

-- who is the manager, or that there is none
unfoldable pub manager_clause : Option ℕ → List ℕ
manager_clause None = codes "there is none"
manager_clause (Some node) = part (codes "that is node ") node
