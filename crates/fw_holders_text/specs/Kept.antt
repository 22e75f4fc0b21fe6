-- What is kept from line to line.
use Rattle.std.specs.Prelude.{◌≡◌, ◌<◌, ◌++◌, ℕ, List, Option, Some, None, IfSome, codes, decimal, slice_get, slice_index_or}
use Rattle.fw_log_entry.specs.declared.nodes.NodeRow.{NodeRow}
use Rattle.fw_holders_text.specs.declared.kept_channel.HeldChannel.{HeldChannel}
use Rattle.fw_holders_text.specs.declared.kept_channel.KeptChannel.{KeptChannel}
use Rattle.fw_holders_text.specs.declared.kept_done.Done.{Done}
use Rattle.fw_holders_text.specs.declared.kept_done.KeptDone.{KeptDone}
use Rattle.fw_holders_text.specs.declared.kept_number.KeptNumber.{KeptNumber}
use Rattle.fw_holders_text.specs.Deeds.{done_text}
use Rattle.fw_holders_text.specs.Holdings.{holding_text}
use Rattle.fw_holders_text.specs.Names.{kind_of_device, left, right}

-- the kind of each device, by its number
abbrev pub AreKinds : List NodeRow → List (Option ℕ) → Type 0
AreKinds nodes kinds = (d : ℕ) → d < 256 → slice_index_or kinds d None ≡ kind_of_device nodes d

-- ---- channels

-- a channel that is held, and what separates it from the next
abbrev pub channel_text : List NodeRow → HeldChannel → List ℕ
channel_text nodes c = holding_text nodes c.channel c.held ++ codes ", "

-- a text that is kept is that of the channel that was told
abbrev pub IsChannel : List NodeRow → KeptChannel → Type 0
IsChannel nodes kept = IfSome kept.told (λ c. kept.text ≡ channel_text nodes c)

-- so in each row
abbrev pub AreChannels : List NodeRow → List KeptChannel → Type 0
AreChannels nodes rows = (n : ℕ) (kept : KeptChannel) → slice_get rows n ≡ Some kept → IsChannel nodes kept

-- none is kept
abbrev pub NoneTold : List KeptChannel → Type 0
NoneTold rows = (n : ℕ) (kept : KeptChannel) → slice_get rows n ≡ Some kept → kept.told ≡ None

-- ---- what was done

-- what was done, at the left end of a column, and a space
abbrev pub column_text : List NodeRow → Done → List ℕ
column_text nodes d = left 40 (done_text nodes d.reclaiming d.controller d.deed) ++ codes " "

-- a text that is kept is that of what was done
abbrev pub IsDone : List NodeRow → KeptDone → Type 0
IsDone nodes kept = IfSome kept.done (λ d. kept.text ≡ column_text nodes d)

-- so in each row
abbrev pub AreDone : List NodeRow → List KeptDone → Type 0
AreDone nodes rows = (n : ℕ) (kept : KeptDone) → slice_get rows n ≡ Some kept → IsDone nodes kept

-- none is kept
abbrev pub NoneDone : List KeptDone → Type 0
NoneDone rows = (n : ℕ) (kept : KeptDone) → slice_get rows n ≡ Some kept → kept.done ≡ None

-- ---- numbers

-- the text of a number that is kept is that of the number at the right end of a column, and a word after it
abbrev pub IsNumber : ℕ → List ℕ → KeptNumber → Type 0
IsNumber width after kept = IfSome kept.number (λ n. kept.text ≡ right width (decimal n) ++ after)

-- so in each row
abbrev pub AreNumbers : ℕ → List ℕ → List KeptNumber → Type 0
AreNumbers width after rows = (n : ℕ) (kept : KeptNumber) → slice_get rows n ≡ Some kept → IsNumber width after kept

-- none is kept
abbrev pub NoNumbers : List KeptNumber → Type 0
NoNumbers rows = (n : ℕ) (kept : KeptNumber) → slice_get rows n ≡ Some kept → kept.number ≡ None
