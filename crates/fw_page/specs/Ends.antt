-- How a log ended, as a line (own).
use Rattle.std.specs.Prelude.{List, ℕ, ◌++◌, codes, decimal}
use Rattle.fw_log.specs.declared.LogWhy.{LogWhy}
use Rattle.fw_log.specs.declared.LogWhy.TheVariants.{AfterEnd, BadHeader, BadKind, BadLength, TimeBack, BadBody, Cut, NoEnd, BadEpoch}
use Rattle.fw_log_loop.specs.declared.ending.LogEnd.{LogEnd}
use Rattle.fw_log_loop.specs.declared.ending.LogEnd.TheVariants.{Whole, NoLog, TooLong}

-- the name of a fault of a log
abbrev pub why_text : LogWhy → List ℕ
why_text AfterEnd = codes ": AfterEnd\n"
why_text BadHeader = codes ": BadHeader\n"
why_text BadKind = codes ": BadKind\n"
why_text BadLength = codes ": BadLength\n"
why_text TimeBack = codes ": TimeBack\n"
why_text (BadBody fault) = codes ": BadBody\n"
why_text Cut = codes ": Cut\n"
why_text NoEnd = codes ": NoEnd\n"
why_text (BadEpoch epoch) = codes ": BadEpoch\n"

-- the status and the note of a word that reads the log
abbrev pub log_line : LogEnd → List ℕ
log_line Whole = codes ":log 0\n"
log_line (NoLog fault) = codes ":log 4 byte " ++ decimal fault.place ++ why_text fault.why
log_line TooLong = codes ":log 7 too long\n"
