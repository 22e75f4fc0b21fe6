-- Each mark of a page gives its word back.
use Rattle.std.specs.Prelude.{◌≡◌, ℕ, List, [], ◌∷◌, ◌++◌}
use Rattle.std.specs.List.{All}
use Rattle.fw_log_entry.specs.Log.{TimedFits}
use Rattle.fw_log_entry.specs.declared.entry.Timed.{Timed}
use Rattle.fw_log_json.specs.Objects.{object}
use Rattle.fw_log_explain.specs.Explained.{explained}
use Rattle.fw_holders.specs.Told.{holders, table_of}
use Rattle.fw_watch.specs.Watched.{watched, watched_end}
use Rattle.fw_page.specs.Marks.{lines_with, lines_after}
use Rattle.fw_page.specs.Ends.{log_line}
use Rattle.fw_page.specs.declared.head.TheConstants.{HEAD}
use Rattle.fw_page.specs.declared.tail.TheConstants.{TAIL}
use Rattle.fw_log_loop.specs.declared.ending.LogEnd.{LogEnd}
use Rattle.fw_log_loop.specs.declared.ending.LogEnd.TheVariants.{Whole, NoLog, TooLong}
use Rattle.fw_log_loop.specs.Readings.{written}
use Rattle.fw_log_reports.specs.Verdicts.{IsSoundLog, IsUnsound}
use Rattle.fw_log_reports.specs.declared.refusal.Unsound.{Unsound}
use Rattle.fw_log_words.specs.Texts.{all_of}
use Rattle.fw_log_words.specs.Pages.{explain_mark, holders_mark, watch_mark, stop_line, page_lines, closing_lines, page_form}

-- `{`, the first byte of an object
abbrev pub json_mark : ℕ
json_mark = 123

-- `:`, the mark of how a word or the log ended
abbrev pub end_mark : ℕ
end_mark = 58

-- what stands between the head and the tail
abbrev pub between : List Timed → LogEnd → List ℕ
between entries end = page_lines [] entries ++ (closing_lines entries end ++ log_line end)

-- what is written at the end of a log that ended as it should
abbrev pub at_end : LogEnd → List ℕ → List ℕ
at_end Whole text = text
at_end (NoLog fault) text = []
at_end TooLong text = []

-- The page of entries stands between its head and its tail, and the lines of each mark are what its word writes of the entries: if an
-- entry has a fault, the lines of `holders` are those of the entries before it, and its status and note stand beside those of the log.
pub record GivesBack (entries : List Timed) (end : LogEnd) : Type 0 where
  pub page : page_form.closed entries end (written page_form entries) ≡ HEAD.now ++ (between entries end ++ TAIL.now)
  pub json : lines_with json_mark (between entries end) ≡ all_of object entries
  pub explain : lines_after explain_mark (between entries end) ≡ explained [] entries
  pub watch : lines_after watch_mark (between entries end) ≡ watched [] entries ++ at_end end (watched_end entries)
  pub sound : IsSoundLog entries → (lines_after holders_mark (between entries end) ≡ holders [] entries ++ at_end end (table_of entries))
      × (lines_with end_mark (between entries end) ≡ log_line end)
  pub unsound : (before rest : List Timed) (t : Timed) (u : Unsound) → entries ≡ before ++ t ∷ rest → IsUnsound (before ++ t ∷ []) u
      → (lines_after holders_mark (between entries end) ≡ holders [] before) × (lines_with end_mark (between entries end) ≡ stop_line u ++ log_line end)

-- so it is of all entries that a log may have
abbrev pub MarksGiveBack : Type 0
MarksGiveBack = (entries : List Timed) (end : LogEnd) → All TimedFits entries → GivesBack entries end
