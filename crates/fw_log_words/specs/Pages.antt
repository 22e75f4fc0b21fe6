-- A page: the lines of four words, entry by entry, each after its mark; and how they ended.
use Rattle.std.proofs.Common.{◌≡◌, ℕ, List, [], ◌∷◌, ◌++◌, Option, Some, None, codes, refl, ap, sym, ◌∙◌, append_assoc}
use Rattle.std.proofs.lemmas.List.{append-nil}
use Rattle.fw_log_entry.specs.declared.entry.Timed.{Timed}
use Rattle.fw_log_json.specs.Objects.{object}
use Rattle.fw_log_explain.specs.Explained.{explained}
use Rattle.fw_holders.specs.Told.{holders, table_of}
use Rattle.fw_watch.specs.Watched.{watched, watched_end}
use Rattle.fw_page.specs.Marks.{marked}
use Rattle.fw_page.specs.Ends.{log_line}
use Rattle.fw_page.specs.declared.head.TheConstants.{HEAD}
use Rattle.fw_page.specs.declared.tail.TheConstants.{TAIL}
use Rattle.fw_log_loop.specs.declared.ending.LogEnd.{LogEnd}
use Rattle.fw_log_loop.specs.declared.ending.LogEnd.TheVariants.{Whole, NoLog, TooLong}
use Rattle.fw_log_loop.specs.Readings.{Form, Rules, IsEach, IsFramed}
use Rattle.fw_log_reports.specs.Unsounds.{unsound_text}
use Rattle.fw_log_reports.specs.declared.refusal.Unsound.{Unsound}
use Rattle.fw_log_words.specs.Stops.{stop_of}

-- ---- the marks: `{` is the first byte of an object itself

-- `=`
abbrev pub explain_mark : ℕ
explain_mark = 61

-- `@`
abbrev pub holders_mark : ℕ
holders_mark = 64

-- `~`
abbrev pub watch_mark : ℕ
watch_mark = 126

-- ---- an entry

-- that `holders` stops, with its status and its note
abbrev pub stop_line : Unsound → List ℕ
stop_line u = codes ":holders 9 " ++ unsound_text u ++ codes "\n"

-- what is written of `holders` at an entry, by where it stopped before it and where after it
abbrev pub held_by : Option Unsound → Option Unsound → List ℕ → List ℕ
held_by (Some u) after lines = []
held_by None (Some u) lines = stop_line u
held_by None None lines = marked holders_mark lines

-- the lines of `holders` at an entry after others, up to that at which it stops
abbrev pub held_lines : List Timed → Timed → List ℕ
held_lines before t = held_by (stop_of before) (stop_of (before ++ t ∷ [])) (holders before (t ∷ []))

-- the lines of an entry after others
abbrev pub entry_lines : List Timed → Timed → List ℕ
entry_lines before t = object t ++ (marked explain_mark (explained before (t ∷ [])) ++ (held_lines before t ++ marked watch_mark (watched before (t ∷ []))))

-- the lines of entries after others
abbrev pub page_lines : List Timed → List Timed → List ℕ
page_lines before [] = []
page_lines before (t ∷ ts) = entry_lines before t ++ page_lines (before ++ t ∷ []) ts

-- ---- the end

-- the table of `holders`, unless it stopped
abbrev pub held_end : Option Unsound → List ℕ → List ℕ
held_end (Some u) table = []
held_end None table = marked holders_mark table

-- the closing lines of `watch` and of `holders`, at the end of a whole log
abbrev pub closing_lines : List Timed → LogEnd → List ℕ
closing_lines entries Whole = marked watch_mark (watched_end entries) ++ held_end (stop_of entries) (table_of entries)
closing_lines entries (NoLog fault) = []
closing_lines entries TooLong = []

-- the lines after those of the entries, and the end of the page
abbrev pub page_end : List Timed → LogEnd → List ℕ
page_end entries end = (closing_lines entries end ++ log_line end) ++ TAIL.now

-- ---- the page

-- the head, the lines of the entries as they end, and the end of the page after them
abbrev pub page_form : Form
page_form = record { prefix = HEAD.now; head = []; text = page_lines; closed = λ entries end text. text ++ page_end entries end }

pages_more : (xs ys zs : List Timed) → page_lines xs (ys ++ zs) ≡ page_lines xs ys ++ page_lines (xs ++ ys) zs
pages_more xs [] zs = ap (λ before. page_lines before zs) (sym (append-nil xs))
pages_more xs (y ∷ ys) zs =
    let rest = pages_more (xs ++ y ∷ []) ys zs in
    let before : (xs ++ y ∷ []) ++ ys ≡ xs ++ y ∷ ys = append_assoc xs (y ∷ []) ys in
    ap (λ l. entry_lines xs y ++ l) (rest ∙ ap (λ b. page_lines (xs ++ y ∷ []) ys ++ page_lines b zs) before)
    ∙ sym (append_assoc (entry_lines xs y) (page_lines (xs ++ y ∷ []) ys) (page_lines (xs ++ y ∷ ys) zs))

-- what `page` writes is the lines of each entry, over the entries before it
pub page_each : IsEach (page_form.text)
page_each = record { none = λ xs. refl; more = pages_more }

-- it has no text for the header, and its end goes on from what was written
pub page_frame : {R : Type 0} (rules : Rules R) → ((entries : List Timed) (last : List ℕ) → rules.closes entries last → last ≡ []) → IsFramed page_form rules
page_frame rules none = record { no_head = refl; no_last = none; closing = λ entries end. (page_end entries end, λ text. refl) }

-- if nothing is written at a log's end
pub nothing_last : (entries : List Timed) (last : List ℕ) → last ≡ [] → last ≡ []
nothing_last entries last is = is
