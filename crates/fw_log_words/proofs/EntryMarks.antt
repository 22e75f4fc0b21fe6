-- What the lines with a mark get of an entry in a page, and of its end.
use Rattle.std.proofs.Common.{◌≡◌, ℕ, ◌==◌, Bool, true, false, List, [], ◌∷◌, ◌++◌, Option, Some, None, codes, decimal, refl, ap, sym, subst, ◌∙◌, append_assoc}
use Rattle.std.proofs.lemmas.List.{append-nil}
use Rattle.fw_log_entry.specs.Log.{TimedFits}
use Rattle.fw_log_entry.specs.declared.entry.Timed.{Timed}
use Rattle.fw_log.specs.declared.LogWhy.{LogWhy}
use Rattle.fw_log.specs.declared.LogWhy.TheVariants.{AfterEnd, BadHeader, BadKind, BadLength, TimeBack, BadBody, Cut, NoEnd, BadEpoch}
use Rattle.fw_log_json.specs.Objects.{object}
use Rattle.fw_log_explain.specs.Explained.{explained}
use Rattle.fw_holders.specs.Told.{holders, table_of}
use Rattle.fw_watch.specs.Watched.{watched, watched_end}
use Rattle.fw_page.specs.Marks.{marked, Begins, lines_from}
use Rattle.fw_page.specs.Ends.{why_text, log_line}
use Rattle.fw_page.proofs.MarkLaws.{line_back, line_none, NoFeed}
use Rattle.fw_log_loop.specs.declared.ending.LogEnd.{LogEnd}
use Rattle.fw_log_loop.specs.declared.ending.LogEnd.TheVariants.{Whole, NoLog, TooLong}
use Rattle.fw_log_reports.specs.Unsounds.{unsound_text}
use Rattle.fw_log_reports.specs.declared.refusal.Unsound.{Unsound}
use Rattle.fw_log_words.specs.Stops.{stop_of}
use Rattle.fw_log_words.specs.Pages.{stop_line, held_by, held_lines, held_end, entry_lines, closing_lines}
use Rattle.fw_log_words.specs.Marks.{at_end}
use Rattle.fw_log_words.proofs.ClearTexts.{Clear, clear, two, word, number, no_feed, unsound_clear}
use Rattle.fw_log_words.proofs.MarkParts.{Gives, no_part, both, IsWhole, marked_back, marked_none}
use Rattle.fw_log_words.proofs.WordLines.{IsObjectLine, object_line, explained_whole, watched_whole, held_whole, table_whole, watched_end_whole}

pub gives_as : (m : ℕ) (lead part out out' : List ℕ) → out ≡ out' → Gives m lead part out → Gives m lead part out'
gives_as m lead part out out' e g y = g y ∙ ap (λ (l : List ℕ). l ++ lines_from m lead Begins y) e

-- ---- one line with its own mark

pub record IsLineOf (n : ℕ) (bytes : List ℕ) : Type 0 where
  pub rest : List ℕ
  pub same : bytes ≡ n ∷ (rest ++ 10 ∷ [])
  pub free : NoFeed rest

own_back : (n : ℕ) (bytes : List ℕ) → IsLineOf n bytes → Gives n (n ∷ []) bytes bytes
own_back n bytes l = subst (λ (x : List ℕ). Gives n (n ∷ []) x x) (sym l.same) (λ y. line_back n l.rest y l.free)

own_none : (m n : ℕ) (lead bytes : List ℕ) → (n == m) ≡ false → (n == 10) ≡ false → IsLineOf n bytes → Gives m lead bytes []
own_none m n lead bytes d f l = subst (λ (x : List ℕ). Gives m lead x []) (sym l.same) (λ y. line_none m n lead l.rest y d f l.free)

object_is : (t : Timed) → TimedFits t → IsLineOf 123 (object t)
object_is t fits = let l = object_line t fits in record { rest = l.rest; same = l.same; free = l.free }

stop_is : (u : Unsound) → IsLineOf 58 (stop_line u)
stop_is u = record {
  rest = codes "holders 9 " ++ unsound_text u;
  same = refl;
  free = no_feed (codes "holders 9 " ++ unsound_text u) (two (word (codes "holders 9 ") refl) (unsound_clear u)).is;
}

-- the name of a fault ends its line
why_is : (why : LogWhy) → (name : List ℕ) × Clear name × (why_text why ≡ name ++ 10 ∷ [])
why_is AfterEnd = (codes ": AfterEnd", word _ refl, refl)
why_is BadHeader = (codes ": BadHeader", word _ refl, refl)
why_is BadKind = (codes ": BadKind", word _ refl, refl)
why_is BadLength = (codes ": BadLength", word _ refl, refl)
why_is TimeBack = (codes ": TimeBack", word _ refl, refl)
why_is (BadBody fault) = (codes ": BadBody", word _ refl, refl)
why_is Cut = (codes ": Cut", word _ refl, refl)
why_is NoEnd = (codes ": NoEnd", word _ refl, refl)
why_is (BadEpoch epoch) = (codes ": BadEpoch", word _ refl, refl)

log_is : (end : LogEnd) → IsLineOf 58 (log_line end)
log_is Whole = record { rest = codes "log 0"; same = refl; free = no_feed (codes "log 0") refl }
log_is TooLong = record { rest = codes "log 7 too long"; same = refl; free = no_feed (codes "log 7 too long") refl }
log_is (NoLog fault) =
    let why = why_is fault.why in
    let place = decimal fault.place in
    let before = codes "log 4 byte " ++ place in
    record {
      rest = before ++ why.0;
      same = ap (λ (l : List ℕ). 58 ∷ (before ++ l)) why.2 ∙ ap (λ (l : List ℕ). 58 ∷ l) (sym (append_assoc before why.0 (10 ∷ [])));
      free = no_feed (before ++ why.0) (two (two (word (codes "log 4 byte ") refl) (number fault.place)) why.1).is;
    }

-- ---- `holders` at an entry

-- its lines without their mark, and that it stops
abbrev pub said_by : Option Unsound → Option Unsound → List ℕ → List ℕ
said_by (Some u) later lines = []
said_by None (Some u) lines = []
said_by None None lines = lines

abbrev pub told_by : Option Unsound → Option Unsound → List ℕ
told_by (Some u) later = []
told_by None (Some u) = stop_line u
told_by None None = []

held_said : (a b : Option Unsound) (lines : List ℕ) → IsWhole lines → Gives 64 [] (held_by a b lines) (said_by a b lines)
held_said (Some u) b lines whole = no_part 64 []
held_said None (Some u) lines whole = own_none 64 58 [] (stop_line u) refl refl (stop_is u)
held_said None None lines whole = marked_back 64 lines whole

held_told : (a b : Option Unsound) (lines : List ℕ) → IsWhole lines → Gives 58 (58 ∷ []) (held_by a b lines) (told_by a b)
held_told (Some u) b lines whole = no_part 58 (58 ∷ [])
held_told None (Some u) lines whole = own_back 58 (stop_line u) (stop_is u)
held_told None None lines whole = marked_none 58 64 (58 ∷ []) lines refl refl whole

held_none : (m : ℕ) (lead : List ℕ) → (64 == m) ≡ false → (58 == m) ≡ false → (a b : Option Unsound) (lines : List ℕ) → IsWhole lines → Gives m lead (held_by a b lines) []
held_none m lead d f (Some u) b lines whole = no_part m lead
held_none m lead d f None (Some u) lines whole = own_none m 58 lead (stop_line u) f refl (stop_is u)
held_none m lead d f None None lines whole = marked_none m 64 lead lines d refl whole

-- ---- an entry

four : (m : ℕ) (lead a b c d x y z w : List ℕ) → Gives m lead a x → Gives m lead b y → Gives m lead c z → Gives m lead d w → Gives m lead (a ++ (b ++ (c ++ d))) (x ++ (y ++ (z ++ w)))
four m lead a b c d x y z w ga gb gc gd =
    both m lead a (b ++ (c ++ d)) x (y ++ (z ++ w)) ga (both m lead b (c ++ d) y (z ++ w) gb (both m lead c d z w gc gd))

pub entry_json : (before : List Timed) (t : Timed) → TimedFits t → Gives 123 (123 ∷ []) (entry_lines before t) (object t)
entry_json before t fits =
    gives_as 123 (123 ∷ []) (entry_lines before t) (object t ++ []) (object t) (append-nil (object t))
    (four 123 (123 ∷ []) (object t) (marked 61 (explained before (t ∷ []))) (held_lines before t) (marked 126 (watched before (t ∷ []))) (object t) [] [] [] (own_back 123 (object t) (object_is t fits))
    (marked_none 123 61 (123 ∷ []) (explained before (t ∷ [])) refl refl (explained_whole before t))
    (held_none 123 (123 ∷ []) refl refl (stop_of before) (stop_of (before ++ t ∷ [])) (holders before (t ∷ [])) (held_whole before t))
    (marked_none 123 126 (123 ∷ []) (watched before (t ∷ [])) refl refl (watched_whole before (t ∷ []))))

pub entry_explain : (before : List Timed) (t : Timed) → TimedFits t → Gives 61 [] (entry_lines before t) (explained before (t ∷ []))
entry_explain before t fits =
    gives_as 61 [] (entry_lines before t) (explained before (t ∷ []) ++ []) (explained before (t ∷ [])) (append-nil (explained before (t ∷ [])))
    (four 61 [] (object t) (marked 61 (explained before (t ∷ []))) (held_lines before t) (marked 126 (watched before (t ∷ []))) [] (explained before (t ∷ [])) [] [] (own_none 61 123 [] (object t) refl refl (object_is t fits))
    (marked_back 61 (explained before (t ∷ [])) (explained_whole before t))
    (held_none 61 [] refl refl (stop_of before) (stop_of (before ++ t ∷ [])) (holders before (t ∷ [])) (held_whole before t))
    (marked_none 61 126 [] (watched before (t ∷ [])) refl refl (watched_whole before (t ∷ []))))

pub entry_held : (before : List Timed) (t : Timed) → TimedFits t → Gives 64 [] (entry_lines before t) (said_by (stop_of before) (stop_of (before ++ t ∷ [])) (holders before (t ∷ [])))
entry_held before t fits =
    let said = said_by (stop_of before) (stop_of (before ++ t ∷ [])) (holders before (t ∷ [])) in
    gives_as 64 [] (entry_lines before t) (said ++ []) said (append-nil said)
    (four 64 [] (object t) (marked 61 (explained before (t ∷ []))) (held_lines before t) (marked 126 (watched before (t ∷ []))) [] [] said [] (own_none 64 123 [] (object t) refl refl (object_is t fits))
    (marked_none 64 61 [] (explained before (t ∷ [])) refl refl (explained_whole before t))
    (held_said (stop_of before) (stop_of (before ++ t ∷ [])) (holders before (t ∷ [])) (held_whole before t))
    (marked_none 64 126 [] (watched before (t ∷ [])) refl refl (watched_whole before (t ∷ []))))

pub entry_watch : (before : List Timed) (t : Timed) → TimedFits t → Gives 126 [] (entry_lines before t) (watched before (t ∷ []))
entry_watch before t fits =
    four 126 [] (object t) (marked 61 (explained before (t ∷ []))) (held_lines before t) (marked 126 (watched before (t ∷ []))) [] [] [] (watched before (t ∷ [])) (own_none 126 123 [] (object t) refl refl (object_is t fits))
    (marked_none 126 61 [] (explained before (t ∷ [])) refl refl (explained_whole before t))
    (held_none 126 [] refl refl (stop_of before) (stop_of (before ++ t ∷ [])) (holders before (t ∷ [])) (held_whole before t))
    (marked_back 126 (watched before (t ∷ [])) (watched_whole before (t ∷ [])))

pub entry_told : (before : List Timed) (t : Timed) → TimedFits t → Gives 58 (58 ∷ []) (entry_lines before t) (told_by (stop_of before) (stop_of (before ++ t ∷ [])))
entry_told before t fits =
    let told = told_by (stop_of before) (stop_of (before ++ t ∷ [])) in
    gives_as 58 (58 ∷ []) (entry_lines before t) (told ++ []) told (append-nil told)
    (four 58 (58 ∷ []) (object t) (marked 61 (explained before (t ∷ []))) (held_lines before t) (marked 126 (watched before (t ∷ []))) [] [] told [] (own_none 58 123 (58 ∷ []) (object t) refl refl (object_is t fits))
    (marked_none 58 61 (58 ∷ []) (explained before (t ∷ [])) refl refl (explained_whole before t))
    (held_told (stop_of before) (stop_of (before ++ t ∷ [])) (holders before (t ∷ [])) (held_whole before t))
    (marked_none 58 126 (58 ∷ []) (watched before (t ∷ [])) refl refl (watched_whole before (t ∷ []))))

-- ---- the end

-- the table without its mark, unless `holders` stopped
abbrev pub said_end : Option Unsound → List ℕ → List ℕ
said_end (Some u) table = []
said_end None table = table

held_end_said : (a : Option Unsound) (table : List ℕ) → IsWhole table → Gives 64 [] (held_end a table) (said_end a table)
held_end_said (Some u) table whole = no_part 64 []
held_end_said None table whole = marked_back 64 table whole

held_end_none : (m : ℕ) (lead : List ℕ) → (64 == m) ≡ false → (a : Option Unsound) (table : List ℕ) → IsWhole table → Gives m lead (held_end a table) []
held_end_none m lead d (Some u) table whole = no_part m lead
held_end_none m lead d None table whole = marked_none m 64 lead table d refl whole

-- the lines of no mark but those of `holders`, `watch` and the log
pub closing_none : (m : ℕ) (lead : List ℕ) → (126 == m) ≡ false → (64 == m) ≡ false → (entries : List Timed) (end : LogEnd) → Gives m lead (closing_lines entries end) []
closing_none m lead d f entries Whole =
    both m lead (marked 126 (watched_end entries)) (held_end (stop_of entries) (table_of entries)) [] [] (marked_none m 126 lead (watched_end entries) d refl (watched_end_whole entries)) (held_end_none m lead f (stop_of entries) (table_of entries) (table_whole entries))
closing_none m lead d f entries (NoLog fault) = no_part m lead
closing_none m lead d f entries TooLong = no_part m lead

pub closing_held : (entries : List Timed) (end : LogEnd) → Gives 64 [] (closing_lines entries end) (at_end end (said_end (stop_of entries) (table_of entries)))
closing_held entries Whole =
    both 64 [] (marked 126 (watched_end entries)) (held_end (stop_of entries) (table_of entries)) [] (said_end (stop_of entries) (table_of entries)) (marked_none 64 126 [] (watched_end entries) refl refl (watched_end_whole entries))
    (held_end_said (stop_of entries) (table_of entries) (table_whole entries))
closing_held entries (NoLog fault) = no_part 64 []
closing_held entries TooLong = no_part 64 []

pub closing_watch : (entries : List Timed) (end : LogEnd) → Gives 126 [] (closing_lines entries end) (at_end end (watched_end entries))
closing_watch entries Whole =
    gives_as 126 [] (marked 126 (watched_end entries) ++ held_end (stop_of entries) (table_of entries)) (watched_end entries ++ []) (watched_end entries) (append-nil (watched_end entries))
    (both 126 [] (marked 126 (watched_end entries)) (held_end (stop_of entries) (table_of entries)) (watched_end entries) [] (marked_back 126 (watched_end entries) (watched_end_whole entries))
    (held_end_none 126 [] refl (stop_of entries) (table_of entries) (table_whole entries)))
closing_watch entries (NoLog fault) = no_part 126 []
closing_watch entries TooLong = no_part 126 []

pub log_none : (m : ℕ) (lead : List ℕ) → (58 == m) ≡ false → (end : LogEnd) → Gives m lead (log_line end) []
log_none m lead d end = own_none m 58 lead (log_line end) d refl (log_is end)

pub log_back : (end : LogEnd) → Gives 58 (58 ∷ []) (log_line end) (log_line end)
log_back end = own_back 58 (log_line end) (log_is end)
