-- What each word writes of an entry, and at a log's end, are whole lines.
use Rattle.std.proofs.Common.{◌≡◌, ◌≢◌, ℕ, zero, suc, ◌+◌, ◌<◌, ◌≤◌, ◌^◌, ◌==◌, Bool, true, false, List, [], ◌∷◌, ◌++◌, Option, Some, None, length, slice_index, codes, decimal, arith, refl, ap, sym, subst, ◌∙◌, append_assoc}
use Rattle.std.proofs.lemmas.Bool.Decides.{nat_tests}
use Rattle.fw_log_entry.specs.Log.{TimedFits}
use Rattle.fw_log_entry.specs.declared.entry.Timed.{Timed}
use Rattle.fw_model_account.specs.Account.{Account}
use Rattle.fw_model_account.specs.Fold.{account_of, entries_of, next_of}
use Rattle.fw_log_json.specs.Laws.{IsLine, IsPlain}
use Rattle.fw_log_json.specs.Objects.{object}
use Rattle.fw_log_json.proofs.Common.{prefix_fields, field}
use Rattle.fw_log_json.proofs.PlainEntries.{object_is_line}
use Rattle.fw_log_explain.specs.Explained.{explained}
use Rattle.fw_log_explain.specs.Lines.{line, what_text}
use Rattle.fw_log_requests.specs.Requests.{standing}
use Rattle.fw_log_requests.specs.declared.asked.Asked.{Asked}
use Rattle.fw_audit.specs.Unjudged.{unjudged, unjudged_text}
use Rattle.fw_holders.specs.Counts.{judged_of}
use Rattle.fw_holders.specs.Held.{held_text}
use Rattle.fw_holders.specs.Table.{amount_text, channel_lines, if_unjudged, judged_line, left_line, plug_lines, table_text}
use Rattle.fw_holders_text.specs.Names.{count_text, left, right}
use Rattle.fw_model_account.specs.Account.{remainder}
use Rattle.fw_holders.specs.Told.{holders, entry_line, line_of, line as held_line, rest_of_line, table_by, table_of}
use Rattle.fw_holders.specs.declared.judged.Judged.{Judged}
use Rattle.fw_watch.specs.Steps.{remarks}
use Rattle.fw_watch.specs.Watched.{watched, watched_end, judged_text, last_text, lines, known, remarks_from}
use Rattle.fw_watch_remarks.specs.Remarks.{Said, line as said_line, remark_text}
use Rattle.fw_log_words.proofs.MarkParts.{Ends, IsWhole, feed, later, nothing_whole, both_whole}
use Rattle.fw_page.proofs.MarkLaws.{NoFeed}

-- ---- `explain`

line_ends : (list : List Asked) (t : Timed) → Ends (line list t)
line_ends list t = later (decimal t.cycle ++ codes " " ++ what_text list t.what) feed

pub explained_whole : (before : List Timed) (t : Timed) → IsWhole (explained before (t ∷ []))
explained_whole before t = both_whole (line (standing before) t) [] ((line_ends (standing before) t).at true) nothing_whole

-- ---- `watch`

said_ends : (s : Said) → Ends (said_line s)
unfolding said_line
said_ends s = later (decimal s.cycle ++ codes " " ++ remark_text s.remark) feed

lines_whole : (list : List Said) → IsWhole (lines list)
lines_whole [] = nothing_whole
lines_whole (s ∷ rest) = both_whole (said_line s) (lines rest) ((said_ends s).at true) (lines_whole rest)

pub watched_whole : (before more : List Timed) → IsWhole (watched before more)
watched_whole before more = lines_whole (remarks_from (known before) more)

-- ---- `json`

head_is : (t : Timed) → (rest : List ℕ) × (object t ≡ 123 ∷ rest)
unfolding prefix_fields field
head_is t = (_, refl)

-- one line, which begins with its mark
pub record IsObjectLine (bytes : List ℕ) : Type 0 where
  pub rest : List ℕ
  pub same : bytes ≡ 123 ∷ (rest ++ 10 ∷ [])
  pub free : NoFeed rest

from_line : (bytes rest text : List ℕ) → bytes ≡ 123 ∷ rest → ((i : ℕ) → i < length text → IsPlain (slice_index text i)) → bytes ≡ text ++ 10 ∷ [] → IsObjectLine bytes
from_line bytes rest [] head plain same = absurd (cc (head, same))
from_line bytes rest (c ∷ w) head plain same =
    let first : c ≡ 123 = cc (head, same) in
    record {
      rest = w;
      same = same ∙ ap (λ (b : ℕ). b ∷ (w ++ 10 ∷ [])) first;
      free = λ i low e. let p = plain (suc i) (omega (arith, low)) in omega (arith, p.low, e);
    }

pub object_line : (t : Timed) → TimedFits t → IsObjectLine (object t)
object_line t fits = let l = object_is_line t fits in let h = head_is t in from_line (object t) h.0 l.text h.1 l.plain l.same

-- ---- `holders`

held_ends : (cycle : ℕ) (what : List ℕ) (l : Account) → Ends (held_line cycle what l)
unfolding held_line rest_of_line
held_ends cycle what l = later (right 8 (decimal cycle) ++ codes " ") (later (left 40 what ++ codes " " ++ right 4 (decimal (remainder l)) ++ codes " left" ++ held_text l) feed)

line_of_whole : (cycle : ℕ) (what : Option (List ℕ)) (l : Option Account) → IsWhole (line_of cycle what l)
line_of_whole cycle None l = nothing_whole
line_of_whole cycle (Some what) None = nothing_whole
line_of_whole cycle (Some what) (Some l) = (held_ends cycle what l).at true

entry_whole : (l : Option Account) (t : Timed) → IsWhole (entry_line l t)
entry_whole None t = nothing_whole
entry_whole (Some l) t = line_of_whole t.cycle _ (next_of (Some l) t.what)

pub held_whole : (before : List Timed) (t : Timed) → IsWhole (holders before (t ∷ []))
held_whole before t = both_whole (entry_line (account_of (entries_of before)) t) [] (entry_whole (account_of (entries_of before)) t) nothing_whole

-- ---- the ends

judged_ends : (j : Judged) (n : ℕ) → Ends (judged_line j n)
unfolding judged_line
judged_ends j n =
    later (codes "judged " ++ amount_text j ++ codes " in " ++ count_text j.resets (codes "bus reset") ++ unjudged_text n ++ if_unjudged n (codes ": see watch")) feed

table_ends : (l : Account) (j : Judged) (n : ℕ) → Ends (table_text l j n)
unfolding table_text
table_ends l j n = later (channel_lines 64 l ++ plug_lines 63 l ++ left_line (remainder l) n) (judged_ends j n)

table_by_whole : (l : Option Account) (j : Judged) (n : ℕ) → IsWhole (table_by l j n)
table_by_whole None j n = nothing_whole
table_by_whole (Some l) j n = (table_ends l j n).at true

pub table_whole : (entries : List Timed) → IsWhole (table_of entries)
table_whole entries = table_by_whole (account_of (entries_of entries)) (judged_of entries) (unjudged entries)

last_ends : (packets findings : ℕ) → Ends (last_text packets findings)
unfolding last_text
last_ends packets findings = later (codes ", isochronous packets " ++ decimal packets) (later (codes ", findings " ++ decimal findings) feed)

end_ends : (entries : List Timed) → Ends (watched_end entries)
unfolding watched_end
end_ends entries = later (judged_text (known entries).counts) (last_ends _ _)

pub watched_end_whole : (entries : List Timed) → IsWhole (watched_end entries)
watched_end_whole entries = (end_ends entries).at true
