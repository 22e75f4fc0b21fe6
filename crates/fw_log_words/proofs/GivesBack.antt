-- Each mark of a page gives its word back.
use Rattle.std.proofs.Common.{◌≡◌, ℕ, ◌+◌, Bool, true, false, List, [], ◌∷◌, ◌++◌, Option, Some, None, refl, ap, sym, subst, ◌∙◌, append_assoc}
use Rattle.std.proofs.lemmas.List.{append-nil}
use Rattle.std.specs.List.{All}
use Rattle.std.proofs.lemmas.List.Elements.{All-nil, All-cons, All-head, All-tail}
use Rattle.fw_log_entry.specs.Log.{Fits, TimedFits}
use Rattle.fw_log_entry.specs.declared.entry.Entry.{Entry}
use Rattle.fw_log_entry.specs.declared.entry.Timed.{Timed}
use Rattle.fw_model_account.specs.Fold.{account_of, entries_of}
use Rattle.fw_model_audit.specs.Audited.{IsAudited}
use Rattle.fw_model_audit.proofs.Vouched.{audited_vouched}
use Rattle.fw_log_json.specs.Objects.{object}
use Rattle.fw_log_explain.specs.Explained.{explained}
use Rattle.fw_log_explain.specs.Lines.{line}
use Rattle.fw_log_requests.specs.Requests.{standing}
use Rattle.fw_holders.specs.Told.{holders, entry_line, table_of}
use Rattle.fw_watch.specs.Watched.{watched, watched_end}
use Rattle.fw_watch.proofs.WatchLaws.{watched_more}
use Rattle.fw_page.specs.Marks.{Begins, lines_from, lines_with, lines_after}
use Rattle.fw_page.specs.Ends.{log_line}
use Rattle.fw_page.specs.declared.head.TheConstants.{HEAD}
use Rattle.fw_page.specs.declared.tail.TheConstants.{TAIL}
use Rattle.fw_log_loop.specs.declared.ending.LogEnd.{LogEnd}
use Rattle.fw_log_loop.specs.declared.ending.LogEnd.TheVariants.{Whole, NoLog, TooLong}
use Rattle.fw_log_reports.specs.Verdicts.{IsSoundLog, IsUnsound, entries_more}
use Rattle.fw_log_reports.specs.declared.refusal.Unsound.{Unsound}
use Rattle.fw_log_words.specs.Stops.{stop_of}
use Rattle.fw_log_words.specs.Texts.{all_of}
use Rattle.fw_log_words.specs.Pages.{page_lines, entry_lines, closing_lines, page_form, page_each, stop_line}
use Rattle.fw_log_words.specs.Marks.{between, at_end, GivesBack, MarksGiveBack}
use Rattle.fw_log_words.proofs.StopLaws.{goes_on, last_same, stops, stop_stays}
use Rattle.fw_log_words.proofs.MarkParts.{Gives, no_part, both}
use Rattle.fw_log_words.proofs.EntryMarks.{gives_as, said_by, told_by, said_end, entry_json, entry_explain, entry_held, entry_watch, entry_told}
use Rattle.fw_log_words.proofs.EntryMarks.{closing_none, closing_held, closing_watch, log_none, log_back}

-- ---- entry by entry

-- what an entry gives after others, of each entry
folded : (List Timed → Timed → List ℕ) → List Timed → List Timed → List ℕ
folded each before [] = []
folded each before (t ∷ ts) = each before t ++ folded each (before ++ t ∷ []) ts

pages_give : (m : ℕ) (lead : List ℕ) (each : List Timed → Timed → List ℕ) → ((before : List Timed) (t : Timed) → TimedFits t → Gives m lead (entry_lines before t) (each before t))
    → (before ts : List Timed) → All TimedFits ts → Gives m lead (page_lines before ts) (folded each before ts)
unfolding folded
pages_give m lead each g before [] fits = no_part m lead
pages_give m lead each g before (t ∷ ts) fits =
    both m lead (entry_lines before t) (page_lines (before ++ t ∷ []) ts) (each before t) (folded each (before ++ t ∷ []) ts) (g before t (All-head TimedFits t ts fits))
    (pages_give m lead each g (before ++ t ∷ []) ts (All-tail TimedFits t ts fits))

folded_objects : (before ts : List Timed) → folded (λ b t. object t) before ts ≡ all_of object ts
unfolding folded
folded_objects before [] = refl
folded_objects before (t ∷ ts) = ap (λ (l : List ℕ). object t ++ l) (folded_objects (before ++ t ∷ []) ts)

folded_words : (before ts : List Timed) → folded (λ b t. explained b (t ∷ [])) before ts ≡ explained before ts
unfolding folded
folded_words before [] = refl
folded_words before (t ∷ ts) =
    ap (λ (l : List ℕ). l ++ folded (λ b u. explained b (u ∷ [])) (before ++ t ∷ []) ts) (append-nil (line (standing before) t))
    ∙ ap (λ (l : List ℕ). line (standing before) t ++ l) (folded_words (before ++ t ∷ []) ts)

folded_watch : (before ts : List Timed) → folded (λ b t. watched b (t ∷ [])) before ts ≡ watched before ts
unfolding folded
folded_watch before [] = refl
folded_watch before (t ∷ ts) = ap (λ (l : List ℕ). watched before (t ∷ []) ++ l) (folded_watch (before ++ t ∷ []) ts) ∙ sym (watched_more before (t ∷ []) ts)

-- ---- `holders`

abbrev said : List Timed → Timed → List ℕ
said b t = said_by (stop_of b) (stop_of (b ++ t ∷ [])) (holders b (t ∷ []))

abbrev told : List Timed → Timed → List ℕ
told b t = told_by (stop_of b) (stop_of (b ++ t ∷ []))

none_before : (xs ys : List Timed) → stop_of (xs ++ ys) ≡ None → stop_of xs ≡ None
none_before xs ys e = go (stop_of xs) refl
  where
    go : (o : Option Unsound) → stop_of xs ≡ o → o ≡ None
    go None same = refl
    go (Some u) same = let later = stop_stays u xs ys same in absurd (cc (later, e))

-- of entries without a fault
on : (before ts : List Timed) → stop_of (before ++ ts) ≡ None → (folded said before ts ≡ holders before ts) × (folded told before ts ≡ [])
unfolding folded
on before [] none = (refl, refl)
on before (t ∷ ts) none =
    let next : stop_of ((before ++ t ∷ []) ++ ts) ≡ None = ap (λ (l : List Timed). stop_of l) (append_assoc before (t ∷ []) ts) ∙ none in
    let here = none_before before (t ∷ ts) none in
    let after = none_before (before ++ t ∷ []) ts next in
    let rest = on (before ++ t ∷ []) ts next in
    let first = entry_line (account_of (entries_of before)) t in
    let one : said before t ≡ first = ap (λ (o : Option Unsound). said_by o (stop_of (before ++ t ∷ [])) (holders before (t ∷ []))) here
    ∙ ap (λ (o : Option Unsound). said_by None o (holders before (t ∷ []))) after ∙ append-nil first in
    let none_told : told before t ≡ [] = ap (λ (o : Option Unsound). told_by o (stop_of (before ++ t ∷ []))) here ∙ ap (λ (o : Option Unsound). told_by None o) after in (
      ap (λ (l : List ℕ). l ++ folded said (before ++ t ∷ []) ts) one ∙ ap (λ (l : List ℕ). first ++ l) rest.0,
      ap (λ (l : List ℕ). l ++ folded told (before ++ t ∷ []) ts) none_told ∙ rest.1,
    )

-- of entries after one that has a fault
off : (before ts : List Timed) (u : Unsound) → stop_of before ≡ Some u → (folded said before ts ≡ []) × (folded told before ts ≡ [])
unfolding folded
off before [] u is = (refl, refl)
off before (t ∷ ts) u is =
    let rest = off (before ++ t ∷ []) ts u (stop_stays u before (t ∷ []) is) in
    let one : said before t ≡ [] = ap (λ (o : Option Unsound). said_by o (stop_of (before ++ t ∷ [])) (holders before (t ∷ []))) is in
    let none_told : told before t ≡ [] = ap (λ (o : Option Unsound). told_by o (stop_of (before ++ t ∷ []))) is in
    (ap (λ (l : List ℕ). l ++ folded said (before ++ t ∷ []) ts) one ∙ rest.0, ap (λ (l : List ℕ). l ++ folded told (before ++ t ∷ []) ts) none_told ∙ rest.1)

folded_more : (each : List Timed → Timed → List ℕ) (before xs ys : List Timed) → folded each before (xs ++ ys) ≡ folded each before xs ++ folded each (before ++ xs) ys
unfolding folded
folded_more each before [] ys = ap (λ (b : List Timed). folded each b ys) (sym (append-nil before))
folded_more each before (x ∷ xs) ys =
    ap (λ (l : List ℕ). each before x ++ l) (folded_more each (before ++ x ∷ []) xs ys ∙ ap (λ (b : List Timed). folded each (before ++ x ∷ []) xs ++ folded each b ys) (append_assoc before (x ∷ []) xs))
    ∙ sym (append_assoc (each before x) (folded each (before ++ x ∷ []) xs) (folded each (before ++ x ∷ xs) ys))

-- of entries one of which has a fault
at_stop : (before rest : List Timed) (t : Timed) (u : Unsound) → stop_of before ≡ None → stop_of (before ++ t ∷ []) ≡ Some u
    → (folded said [] (before ++ t ∷ rest) ≡ holders [] before) × (folded told [] (before ++ t ∷ rest) ≡ stop_line u)
unfolding folded
at_stop before rest t u none is =
    let first = on [] before none in
    let later = off (before ++ t ∷ []) rest u is in
    let one : said before t ≡ [] = ap (λ (o : Option Unsound). said_by o (stop_of (before ++ t ∷ [])) (holders before (t ∷ []))) none
    ∙ ap (λ (o : Option Unsound). said_by None o (holders before (t ∷ []))) is in
    let stop : told before t ≡ stop_line u = ap (λ (o : Option Unsound). told_by o (stop_of (before ++ t ∷ []))) none ∙ ap (λ (o : Option Unsound). told_by None o) is in (
      folded_more said [] before (t ∷ rest) ∙ ap (λ (l : List ℕ). l ++ folded said before (t ∷ rest)) first.0
          ∙ ap (λ (l : List ℕ). holders [] before ++ (l ++ folded said (before ++ t ∷ []) rest)) one ∙ ap (λ (l : List ℕ). holders [] before ++ l) later.0 ∙ append-nil (holders [] before),
      folded_more told [] before (t ∷ rest) ∙ ap (λ (l : List ℕ). l ++ folded told before (t ∷ rest)) first.1
          ∙ ap (λ (l : List ℕ). l ++ folded told (before ++ t ∷ []) rest) stop ∙ ap (λ (l : List ℕ). stop_line u ++ l) later.1 ∙ append-nil (stop_line u),
    )

-- ---- where `holders` stops, by the faults of entries

all_fit : (ts : List Timed) → All TimedFits ts → All Fits (entries_of ts)
all_fit [] h = All-nil Fits
all_fit (t ∷ ts) h = All-cons Fits t.what (entries_of ts) (All-head TimedFits t ts h).entry (all_fit ts (All-tail TimedFits t ts h))

some_fit : (xs ys : List Timed) → All TimedFits (xs ++ ys) → All TimedFits xs
some_fit [] ys h = All-nil TimedFits
some_fit (x ∷ xs) ys h = All-cons TimedFits x xs (All-head TimedFits x (xs ++ ys) h) (some_fit xs ys (All-tail TimedFits x (xs ++ ys) h))

some_sound : (xs ys : List Timed) → IsSoundLog (xs ++ ys) → IsSoundLog xs
some_sound xs ys a prefix rest e is =
    a prefix (rest ++ entries_of ys) e (entries_more xs ys ∙ ap (λ (l : List Entry). l ++ entries_of ys) is ∙ append_assoc prefix (e ∷ rest) (entries_of ys))

-- none of them has one
no_stop : (before ts : List Timed) → All TimedFits (before ++ ts) → IsSoundLog (before ++ ts) → stop_of before ≡ None → stop_of (before ++ ts) ≡ None
no_stop before [] fits a none = ap (λ (l : List Timed). stop_of l) (append-nil before) ∙ none
no_stop before (t ∷ ts) fits a none =
    let same = append_assoc before (t ∷ []) ts in
    let sound : IsSoundLog ((before ++ t ∷ []) ++ ts) = subst IsSoundLog (sym same) a in
    let one = some_sound (before ++ t ∷ []) ts sound in
    let start = some_sound before (t ∷ ts) a in
    let at = (audited_vouched (entries_of before) (all_fit before (some_fit before (t ∷ ts) fits)) start).accounts (entries_of before) [] (sym (append-nil (entries_of before))) in
    let next = goes_on before t at.0 at.1 at.2 none one in
    sym (ap (λ (l : List Timed). stop_of l) same) ∙ no_stop (before ++ t ∷ []) ts (subst (All TimedFits) (sym same) fits) sound next

sound_none : (entries : List Timed) → All TimedFits entries → IsSoundLog entries → stop_of entries ≡ None
sound_none entries fits a = no_stop [] entries fits a refl

-- one of them has
unsound_some : (before rest : List Timed) (t : Timed) (u : Unsound) → All TimedFits (before ++ t ∷ rest) → IsUnsound (before ++ t ∷ []) u
    → (stop_of before ≡ None) × (stop_of (before ++ t ∷ []) ≡ Some u)
unsound_some before rest t u fits x =
    let f = x.faulty in
    let parts : entries_of before ++ t.what ∷ [] ≡ f.prefix ++ f.entry ∷ [] = sym (entries_more before (t ∷ [])) ∙ f.parts in
    let last = last_same (entries_of before) f.prefix t.what f.entry parts in
    let sound : IsSoundLog before = subst IsAudited (sym last.0) f.audited in
    let fit = some_fit before (t ∷ rest) fits in
    let none = sound_none before fit sound in
    let at = (audited_vouched (entries_of before) (all_fit before fit) sound).accounts (entries_of before) [] (sym (append-nil (entries_of before))) in
    (none, stops before t at.0 u at.1 at.2 none x)

-- ---- the whole page

-- the lines with a mark, of the parts of what stands between head and tail
whole : (m : ℕ) (lead : List ℕ) (entries : List Timed) (end : LogEnd) (a b c : List ℕ) → Gives m lead (page_lines [] entries) a → Gives m lead (closing_lines entries end) b
    → Gives m lead (log_line end) c → lines_from m lead Begins (between entries end) ≡ a ++ (b ++ c)
whole m lead entries end a b c ga gb gc =
    let g = both m lead (page_lines [] entries) (closing_lines entries end ++ log_line end) a (b ++ c) ga (both m lead (closing_lines entries end) (log_line end) b c gb gc) in
    ap (λ (l : List ℕ). lines_from m lead Begins l) (sym (append-nil (between entries end))) ∙ g [] ∙ append-nil (a ++ (b ++ c))

framed : (entries : List Timed) (end : LogEnd) → (HEAD.now ++ ([] ++ page_lines [] entries)) ++ ((closing_lines entries end ++ log_line end) ++ TAIL.now)
    ≡ HEAD.now ++ (between entries end ++ TAIL.now)
framed entries end =
    append_assoc HEAD.now (page_lines [] entries) ((closing_lines entries end ++ log_line end) ++ TAIL.now)
    ∙ ap (λ (l : List ℕ). HEAD.now ++ l) (sym (append_assoc (page_lines [] entries) (closing_lines entries end ++ log_line end) TAIL.now))

nothing_at : (end : LogEnd) → at_end end [] ≡ []
nothing_at Whole = refl
nothing_at (NoLog fault) = refl
nothing_at TooLong = refl

end_nil : (end : LogEnd) (text : List ℕ) → at_end end text ++ [] ≡ at_end end text
end_nil end text = append-nil (at_end end text)

pub marks_give_back : MarksGiveBack
marks_give_back entries end fits = record {
  page = framed entries end;
  json = whole 123 (123 ∷ []) entries end _ [] [] (pages_give 123 (123 ∷ []) (λ b t. object t) entry_json [] entries fits) (closing_none 123 (123 ∷ []) refl refl entries end)
      (log_none 123 (123 ∷ []) refl end) ∙ append-nil (folded (λ b t. object t) [] entries) ∙ folded_objects [] entries;
  explain = whole 61 [] entries end _ [] [] (pages_give 61 [] (λ b t. explained b (t ∷ [])) entry_explain [] entries fits) (closing_none 61 [] refl refl entries end)
      (log_none 61 [] refl end) ∙ append-nil (folded (λ b t. explained b (t ∷ [])) [] entries) ∙ folded_words [] entries;
  watch = whole 126 [] entries end _ (at_end end (watched_end entries)) [] (pages_give 126 [] (λ b t. watched b (t ∷ [])) entry_watch [] entries fits) (closing_watch entries end)
      (log_none 126 [] refl end)
      ∙ ap (λ (l : List ℕ). folded (λ b t. watched b (t ∷ [])) [] entries ++ l) (end_nil end (watched_end entries))
      ∙ ap (λ (l : List ℕ). l ++ at_end end (watched_end entries)) (folded_watch [] entries);
  sound = λ a. let none = sound_none entries fits a in let parts = on [] entries none in (
    held ∙ ap (λ (l : List ℕ). l ++ at_end end (said_end (stop_of entries) (table_of entries))) parts.0
        ∙ ap (λ (o : Option Unsound). holders [] entries ++ at_end end (said_end o (table_of entries))) none,
    ended ∙ ap (λ (l : List ℕ). l ++ log_line end) parts.1,
  );
  unsound = λ before rest t u is x.
      let stop = unsound_some before rest t u (subst (All TimedFits) is fits) x in
      let parts = at_stop before rest t u stop.0 stop.1 in
      let later : stop_of entries ≡ Some u = ap (λ (l : List Timed). stop_of l) (is ∙ sym (append_assoc before (t ∷ []) rest)) ∙ stop_stays u (before ++ t ∷ []) rest stop.1 in (
        held ∙ ap (λ (o : Option Unsound). folded said [] entries ++ at_end end (said_end o (table_of entries))) later
            ∙ ap (λ (l : List ℕ). folded said [] entries ++ l) (nothing_at end) ∙ append-nil (folded said [] entries) ∙ ap (λ (l : List Timed). folded said [] l) is ∙ parts.0,
        ended ∙ ap (λ (l : List ℕ). l ++ log_line end) (ap (λ (l : List Timed). folded told [] l) is ∙ parts.1),
      );
}
  where
    held : lines_after 64 (between entries end) ≡ folded said [] entries ++ at_end end (said_end (stop_of entries) (table_of entries))
    held = whole 64 [] entries end _ (at_end end (said_end (stop_of entries) (table_of entries))) [] (pages_give 64 [] said entry_held [] entries fits) (closing_held entries end)
        (log_none 64 [] refl end) ∙ ap (λ (l : List ℕ). folded said [] entries ++ l) (end_nil end (said_end (stop_of entries) (table_of entries)))

    ended : lines_with 58 (between entries end) ≡ folded told [] entries ++ log_line end
    ended = whole 58 (58 ∷ []) entries end _ [] (log_line end) (pages_give 58 (58 ∷ []) told entry_told [] entries fits) (closing_none 58 (58 ∷ []) refl refl entries end) (log_back end)
