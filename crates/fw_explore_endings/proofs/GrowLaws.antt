-- Paragraphs and lines of devices, one more each time.
use Rattle.std.proofs.Common.{ℕ, ◌≡◌, ◌+◌, ◌<◌, ◌≤◌, List, [], ◌++◌, Bool, true, false, length, get_or, drop, if◌then◌else◌, sym, ap, ◌∙◌, append_assoc, append-nil, add-one}
use Rattle.std.proofs.lemmas.List.{at_drop_more, at_drop_all}
use Rattle.fw_explore_movers.specs.declared.mover.Explored.{Explored}
use Rattle.fw_explore_movers.specs.declared.mover.Mover.{Mover}
use Rattle.fw_explore_endings.specs.declared.rows.Row.{Row}
use Rattle.fw_explore_endings.specs.Texts.{row_text, rows_text, devices_text, device_line, names_device}

-- a paragraph more, if `all` is what is told in the end
pub rows_more : (x : Explored) (rows : List Row) (out more all : List ℕ) (at : ℕ) (row : Row) → at < length rows → row ≡ get_or rows at row → more ≡ out ++ row_text x (at + 1) row
    → out ++ rows_text x (at + 1) (drop at rows) ≡ all → more ++ rows_text x (at + 1 + 1) (drop (at + 1) rows) ≡ all
unfolding rows_text
rows_more x rows out more all at row within is put so =
    let rest = rows_text x (at + 1 + 1) (drop (at + 1) rows) in
    let first : rows_text x (at + 1) (drop at rows) ≡ row_text x (at + 1) row ++ rest =
    at_drop_more (rows_text x (at + 1)) rows at row within ∙ ap (λ (r : Row). row_text x (at + 1) r ++ rest) (sym is) in
    ap (λ l. l ++ rest) put ∙ append_assoc out (row_text x (at + 1) row) rest ∙ ap (λ l. out ++ l) (sym first) ∙ so

pub rows_last : (x : Explored) (rows : List Row) (out all : List ℕ) (at : ℕ) → length rows ≤ at → out ++ rows_text x (at + 1) (drop at rows) ≡ all → out ≡ all
unfolding rows_text
rows_last x rows out all at end so = sym (append-nil out) ∙ ap (λ l. out ++ l) (sym (at_drop_all (rows_text x (at + 1)) rows at end)) ∙ so

-- the device with the number d is looked at
device_looked : (movers : List Mover) (names : List (List ℕ)) (d : ℕ) (b : Bool) → names_device movers (get_or names d []) ≡ b
    → devices_text movers names (d + 1) ≡ devices_text movers names d ++ (if b then device_line d (get_or names d []) else [])
unfolding devices_text
device_looked movers names d b is =
    ap (devices_text movers names) (add-one d) ∙ ap (λ t. devices_text movers names d ++ (if t then device_line d (get_or names d []) else [])) is

pub device_named : (movers : List Mover) (names : List (List ℕ)) (d : ℕ) (start out more : List ℕ) → names_device movers (get_or names d []) ≡ true → out ≡ start ++ devices_text movers names d
    → more ≡ out ++ device_line d (get_or names d []) → more ≡ start ++ devices_text movers names (d + 1)
device_named movers names d start out more named so put =
    put ∙ ap (λ l. l ++ device_line d (get_or names d [])) so ∙ append_assoc start (devices_text movers names d) (device_line d (get_or names d []))
    ∙ ap (λ l. start ++ l) (sym (device_looked movers names d true named))

pub device_unnamed : (movers : List Mover) (names : List (List ℕ)) (d : ℕ) (start out : List ℕ) → names_device movers (get_or names d []) ≡ false → out ≡ start ++ devices_text movers names d
    → out ≡ start ++ devices_text movers names (d + 1)
device_unnamed movers names d start out unnamed so =
    so ∙ ap (λ l. start ++ l) (sym (device_looked movers names d false unnamed ∙ append-nil (devices_text movers names d)))

pub no_device : (movers : List Mover) (names : List (List ℕ)) (start : List ℕ) → start ≡ start ++ devices_text movers names 0
unfolding devices_text
no_device movers names start = sym (append-nil start)
