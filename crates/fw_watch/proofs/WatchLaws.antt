-- What is known, and what is told, after one entry more.
use Rattle.std.proofs.Common.{◌≡◌, refl, ap, sym, ◌∙◌, ℕ, List, [], ◌∷◌, ◌++◌, append_assoc}
use Rattle.std.proofs.lemmas.List.{append-nil}
use Rattle.fw_log_entry.specs.declared.entry.Timed.{Timed}
use Rattle.fw_watch_remarks.specs.Remarks.{Said, WatchOutput, told, line, with_line}
use Rattle.fw_watch_known.specs.declared.state.State.{State}
use Rattle.fw_watch_known.specs.States.{no_state}
use Rattle.fw_watch.specs.Steps.{remarks, after}
use Rattle.fw_watch.specs.Watched.{known_from, known, remarks_from, lines, watched}

-- more lines after others
pub told_more : (t : WatchOutput) (xs ys : List Said) → told t (xs ++ ys) ≡ told (told t xs) ys
told_more t [] ys = refl
told_more t (x ∷ xs) ys = told_more (with_line t x) xs ys

pub known_from_more : (s : State) (xs ys : List Timed) → known_from s (xs ++ ys) ≡ known_from (known_from s xs) ys
known_from_more s [] ys = refl
known_from_more s (x ∷ xs) ys = known_from_more (after s x) xs ys

pub remarks_from_more : (s : State) (xs ys : List Timed) → remarks_from s (xs ++ ys) ≡ remarks_from s xs ++ remarks_from (known_from s xs) ys
remarks_from_more s [] ys = refl
remarks_from_more s (x ∷ xs) ys =
    ap (λ (r : List Said). remarks s x ++ r) (remarks_from_more (after s x) xs ys)
    ∙ sym (append_assoc (remarks s x) (remarks_from (after s x) xs) (remarks_from (known_from (after s x) xs) ys))

pub lines_more : (xs ys : List Said) → lines (xs ++ ys) ≡ lines xs ++ lines ys
lines_more [] ys = refl
lines_more (x ∷ xs) ys = ap (λ (l : List ℕ). line x ++ l) (lines_more xs ys) ∙ sym (append_assoc (line x) (lines xs) (lines ys))

-- the lines of entries are those of the first ones, and of the others after these
pub watched_more : (before more rest : List Timed) → watched before (more ++ rest) ≡ watched before more ++ watched (before ++ more) rest
watched_more before more rest =
    ap lines (remarks_from_more (known before) more rest)
    ∙ lines_more (remarks_from (known before) more) (remarks_from (known_from (known before) more) rest)
    ∙ ap (λ (s : State). lines (remarks_from (known before) more) ++ lines (remarks_from s rest)) (sym (known_from_more no_state before more))

-- the text that is told is that of the lines
pub told_text : (t : WatchOutput) (xs : List Said) → (told t xs).text ≡ t.text ++ lines xs
unfolding with_line
told_text t [] = sym (append-nil t.text)
told_text t (x ∷ xs) = told_text (with_line t x) xs ∙ append_assoc t.text (line x) (lines xs)
