-- What is told of an interleaving is remarks, which a script skips.
use Rattle.fw_explore_laws.proofs.Common.{ℕ, zero, suc, ◌≡◌, ◌+◌, ◌==◌, List, [], ◌∷◌, ◌++◌, Bool, true, false, codes, if◌then◌else◌, refl, Timed, MoverKind, HalfSteps, Once, Explored}
use Rattle.std.proofs.Common.{cond}
use Rattle.std.specs.List.{filter, flat_map, list_any}
use Rattle.fw_log_entry.specs.declared.codes.TheConstants.{NO_DEVICE}
use Rattle.fw_log_entry.specs.declared.entry.Entry.{Entry}
use Rattle.fw_log_entry.specs.declared.entry.Entry.TheVariants.{Reset, Async, Iso, Event, Outcome, Shown, End}
use Rattle.fw_log_explain.specs.Lines.{what_text}
use Rattle.fw_explore_movers.specs.declared.mover.Mover.{Mover}
use Rattle.fw_explore_told.specs.Telling.{remark, is_of_controller, is_of_candidate, is_shown, left_from, left_of, left_out, told, told_by, told_of}
use Rattle.fw_explore_laws.proofs.Lines.{AreLines, is_one_line, lines_then, no_line, skips}
use Rattle.fw_explore_laws.proofs.Forms.{form_one}
use Rattle.fw_explore_laws.proofs.Words.{one_more}
use Rattle.fw_explore_laws.proofs.Texts.{IsOneLine, event_one, outcome_one}
use Rattle.fw_explore_laws.proofs.Registers.{shown_one}
use Rattle.fw_explore_laws.proofs.Reading.{AreRead, IsRead}

-- a text after the mark of a remark
pub remark_lines : (text : List ℕ) → is_one_line text ≡ true → AreLines (remark text) []
remark_lines text one = skips (codes "# " ++ text) refl (one_more (codes "# ") text refl one) no_line

pub remarks_then : {a b : List ℕ} → AreLines a [] → AreLines b [] → AreLines (a ++ b) []
remarks_then first second = lines_then first second

-- ---- entries

-- of the entry is told
abbrev tells : Entry → Bool
tells (Event e) = true
tells (Outcome o) = true
tells (Shown s) = true
tells _ = false

what_one : (e : Entry) → tells e ≡ true → IsOneLine (what_text [] e)
unfolding what_text
what_one (Reset r) t = absurd cc
what_one (Async p) t = absurd cc
what_one (Iso p) t = absurd cc
what_one (Event e) t = event_one e
what_one (Outcome o) t = outcome_one o
what_one (Shown s) t = shown_one s
what_one End t = absurd cc

told_lines : (test : Entry → Bool) → ((e : Entry) → test e ≡ true → tells e ≡ true) → (out : List Timed) → AreLines (told_by test out) []
told_lines test so [] = no_line
told_lines test so (t ∷ out) = go (test t.what) refl (told_lines test so out)
  where
    go : (b : Bool) → test t.what ≡ b → AreLines (told_by test out) []
        → AreLines (flat_map (λ (u : Timed). remark (what_text [] u.what)) (cond b (t ∷ filter (λ (u : Timed). test u.what) out) (filter (λ (u : Timed). test u.what) out))) []
    go true e rest = remarks_then (remark_lines (what_text [] t.what) (what_one t.what (so t.what e)).is) rest
    go false e rest = rest

controller_tells : (d : ℕ) (e : Entry) → is_of_controller d e ≡ true → tells e ≡ true
controller_tells d (Reset r) t = absurd cc
controller_tells d (Async p) t = absurd cc
controller_tells d (Iso p) t = absurd cc
controller_tells d (Event e) t = refl
controller_tells d (Outcome o) t = refl
controller_tells d (Shown s) t = absurd cc
controller_tells d End t = absurd cc

candidate_tells : (d : ℕ) (e : Entry) → is_of_candidate d e ≡ true → tells e ≡ true
candidate_tells d (Reset r) t = absurd cc
candidate_tells d (Async p) t = absurd cc
candidate_tells d (Iso p) t = absurd cc
candidate_tells d (Event e) t = refl
candidate_tells d (Outcome o) t = absurd cc
candidate_tells d (Shown s) t = absurd cc
candidate_tells d End t = absurd cc

shown_tells : (e : Entry) → is_shown e ≡ true → tells e ≡ true
shown_tells (Reset r) t = absurd cc
shown_tells (Async p) t = absurd cc
shown_tells (Iso p) t = absurd cc
shown_tells (Event e) t = absurd cc
shown_tells (Outcome o) t = absurd cc
shown_tells (Shown s) t = refl
shown_tells End t = absurd cc

devices_lines : (d : ℕ) (out : List Timed) → AreLines (told_of d out) []
unfolding told_of
devices_lines zero out = no_line
devices_lines (suc d) out =
    remarks_then (remarks_then (devices_lines d out) (told_lines (is_of_controller d) (controller_tells d) out)) (told_lines (is_of_candidate d) (candidate_tells d) out)

-- what is told of entries
pub entries_lines : (out : List Timed) → AreLines (told out) []
entries_lines out =
    remarks_then (remarks_then (devices_lines 63 out) (told_lines (is_of_controller NO_DEVICE) (controller_tells NO_DEVICE) out)) (told_lines is_shown shown_tells out)

-- ---- movers that were not carried out

mover_lines : (p : ℕ) (w : List ℕ) (m : Mover) → IsRead m m.kind → AreLines (left_of p w m) []
mover_lines p w m read = go m.kind refl read
  where
    left : (b : Bool) → is_one_line m.line.items ≡ true → AreLines (if b then [] else remark (codes "not carried out: " ++ m.line.items)) []
    left true one = no_line
    left false one = remark_lines (codes "not carried out: " ++ m.line.items) (one_more (codes "not carried out: ") m.line.items refl one)

    go : (k : MoverKind) → m.kind ≡ k → IsRead m k → AreLines (left_of p w m) []
    go HalfSteps e r = rw e no_line
    go Once e r = rw e (left (list_any (λ q. q == p) w) (form_one m.command m.line.items r.0))

movers_lines : (p : ℕ) (w : List ℕ) (ms : List Mover) → AreRead ms → AreLines (left_from p w ms) []
unfolding left_from
movers_lines p w [] read = no_line
movers_lines p w (m ∷ ms) read = remarks_then (mover_lines p w m read.0) (movers_lines (p + 1) w ms read.1)

pub left_lines : (x : Explored) (w : List ℕ) → AreRead x.movers.items → AreLines (left_out x w) []
left_lines x w read = movers_lines 0 w x.movers.items read
