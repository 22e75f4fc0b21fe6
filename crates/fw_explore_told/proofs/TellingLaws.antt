-- What is told of entries is what is told of that which was kept of them.
use Rattle.std.proofs.Common.{ℕ, zero, suc, ◌≡◌, ◌+◌, ◌↔◌, List, [], ◌∷◌, ◌++◌, cond, if◌then◌else◌, ◌==◌, Bool}
use Rattle.std.proofs.Common.{true, false, IsTrue, Some, slice_get, get_or, codes, refl, sym, ap, subst, ◌∙◌, arith, Decides}
use Rattle.std.specs.List.{filter, flat_map, list_any, Contains}
use Rattle.std.proofs.lemmas.List.{get_or_default}
use Rattle.std.proofs.lemmas.List.Folds.{Any-from_list_any, list_any-from_Any}
use Rattle.std.proofs.lemmas.Bool.Decides.{same_from_decides, Decides-eqb}
use Rattle.fw_log_entry.specs.declared.entry.Entry.{Entry}
use Rattle.fw_log_entry.specs.declared.entry.Entry.TheVariants.{Reset, Async, Iso, Event, Outcome, Shown, End}
use Rattle.fw_log_entry.specs.declared.entry.Timed.{Timed}
use Rattle.fw_log_entry.specs.declared.codes.TheConstants.{NO_DEVICE}
use Rattle.fw_log_explain.specs.Lines.{what_text}
use Rattle.fw_explore_movers.specs.declared.mover.Mover.{Mover}
use Rattle.fw_explore_movers.specs.declared.mover.MoverKind.{MoverKind}
use Rattle.fw_explore_movers.specs.declared.mover.MoverKind.TheVariants.{HalfSteps, Once}
use Rattle.fw_explore_told.specs.declared.past.ToldEntry.{ToldEntry}
use Rattle.fw_explore_told.specs.declared.past.ToldEntry.TheVariants as Tolds
use Rattle.fw_explore_told.specs.Telling.{remark, is_of_controller, is_of_candidate, is_shown, told_by, told_of, told, left_of, left_from}
use Rattle.fw_explore_told.specs.Histories.{told_in, told_entries}
use Rattle.fw_explore_told.specs.Sayings.{entry_of, said_text, said_by, said_of, said_all, unmarked, unmarked_from}

-- ---- a test that passes nothing but what is told of

pub record PassesTold (test : Entry → Bool) : Type 0 where
  pub none : (e : Entry) → told_in e ≡ [] → test e ≡ false

controllers : (d : ℕ) (e : Entry) → told_in e ≡ [] → is_of_controller d e ≡ false
controllers d (Reset r) n = refl
controllers d (Async p) n = refl
controllers d (Iso p) n = refl
controllers d (Event e) n = absurd (cc n)
controllers d (Outcome o) n = absurd (cc n)
controllers d (Shown s) n = refl
controllers d End n = refl

candidates : (d : ℕ) (e : Entry) → told_in e ≡ [] → is_of_candidate d e ≡ false
candidates d (Reset r) n = refl
candidates d (Async p) n = refl
candidates d (Iso p) n = refl
candidates d (Event e) n = absurd (cc n)
candidates d (Outcome o) n = refl
candidates d (Shown s) n = refl
candidates d End n = refl

words : (e : Entry) → told_in e ≡ [] → is_shown e ≡ false
words (Reset r) n = refl
words (Async p) n = refl
words (Iso p) n = refl
words (Event e) n = refl
words (Outcome o) n = refl
words (Shown s) n = absurd (cc n)
words End n = refl

-- ---- line by line

flat_if : {X A : Type 0} (f : X → List A) (b : Bool) (x : X) (xs : List X) → flat_map f (cond b (x ∷ xs) xs) ≡ cond b (f x) [] ++ flat_map f xs
flat_if f true x xs = refl
flat_if f false x xs = refl

told_first : (test : Entry → Bool) (t : Timed) (ts : List Timed) → told_by test (t ∷ ts) ≡ cond (test t.what) (remark (what_text [] t.what)) [] ++ told_by test ts
told_first test t ts = flat_if (λ (u : Timed). remark (what_text [] u.what)) (test t.what) t (filter (λ (u : Timed). test u.what) ts)

said_first : (test : Entry → Bool) → PassesTold test → (e : Entry) (said : List ToldEntry) → said_by test (told_in e ++ said) ≡ cond (test e) (remark (what_text [] e)) [] ++ said_by test said
said_first test h (Event e) said = flat_if said_text (test (Event e)) (Tolds.Event e) (filter (λ (t : ToldEntry). test (entry_of t)) said)
said_first test h (Outcome o) said = flat_if said_text (test (Outcome o)) (Tolds.Outcome o) (filter (λ (t : ToldEntry). test (entry_of t)) said)
said_first test h (Shown s) said = flat_if said_text (test (Shown s)) (Tolds.Shown s) (filter (λ (t : ToldEntry). test (entry_of t)) said)
said_first test h (Reset r) said = ap (λ b. cond b (remark (what_text [] (Reset r))) [] ++ said_by test said) (sym (h.none (Reset r) refl))
said_first test h (Async p) said = ap (λ b. cond b (remark (what_text [] (Async p))) [] ++ said_by test said) (sym (h.none (Async p) refl))
said_first test h (Iso p) said = ap (λ b. cond b (remark (what_text [] (Iso p))) [] ++ said_by test said) (sym (h.none (Iso p) refl))
said_first test h End said = ap (λ b. cond b (remark (what_text [] End)) [] ++ said_by test said) (sym (h.none End refl))

told_said : (test : Entry → Bool) → PassesTold test → (out : List Timed) → told_by test out ≡ said_by test (told_entries out)
told_said test h [] = refl
told_said test h (t ∷ ts) =
    told_first test t ts ∙ ap (λ z. cond (test t.what) (remark (what_text [] t.what)) [] ++ z) (told_said test h ts) ∙ sym (said_first test h t.what (told_entries ts))

told_below : (n : ℕ) (out : List Timed) → told_of n out ≡ said_of n (told_entries out)
unfolding told_of said_of
told_below zero out = refl
told_below (suc d) out =
    ap (λ z. z ++ told_by (is_of_controller d) out ++ told_by (is_of_candidate d) out) (told_below d out)
    ∙ ap (λ z. said_of d (told_entries out) ++ z ++ told_by (is_of_candidate d) out) (told_said (is_of_controller d) (record { none = controllers d }) out)
    ∙ ap (λ z. said_of d (told_entries out) ++ said_by (is_of_controller d) (told_entries out) ++ z) (told_said (is_of_candidate d) (record { none = candidates d }) out)

-- all that is told
pub told_all : (out : List Timed) → told out ≡ said_all (told_entries out)
told_all out =
    ap (λ z. z ++ told_by (is_of_controller NO_DEVICE) out ++ told_by is_shown out) (told_below 63 out)
    ∙ ap (λ z. said_of 63 (told_entries out) ++ z ++ told_by is_shown out) (told_said (is_of_controller NO_DEVICE) (record { none = controllers NO_DEVICE }) out)
    ∙ ap (λ z. said_of 63 (told_entries out) ++ said_by (is_of_controller NO_DEVICE) (told_entries out) ++ z) (told_said is_shown (record { none = words }) out)

-- ---- movers that were not carried out

has_place : (w : List ℕ) (p : ℕ) → Decides (list_any (λ (q : ℕ). q == p) w) (Contains w p)
has_place w p = (
  (λ h. let a = Any-from_list_any (λ (q : ℕ). q == p) w h in (a.0, a.2, get_or_default w a.0 p a.1 a.2 ∙ a.3 ∙ (Decides-eqb a.1 p).0 a.4)),
  (λ c. list_any-from_Any (λ (q : ℕ). q == p) w (c.0, p, c.1, c.2, (Decides-eqb p p).1 refl)),
)

-- the line of a mover is marked if the moves have it
abbrev IsMarked : List Bool → List ℕ → ℕ → Type 0
IsMarked done w p = IsTrue (get_or done p false) ↔ Contains w p

left_one : (done : List Bool) (w : List ℕ) (p : ℕ) (m : Mover) (kind : MoverKind) → m.kind ≡ kind → (kind ≡ Once → IsMarked done w p) → left_of p w m ≡ unmarked done p m
left_one done w p m HalfSteps e h =
    ap (λ k. elim k [ HalfSteps ↦ [] | Once ↦ if list_any (λ (q : ℕ). q == p) w then [] else remark (codes "not carried out: " ++ m.line.items) ]) e
    ∙ sym (ap (λ k. elim k [ HalfSteps ↦ [] | Once ↦ if get_or done p false then [] else remark (codes "not carried out: " ++ m.line.items) ]) e)
left_one done w p m Once e h =
    let same : list_any (λ (q : ℕ). q == p) w ≡ get_or done p false = same_from_decides (list_any (λ (q : ℕ). q == p) w) (get_or done p false) (has_place w p) (h refl) in
    ap (λ k. elim k [ HalfSteps ↦ [] | Once ↦ if list_any (λ (q : ℕ). q == p) w then [] else remark (codes "not carried out: " ++ m.line.items) ]) e
    ∙ ap (λ b. if b then [] else remark (codes "not carried out: " ++ m.line.items)) same
    ∙ sym (ap (λ k. elim k [ HalfSteps ↦ [] | Once ↦ if get_or done p false then [] else remark (codes "not carried out: " ++ m.line.items) ]) e)

left_on : (done : List Bool) (w : List ℕ) (movers : List Mover) (p : ℕ) → ((q : ℕ) (m : Mover) → slice_get movers q ≡ Some m → m.kind ≡ Once → IsMarked done w (q + p))
    → left_from p w movers ≡ unmarked_from done p movers
unfolding left_from unmarked_from
left_on done w [] p h = refl
left_on done w (m ∷ movers) p h =
    let zeroth : 0 + p ≡ p = omega arith in
    let here = left_one done w p m m.kind refl (λ e. subst (IsMarked done w) zeroth (h 0 m refl e)) in
    let rest = left_on done w movers (p + 1) (λ q n at e. let next : suc q + p ≡ q + (p + 1) = omega arith in subst (IsMarked done w) next (h (suc q) n at e)) in
    ap (λ z. z ++ left_from (p + 1) w movers) here ∙ ap (λ z. unmarked done p m ++ z) rest

-- the movers that are not marked are those that the moves do not have
pub left_marked : (done : List Bool) (w : List ℕ) (movers : List Mover) → ((p : ℕ) (m : Mover) → slice_get movers p ≡ Some m → m.kind ≡ Once → IsMarked done w p)
    → left_from 0 w movers ≡ unmarked_from done 0 movers
left_marked done w movers h = left_on done w movers 0 (λ q m at e. let same : q ≡ q + 0 = omega arith in subst (IsMarked done w) same (h q m at e))
