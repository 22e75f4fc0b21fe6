-- The commands of moves as they are told: half steps of one mover that follow each other are one command.
use Rattle.fw_explore_laws.proofs.Common.{ℕ, zero, suc, ◌≡◌, ◌+◌, ◌≤◌, ◌==◌, ◌&&◌, List, [], ◌∷◌, ◌++◌, Bool, true, false, Option, Some, None, length, decimal, if◌then◌else◌, inl, inr, refl, sym, ap}
use Rattle.fw_explore_laws.proofs.Common.{subst, ◌∙◌, append-nil, arith, and_parts, Timed, HasForm, Command, End, MoverKind, HalfSteps, Once, Explored, State, Action}
use Rattle.std.proofs.Common.{◌-◌, take, slice_get, replicate}
use Rattle.std.proofs.lemmas.Bool.Decides.{Decides-eqb}
use Rattle.fw_script_command.specs.declared.command.Command.TheVariants.{Step, Contend}
use Rattle.fw_explore_movers.specs.declared.mover.Mover.{Mover}
use Rattle.fw_explore_movers.specs.Explored.{IsMover, command_at, command_in, half_step_of}
use Rattle.fw_explore_endings.specs.Texts.{moves_following, moves_text, run_text, takes_half_steps}
use Rattle.fw_explore_meaning.specs.Moves.{commands_of}
use Rattle.fw_explore_laws.proofs.Lines.{AreShort, both_short, no_line, none_short, says, short_both}
use Rattle.fw_explore_laws.proofs.Forms.{form_one, form_told}
use Rattle.fw_explore_laws.proofs.Counts.{IsHalfStep, with_count}
use Rattle.fw_explore_laws.proofs.Reading.{AreRead, IsRead, read_at}
use Rattle.fw_explore_laws.proofs.Carried.{Carried, carried_parts, carried_then}
use Rattle.fw_explore_laws.proofs.Together.{candidates, controllers, together}

-- the commands of a mover's line, for so many half steps in a row
abbrev pub run_commands : Option Mover → ℕ → List Command
run_commands None n = []
run_commands (Some m) n = elim m.kind [ HalfSteps ↦ with_count n m.command ∷ [] | Once ↦ m.command ∷ [] ]

-- those of the moves after `n` half steps of the mover `p`
abbrev pub commands_after : Explored → ℕ → ℕ → List ℕ → List Command
commands_after x p n [] = run_commands (slice_get x.movers.items p) n
commands_after x p n (q ∷ w) =
    if (p == q) && takes_half_steps (slice_get x.movers.items p) then commands_after x p (n + 1) w
    else run_commands (slice_get x.movers.items p) n ++ commands_after x q 1 w

abbrev pub gathered : Explored → List ℕ → List Command
gathered x [] = []
gathered x (p ∷ w) = commands_after x p 1 w

-- ---- the half steps of moves, from the first on

abbrev pub half_sum : Explored → List ℕ → ℕ
half_sum x [] = 0
half_sum x (p ∷ w) = half_step_of (slice_get x.movers.items p) + half_sum x w

pub half_sum_then : (x : Explored) (w : List ℕ) (p : ℕ) → half_sum x (w ++ p ∷ []) ≡ half_sum x w + half_step_of (slice_get x.movers.items p)
half_sum_then x [] p = omega arith
half_sum_then x (q ∷ w) p = let rest = half_sum_then x w p in omega (arith, rest)

takes_one : (o : Option Mover) → takes_half_steps o ≡ true → half_step_of o ≡ 1
takes_one None t = absurd cc
takes_one (Some m) t = go m.kind refl t
  where
    go : (k : MoverKind) → m.kind ≡ k → takes_half_steps (Some m) ≡ true → half_step_of (Some m) ≡ 1
    go HalfSteps e u = rw e refl
    go Once e u = absurd (let h : false ≡ true = ap (λ z. takes_half_steps (Some (record m { kind = z }))) (sym e) ∙ u in cc)

-- ---- each is a mover

abbrev pub AreMovers : Explored → List ℕ → Type 0
AreMovers x [] = Unit {0}
AreMovers x (p ∷ w) = ((m : Mover) × IsMover x p m) × AreMovers x w

pub movers_then : (x : Explored) (w : List ℕ) (p : ℕ) → AreMovers x w → (m : Mover) × IsMover x p m → AreMovers x (w ++ p ∷ [])
movers_then x [] p all one = (one, tt)
movers_then x (q ∷ w) p all one = (all.0, movers_then x w p all.1 one)

-- ---- their lines

no_end : (c : Command) (n : ℕ) → IsHalfStep c → with_count n c ≡ End → ⊥
no_end c n (name, inl is) e = let h : Step name n ≡ End = ap (with_count n) (sym is) ∙ e in cc
no_end c n (name, inr is) e = let h : Contend name n ≡ End = ap (with_count n) (sym is) ∙ e in cc

pub one_line : (c : Command) (text : List ℕ) → HasForm c text → (c ≡ End → ⊥) → length text ≤ 256 → AreShort (text ++ 10 ∷ []) (c ∷ [])
one_line c text form other few = record {
  lines = says c text (form_told c text form) (form_one c text form) form other no_line;
  short = short_both text [] (form_one c text form) few refl;
}

run_lines : (m : Mover) (n : ℕ) → IsRead m m.kind → 1 ≤ n → (takes_half_steps (Some m) ≡ true → n ≤ 10000) → AreShort (run_text (Some m) n) (run_commands (Some m) n)
run_lines m n read some few = go m.kind refl read few
  where
    go : (k : MoverKind) → m.kind ≡ k → IsRead m k → (takes_half_steps (Some m) ≡ true → n ≤ 10000) → AreShort (run_text (Some m) n) (run_commands (Some m) n)
    go HalfSteps e r low =
        let most : n ≤ 10000 = low (rw e refl) in
        let counts = r.1 n some most in
        rw e (one_line (with_count n m.command) (take (length m.line.items - 1) m.line.items ++ decimal n) counts.0 (no_end m.command n r.0) counts.1)
    go Once e r low = rw e (one_line m.command m.line.items r.0 r.1 r.2)

lines_of : (o : Option Mover) (n : ℕ) → ((m : Mover) → o ≡ Some m → IsRead m m.kind) → 1 ≤ n → (takes_half_steps o ≡ true → n ≤ 10000) → AreShort (run_text o n) (run_commands o n)
lines_of None n read some few = none_short
lines_of (Some m) n read some few = run_lines m n (read m refl) some few

module _ (x : Explored) (read : AreRead x.movers.items) where
  line_at : (p n : ℕ) → 1 ≤ n → (takes_half_steps (slice_get x.movers.items p) ≡ true → n ≤ 10000)
      → AreShort (run_text (slice_get x.movers.items p) n) (run_commands (slice_get x.movers.items p) n)
  line_at p n some few = lines_of (slice_get x.movers.items p) n (λ m e. read_at x.movers.items p m read e) some few

  after_lines : (p n : ℕ) (w : List ℕ) → 1 ≤ n → half_sum x w ≤ 10000 → (takes_half_steps (slice_get x.movers.items p) ≡ true → n + half_sum x w ≤ 10000)
      → AreShort (moves_following x p n w) (commands_after x p n w)
  unfolding moves_following
  after_lines p n [] some all few = line_at p n some (λ t. let h = few t in omega (arith, h))
  after_lines p n (q ∷ w) some all few =
      go ((p == q) && takes_half_steps (slice_get x.movers.items p)) refl
      (λ e. let parts = and_parts (p == q) (takes_half_steps (slice_get x.movers.items p)) e in
      let one : half_step_of (slice_get x.movers.items q) ≡ 1 = ap (λ z. half_step_of (slice_get x.movers.items z)) (sym ((Decides-eqb p q).0 parts.0))
      ∙ takes_one (slice_get x.movers.items p) parts.1 in
      let low = few parts.1 in
      after_lines p (n + 1) w (omega arith) (omega (arith, all)) (λ t. omega (arith, low, one)))
      (line_at p n some (λ t. let h = few t in omega (arith, h)))
      (after_lines q 1 w (omega arith) (omega (arith, all)) (λ t. let one = takes_one (slice_get x.movers.items q) t in omega (arith, all, one)))
    where
      go : (b : Bool) → (p == q) && takes_half_steps (slice_get x.movers.items p) ≡ b
          → ((p == q) && takes_half_steps (slice_get x.movers.items p) ≡ true → AreShort (moves_following x p (n + 1) w) (commands_after x p (n + 1) w))
          → AreShort (run_text (slice_get x.movers.items p) n) (run_commands (slice_get x.movers.items p) n) → AreShort (moves_following x q 1 w) (commands_after x q 1 w)
          → AreShort (if b then moves_following x p (n + 1) w else run_text (slice_get x.movers.items p) n ++ moves_following x q 1 w)
          (if b then commands_after x p (n + 1) w else run_commands (slice_get x.movers.items p) n ++ commands_after x q 1 w)
      go true e on here later = on e
      go false e on here later = both_short here later

  -- the lines of moves say these commands
  pub gathered_lines : (w : List ℕ) → half_sum x w ≤ 10000 → AreShort (moves_text x w) (gathered x w)
  gathered_lines [] all = none_short
  gathered_lines (p ∷ w) all =
      after_lines p 1 w (omega arith) (omega (arith, all)) (λ t. let one = takes_one (slice_get x.movers.items p) t in omega (arith, all, one))

  -- ---- and do what the moves do

  run_runs : (m : Mover) (n : ℕ) → IsRead m m.kind → 1 ≤ n → (takes_half_steps (Some m) ≡ false → n ≡ 1) → (s t : State) (actions : List Action) (out : List Timed)
      → Carried s (replicate n m.command) actions out t → Carried s (run_commands (Some m) n) actions out t
  run_runs m n mover some once s t actions out f = go m.kind refl mover once
    where
      by : (c : Command) → IsHalfStep c → Carried s (replicate n c) actions out t → Carried s (with_count n c ∷ []) actions out t
      by c (name, inl is) g =
          subst (λ z. Carried s (with_count n z ∷ []) actions out t) (sym is) (together Step _ _ controllers name n s t actions out some (subst (λ z. Carried s (replicate n z) actions out t) is g))
      by c (name, inr is) g =
          subst (λ z. Carried s (with_count n z ∷ []) actions out t) (sym is) (together Contend _ _ candidates name n s t actions out some (subst (λ z. Carried s (replicate n z) actions out t) is g))

      go : (k : MoverKind) → m.kind ≡ k → IsRead m k → (takes_half_steps (Some m) ≡ false → n ≡ 1) → Carried s (run_commands (Some m) n) actions out t
      go HalfSteps e r one = rw e (by m.command r.0 f)
      go Once e r one = rw e (subst (λ z. Carried s (replicate z m.command) actions out t) (one (rw e refl)) f)

  one_more : (n : ℕ) (c : Command) (cs : List Command) → replicate n c ++ c ∷ cs ≡ replicate (n + 1) c ++ cs
  one_more zero c cs = refl
  one_more (suc n) c cs = let e : suc (n + 1) ≡ suc n + 1 = omega arith in ap (λ z. c ∷ z) (one_more n c cs) ∙ ap (λ k. replicate k c ++ cs) e

  runs_at : (p n : ℕ) → (m : Mover) × IsMover x p m → 1 ≤ n → (takes_half_steps (slice_get x.movers.items p) ≡ false → n ≡ 1) → (s t : State) (actions : List Action) (out : List Timed)
      → Carried s (replicate n (command_at x p)) actions out t → Carried s (run_commands (slice_get x.movers.items p) n) actions out t
  runs_at p n (m, is) some once s t actions out f =
      subst (λ o. Carried s (run_commands o n) actions out t) (sym is)
      (run_runs m n (read_at x.movers.items p m read is) some (λ e. once (ap takes_half_steps is ∙ e)) s t actions out (subst (λ o. Carried s (replicate n (command_in o)) actions out t) is f))

  after_runs : (p n : ℕ) (w : List ℕ) → AreMovers x (p ∷ w) → 1 ≤ n → (takes_half_steps (slice_get x.movers.items p) ≡ false → n ≡ 1) → (s t : State) (actions : List Action) (out : List Timed)
      → Carried s (replicate n (command_at x p) ++ commands_of x w) actions out t → Carried s (commands_after x p n w) actions out t
  after_runs p n [] movers some once s t actions out f =
      runs_at p n movers.0 some once s t actions out (subst (λ cs. Carried s cs actions out t) (append-nil (replicate n (command_at x p))) f)
  after_runs p n (q ∷ w) movers some once s t actions out f =
      let parts = carried_parts (replicate n (command_at x p)) (commands_of x (q ∷ w)) actions out s t f in
      go ((p == q) && takes_half_steps (slice_get x.movers.items p)) refl
      (λ e. let both = and_parts (p == q) (takes_half_steps (slice_get x.movers.items p)) e in
      let same : p ≡ q = (Decides-eqb p q).0 both.0 in
      after_runs p (n + 1) w (movers.0, movers.1.1) (omega arith) (λ f. absurd (let h : true ≡ false = sym both.1 ∙ f in cc)) s t actions out
      (subst (λ cs. Carried s cs actions out t) (ap (λ z. replicate n (command_at x p) ++ command_at x z ∷ commands_of x w) (sym same) ∙ one_more n (command_at x p) (commands_of x w)) f))
      (subst (λ z. Carried s (run_commands (slice_get x.movers.items p) n ++ commands_after x q 1 w) z out t) (sym parts.actions_are)
      (subst (λ z. Carried s (run_commands (slice_get x.movers.items p) n ++ commands_after x q 1 w) (parts.first ++ parts.more) z t) (sym parts.out_is)
      (carried_then (run_commands (slice_get x.movers.items p) n) (commands_after x q 1 w) parts.first parts.more parts.now parts.later s parts.middle t
      (runs_at p n movers.0 some once s parts.middle parts.first parts.now parts.prefix)
      (after_runs q 1 w movers.1 (omega arith) (λ e. refl) parts.middle t parts.more parts.later parts.rest))))
    where
      go : (b : Bool) → (p == q) && takes_half_steps (slice_get x.movers.items p) ≡ b
          → ((p == q) && takes_half_steps (slice_get x.movers.items p) ≡ true → Carried s (commands_after x p (n + 1) w) actions out t)
          → Carried s (run_commands (slice_get x.movers.items p) n ++ commands_after x q 1 w) actions out t
          → Carried s (if b then commands_after x p (n + 1) w else run_commands (slice_get x.movers.items p) n ++ commands_after x q 1 w) actions out t
      go true e on apart = on e
      go false e on apart = apart

  -- what the moves do from a state on, their lines do
  pub gathered_runs : (w : List ℕ) → AreMovers x w → (s t : State) (actions : List Action) (out : List Timed) → Carried s (commands_of x w) actions out t → Carried s (gathered x w) actions out t
  gathered_runs [] movers s t actions out f = f
  gathered_runs (p ∷ w) movers s t actions out f = after_runs p 1 w movers (omega arith) (λ e. refl) s t actions out f
