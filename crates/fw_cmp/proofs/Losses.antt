-- What a controller does next that hears: it is never deaf, and forces nothing.
use Rattle.fw_cmp.proofs.Common.{◌≡◌, ℕ, true, false, List, [], ◌∷◌, Option, Some, None, refl, ap, subst, ◌∙◌, ⊤, Slot, Current, Nothing, Asking, Hearing, Overtaken, WaitingJob, Directory, Job, Idle}
use Rattle.fw_cmp.proofs.Common.{Waiting, Access, Stage, ControllerState, Listening, break_fault, access_of, rests, answer_of, next, after_next, ready}
use Rattle.std.proofs.Common.{cond}
use Rattle.fw_cmp.specs.declared.outcome.Next.{Next}
use Rattle.fw_cmp.specs.declared.outcome.Next.TheVariants.{Send, End, Deaf, Force}
use Rattle.fw_cmp.specs.declared.outcome.StartFault.{StartFault}
use Rattle.fw_csr.specs.declared.access.QuadletAccess.{QuadletAccess}
use Rattle.fw_cmp.specs.Losses.{deaf_turn, deaf_until, turn_of, asked_by, after_turn, with_state}
use Rattle.fw_cmp.specs.Starts.{break_started, with_task}
use Rattle.fw_cmp_jobs.specs.Requests.{addressee_of}
use Rattle.fw_cmp.specs.Turns.{sending, asks_or_ends}

-- what comes next of one that hears
abbrev pub Hears : Next → Type 0
Hears (Deaf until) = ⊥
Hears Force = ⊥
Hears _ = ⊤

sends : (o : Option ℕ) (a : Access) → Hears (sending o a)
sends None a = tt
sends (Some to) a = tt

asks : (now : ℕ) (d : Directory) (j : Job) (s : Stage) (o : Option Access) → Hears (asks_or_ends now d j s o)
asks now d j s None = tt
asks now d j s (Some a) = sends (addressee_of d a.target) a

idle : (d : Directory) (ts : List WaitingJob) → Hears (rests d ts)
idle d [] = tt
idle d (t ∷ ts) = tt

answers : (now : ℕ) (d : Directory) (ss : List Slot) (ts : List WaitingJob) (cur : Current) → Hears (answer_of now d (record { slots = ss; waiting = ts; current = cur }))
answers now d ss ts Nothing = idle d ts
answers now d ss ts (Asking j s) = asks now d j s (access_of j s)
answers now d ss ts (Hearing j s) = tt
answers now d ss ts (Overtaken i o) = tt

pub next_hears : (now : ℕ) (d : Directory) (c : ControllerState) → Hears (next now d c)
next_hears now d c = let r : ControllerState = ready now d c in answers now d r.slots r.waiting r.current

pub never_deaf : (now : ℕ) (d : Directory) (c : ControllerState) (until : ℕ) → next now d c ≡ Deaf until → ⊥
never_deaf now d c until e = subst Hears e (next_hears now d c)

pub never_forces : (now : ℕ) (d : Directory) (c : ControllerState) → next now d c ≡ Force → ⊥
never_forces now d c e = subst Hears e (next_hears now d c)

-- ---- one that has lost no response

pub unlost : (now : ℕ) (d : Directory) (x : Listening) → x.lost ≡ false → turn_of now d x ≡ next now d x.state
unlost now d x e = ap (λ b. cond b (deaf_turn now (deaf_until x)) (next now d x.state)) e

not_asked : (now before : ℕ) (n : Next) → ((to : ℕ) (r : QuadletAccess) → n ≡ Send to r → ⊥) → asked_by now before n ≡ before
not_asked now before (Send to r) h = absurd (h to r refl)
not_asked now before (End i o) h = refl
not_asked now before Idle h = refl
not_asked now before (Waiting until) h = refl
not_asked now before (Deaf until) h = refl
not_asked now before Force h = refl

pub rested : (now : ℕ) (d : Directory) (x : Listening) → x.lost ≡ false → ((to : ℕ) (r : QuadletAccess) → next now d x.state ≡ Send to r → ⊥)
    → after_turn now d x ≡ with_state x (after_next now d x.state)
rested now d x e h =
    ap (λ b. cond b x (record x { state = after_next now d x.state; asked_at = asked_by now x.asked_at (next now d x.state) })) e
    ∙ ap (λ n. record x { state = after_next now d x.state; asked_at = n }) (not_asked now x.asked_at (next now d x.state) h)

-- ---- breaks

pub break_current : (c : ControllerState) (i : ℕ) → (break_started c i).current ≡ c.current
break_current c i = go (break_fault c i)
  where
    go : (o : Option StartFault) → (elim o as (λ x. ControllerState) [ None ↦ with_task c (record { slot = i; breaks = true }) | Some fault ↦ c ]).current ≡ c.current
    go None = refl
    go (Some fault) = refl
