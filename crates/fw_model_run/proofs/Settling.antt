-- Rounds of half steps at a bus that stays: what a controller was to restore it restores, or its job is over.
use Rattle.fw_model_run.proofs.Common.{◌≡◌, ◌⊎◌, inl, inr, ℕ, ◌<◌, ◌≤◌, ◌&&◌, ◌||◌, not, List, [], ◌∷◌, ◌++◌, length, Bool, true, false, is_some, unwrap_or, refl, ap, sym, subst, ◌∙◌, arith, IsTrue}
use Rattle.fw_model_run.proofs.Common.{IsFalse, Option, cases_lt, Timed, Account, Current, Nothing, Asking, Hearing, Overtaken, Directory, Next, Send, Idle, Waiting, Deaf, Force, Stage}
use Rattle.fw_model_run.proofs.Common.{ControllerState, new_controller, slot_at, IsHeard, after_hear, next, after_next, State, linked_number, is_living, living, list_to, manager_in, directory_of}
use Rattle.fw_model_run.proofs.Common.{is_deaf, asks, taken, half_of, after_half, has_request, HalfStep, Transitions, counted, half_steps_of, IsGood, kind_at, row_of}
use Rattle.std.proofs.lemmas.List.{get_or_past, get_or-replicate, length-replicate}
use Rattle.fw_cmp_jobs.specs.declared.connection.Slot.TheVariants.{Free}
use Rattle.fw_cmp.specs.declared.outcome.Next.TheVariants.{End}
use Rattle.fw_cmp.specs.Controllers.{Fits}
use Rattle.fw_cmp_jobs.specs.Slots.{is_restoring}
use Rattle.fw_cmp.specs.Turns.{is_busy}
use Rattle.fw_cmp.proofs.Resting.{idle_means, waiting_means}
use Rattle.fw_model_rounds.specs.Settling.{Settles}
use Rattle.fw_model_controllers.specs.Together.{SendsRequest, SendsNothing, TakesTurn, TakesHalfStep, turns as takes_turn, hears as hears_answer}
use Rattle.fw_model_run.specs.State.{Clock, numbers_to}
use Rattle.fw_model_run.specs.HalfSteps.{is_unsettled}
use Rattle.fw_model_run.proofs.Directories.{told, linked_number_is}
use Rattle.fw_model_run.proofs.Events.{living_small}
use Rattle.fw_model_run.proofs.Hears.{heard_of, half_hears, reply_heard, carried_bus}
use Rattle.fw_model_run.proofs.Idle.{nobody_busy}
use Rattle.fw_model_run.proofs.Leads.{IsLinked, linked_of}
use Rattle.fw_model_run.proofs.Steps.{step_good}
use Rattle.fw_model_run.proofs.Turns.{Turns, sends, rests, turns, becomes, living_linked}
use Rattle.fw_model_run.proofs.Taking.{Taken, listens, keeps_deaf, forces_reset, may_step, taken_as}

-- ---- a half step

abbrev pub HalfTurns : State → ℕ → State → Type 0
HalfTurns s d t = TakesHalfStep d s.clock.cycle (directory_of s) (directory_of s) s.account s.controllers t.account t.controllers

-- the bus stays as it is
pub record Stays (s t : State) : Type 0 where
  pub latest : t.account.latest ≡ s.account.latest
  pub reclaiming : t.account.reclaiming ≡ s.account.reclaiming
  pub clock : t.clock ≡ s.clock
  pub dead : t.dead ≡ s.dead
  pub declared : t.declared ≡ s.declared
  pub lost : t.lost ≡ s.lost

turn_half : (s : State) (d : ℕ) → IsGood s → (x : IsLinked s d) → IsHeard (s.controllers d).current → HalfTurns s d (taken s d (asks s d)) × Stays s (taken s d (asks s d))
turn_half s d g x heard = go (turns s d x.number x.entry g x.is x.shows x.linked heard)
  where
    after : State
    after = taken s d (asks s d)

    turn_of : SendsRequest d s.clock.cycle (directory_of s) s.account s.controllers after.account ⊎ SendsNothing d s.clock.cycle (directory_of s) s.account s.controllers after.account
        → TakesTurn d s.clock.cycle (directory_of s) (directory_of s) s.account s.controllers after.account after.controllers
    turn_of says = record {
      told = told s x.entry x.is x.shows.1 g.time.second;
      heard = heard;
      says = says;
      becomes = becomes s.controllers d (after_next s.clock.cycle (directory_of s) (s.controllers d));
      directory = refl;
    }

    go : Turns s d → HalfTurns s d (taken s d (asks s d)) × Stays s (taken s d (asks s d))
    go (sends request out leads) = (
      takes_turn (turn_of (inl (record { request = request; outstanding = out; account = leads }))),
      record { latest = ap (λ (l : Account). l.latest) leads; reclaiming = ap (λ (l : Account). l.reclaiming) leads; clock = refl; dead = refl; declared = refl; lost = refl },
    )
    go (rests out leads) = (
      takes_turn (turn_of (inr (record { outstanding = out; account = leads }))),
      record { latest = ap (λ (l : Account). l.latest) leads; reclaiming = ap (λ (l : Account). l.reclaiming) leads; clock = refl; dead = refl; declared = refl; lost = refl },
    )

pub half_turn : (s : State) (d : ℕ) → IsGood s → IsTrue (is_living s d) → HalfTurns s d (after_half s d) × Stays s (after_half s d)
half_turn s d g lives = go (s.controllers d).current refl
  where
    Both : State → Type 0
    Both t = HalfTurns s d t × Stays s t

    rests_ : (c : Current) → (s.controllers d).current ≡ c → IsHeard c → half_of s d c ≡ asks s d → Both (after_half s d)
    rests_ c e heard is = subst (λ x. Both (taken s d (half_of s d x))) (sym e)
        (subst (λ y. Both (taken s d y)) (sym is) (turn_half s d g (linked_of s d g (living_linked s d lives)) (subst IsHeard (sym e) heard)))

    go : (c : Current) → (s.controllers d).current ≡ c → Both (after_half s d)
    go Nothing e = rests_ Nothing e tt refl
    go (Asking j stage) e = rests_ (Asking j stage) e tt refl
    go (Overtaken i o) e = rests_ (Overtaken i o) e tt refl
    go (Hearing j stage) e =
        let x = heard_of s d j stage g lives e in
        let h = half_hears s d j stage g e x in
        let r = reply_heard s d j stage x in
        let account = ap (λ o. unwrap_or o s.account) h.leads in
        let bus = carried_bus d j stage r s.account in
        subst (λ y. Both (taken s d y)) (sym h.half_is) (
          hears_answer r (record {
            device = living_small s d g lives;
            job = j;
            stage = stage;
            current = e;
            target = x.target;
            asked = x.asked;
            answer = h.answer;
            account = account;
            becomes = becomes s.controllers d (after_hear (s.controllers d) r);
            directory = refl;
          }),
          record { latest = ap (λ (l : Account). l.latest) account ∙ bus.0; reclaiming = ap (λ (l : Account). l.reclaiming) account ∙ bus.1; clock = refl; dead = refl; declared = refl; lost = refl },
        )

-- ---- half steps of a round

stays_here : (s : State) → Stays s s
stays_here s = record { latest = refl; reclaiming = refl; clock = refl; dead = refl; declared = refl; lost = refl }

stays_then : (s t u : State) → Stays s t → Stays t u → Stays s u
stays_then s t u f g = record {
  latest = g.latest ∙ f.latest;
  reclaiming = g.reclaiming ∙ f.reclaiming;
  clock = g.clock ∙ f.clock;
  dead = g.dead ∙ f.dead;
  declared = g.declared ∙ f.declared;
  lost = g.lost ∙ f.lost;
}

-- what controllers are told, and who lives, stays
told_still : (s t : State) → Stays s t → directory_of t ≡ directory_of s
told_still s t h = λ i. record { node = list_to 63 (linked_number (h.latest i)); manager = manager_in (h.latest i); over_at = (h.clock i).over_at }

pub living_still : (s t : State) → Stays s t → living t ≡ living s
living_still s t h = λ i. numbers_to (length (h.declared i).names) (λ d. is_some (linked_number (h.latest i) d) && not (h.dead i d))

abbrev pub Settled : State → List ℕ → State → Type 0
Settled s ds t = Settles s.clock.cycle (directory_of s) ds s.account s.controllers t.account t.controllers

-- the same, told of a state from which the bus stayed
pub moved_back : (s m t : State) (ds : List ℕ) → Stays s m → Settled m ds t → Settles s.clock.cycle (directory_of s) ds m.account m.controllers t.account t.controllers
moved_back s m t ds h f =
    subst (λ c. Settles c (directory_of s) ds m.account m.controllers t.account t.controllers) (ap (λ (c : Clock). c.cycle) h.clock)
    (subst (λ dir. Settles m.clock.cycle dir ds m.account m.controllers t.account t.controllers) (told_still s m h) f)

-- the half step of one controller
step_turn : (s : State) (d : ℕ) (t : State) → IsGood s → IsTrue (is_living s d) → t ≡ counted (after_half s d) 1 → HalfTurns s d t × Stays s t
step_turn s d t g lives is = subst (λ z. HalfTurns s d z × Stays s z) (sym is)
    (let h = half_turn s d g lives in (h.0, record { latest = h.1.latest; reclaiming = h.1.reclaiming; clock = h.1.clock; dead = h.1.dead; declared = h.1.declared; lost = h.1.lost }))

-- each controller has heard what there was to hear
abbrev pub AllHear : State → Type 0
AllHear s = (d : ℕ) → is_deaf s d ≡ false

pub hear_still : (s t : State) → Stays s t → AllHear s → AllHear t
hear_still s t h quiet d = ap (λ (lost : ℕ → Option Stage). is_some (lost d)) h.lost ∙ quiet d

taken_heard : (s : State) (d : ℕ) (out : List Timed) (t : State) → is_deaf s d ≡ false → Taken s d out t → t ≡ counted (after_half s d) 1
taken_heard s d out t quiet (listens heard said is) = is
taken_heard s d out t quiet (keeps_deaf deaf said is) = absurd (grind (arith, quiet, deaf))
taken_heard s d out t quiet (forces_reset deaf r) = absurd (grind (arith, quiet, deaf))

pub round_settles : (ds : List ℕ) (s : State) (out : List Timed) (t : State) → IsGood s → AllHear s → Transitions s (half_steps_of ds) out t → Settled s ds t × Stays s t
unfolding Settles
round_settles [] s out t g quiet f = ((ap (λ (z : State). z.account) (sym f.1), ap (λ (z : State). z.controllers) (sym f.1)), subst (Stays s) (sym f.1) (stays_here s))
round_settles (d ∷ ds) s out t g quiet f =
    let lives = (may_step s d f.3.found f.3.may).lives in
    let turn = step_turn s d f.2 g lives (taken_heard s d f.0 f.2 (quiet d) (taken_as s d f.0 f.2 f.3)) in
    let rest = round_settles ds f.2 f.1 t (step_good s (HalfStep d) f.0 f.2 g f.3) (hear_still s f.2 turn.1 quiet) f.5 in
    ((living_small s d g lives, (f.2.account, f.2.controllers, turn.0, moved_back s f.2 t ds turn.1 rest.0)), stays_then s f.2 t turn.1 rest.1)

pub settles_append : (now : ℕ) (dir : Directory) (xs ys : List ℕ) (l m n : Account) (at mid end : ℕ → ControllerState) → Settles now dir xs l at m mid → Settles now dir ys m mid n end
    → Settles now dir (xs ++ ys) l at n end
unfolding Settles
settles_append now dir [] ys l m n at mid end f g = subst (λ z. Settles now dir ys z at n end) (sym f.0) (subst (λ z. Settles now dir ys m z n end) (sym f.1) g)
settles_append now dir (k ∷ xs) ys l m n at mid end f g = (f.0, (f.1.0, f.1.1, f.1.2, settles_append now dir xs ys f.1.0 m n f.1.1 mid end f.1.3 g))

-- ---- nobody restores if nobody is busy

abbrev pub AllRestored : State → Type 0
AllRestored s = (d i : ℕ) → IsFalse (is_restoring (slot_at (s.controllers d) i))

new_free : (i : ℕ) → is_restoring (slot_at new_controller i) ≡ false
new_free i = go (cases_lt i 32)
  where
    go : (i < 32) ⊎ (32 ≤ i) → is_restoring (slot_at new_controller i) ≡ false
    go (inl lt) = ap is_restoring (get_or-replicate 32 i Free Free lt)
    go (inr le) = ap is_restoring (get_or_past new_controller.slots i Free (omega (arith, le, length-replicate 32 Free)))

quiet_restored : (now : ℕ) (dir : Directory) (c : ControllerState) → Fits c → IsHeard c.current → (x : Next) → next now dir c ≡ x → is_busy x ≡ false → (i : ℕ) → is_restoring (slot_at c i) ≡ false
quiet_restored now dir c fits heard (Send to q) e idle = absurd (grind (arith, idle))
quiet_restored now dir c fits heard (End k o) e idle = absurd (grind (arith, idle))
quiet_restored now dir c fits heard Idle e idle = (idle_means now dir c fits heard e).no_job.restoring
quiet_restored now dir c fits heard (Deaf until) e idle = absurd (grind (arith, idle))
quiet_restored now dir c fits heard Force e idle = absurd (grind (arith, idle))
quiet_restored now dir c fits heard (Waiting until) e idle = (waiting_means now dir c until fits heard e).0.no_job.restoring

-- a living controller's device is declared
pub living_declared : (s : State) (d : ℕ) → IsGood s → IsTrue (is_living s d) → d < length s.declared.names
living_declared s d g lives =
    let x = linked_of s d g (living_linked s d lives) in
    let at = linked_number_is x.entry d x.number x.linked in
    let low = x.shows.1.declared x.number (row_of d (kind_at s.declared.kinds d)) (x.shows.1.numbers d x.number at) in
    subst (λ k. d < k) (sym g.declared.named) low

pub idle_restored : (s : State) → IsGood s → is_unsettled s ≡ false → AllRestored s
idle_restored s g calm d i = go (is_living s d) refl
  where
    parts : (a b : Bool) → (a || b) ≡ false → (a ≡ false) × (b ≡ false)
    parts false false e = (refl, refl)
    parts false true e = absurd (grind (arith, e))
    parts true b e = absurd (grind (arith, e))

    heard_of_none : (c : Current) → has_request c ≡ false → IsHeard c
    heard_of_none Nothing e = tt
    heard_of_none (Asking j st) e = tt
    heard_of_none (Hearing j st) e = absurd (grind (arith, e))
    heard_of_none (Overtaken k o) e = tt

    go : (b : Bool) → is_living s d ≡ b → is_restoring (slot_at (s.controllers d) i) ≡ false
    go false off = ap (λ c. is_restoring (slot_at c i)) (g.unused d off) ∙ new_free i
    go true lives =
        let idle = parts (has_request (s.controllers d).current) (is_busy (next s.clock.cycle (directory_of s) (s.controllers d))) (nobody_busy s calm d (living_declared s d g lives) lives) in
        quiet_restored s.clock.cycle (directory_of s) (s.controllers d) (g.reclaims.step.fits d) (heard_of_none (s.controllers d).current idle.0)
        (next s.clock.cycle (directory_of s) (s.controllers d)) refl idle.1 i
