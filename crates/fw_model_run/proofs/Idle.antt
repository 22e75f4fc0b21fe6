-- Rounds in which no controller has anything to do change nothing, and write nothing.
use Rattle.fw_model_run.proofs.Common.{◌≡◌, ℕ, zero, suc, ◌+◌, ◌*◌, ◌<◌, ◌&&◌, ◌||◌, List, [], ◌∷◌, ◌++◌, length, cond}
use Rattle.fw_model_run.proofs.Common.{Bool, true, false, Option, Some, None, is_some, refl, ap, sym, subst, ◌∙◌, arith, ◌≢◌}
use Rattle.fw_model_run.proofs.Common.{IsTrue, ⊤, update, Timed, Current, Nothing, Asking, Hearing, Overtaken, Next, Send, Idle, Waiting, Deaf, Force, IsHeard, next, dub_between, at_most, State}
use Rattle.fw_model_run.proofs.Common.{
  while_talking,
  is_living,
  living,
  directory_of,
  is_deaf,
  said,
  asks,
  half,
  half_of,
  taken,
  after_half,
  has_request,
  Action,
  HalfStep,
  Rest,
  Transition,
  Transitions,
  counted,
}
use Rattle.fw_model_run.proofs.Common.{half_steps_of, Rounds, none, round, rest, IsGood, Asks}
use Rattle.fw_terms.specs.Tables.{find_to}
use Rattle.fw_terms.proofs.Tables.{IsFirst, find_to_is}
use Rattle.fw_cmp.specs.declared.outcome.Next.TheVariants.{End}
use Rattle.fw_cmp.specs.Turns.{is_busy}
use Rattle.fw_cmp.proofs.Resting.{idle_stays}
use Rattle.fw_model_run.proofs.Beside.{same_dub}
use Rattle.fw_model_run.specs.State.{numbers_to}
use Rattle.fw_model_run.specs.HalfSteps.{HalfStep as Half, is_busy_at, is_unsettled}
use Rattle.fw_model_run.proofs.Counts.{same_counts}
use Rattle.fw_model_run.proofs.Others.{same_table}
use Rattle.fw_model_run.proofs.Steps.{step_good, steps_good}
use Rattle.fw_model_run.proofs.Taking.{Taken, listens, keeps_deaf, forces_reset, taken_as}
use Rattle.fw_cmp.specs.Losses.{asked_by}
use Rattle.fw_cmp.proofs.Busy.{job_busy}

-- ---- a half step of a controller that has nothing to do

says_none : (s : State) (d : ℕ) (x : Next) → is_busy x ≡ false → said s d x ≡ None
says_none s d (Send to q) e = absurd (grind (arith, e))
says_none s d (End i o) e = absurd (grind (arith, e))
says_none s d Idle e = refl
says_none s d (Waiting until) e = refl
says_none s d (Deaf until) e = absurd (grind (arith, e))
says_none s d Force e = absurd (grind (arith, e))

asked_none : (now before : ℕ) (x : Next) → is_busy x ≡ false → asked_by now before x ≡ before
asked_none now before (Send to q) e = absurd (grind (arith, e))
asked_none now before (End i o) e = refl
asked_none now before Idle e = refl
asked_none now before (Waiting until) e = refl
asked_none now before (Deaf until) e = refl
asked_none now before Force e = refl

asks_idle : (s : State) (d : ℕ) → IsGood s → IsHeard (s.controllers d).current → is_busy (next s.clock.cycle (directory_of s) (s.controllers d)) ≡ false
    → asks s d ≡ record { says = None; controller = s.controllers d; asked_at = s.asked_at d }
asks_idle s d g heard idle =
    let says = says_none s d (next s.clock.cycle (directory_of s) (s.controllers d)) idle in
    let stays = idle_stays s.clock.cycle (directory_of s) (s.controllers d) (g.reclaims.step.fits d) heard idle in
    let asked = asked_none s.clock.cycle (s.asked_at d) (next s.clock.cycle (directory_of s) (s.controllers d)) idle in
    λ i. record { says = says i; controller = stays i; asked_at = asked i }

pub half_idle : (s : State) (d : ℕ) → IsGood s → is_busy_at s d ≡ false → half s d ≡ record { says = None; controller = s.controllers d; asked_at = s.asked_at d }
half_idle s d g idle = go (s.controllers d).current refl
  where
    Quiet : Current → Type 0
    Quiet c = half_of s d c ≡ record { says = None; controller = s.controllers d; asked_at = s.asked_at d }

    either : (a b : Bool) → (a || b) ≡ false → (a ≡ false) × (b ≡ false)
    either false false e = (refl, refl)
    either false true e = absurd (grind (arith, e))
    either true b e = absurd (grind (arith, e))

    parts : (has_request (s.controllers d).current ≡ false) × (is_busy (next s.clock.cycle (directory_of s) (s.controllers d)) ≡ false)
    parts = either (has_request (s.controllers d).current) (is_busy (next s.clock.cycle (directory_of s) (s.controllers d))) idle

    rests : (c : Current) → (s.controllers d).current ≡ c → IsHeard c → half_of s d c ≡ asks s d → Quiet (s.controllers d).current
    rests c e heard is = subst Quiet (sym e) (is ∙ asks_idle s d g (subst IsHeard (sym e) heard) parts.1)

    go : (c : Current) → (s.controllers d).current ≡ c → Quiet (s.controllers d).current
    go Nothing e = rests Nothing e tt refl
    go (Asking j stage) e = rests (Asking j stage) e tt refl
    go (Overtaken i o) e = rests (Overtaken i o) e tt refl
    go (Hearing j stage) e = absurd (let clash : true ≡ false = sym (ap has_request e) ∙ parts.0 in cc clash)

pub half_stays : (s : State) (d : ℕ) → IsGood s → is_busy_at s d ≡ false → after_half s d ≡ s
half_stays s d g idle =
    ap (taken s d) (half_idle s d g idle)
    ∙ (ap (λ f. record s { controllers = f; asked_at = update s.asked_at d (s.asked_at d); streams = while_talking s.account s.streams; dub = dub_between s.account s.account s.dub })
    (same_table s.controllers d (s.controllers d) refl)
    ∙ (ap (λ f. record s { asked_at = f; streams = while_talking s.account s.streams; dub = dub_between s.account s.account s.dub }) (same_table s.asked_at d (s.asked_at d) refl)
    ∙ (ap (λ c. record s { streams = c; dub = dub_between s.account s.account s.dub }) (same_counts s.account s.streams g.streams)
    ∙ ap (λ k. record s { dub = k }) (same_dub s.account s.dub))))

-- ---- the living controllers

abbrev pub AreIdle : State → List ℕ → Type 0
AreIdle s [] = ⊤
AreIdle s (d ∷ ds) = (is_busy_at s d ≡ false) × AreIdle s ds

idle_append : (s : State) (xs ys : List ℕ) → AreIdle s xs → AreIdle s ys → AreIdle s (xs ++ ys)
idle_append s [] ys f g = g
idle_append s (x ∷ xs) ys f g = (f.0, idle_append s xs ys f.1 g)

idle_to : (s : State) (n : ℕ) → ((d : ℕ) → d < n → is_living s d ≡ true → is_busy_at s d ≡ false) → AreIdle s (numbers_to n (is_living s))
unfolding numbers_to
idle_to s zero f = tt
idle_to s (suc n) f = idle_append s (numbers_to n (is_living s)) (cond (is_living s n) (n ∷ []) []) (idle_to s n (λ d lt lives. f d (omega (arith, lt)) lives)) (last (is_living s n) refl)
  where
    last : (b : Bool) → is_living s n ≡ b → AreIdle s (cond b (n ∷ []) [])
    last true lives = (f n (omega arith) lives, tt)
    last false rests = tt

pub nobody_busy : (s : State) → is_unsettled s ≡ false → (d : ℕ) → d < length s.declared.names → is_living s d ≡ true → is_busy_at s d ≡ false
nobody_busy s calm = go (find_to (length s.declared.names) (λ d. is_living s d && is_busy_at s d)) (find_to_is (length s.declared.names) (λ d. is_living s d && is_busy_at s d)) calm
  where
    apart : (a b : Bool) → (a && b) ≡ false → a ≡ true → b ≡ false
    apart a b e f = grind (arith, e, f)

    go : (o : Option ℕ) → IsFirst (length s.declared.names) (λ d. is_living s d && is_busy_at s d) o → is_some o ≡ false → (d : ℕ) → d < length s.declared.names → is_living s d ≡ true
        → is_busy_at s d ≡ false
    go None first e d lt lives = apart (is_living s d) (is_busy_at s d) (first d lt) lives
    go (Some k) first e d lt lives = absurd (grind (arith, e))

living_idle : (s : State) → is_unsettled s ≡ false → AreIdle s (living s)
living_idle s calm = idle_to s (length s.declared.names) (nobody_busy s calm)

-- ---- their half steps

counted_by : (s : State) (a b : ℕ) → a ≡ b → record s { half_steps = a } ≡ record s { half_steps = b }
counted_by s a b e = ap (λ k. record s { half_steps = k }) e

-- the same controllers are idle
idle_counted : (s : State) (n : ℕ) (ds : List ℕ) → AreIdle s ds → AreIdle (counted s n) ds
idle_counted s n [] h = tt
idle_counted s n (d ∷ ds) h = (h.0, idle_counted s n ds h.1)

-- one that has lost a response is busy
pub deaf_busy : (s : State) (d : ℕ) → IsGood s → IsTrue (is_deaf s d) → is_busy_at s d ≡ true
deaf_busy s d g deaf = go (s.controllers d).current refl (g.losses.asks d deaf)
  where
    turns : Bool
    turns = is_busy (next s.clock.cycle (directory_of s) (s.controllers d))

    go : (c : Current) → (s.controllers d).current ≡ c → Asks c → (has_request (s.controllers d).current || turns) ≡ true
    go Nothing e asks = absurd asks
    go (Asking j stage) e asks =
        let on : turns ≡ true = job_busy s.clock.cycle (directory_of s) (s.controllers d).slots (s.controllers d).waiting (s.controllers d).current (subst (λ x. x ≢ Nothing) (sym e) (λ f. cc f))
        (subst IsHeard (sym e) tt) in
        grind (arith, on)
    go (Hearing j stage) e asks = absurd asks
    go (Overtaken k o) e asks = absurd asks

idle_step : (s : State) (d : ℕ) (out : List Timed) (t : State) → IsGood s → is_busy_at s d ≡ false → Transition s (HalfStep d) out t → (out ≡ []) × (t ≡ counted s 1)
idle_step s d out t g idle f = go (taken_as s d out t f)
  where
    busy : (c : Current) → (s.controllers d).current ≡ c → Asks c → ⊥
    busy Nothing e asks = asks
    busy (Asking j stage) e asks =
        let on : is_busy (next s.clock.cycle (directory_of s) (s.controllers d)) ≡ true =
        job_busy s.clock.cycle (directory_of s) (s.controllers d).slots (s.controllers d).waiting (s.controllers d).current (subst (λ x. x ≢ Nothing) (sym e) (λ f. cc f))
        (subst IsHeard (sym e) tt) in
        let off = idle in
        grind (arith, on, off)
    busy (Hearing j stage) e asks = asks
    busy (Overtaken k o) e asks = asks

    go : Taken s d out t → (out ≡ []) × (t ≡ counted s 1)
    go (listens quiet said is) = (said ∙ ap (λ (h : Half). at_most s.clock.cycle h.says) (half_idle s d g idle), is ∙ ap (λ z. counted z 1) (half_stays s d g idle))
    go (keeps_deaf deaf said is) = (said, is)
    go (forces_reset deaf r) = absurd (busy (s.controllers d).current refl (g.losses.asks d deaf))

idle_steps : (s : State) (ds : List ℕ) (out : List Timed) (t : State) → IsGood s → AreIdle s ds → Transitions s (half_steps_of ds) out t → (out ≡ []) × (t ≡ counted s (length ds))
idle_steps s [] out t g idle f = (f.0, f.1 ∙ counted_by s s.half_steps (s.half_steps + 0) (omega arith))
idle_steps s (d ∷ ds) out t g idle f =
    let now = idle_step s d f.0 f.2 g idle.0 f.3 in
    let later = idle_steps (counted s 1) ds f.1 t (subst IsGood now.1 (step_good s (HalfStep d) f.0 f.2 g f.3)) (idle_counted s 1 ds idle.1)
    (subst (λ z. Transitions z (half_steps_of ds) f.1 t) now.1 f.5) in
    (f.4 ∙ (ap (λ z. z ++ f.1) now.0 ∙ later.0), later.1 ∙ counted_by s (s.half_steps + 1 + length ds) (s.half_steps + length (d ∷ ds)) (omega arith))

-- ---- rounds

-- what rounds are: none, one and then the others, or rest
pub data RoundsAre (n : ℕ) (s : State) (out : List Timed) (t : State) : Type 0 where
  are_none : n ≡ 0 → out ≡ [] → t ≡ s → RoundsAre n s out t
  are_round : (k : ℕ) (m : State) (more : List Action) (first last : List Timed) → n ≡ suc k → Transitions s (half_steps_of (living s)) first m → Rounds k m more last t → out ≡ first ++ last
      → RoundsAre n s out t
  are_rest : Transitions s (Rest (n * length (living s)) ∷ []) out t → RoundsAre n s out t

pub rounds_are : (n : ℕ) (s : State) (xs : List Action) (out : List Timed) (t : State) → Rounds n s xs out t → RoundsAre n s out t
rounds_are n s xs out t none = are_none refl refl refl
rounds_are n s xs out t (round {n = k} m more first last f g) = are_round k m more first last refl f g refl
rounds_are n s xs out t (rest f) = are_rest f

IdleRounds : ℕ → Type 0
IdleRounds n = (s t : State) (xs : List Action) (out : List Timed) → IsGood s → is_unsettled s ≡ false → Rounds n s xs out t → (out ≡ []) × (t ≡ counted s (n * length (living s)))

idle_by : (n : ℕ) (s t : State) (out : List Timed) → IsGood s → is_unsettled s ≡ false → ((k : ℕ) → n ≡ suc k → IdleRounds k) → RoundsAre n s out t → (out ≡ [])
    × (t ≡ counted s (n * length (living s)))
unfolding IdleRounds
idle_by n s t out g calm later (are_none z empty is) = (
  empty,
  is ∙ counted_by s s.half_steps (s.half_steps + n * length (living s)) (let e : n * length (living s) ≡ 0 = ap (λ k. k * length (living s)) z ∙ omega arith in omega (arith, e)),
)
idle_by n s t out g calm later (are_rest f) = (f.4 ∙ (ap (λ z. z ++ f.1) f.3.out_is ∙ f.5.0), f.5.1 ∙ f.3.state_is)
idle_by n s t out g calm later (are_round k m more first last z f h is) =
    let now = idle_steps s (living s) first m g (living_idle s calm) f in
    let good = subst IsGood now.1 (steps_good s m (half_steps_of (living s)) first g f) in
    let rounds = later k z (counted s (length (living s))) t more last good calm (subst (λ z. Rounds k z more last t) now.1 h) in
    let e : n * length (living s) ≡ length (living s) + k * length (living s) = ap (λ k. k * length (living s)) z ∙ omega arith in
    (is ∙ (ap (λ z. z ++ last) now.0 ∙ rounds.0), rounds.1 ∙ counted_by s (s.half_steps + length (living s) + k * length (living s)) (s.half_steps + n * length (living s)) (omega (arith, e)))

idle_all : (n : ℕ) → IdleRounds n
unfolding IdleRounds
idle_all zero = λ s t xs out g calm f. idle_by 0 s t out g calm (λ k e. absurd (omega (arith, e))) (rounds_are 0 s xs out t f)
idle_all (suc n) = λ s t xs out g calm f. idle_by (suc n) s t out g calm (λ k e. let same : n ≡ k = omega (arith, e) in subst IdleRounds same (idle_all n)) (rounds_are (suc n) s xs out t f)

pub idle_rounds : (n : ℕ) (s : State) (xs : List Action) (out : List Timed) (t : State) → IsGood s → is_unsettled s ≡ false → Rounds n s xs out t → (out ≡ []) × (t ≡ counted s (n * length (living s)))
unfolding IdleRounds
idle_rounds n s xs out t g calm f = idle_all n s t xs out g calm f
