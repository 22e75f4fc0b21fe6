-- Each action is a change of the account and all controllers, as the reclaim theorem speaks of them.
use Rattle.fw_model_run.proofs.Common.{◌≡◌, inl, inr, ℕ, ◌&&◌, not, List, [], ◌∷◌, Bool, true, false, Option, None, unwrap_or, refl, ap, sym, subst, arith, IsTrue, ResetEntry, Timed, Account, Current}
use Rattle.fw_model_run.proofs.Common.{Nothing, Asking, Hearing, Overtaken, Directory, Job, Stage, new_controller, IsHeard, after_hear, break_fault, break_started, after_next, Wanted, withheld, State}
use Rattle.fw_model_run.proofs.Common.{Declared, entered, list_to, linked_number, manager_in, is_linked, is_living, directory_of, is_deaf, asks, taken, half_of, after_half, with_controller, Action}
use Rattle.fw_model_run.proofs.Common.{
  StartBreak,
  EndSecond,
  Die,
  Transition,
  Transitions,
  Resets,
  slot_of,
  start_of,
  with_connection,
  after_cycles,
  after_second,
  after_death,
  after_start,
  IsGood,
  world_of,
}
use Rattle.std.proofs.Common.{Ok}
use Rattle.fw_cmp_jobs.specs.Fits.{SlotFits}
use Rattle.fw_cmp.specs.Starts.{started as given}
use Rattle.fw_model_reclaim.specs.Worlds.{Change, Turn, Answer as Answered, BusReset, SecondOver, Death, NewConnection, BreakOf, Withholding, Elsewhere, TakesTurn, HearsAnswer, IsReset, Path}
use Rattle.fw_model_reclaim.specs.Avoids.{AsksElsewhere}
use Rattle.fw_model_run.specs.Reclaiming.{IsHarmless, AreHarmless}
use Rattle.fw_model_run.proofs.Buses.{linked_small, shows_bus}
use Rattle.fw_model_run.proofs.Directories.{told}
use Rattle.fw_model_run.proofs.Events.{living_small, starts_is, makes}
use Rattle.fw_model_run.proofs.Hears.{Heard, HalfHears, heard_of, half_hears, reply_heard, with_answer, carried_bus}
use Rattle.fw_model_run.proofs.Leads.{IsLinked, linked_of}
use Rattle.fw_model_run.proofs.Others.{same_table}
use Rattle.fw_model_run.proofs.Resets.{MayReset, declaring, reset_change, numbered}
use Rattle.fw_model_run.proofs.Steps.{step_good}
use Rattle.fw_model_run.proofs.Times.{second_ends}
use Rattle.fw_model_run.proofs.Turns.{Turns, sends, rests, turns, with_account, becomes, living_linked}
use Rattle.fw_model_run.proofs.Withholds.{none_before, withholding_is, withholds_is, slot_avoids}
use Rattle.fw_model_run.proofs.Alterations.{Allows, Alteration, Breaks, Connected, Died, Halved, Over, Started, Withheld, altered}
use Rattle.fw_model_run.proofs.Effects.{Effect, altering, effect, resetting}
use Rattle.fw_model_reclaim.specs.Worlds as Worlds
use Rattle.fw_model_reclaim.specs.Whole as Whole

-- what controllers are told if this is the latest reset entry
abbrev told_by : State → Option ResetEntry → Directory
told_by s o = record { node = list_to 63 (linked_number o); manager = manager_in o; over_at = s.clock.over_at }

-- ---- half steps

pub turn_change : (s : State) (d : ℕ) → IsGood s → (x : IsLinked s d) → IsHeard (s.controllers d).current → TakesTurn (world_of s) d s.clock.cycle (world_of (taken s d (asks s d)))
turn_change s d g x heard = go (turns s d x.number x.entry g x.is x.shows x.linked heard)
  where
    Leads_ : Account → Type 0
    Leads_ l = TakesTurn (world_of s) d s.clock.cycle (world_of (with_account s d l))

    go : Turns s d → TakesTurn (world_of s) d s.clock.cycle (world_of (taken s d (asks s d)))
    go (sends request out leads) = subst Leads_ (sym leads) (record {
      device = linked_small s x.entry d x.number x.shows.1 x.linked;
      shows = shows_bus s x.entry x.is x.shows.1;
      turn = record {
        heard = heard;
        told = told s x.entry x.is x.shows.1 g.time.second;
        says = inl (record { request = request; outstanding = out; account = refl });
        becomes = becomes s.controllers d (after_next s.clock.cycle (directory_of s) (s.controllers d));
        directory = refl;
      };
    })
    go (rests out leads) = subst Leads_ (sym leads) (record {
      device = linked_small s x.entry d x.number x.shows.1 x.linked;
      shows = shows_bus s x.entry x.is x.shows.1;
      turn = record {
        heard = heard;
        told = told s x.entry x.is x.shows.1 g.time.second;
        says = inr (record { outstanding = out; account = refl });
        becomes = becomes s.controllers d (after_next s.clock.cycle (directory_of s) (s.controllers d));
        directory = refl;
      };
    })

answer_change : (s : State) (d : ℕ) (j : Job) (stage : Stage) → IsGood s → (s.controllers d).current ≡ Hearing j stage → (x : Heard s d j stage) → (h : HalfHears s d j stage x)
    → HearsAnswer (world_of s) d (reply_heard s d j stage x) (world_of (after_half s d))
answer_change s d j stage g current x h =
    subst (λ y. HearsAnswer (world_of s) d (reply_heard s d j stage x) (world_of (taken s d y))) (sym h.half_is)
    (subst (λ l. HearsAnswer (world_of s) d (reply_heard s d j stage x) (world_of (with_answer s d (reply_heard s d j stage x) l))) (sym (ap (λ o. unwrap_or o s.account) h.leads)) (record {
      device = linked_small s x.entry d x.number x.shows.1 x.linked;
      job = j;
      stage = stage;
      current = current;
      target = x.target;
      asked = x.asked;
      answer = h.answer;
      account = refl;
      becomes = becomes s.controllers d (after_hear (s.controllers d) (reply_heard s d j stage x));
      directory = ap (λ o. told_by s o) (carried_bus d j stage (reply_heard s d j stage x) s.account).0;
    }))

-- ---- what an action is

-- the change that it is, which takes no more than the action does
pub record IsChange (s : State) (a : Action) (t : State) : Type 0 where
  pub change : Change
  pub happens : Worlds.Happens (world_of s) change (world_of t)
  pub harmless : (d i : ℕ) → IsHarmless d i a → Whole.IsHarmless d i change
  pub avoids : AsksElsewhere (world_of s) change

elsewhere : (s : State) (a : Action) (t : State) → world_of t ≡ world_of s → IsChange s a t
elsewhere s a t same = record { change = Elsewhere; happens = same; harmless = λ d i h. tt; avoids = tt }

pub half_change : (s : State) (d : ℕ) (a : Action) → IsGood s → IsTrue (is_living s d) → IsChange s a (after_half s d)
half_change s d a g lives = go (s.controllers d).current refl
  where
    turn : (c : Current) → (s.controllers d).current ≡ c → IsHeard c → half_of s d c ≡ asks s d → IsChange s a (after_half s d)
    turn c e heard is = record {
      change = Turn d s.clock.cycle;
      happens = subst (λ x. TakesTurn (world_of s) d s.clock.cycle (world_of (taken s d (half_of s d x)))) (sym e)
          (subst (λ y. TakesTurn (world_of s) d s.clock.cycle (world_of (taken s d y))) (sym is) (turn_change s d g (linked_of s d g (living_linked s d lives)) (subst IsHeard (sym e) heard)));
      harmless = λ e i h. tt;
      avoids = tt;
    }

    go : (c : Current) → (s.controllers d).current ≡ c → IsChange s a (after_half s d)
    go Nothing e = turn Nothing e tt refl
    go (Asking j stage) e = turn (Asking j stage) e tt refl
    go (Overtaken i o) e = turn (Overtaken i o) e tt refl
    go (Hearing j stage) e = let x = heard_of s d j stage g lives e in record {
      change = Answered d (reply_heard s d j stage x);
      happens = answer_change s d j stage g e x (half_hears s d j stage g e x);
      harmless = λ e i h. tt;
      avoids = tt;
    }

-- ---- bus resets

pub reset_is : (s : State) (n : Declared) (initiator : ℕ) (out : List Timed) (t : State) → MayReset s n → (r : Resets (declaring s n) initiator out t)
    → IsReset (world_of s) r.entry r.entry.epoch (is_deaf s) (world_of t)
reset_is s n initiator out t m r = subst (λ (z : State). IsReset (world_of s) r.entry r.entry.epoch (is_deaf s) (world_of z)) (sym r.state_is) (reset_change s n initiator out t m r)

resets : (s : State) (a : Action) (n : Declared) (initiator : ℕ) (out : List Timed) (t : State) → MayReset s n → Resets (declaring s n) initiator out t → IsChange s a t
resets s a n initiator out t m r = record { change = BusReset r.entry r.entry.epoch (is_deaf s); happens = reset_is s n initiator out t m r; harmless = λ d i h. tt; avoids = tt }

-- one that counts, or that comes in a half step
again : (s u : State) (a : Action) (t : State) → world_of u ≡ world_of s → IsChange u a t → IsChange s a t
again s u a t same c = record {
  change = c.change;
  happens = subst (λ w. Worlds.Happens w c.change (world_of t)) same c.happens;
  harmless = c.harmless;
  avoids = subst (λ w. AsksElsewhere w c.change) same c.avoids;
}

-- ---- what controllers are asked for, and deaths

start_change : (s : State) (a : Action) (d i : ℕ) (w : Wanted) → IsGood s → IsTrue (is_living s d) → SlotFits (slot_of w) → start_of d w (s.controllers d) ≡ Ok i → IsChange s a (with_connection s d w)
start_change s a d i w g lives fits is = subst (λ r. IsChange s a (with_controller s d (given r (slot_of w) (s.controllers d)))) (sym is) (record {
  change = NewConnection d i (slot_of w);
  happens = record {
    device = living_small s d g lives;
    starts = starts_is d i w (s.controllers d) is;
    making = makes w;
    fits = fits;
    account = refl;
    becomes = becomes s.controllers d (given (Ok i) (slot_of w) (s.controllers d));
    directory = refl;
  };
  harmless = λ e k h. tt;
  avoids = λ ch withheld. slot_avoids s.account.withheld ch w withheld;
})

break_change : (s : State) (d i : ℕ) → IsGood s → IsTrue (is_living s d) → break_fault (s.controllers d) i ≡ None
    → IsChange s (StartBreak d i) (with_controller s d (break_started (s.controllers d) i))
break_change s d i g lives accepted = record {
  change = BreakOf d i;
  happens = record { device = living_small s d g lives; accepted = accepted; account = refl; becomes = becomes s.controllers d (break_started (s.controllers d) i); directory = refl };
  harmless = λ e k h. h;
  avoids = tt;
}

death_change : (s : State) (d : ℕ) → IsGood s → IsTrue (is_living s d) → IsChange s (Die d) (after_death s d)
death_change s d g lives = record {
  change = Death d;
  happens = record { device = living_small s d g lives; account = refl; becomes = becomes s.controllers d new_controller; directory = refl };
  harmless = λ e k h. h;
  avoids = tt;
}

start_again : (s : State) (a : Action) (d : ℕ) → IsGood s → IsTrue (s.dead d) → IsChange s a (after_start s d)
start_again s a d g dead = elsewhere s a (after_start s d) (ap (λ f. record (world_of s) { controllers = f })
    (same_table s.controllers d new_controller (g.unused d (rests_ (is_linked s d) (s.dead d) dead))))
  where
    rests_ : (a b : Bool) → b ≡ true → (a && not b) ≡ false
    rests_ a b e = grind (arith, e)

second_change : (s : State) → IsTrue s.account.reclaiming → IsChange s EndSecond (after_cycles (after_second s) 1)
second_change s runs = record {
  change = SecondOver;
  happens = record { account = second_ends s.account runs; each = λ d. refl; directory = ap (λ (l : Account). told_by s l.latest) (second_ends s.account runs) };
  harmless = λ d i h. absurd h;
  avoids = tt;
}

-- ---- a channel that is withheld

withhold_change : (s : State) (a : Action) → IsGood s → s.declared.names ≡ [] → IsChange s a (record s { account = entered s.account withheld })
withhold_change s a g empty = subst (λ l. IsChange s a (record s { account = l })) (sym (withholding_is s.account (none_before s g empty))) (record {
  change = Withholding;
  happens = withholds_is s g empty;
  harmless = λ d i h. tt;
  avoids = tt;
})

-- ---- each action

pub step_change : (s : State) (a : Action) (out : List Timed) (t : State) → IsGood s → Transition s a out t → IsChange s a t
step_change s a out t g x = go (effect s a out t x)
  where
    -- the action is this one
    if_so : (b : Action) (u : State) → a ≡ b → IsChange s b u → IsChange s a u
    if_so b u e c = subst (λ z. IsChange s z u) (sym e) c

    by : (y : Alteration) → Allows s a y → IsChange s a (altered s y)
    by (Halved d lost resets half_steps) ok = let c = half_change s d a g ok.2 in record { change = c.change; happens = c.happens; harmless = c.harmless; avoids = c.avoids }
    by (Connected d w) ok = start_change s a d ok.1.0 w g ok.2 ok.3 ok.1.1
    by (Breaks d i) ok = if_so (StartBreak d i) _ ok.1 (break_change s d i g ok.2 ok.3)
    by Over ok = if_so EndSecond _ ok.0 (second_change s ok.1)
    by (Died d) ok = if_so (Die d) _ ok.1 (death_change s d g ok.2)
    by (Started d) ok = start_again s a d g ok.1
    by Withheld ok = withhold_change s a g ok.1
    by _ ok = elsewhere s a _ refl

    go : Effect s a out t → IsChange s a t
    go (resetting counts half_steps n initiator free begins may r) = again s (numbered s counts half_steps) a t refl (resets (numbered s counts half_steps) a n initiator out t (may g) r)
    go (altering y waits out_is is ok) = subst (IsChange s a) (sym is) (by y ok)

-- ---- actions

-- the changes that they are
pub record IsPath (s : State) (xs : List Action) (t : State) : Type 0 where
  pub changes : List Change
  pub path : Path (world_of s) changes (world_of t)
  pub harmless : (d i : ℕ) → AreHarmless d i xs → Whole.AreHarmless d i changes

pub steps_path : (s : State) (xs : List Action) (out : List Timed) (t : State) → IsGood s → Transitions s xs out t → IsPath s xs t
steps_path s [] out t g f = record { changes = []; path = ap world_of f.1; harmless = λ d i h. tt }
steps_path s (a ∷ xs) out t g f =
    let c = step_change s a f.0 f.2 g f.3 in
    let p = steps_path f.2 xs f.1 t (step_good s a f.0 f.2 g f.3) f.5 in
    record { changes = c.change ∷ p.changes; path = (world_of f.2, c.happens, p.path); harmless = λ d i h. (c.harmless d i h.0, p.harmless d i h.1) }
