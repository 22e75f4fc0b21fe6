-- A bus reset leads from a good state to a good state.
use Rattle.fw_model_run.proofs.Common.{◌≡◌, ℕ, ◌+◌, ◌<◌, ◌≤◌, ◌&&◌, not, List, length, Bool, true, false, Option}
use Rattle.fw_model_run.proofs.Common.{Some, None, is_some, refl, ap, sym, subst, cond, arith, IsTrue, IsFalse, ◌∙◌, ResetEntry}
use Rattle.fw_model_run.proofs.Common.{Timed, IsOnBus, new_controller, IsResetEntry, Shows, goes_on_reclaiming, MOST_RESETS, State, Declared, epoch_of, linked_number, is_living, is_deaf, Resets}
use Rattle.fw_model_run.proofs.Common.{Reset, after_reset_entry, at_most, IsGood, IsLatest, AreDeclared, world_of}
use Rattle.fw_cmp.specs.Resets.{state_reset as controller_reset}
use Rattle.fw_devices.proofs.EntryLaws.{entry_shows, entry_fits}
use Rattle.fw_model_reclaim.specs.Worlds.{BusReset, Grows}
use Rattle.fw_model_reclaim.specs.Worlds as Worlds
use Rattle.fw_model_rounds.proofs.Stands.{reset_stands}
use Rattle.fw_model_run.specs.Deed.{IsNextReset}
use Rattle.fw_model_run.specs.Good.{ManagerContends}
use Rattle.fw_model_run.proofs.Decks.{reset_is}
use Rattle.fw_model_run.proofs.Grows.{Follows, number_there, stays_linked, grows, grows_first, manager_contends}
use Rattle.fw_model_run.proofs.Counts.{silent}
use Rattle.fw_model_run.proofs.Turns.{living_linked}

-- the state with these devices and cables
abbrev pub declaring : State → Declared → State
declaring s n = record s { declared = n }

-- so many bus resets count, and so many half steps were given
abbrev pub numbered : State → ℕ → ℕ → State
numbered s resets half_steps = record s { resets = resets; half_steps = half_steps }

-- a deed that writes the entry of the next bus reset is a bus reset
pub resets_by : {s : State} {initiator : ℕ} {e : ResetEntry} {out : List Timed} {t : State} → (resets half_steps : ℕ) → IsNextReset s initiator e → out ≡ at_most s.clock.cycle (Some (Reset e))
    → t ≡ after_reset_entry (numbered s resets half_steps) e → Resets (numbered s resets half_steps) initiator out t
resets_by {e = e} resets half_steps next said is = record { entry = e; is_entry = next.is_entry; few = next.few; out_is = said; state_is = is }

-- A bus reset may begin: each device of the bus stays on it, with its kind.
pub record MayReset (s : State) (n : Declared) : Type 0 where
  pub good : IsGood s
  pub counted : epoch_of s.account.latest < s.resets
  pub declared : AreDeclared n
  pub some : 0 < length n.names
  pub kinds : (e : ResetEntry) → s.account.latest ≡ Some e → n.kinds ≡ s.declared.kinds
  pub stays : (e : ResetEntry) → s.account.latest ≡ Some e → (d : ℕ) → IsOnBus s.declared.topology.cables d → IsOnBus n.topology.cables d

-- ---- what the entry shows

pub reset_shows : (s : State) (n : Declared) (initiator : ℕ) (out : List Timed) (t : State) → MayReset s n → (r : Resets (declaring s n) initiator out t) → Shows n.topology n.kinds r.entry
reset_shows s n initiator out t m r = entry_shows n.topology n.kinds (epoch_of s.account.latest + 1) initiator r.entry m.declared.made m.declared.kinds r.is_entry

pub reset_follows : (s : State) (n : Declared) (initiator : ℕ) (out : List Timed) (t : State) → MayReset s n → (r : Resets (declaring s n) initiator out t) → (e : ResetEntry)
    → s.account.latest ≡ Some e → IsLatest (Some e) s.declared s.account → Follows s.declared.topology n.topology n.kinds e r.entry
reset_follows s n initiator out t m r e is h = record {
  made = m.declared.made;
  some = subst (λ k. 0 < k) m.declared.named m.some;
  before = subst (λ kinds. Shows s.declared.topology kinds e) (sym (m.kinds e is)) h.1;
  after = reset_shows s n initiator out t m r;
  stays = m.stays e is;
}

pub reset_grows : (s : State) (n : Declared) (initiator : ℕ) (out : List Timed) (t : State) → MayReset s n → (r : Resets (declaring s n) initiator out t) → Grows s.account r.entry
reset_grows s n initiator out t m r = go s.account.latest refl m.good.latest
  where
    go : (o : Option ResetEntry) → s.account.latest ≡ o → IsLatest o s.declared s.account → Grows s.account r.entry
    go None is h = grows_first s.account r.entry is
    go (Some e) is h =
        grows s.account s.declared.topology n.topology n.kinds (epoch_of s.account.latest + 1) initiator e r.entry is (reset_follows s n initiator out t m r e is h) r.is_entry m.declared.kinds
        (subst (λ kinds. ManagerContends kinds e) (sym (m.kinds e is)) h.3)

-- the bus reset, as what happens to all controllers
pub reset_change : (s : State) (n : Declared) (initiator : ℕ) (out : List Timed) (t : State) → MayReset s n → (r : Resets (declaring s n) initiator out t)
    → Worlds.IsReset (world_of s) r.entry r.entry.epoch (is_deaf s) (world_of (after_reset_entry (declaring s n) r.entry))
reset_change s n initiator out t m r = record {
  network = (reset_shows s n initiator out t m r).network;
  grows = reset_grows s n initiator out t m r;
  account = refl;
  each = λ c. refl;
}

-- ---- who has a link, and who lives

pub still_linked : (s : State) (n : Declared) (initiator : ℕ) (out : List Timed) (t : State) → MayReset s n → (r : Resets (declaring s n) initiator out t) → (d : ℕ)
    → IsTrue (is_some (linked_number s.account.latest d)) → IsTrue (is_some (linked_number (Some r.entry) d))
still_linked s n initiator out t m r d on = go s.account.latest refl m.good.latest on
  where
    go : (o : Option ResetEntry) → s.account.latest ≡ o → IsLatest o s.declared s.account → IsTrue (is_some (linked_number o d)) → IsTrue (is_some (linked_number (Some r.entry) d))
    go None is h there = absurd (grind (arith, there))
    go (Some e) is h there =
        let a = number_there (linked_number (Some e) d) there in
        ap is_some (stays_linked s.declared.topology n.topology n.kinds e r.entry (reset_follows s n initiator out t m r e is h) d a.number a.is).is

pub still_living : (s : State) (n : Declared) (initiator : ℕ) (out : List Timed) (t : State) → MayReset s n → (r : Resets (declaring s n) initiator out t) → (d : ℕ) → IsTrue (is_living s d)
    → IsTrue (is_living (after_reset_entry (declaring s n) r.entry) d)
still_living s n initiator out t m r d lives = both (is_some (linked_number (Some r.entry) d)) (not (s.dead d)) (still_linked s n initiator out t m r d (living_linked s d lives))
    (second (is_some (linked_number s.account.latest d)) (not (s.dead d)) lives)
  where
    both : (a b : Bool) → a ≡ true → b ≡ true → (a && b) ≡ true
    both a b x y = grind (arith, x, y)

    second : (a b : Bool) → (a && b) ≡ true → b ≡ true
    second a b x = grind (arith, x)

-- ---- the state after it

-- if the reset begins a second, that is over later, and by 8000 cycles at most
begins : (b : Bool) (n : ℕ) → b ≡ true → n < cond b (n + 8000) n
begins true n e = omega arith
begins false n e = cc e

within : (b : Bool) (n : ℕ) → cond b (n + 8000) n ≤ n + 8000
within true n = omega arith
within false n = omega arith

reset_new : (epoch : ℕ) (lost : Bool) → controller_reset epoch lost new_controller ≡ new_controller
reset_new epoch true = refl
reset_new epoch false = refl

pub reset_good : (s : State) (n : Declared) (initiator : ℕ) (out : List Timed) (t : State) → MayReset s n → Resets (declaring s n) initiator out t → IsGood t
reset_good s n initiator out t m r = subst IsGood (sym r.state_is) (record {
  declared = m.declared;
  latest = (
    m.some,
    reset_shows s n initiator out t m r,
    few,
    manager_contends n.topology n.kinds (epoch_of s.account.latest + 1) initiator e r.is_entry
        (reset_shows s n initiator out t m r) m.declared.kinds,
    root,
    (initiator, own),
  );
  reclaims = goes_on_reclaiming (world_of s) (world_of u) (BusReset e e.epoch (is_deaf s)) m.good.reclaims (reset_change s n initiator out t m r);
  stands = λ d. reset_stands e.epoch (is_deaf s d) (s.controllers d) (m.good.stands d);
  unused = λ d off. unused d (is_living s d) refl off;
  time = record { second = begins (is_some s.account.latest) s.clock.cycle; over_at = within (is_some s.account.latest) s.clock.cycle; cycle = m.good.time.cycle };
  losses = record { asks = λ d on. absurd (grind arith); counted = λ d on. absurd (grind arith); came = came; few = m.good.losses.few };
  half_steps = m.good.half_steps;
  written = m.good.written;
  decks = λ d. reset_is s.account.latest (Some e) s.clock.cycle d (s.decks d) (still_linked s n initiator out t m r d) (m.good.decks d);
  streams = silent u.account s.streams;
})
  where
    e : ResetEntry
    e = r.entry

    u : State
    u = after_reset_entry (declaring s n) e

    root : e.root < length e.nodes
    root = let less = r.few in (entry_fits n.topology n.kinds (epoch_of s.account.latest + 1) initiator e m.declared.made m.declared.kinds (omega (arith, less)) r.is_entry).root

    few : e.epoch ≤ MOST_RESETS
    few = let is = r.is_entry.epoch_is in let few = r.few in omega (arith, is, few)

    own : IsResetEntry n.topology n.kinds e.epoch initiator e
    own = subst (λ k. IsResetEntry n.topology n.kinds k initiator e) (sym r.is_entry.epoch_is) r.is_entry

    came : e.epoch ≤ s.resets
    came = let is = r.is_entry.epoch_is in let counted = m.counted in omega (arith, is, counted)

    unused : (d : ℕ) (b : Bool) → is_living s d ≡ b → IsFalse (is_living u d) → controller_reset e.epoch (is_deaf s d) (s.controllers d) ≡ new_controller
    unused d true lives off = absurd (let on = still_living s n initiator out t m r d lives in grind (arith, on, off))
    unused d false rests off = ap (controller_reset e.epoch (is_deaf s d)) (m.good.unused d rests) ∙ reset_new e.epoch (is_deaf s d)
