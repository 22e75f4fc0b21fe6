-- The half step in which a controller hears the answer to its request leads from a good state to a good state.
use Rattle.fw_model_run.proofs.Common.{◌≡◌, ◌≢◌, ◌⊎◌, inl, inr, ℕ, ◌&&◌, not, Some, is_some, unwrap_or, refl, ap, sym, subst, ◌∙◌, arith, IsTrue, IsFalse, cases_eq, update, Reply, ResetEntry, Hearing}
use Rattle.fw_model_run.proofs.Common.{true}
use Rattle.fw_model_run.proofs.Common.{Job, Target, Stage, new_controller, heard, after_hear, goes_on_reclaiming, AsksWhatStands, State, while_talking, list_to, linked_number, manager_in, is_living}
use Rattle.fw_model_run.proofs.Common.{is_deaf, epoch_of, taken, after_half, dub_between, IsGood, IsLatest, world_of}
use Rattle.fw_model_account.specs.Packets.{ended}
use Rattle.fw_model_controllers.specs.Moves.{carried_out}
use Rattle.fw_model_reclaim.specs.Worlds.{Answer}
use Rattle.fw_model_run.specs.Good.{IsDeck, AreLosses}
use Rattle.fw_model_run.proofs.Buses.{linked_small}
use Rattle.fw_model_run.proofs.Counts.{silent}
use Rattle.fw_model_run.proofs.Turns.{becomes, each_of, update_others, quiet_losses}
use Rattle.fw_model_run.proofs.Hears.{carried_bus, Asked, with_answer, Heard, reply_heard, HalfHears, half_hears, heard_of}

-- ---- the state after it

abbrev answered : State → ℕ → Job → Stage → Reply → State
answered s d j stage r = record s {
  account = ended d (carried_out d j stage r s.account);
  controllers = update s.controllers d (after_hear (s.controllers d) r);
  asked_at = update s.asked_at d (s.asked_at d);
  streams = while_talking (ended d (carried_out d j stage r s.account)) s.streams;
  dub = dub_between s.account (ended d (carried_out d j stage r s.account)) s.dub;
}

answered_good : (s : State) (d n to : ℕ) (e : ResetEntry) (j : Job) (stage : Stage) (t : Target) (r : Reply) → IsGood s → IsTrue (is_living s d) → IsFalse (is_deaf s d) → s.account.latest ≡ Some e
    → IsLatest (Some e) s.declared s.account → linked_number (Some e) d ≡ Some n → Asked s d j stage t to r → IsGood (answered s d j stage r)
answered_good s d n to e j stage t r g lives quiet is h number x = record {
  declared = g.declared;
  latest = subst (λ o. IsLatest o u.declared u.account) (sym (latest ∙ is)) h;
  reclaims = goes_on_reclaiming (world_of s) (world_of u) (Answer d r) g.reclaims (record {
    device = linked_small s e d n h.1 number;
    job = j;
    stage = stage;
    current = x.current;
    target = t;
    asked = x.target;
    answer = x.answer;
    account = refl;
    becomes = becomes s.controllers d (after_hear (s.controllers d) r);
    directory = ap (λ o. record { node = list_to 63 (linked_number o); manager = manager_in o; over_at = s.clock.over_at }) latest;
  });
  stands = each_of (λ c. AsksWhatStands c.current) s.controllers d (after_hear (s.controllers d) r) (subst (λ c. AsksWhatStands (heard c r)) (sym x.current) tt) g.stands;
  unused = λ k off. unused k (sym (ap (λ o. is_some (linked_number o k) && not (s.dead k)) latest) ∙ off) (cases_eq k d);
  time = record { second = λ runs. g.time.second (sym (carried_bus d j stage r s.account).1 ∙ runs); over_at = g.time.over_at; cycle = g.time.cycle };
  losses = subst (λ o. AreLosses s.lost u.controllers s.resets (epoch_of o)) (sym latest) (quiet_losses s d (after_hear (s.controllers d) r) g quiet);
  half_steps = g.half_steps;
  written = g.written;
  decks = λ k. subst (λ o. IsDeck o s.clock.cycle k (s.decks k)) (sym latest) (g.decks k);
  streams = silent u.account s.streams;
}
  where
    u : State
    u = answered s d j stage r

    latest : (carried_out d j stage r s.account).latest ≡ s.account.latest
    latest = (carried_bus d j stage r s.account).0

    unused : (k : ℕ) → IsFalse (is_living s k) → (k ≡ d) ⊎ (k ≢ d) → update s.controllers d (after_hear (s.controllers d) r) k ≡ new_controller
    unused k off (inl same) = let on : is_living s k ≡ true = ap (is_living s) same ∙ lives in absurd (grind (arith, on, off))
    unused k off (inr ne) = update_others s.controllers d (after_hear (s.controllers d) r) k ne ∙ g.unused k off

heard_good : (s : State) (d : ℕ) (j : Job) (stage : Stage) → IsGood s → IsTrue (is_living s d) → IsFalse (is_deaf s d) → (s.controllers d).current ≡ Hearing j stage → (x : Heard s d j stage)
    → HalfHears s d j stage x → IsGood (after_half s d)
heard_good s d j stage g lives quiet current x h =
    subst (λ z. IsGood (taken s d z)) (sym h.half_is) (subst (λ l. IsGood (with_answer s d r l)) (sym (ap (λ o. unwrap_or o s.account) h.leads))
    (answered_good s d x.number x.to x.entry j stage x.target r g lives quiet x.is x.shows x.linked (record { current = current; target = x.asked; answer = h.answer })))
  where
    r : Reply
    r = reply_heard s d j stage x

pub hears_good : (s : State) (d : ℕ) (j : Job) (stage : Stage) → IsGood s → IsTrue (is_living s d) → IsFalse (is_deaf s d) → (s.controllers d).current ≡ Hearing j stage → IsGood (after_half s d)
hears_good s d j stage g lives quiet current = let x = heard_of s d j stage g lives current in heard_good s d j stage g lives quiet current x (half_hears s d j stage g current x)
