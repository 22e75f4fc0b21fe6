-- What lets time pass leads from a good state to a good state, and so does what writes an event alone.
use Rattle.fw_model_run.proofs.Common.{◌≡◌, ℕ, ◌+◌, ◌<◌, ◌≤◌, ◌^◌, cond, Option, Some, None, refl, ap, sym, subst, arith, unwrap_or, IsTrue, ResetEntry, Account, goes_on_reclaiming, MOST_HALF_STEPS}
use Rattle.fw_model_run.proofs.Common.{MOST_RESETS, second_over, State, first_state, entered, while_talking, directory_of, epoch_of, after_cycles, after_second, counted, IsGood, IsLatest, world_of}
use Rattle.fw_model_account.specs.Events.{after_second as account_second}
use Rattle.fw_tree.specs.Topology as Topologies
use Rattle.fw_cmp.specs.Resets.{after_second as controller_second}
use Rattle.fw_model_reclaim.specs.Worlds.{SecondOver}
use Rattle.fw_model_reclaim.proofs.Together.{first_reclaims}
use Rattle.fw_order.specs.declared.limits.TheConstants.{MOST_WRITTEN_CYCLES}
use Rattle.fw_model_run.specs.Dubs.{dub_after_second}
use Rattle.fw_model_run.specs.Afterwards.{counting, beginning}
use Rattle.fw_tape.specs.Blocks.{blocks_among}
use Rattle.fw_model_run.proofs.Counts.{silent}
use Rattle.fw_model_run.proofs.Decks.{first_is, passed_is}

-- ---- before the first device

pub first_good : IsGood first_state
first_good = record {
  declared = record { made = Topologies.empty refl; kinds = record { size = refl; link = λ d lt. absurd (grind arith); contender = λ d lt. absurd (grind arith) }; named = refl };
  latest = (refl, refl);
  reclaims = first_reclaims (directory_of first_state);
  stands = λ d. tt;
  unused = λ d off. refl;
  time = record { second = λ runs. absurd (grind arith); over_at = omega arith; cycle = omega arith };
  losses = record { asks = λ d on. absurd (grind arith); counted = λ d on. absurd (grind arith); came = omega arith; few = omega arith };
  half_steps = omega arith;
  written = omega arith;
  decks = first_is;
  streams = λ p off. refl;
}

-- ---- half steps that do nothing

pub counted_good : (s : State) (n : ℕ) → IsGood s → s.half_steps + n ≤ MOST_HALF_STEPS → IsGood (counted s n)
counted_good s n g few = record {
  declared = g.declared;
  latest = g.latest;
  reclaims = g.reclaims;
  stands = g.stands;
  unused = g.unused;
  time = g.time;
  losses = g.losses;
  half_steps = few;
  written = g.written;
  decks = g.decks;
  streams = g.streams;
}

-- ---- a bus reset counts

pub beginning_good : (s : State) → IsGood s → epoch_of s.account.latest ≡ 0 → IsGood (beginning s)
beginning_good s g none = record {
  declared = g.declared;
  latest = g.latest;
  reclaims = g.reclaims;
  stands = g.stands;
  unused = g.unused;
  time = g.time;
  losses = record { asks = g.losses.asks; counted = λ d on. omega (arith, none); came = omega (arith, none); few = omega arith };
  half_steps = g.half_steps;
  written = g.written;
  decks = g.decks;
  streams = g.streams;
}

pub counting_good : (s : State) → IsGood s → s.resets < MOST_RESETS → IsGood (counting s)
counting_good s g few = record {
  declared = g.declared;
  latest = g.latest;
  reclaims = g.reclaims;
  stands = g.stands;
  unused = g.unused;
  time = g.time;
  losses = record { asks = g.losses.asks; counted = λ d on. omega (arith, g.losses.counted d on); came = omega (arith, g.losses.came); few = omega (arith, few) };
  half_steps = g.half_steps;
  written = g.written;
  decks = g.decks;
  streams = g.streams;
}

-- ---- cycles

pub written_good : (s : State) → IsGood s → s.written < MOST_WRITTEN_CYCLES → IsGood (record s { written = s.written + 1 })
written_good s g few = record {
  declared = g.declared;
  latest = g.latest;
  reclaims = g.reclaims;
  stands = g.stands;
  unused = g.unused;
  time = g.time;
  losses = g.losses;
  half_steps = g.half_steps;
  written = omega (arith, few);
  decks = g.decks;
  streams = g.streams;
}

pub pass_good : (s : State) (n : ℕ) → IsGood s → s.clock.cycle + n ≤ 2 ^ 52 → (IsTrue s.account.reclaiming → s.clock.cycle + n < s.clock.over_at) → IsGood (after_cycles s n)
pass_good s n g small second = record {
  declared = g.declared;
  latest = g.latest;
  reclaims = g.reclaims;
  stands = g.stands;
  unused = g.unused;
  time = record { second = second; over_at = omega (arith, g.time.over_at); cycle = small };
  losses = g.losses;
  half_steps = g.half_steps;
  written = g.written;
  decks =
      λ d. passed_is s.account.latest s.clock.cycle n d (s.decks d) (g.decks d);
  streams = silent s.account (λ p. s.streams p + blocks_among (s.decks p.device).unit.tape n);
}

-- ---- the end of the second

-- the state after it, with this account
abbrev over : State → Account → State
over s l = after_cycles (record s { account = l; controllers = λ d. controller_second (s.controllers d); streams = while_talking l s.streams; dub = dub_after_second s.dub }) 1

pub second_ends : (l : Account) → IsTrue l.reclaiming → entered l second_over ≡ account_second l
second_ends l runs = ap (λ b. unwrap_or (cond b (Some (account_second l)) None) l) runs

over_good : (s : State) → IsGood s → s.clock.cycle + 1 ≤ 2 ^ 52 → IsGood (over s (account_second s.account))
over_good s g small = record {
  declared = g.declared;
  latest = latest_ s.account.latest refl g.latest;
  reclaims = goes_on_reclaiming (world_of s) (world_of t) SecondOver g.reclaims (record { account = refl; each = λ d. refl; directory = refl });
  stands = g.stands;
  unused = λ d off. ap controller_second (g.unused d off);
  time = record { second = λ runs. absurd (grind arith); over_at = omega (arith, g.time.over_at); cycle = small };
  losses = record { asks = g.losses.asks; counted = g.losses.counted; came = g.losses.came; few = g.losses.few };
  half_steps = g.half_steps;
  written = g.written;
  decks = λ d. passed_is s.account.latest s.clock.cycle 1 d (s.decks d) (g.decks d);
  streams = silent t.account (λ p. while_talking t.account s.streams p + blocks_among (s.decks p.device).unit.tape 1);
}
  where
    t : State
    t = over s (account_second s.account)

    latest_ : (o : Option ResetEntry) → s.account.latest ≡ o → IsLatest o s.declared s.account → IsLatest o t.declared t.account
    latest_ None e h = (h.0, ap account_second h.1)
    latest_ (Some r) e h = h

pub second_good : (s : State) → IsGood s → IsTrue s.account.reclaiming → s.clock.cycle + 1 ≤ 2 ^ 52 → IsGood (after_cycles (after_second s) 1)
second_good s g runs small = subst (λ l. IsGood (over s l)) (sym (second_ends s.account runs)) (over_good s g small)
