-- What a run keeps beside the bus, of candidates and of a recording, is as it was, or changes alone.
use Rattle.fw_model_run.proofs.Common.{◌≡◌, ℕ, ◌≤◌, ◌&&◌, ◌==◌, Bool, arith}
use Rattle.fw_model_run.proofs.Common.{nat_tests, Account, InputPlug, word_of, MOST_HALF_STEPS, dub_between, IsGood, State}
use Rattle.std.proofs.Math.Path.{fun_ext}
use Rattle.fw_model_run.specs.Dubs.{Dub}
use Rattle.fw_model_run.specs.Elections.{Election}

-- a good state stays good if nothing but these changes
pub beside_good : (s : State) (id half_steps : ℕ) (e : Election) (k : Dub) → IsGood s → half_steps ≤ MOST_HALF_STEPS
    → IsGood (record s { bus_manager_id = id; half_steps = half_steps; election = e; dub = k })
beside_good s id half_steps e k g few = record {
  declared = g.declared;
  latest = g.latest;
  reclaims = g.reclaims;
  stands = g.stands;
  unused = g.unused;
  time = g.time;
  losses = g.losses;
  half_steps = few;
  written = g.written;
  decks = g.decks;
  streams = g.streams;
}

-- if no word changes, the plugs that linger do
pub same_dub : (l : Account) (k : Dub) → dub_between l l k ≡ k
same_dub l k = λ i. record { tied = k.tied; lingers = fun_ext (λ q. stays (k.lingers q) (word_of l (InputPlug q))) i; reel = k.reel }
  where
    stays : (b : Bool) (n : ℕ) → (b && (n == n)) ≡ b
    stays b n = grind (arith, nat_tests)
