-- What the answer to a standing request leaves of the account.
use Rattle.fw_bus_engine.proofs.Common.{◌≡◌, ℕ, ◌<◌, ◌^◌, Bool, true, false, refl, sym, subst, ◌∙◌, Reply, Account, Hearing, Stage, register_at, stands, State, IsGood}
use Rattle.fw_model_account.specs.Packets.{ended}
use Rattle.fw_cmp_jobs.specs.declared.job.Job.{Job}
use Rattle.fw_cmp.specs.Controllers.{CurrentFits, RunsFitting, Fits}
use Rattle.fw_cmp_jobs.specs.Requests.{swap_of}
use Rattle.fw_model_controllers.specs.Controllers.{ControllerInStep}
use Rattle.fw_model_controllers.specs.Moves.{carried_out}
use Rattle.fw_model_controllers.proofs.Carried.{hearing, hear_half}
use Rattle.fw_model_controllers.proofs.Leads.{target_register}
use Rattle.fw_model_run.proofs.Buses.{linked_small}
use Rattle.fw_model_run.proofs.Hears.{Heard, HalfHears, reply_heard}
use Rattle.fw_bus_engine.proofs.HalfTurns.{ended_words}
use Rattle.fw_bus_engine.proofs.Swaps.{IsAnswered, quadlet_below, answer_changes}

-- the account after the answer
abbrev pub account_heard : (s : State) (d : ℕ) (j : Job) (stage : Stage) → Heard s d j stage → Account
account_heard s d j stage x = ended d (carried_out d j stage (reply_heard s d j stage x) s.account)

-- the words of the account after the answer
pub words_heard : (s : State) (d : ℕ) (j : Job) (stage : Stage) → IsGood s → (s.controllers d).current ≡ Hearing j stage → (x : Heard s d j stage)
    → HalfHears s d j stage x → IsAnswered s.account (account_heard s d j stage x) x.target (swap_of j stage)
words_heard s d j stage g current x h =
    record { own = λ there. ended_words d m (register_at x.target) ∙ w.own there; others = λ r is ne. ended_words d m r ∙ w.others r is ne }
  where
    reply_ : Reply
    reply_ = reply_heard s d j stage x

    m : Account
    m = carried_out d j stage reply_ s.account

    fits : RunsFitting (s.controllers d) j stage
    fits = subst (CurrentFits (s.controllers d)) current (g.reclaims.step.fits d).current

    same : s.controllers d ≡ hearing (s.controllers d) j stage
    same = λ i. record (s.controllers d) { current = current i }

    small : d < 63
    small = linked_small s x.entry d x.number x.shows.1 x.linked

    w : IsAnswered s.account m x.target (swap_of j stage)
    w =
        answer_changes s.account d j stage _ x.target reply_ small g.reclaims.step.sound fits.stage
        (target_register j stage x.target fits.stage x.asked) h.answer
        (hear_half s.account d (s.controllers d) j stage x.target reply_ small g.reclaims.step.sound (subst Fits same (g.reclaims.step.fits d)) x.asked h.answer
        (subst (ControllerInStep s.account d) same (g.reclaims.step.each d)))

-- what a complete reply shows is a quadlet
pub reply_below : (s : State) (d : ℕ) (j : Job) (stage : Stage) → IsGood s → (s.controllers d).current ≡ Hearing j stage → (x : Heard s d j stage)
    → HalfHears s d j stage x → (reply_heard s d j stage x).rcode ≡ 0 → (reply_heard s d j stage x).value < 2 ^ 32
reply_below s d j stage g current x h zero_ = go (stands s.account.latest x.target) refl
  where
    fits : RunsFitting (s.controllers d) j stage
    fits = subst (CurrentFits (s.controllers d)) current (g.reclaims.step.fits d).current

    go : (b : Bool) → stands s.account.latest x.target ≡ b → (reply_heard s d j stage x).value < 2 ^ 32
    go true there =
        subst (λ v. v < 2 ^ 32) (sym (h.answer.complete there).1)
        (quadlet_below s.account x.target g.reclaims.step.sound (target_register j stage x.target fits.stage x.asked) there)
    go false gone = absurd (h.answer.refused gone zero_)
