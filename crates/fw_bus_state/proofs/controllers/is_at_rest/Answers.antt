use Rattle.fw_bus_state.proofs.Common.{◌≡◌, inr, ℕ, ◌≤◌, Bool, true, false, IsTrue, IsAtRest, Listening}
use Rattle.std.specs.Prelude.{not}
use Rattle.fw_cmp_jobs.specs.declared.directory.Directory.{Directory}
use Rattle.fw_cmp.specs.Losses.{Awaits, ListeningFits, MayTurn, turn_of}
use Rattle.fw_cmp.specs.Turns.{is_busy}
use Rattle.fw_bus_state.proofs.Ending.{rest_unless_busy}
use Rattle.fw_bus_state.proofs.controllers.is_at_rest.Goals as goal

rests : (busy : Bool) (now : ℕ) (d : Directory) (x : Listening) → not busy ≡ true → ListeningFits x → d.over_at ≤ now → (MayTurn x → busy ≡ is_busy (turn_of now d x)) → (Awaits x → IsTrue busy)
    → IsAtRest x.state
rests true now d x on fits over turns awaits = cc
rests false now d x on fits over turns awaits = rest_unless_busy now d x fits over turns awaits

pub returns-then-now-directory : goal.returns-then-now-directory
returns-then-now-directory c = λ on.
    inr (rests c.busy.result c.args.now c.args.directory.now c.args.controller.now on c.requires c.if-now-directory.true c.busy.ensures.heard c.busy.ensures.standing)
