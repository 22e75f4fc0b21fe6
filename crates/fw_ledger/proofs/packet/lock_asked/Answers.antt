use Rattle.fw_ledger.proofs.Common.{ℕ, Option, Some, refl, ap, sym, Locks, Request}
use Rattle.fw_ledger.proofs.LockReplies.{quadlet_swap_is, no_quadlet_swap}
use Rattle.fw_ledger.proofs.packet.lock_asked.Goals as goal

pub returns-in-Some : goal.returns-in-Some
returns-in-Some c =
    let h = quadlet_swap_is c.args.function c.args.bytes.now c.in-Some.swap (sym c.in-Some.ensures) in
    let asked : ℕ → Option Request = λ f. Some (record { target = c.args.target; address = c.args.address; operation = Locks f c.args.bytes.now }) in
    (c.args.bytes.now, ap asked h.kind, h.size, h.argument, h.new)

pub returns-in-None : goal.returns-in-None
returns-in-None c = (c.args.bytes.now, refl, no_quadlet_swap c.args.function c.args.bytes.now (sym c.in-None.ensures))
