use Rattle.fw_account_tables.proofs.Common.{◌≡◌, ◌∙◌, sym, ap, subst, ℕ, Some, find_to, is_pending, allocation_of, charge_at}
use Rattle.fw_account_tables.specs.Swaps.{IsHeld, held_of}
use Rattle.fw_account_tables.proofs.Plugs.{pending_is_found}
use Rattle.fw_account_tables.proofs.UnitSwaps.{found_at, held_is}
use Rattle.fw_account_tables.proofs.tables.Tables.held.Goals as goal

pub returns-in_err-channel : goal.returns-in_err-channel
returns-in_err-channel c = λ l h.
    subst (λ o. IsHeld c.args.c o l) (sym c.from_residual.ensures)
    (sym (pending_is_found c.args.self.now l c.args.c h)
    ∙ sym (c.pending_channel.ensures.first ∙ ap (λ charges. find_to 64 (λ ch. is_pending c.args.c (allocation_of (charge_at charges ch))))
    c.deref.ensures.value)
    ∙ c.in_err-channel.was)

pub returns : goal.returns
returns c = λ l h.
    let t = c.args.self.now in
    let ch : ℕ = c.in_ok-channel.channel in
    let at : find_to 64 (λ k. is_pending c.args.c (allocation_of (charge_at t.charges.items k))) ≡ Some ch
    = sym (c.pending_channel.ensures.first ∙ ap (λ charges. find_to 64 (λ k. is_pending c.args.c (allocation_of (charge_at charges k))))
    c.deref.ensures.value) ∙ c.in_ok-channel.was in
    let found = found_at 64 ch (λ k. is_pending c.args.c (allocation_of (charge_at t.charges.items k))) at in
    let charge = c.charge_at.ensures ∙ ap (λ charges. charge_at charges ch) c.deref-2.ensures.value in
    subst (λ o. IsHeld c.args.c o l) (sym (c.held_of.ensures ∙ ap (held_of ch) charge)) (held_is t l c.args.c ch h found.0 found.1)
