use Rattle.fw_ledger.proofs.Common.{◌≡◌, ◌+◌, ◌-◌, ◌*◌, ◌%◌, subst, sym, arith, flag, is_open, Tables}
use Rattle.std.specs.Int.{bit_at}
use Rattle.fw_account_tables.proofs.Channels.{halves_fit, free_bits}
use Rattle.fw_ledger.proofs.ledger.Ledger.free_channels.Goals as goal

pub overflow_add-result : goal.overflow_add-result
overflow_add-result c =
    let f = halves_fit _ _ _ _ _ _ c.self.invariant.1.resources in
    let a = c.from.ensures in
    let b = c.from-2.ensures in
    omega arith

pub returns-clause-bits : goal.returns-clause-bits
returns-clause-bits c = λ l ch h lt.
    rw (c.from.ensures, c.from-2.ensures) (subst (λ (t : Tables). bit_at (t.high * 4294967296 % 18446744073709551616 + t.low) (63 - ch) ≡ flag (is_open l.withheld l.allocations ch))
    (sym c.self.view_is) (free_bits c.args.self.now l ch h lt))
