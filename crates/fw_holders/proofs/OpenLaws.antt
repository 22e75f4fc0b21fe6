-- Channels that are open hold nothing, but in a reclaim second.
use Rattle.fw_holders.proofs.Common.{◌≡◌, ◌∙◌, ℕ, true, false, None, ap, Account}
use Rattle.std.proofs.Common.{not}
use Rattle.fw_account_tables.proofs.Channels.{open_is_free}
use Rattle.fw_model_account.specs.Account.{is_withheld, is_open}
use Rattle.fw_model_account.specs.Sound.{IsSound}
use Rattle.fw_holders.specs.Held.{holding, holding_of, unallocated}

-- an open channel
pub open_holds_nothing : (l : Account) (ch : ℕ) → IsSound l → l.reclaiming ≡ false → is_open l.withheld l.allocations ch ≡ true → holding l ch ≡ None
open_holds_nothing l ch s stopped open_there =
    let none = open_is_free (l.allocations ch) (not (is_withheld l.withheld ch)) open_there in
    ap (λ o. holding_of o (unallocated l.continues (l.reclaimable ch))) none ∙ ap (λ o. unallocated l.continues o) (s.reclaimable_ends stopped ch)
