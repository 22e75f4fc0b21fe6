-- Which requests a response may be to, and the swap that it makes.
use Rattle.fw_terms.specs.declared.plug.PlugAt.{PlugAt}
use Rattle.std.specs.Prelude.{ℕ, ◌==◌, Bool, false, ◌&&◌, if◌then◌else◌, Option, Some, None, List, length}
use Rattle.fw_words.specs.Quadlet.{quadlet_at}
use Rattle.fw_words.specs.declared.swap.Swap.{Swap as TheSwap}
use Rattle.fw_words.specs.declared.swap.TheConstants.{COMPARE_SWAP}
use Rattle.fw_model_account.specs.Account.{Account}
use Rattle.fw_model_account.specs.Decode.{move_at}
use Rattle.fw_model_account.specs.Moves.{Move}
use Rattle.fw_model_account.specs.Words.{Register}
use Rattle.fw_account_tables.specs.Swaps.{moved_by}
use Rattle.fw_account_tables.specs.declared.tables.Asked.{Asked}
use Rattle.fw_account_tables.specs.declared.tables.Asked.TheVariants.{Nothing, Read, Swap, Lock}

-- it is a request to read a quadlet of this node
abbrev pub is_read_of : Asked → ℕ → Bool
is_read_of Nothing source = false
is_read_of (Read target address) source = target == source
is_read_of (Swap target address swap) source = false
is_read_of (Lock target address function) source = false

-- it is a request to this node for this lock function
abbrev pub is_lock_of : Asked → ℕ → ℕ → Bool
is_lock_of Nothing source function = false
is_lock_of (Read target address) source function = false
is_lock_of (Swap target address swap) source function = (target == source) && (function == COMPARE_SWAP)
is_lock_of (Lock target address asked) source function = (target == source) && (asked == function)

-- the response to a compare_swap of two quadlets is complete and shows its argument as the old value
abbrev pub shows_argument : ℕ → ℕ → List ℕ → Bool
shows_argument argument rcode old = (rcode == 0) && (length old == 4) && (quadlet_at old 0 == argument)

-- the swap that a response to the request makes, if it makes one
abbrev pub swap_done : Asked → ℕ → List ℕ → Option TheSwap
swap_done Nothing rcode old = None
swap_done (Read target address) rcode old = None
swap_done (Swap target address swap) rcode old = if shows_argument swap.argument rcode old then Some swap else None
swap_done (Lock target address function) rcode old = None

-- the account after a swap of a register of the account, or of another
abbrev pub account_after : ℕ → Option Register → (Register → Option (PlugAt × Move)) → Account → Option Account
account_after c None move l = Some l
account_after c (Some register) move l = moved_by c (move register) l

-- the account after the swap of a register of the account, or of another, that a response makes
abbrev pub account_swapped : ℕ → Option Register → Option TheSwap → Account → Option Account
account_swapped c register None l = Some l
account_swapped c register (Some s) l = account_after c register (λ r. move_at l c r s.argument s.new) l
