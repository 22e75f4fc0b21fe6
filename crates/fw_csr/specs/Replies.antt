-- What a register answers, by which requests it allows, and what a request leaves in it (IEEE 1394-1995, transactions).
use Rattle.std.specs.Prelude.{ℕ, ◌==◌, Option, Some, None, if◌then◌else◌}
use Rattle.fw_csr.specs.Requests.{swap_in}
use Rattle.fw_words.specs.Swaps.{quadlet_swap}
use Rattle.fw_csr.specs.declared.request.Request.{Request}
use Rattle.fw_csr.specs.declared.request.Request.TheVariants.{Read, Write, WriteBlock, Lock}
use Rattle.fw_words.specs.declared.swap.Swap.{Swap}
use Rattle.fw_csr.specs.declared.reply.Reply.{Reply}
use Rattle.fw_csr.specs.declared.register.RegisterAccess.{RegisterAccess}
use Rattle.fw_csr.specs.declared.register.RegisterAccess.TheVariants.{ReadOnly, ReadSwap, WriteOnly}

-- resp_complete, with the word of the register
abbrev pub complete : ℕ → Reply
complete value = record { rcode = 0; value = value }

-- resp_type_error: the register does not allow the request
abbrev pub type_error : Reply
type_error = record { rcode = 6; value = 0 }

-- resp_address_error: no register stands at the offset
abbrev pub address_error : Reply
address_error = record { rcode = 7; value = 0 }

-- the word that a quadlet compare_swap finds; each other lock is a type_error
abbrev pub swap_reply : ℕ → Option Swap → Reply
swap_reply word None = type_error
swap_reply word (Some swap) = complete word

-- what is allowed at a register
abbrev pub reply_at : RegisterAccess → Request → Reply
reply_at (ReadOnly word) (Read offset) = complete word
reply_at (ReadSwap word) (Read offset) = complete word
reply_at (ReadSwap word) (Lock offset function bytes) = swap_reply word (quadlet_swap function bytes)
reply_at WriteOnly (Write offset value) = complete 0
reply_at WriteOnly (WriteBlock offset bytes) = complete 0
reply_at _ _ = type_error

-- an offset without a register comes first, then a kind of request that is not allowed
abbrev pub reply : Option RegisterAccess → Request → Reply
reply None r = address_error
reply (Some register) r = reply_at register r

-- a compare_swap stores its new value exactly if the register equals its argument
abbrev pub swapped : ℕ → Option Swap → ℕ
swapped word None = word
swapped word (Some swap) = if word == swap.argument then swap.new else word

-- the word of a register that can be swapped, after a request at it
abbrev pub word_after : ℕ → Request → ℕ
word_after word r = swapped word (swap_in r)
