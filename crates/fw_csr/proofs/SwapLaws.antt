-- The compare_swap of a request that is one.
use Rattle.std.proofs.Common.{◌≡◌, ℕ, ◌^◌, ◌<◌, Some, ap, ◌∙◌}
use Rattle.std.proofs.lemmas.Nat.{from_be_bytes-to_be_bytes_4}
use Rattle.fw_words.specs.Quadlet.{quadlet_at}
use Rattle.fw_words.specs.declared.swap.Swap.{Swap}
use Rattle.fw_words.specs.Swaps.{quadlet_swap, swap_bytes}
use Rattle.fw_csr.specs.declared.register.RegisterAccess.TheVariants.{ReadSwap}
use Rattle.fw_csr.specs.declared.request.Request.{Request}
use Rattle.fw_csr.specs.declared.request.Request.TheVariants.{Read, ReadBlock, Write, WriteBlock, Lock}
use Rattle.fw_csr.specs.Replies.{complete, reply_at, swap_reply}
use Rattle.fw_csr.specs.Requests.{swap_in}

pub same_swap : (argument new : ℕ) → argument < 2 ^ 32 → new < 2 ^ 32
    → quadlet_swap 2 (swap_bytes (record { argument = argument; new = new })) ≡ Some (record { argument = argument; new = new })
same_swap argument new low small =
    let s : Swap = record { argument = argument; new = new } in
    let first : quadlet_at (swap_bytes s) 0 ≡ argument = from_be_bytes-to_be_bytes_4 argument low in
    let second : quadlet_at (swap_bytes s) 4 ≡ new = from_be_bytes-to_be_bytes_4 new small in
    ap (λ a. Some (record { argument = a; new = quadlet_at (swap_bytes s) 4 })) first ∙ ap (λ b. Some (record { argument = argument; new = b })) second

-- A compare_swap is answered with the word that it finds.
pub swap_replied : (word : ℕ) (r : Request) (s : Swap) → swap_in r ≡ Some s → reply_at (ReadSwap word) r ≡ complete word
swap_replied word (Read offset) s e = cc
swap_replied word (ReadBlock offset count) s e = cc
swap_replied word (Write offset value) s e = cc
swap_replied word (WriteBlock offset bytes) s e = cc
swap_replied word (Lock offset function bytes) s e = ap (swap_reply word) e
