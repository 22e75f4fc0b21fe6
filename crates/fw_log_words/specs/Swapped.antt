-- What `explain` says of the response to a lock, by what the account makes of it.
use Rattle.std.specs.Prelude.{◌≡◌, ℕ, ◌==◌, ◌&&◌, Bool, true, false, List, [], ◌++◌, length, codes, if◌then◌else◌}
use Rattle.fw_words.specs.Quadlet.{quadlet_at}
use Rattle.fw_async.specs.declared.packet.Head.{Head}
use Rattle.fw_async.specs.declared.packet.Packet.TheVariants.{Lock}
use Rattle.fw_text.specs.Texts.{quadlet_text, quadlets_text}
use Rattle.fw_log_registers.specs.declared.place.RegisterPlace.{RegisterPlace}
use Rattle.fw_log_registers.specs.declared.told.RegisterValue.TheVariants.{Word, Swap}
use Rattle.fw_log_registers.specs.Places.{place_of}
use Rattle.fw_log_registers.specs.Words.{told_text}
use Rattle.fw_log_requests.specs.Requests.{asked_by}
use Rattle.fw_log_explain.specs.Lines.{rcode_text, function_text, at_text, locked_text}
use Rattle.fw_model_account.specs.Packets.{is_quadlet_swap, is_swapped}

-- what a response brings if no word was replaced: nothing if it is not complete, of a quadlet compare_swap that there was no swap, and of another lock the old value
abbrev pub kept_text : RegisterPlace → ℕ → List ℕ → ℕ → List ℕ → List ℕ
kept_text place function given rcode old =
    if rcode == 0 then
    (if is_quadlet_swap function given && (length old == 4) then quadlet_text (quadlet_at old 0) ++ (codes ", no swap" ++ told_text (Word (quadlet_at old 0)) place) else quadlets_text old)
    else []

-- what a response brings, by whether the account's word was replaced: then, and only then, that the swap was made
abbrev pub brought : Bool → RegisterPlace → ℕ → List ℕ → ℕ → List ℕ → List ℕ
brought true place function given rcode old =
    quadlet_text (quadlet_at old 0) ++ (codes ", swap made" ++ told_text (Swap (quadlet_at given 0) (quadlet_at given 4)) place)
brought false place function given rcode old = kept_text place function given rcode old

-- The response to a lock is told, by the request that is kept of the lock, with `swap made` exactly if the account replaces the
-- word at the address: `replied` of its packets asks `is_swapped` of the same request and response.
abbrev pub SwapsAreTold : Type 0
SwapsAreTold =
    (h : Head) (address function rcode : ℕ) (given old : List ℕ)
    → locked_text (asked_by (Lock h address function given)) rcode function old
    ≡ rcode_text rcode ++ function_text function ++ at_text (place_of address) ++ brought (is_swapped function given rcode old) (place_of address) function given rcode old
