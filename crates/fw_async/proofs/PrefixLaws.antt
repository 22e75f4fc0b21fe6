-- Fronts of bytes that are at hand.
use Rattle.fw_async.proofs.Common.{◌≡◌, ℕ, ◌+◌, ◌-◌, ◌≤◌, ◌<◌, ◌^◌, List, [], ◌∷◌, ◌++◌, length, take, drop, Option, Some, None, arith, refl, ap, subst, ◌∙◌, length-take-le, IsPending, fault_of, need}
use Rattle.fw_async.proofs.Common.{State, Spells, ShowsFault, PacketFault, Packet}
use Rattle.std.proofs.Common.{Result, Ok, Err}
use Rattle.std.proofs.lemmas.List.{take_all}
use Rattle.fw_async.specs.Reader.{Reads, ReadsTo, Feeds, FeedsTo}
use Rattle.fw_async.specs.declared.reader.Fed.{Fed}
use Rattle.fw_async_fields.proofs.NeedLaws.{need_grows, need_most}
use Rattle.fw_async.proofs.FeedLaws.{further, first_shown}
use Rattle.fw_async.proofs.ExactLaws.{gives_packet, gives_fault}

-- what a longer prefix needs is no less
pub needs_more : (bytes : List ℕ) (i k : ℕ) → i ≤ k → need (take i bytes) ≤ need (take k bytes)
needs_more bytes i k le =
    let e : take k bytes ≡ take i bytes ++ take (k - i) (drop i bytes) = further [] bytes i k le in
    rw e (need_grows (take i bytes) (take (k - i) (drop i bytes)))

-- a prefix that is as long as what was seen of it asks for, and asks for no more, is whole
pub prefix_whole : (bytes : List ℕ) (i k m n : ℕ) → i ≤ k → k ≤ length bytes → k ≤ m → m ≡ need (take i bytes) → n ≡ need (take k bytes) → n ≤ k → length (take k bytes) ≡ need (take k bytes)
prefix_whole bytes i k m n le within most before after done = omega (arith, length-take-le k bytes within, needs_more bytes i k le)

pub prefix_pending : (bytes : List ℕ) (k n : ℕ) → k ≤ length bytes → n ≡ need (take k bytes) → k < n → fault_of (take k bytes) ≡ None → IsPending (take k bytes)
prefix_pending bytes k n within after more clear = record { no_fault = clear; not_whole = omega (arith, length-take-le k bytes within) }

-- a fault that a prefix shows comes with one of its bytes
pub prefix_fault : (bytes : List ℕ) (i k m : ℕ) (f : PacketFault) → i ≤ k → k ≤ length bytes → k ≤ m → m ≡ need (take i bytes) → IsPending (take i bytes) → fault_of (take k bytes) ≡ Some f → (j : ℕ)
    × ShowsFault [] bytes j f
prefix_fault bytes i k m f le within most same pending h =
    let e : i + (k - i) ≡ k = omega arith in
    first_shown [] bytes i (k - i) f pending (omega arith) (omega arith) (ap (λ (n : ℕ). fault_of (take n bytes)) e ∙ h)

pub prefix_all : (bytes : List ℕ) (k : ℕ) → k ≡ length bytes → IsPending (take k bytes) → IsPending bytes
prefix_all bytes k all h = let P : List ℕ → Type 0 = IsPending in subst P (take_all k bytes (omega arith)) h

-- no bytes yet
pub prefix_first : (bytes : List ℕ) → IsPending (take 0 bytes)
prefix_first bytes = record { no_fault = refl; not_whole = omega arith }

-- what is pending asks for more
pub prefix_more : (bytes : List ℕ) (i n : ℕ) → i ≤ length bytes → n ≡ need (take i bytes) → IsPending (take i bytes) → i < n
prefix_more bytes i n within same pending = omega (arith, pending.not_whole, length-take-le i bytes within)

-- what is asked for is not much
pub prefix_short : (bytes : List ℕ) (i k n : ℕ) → k ≤ n → k ≤ length bytes → n ≡ need (take i bytes) → IsPending (take i bytes) → length (take k bytes) < 2 ^ 32
prefix_short bytes i k n few within same pending = omega (arith, length-take-le k bytes within, need_most (take i bytes) pending.no_fault)

-- What is read at hand is what a reader gives that has taken nothing.
fed_to : (bytes : List ℕ) (used : ℕ) (packet : Option Packet) → ReadsTo bytes used packet → (new : State) × FeedsTo [] bytes used packet new
fed_to bytes used None h = (record { taken = bytes; fault = None }, (h.0, refl, h.1))
fed_to bytes used (Some p) h = (record { taken = []; fault = None }, (h, refl))

as_fed : (bytes : List ℕ) (r : Result Fed PacketFault) → Reads bytes r → (new : State) × Feeds [] bytes r new
as_fed bytes (Ok fed) h = fed_to bytes fed.used fed.packet h
as_fed bytes (Err f) h = (record { taken = 0 ∷ []; fault = Some f }, (h, refl, λ e. cc e))

pub reads_packet : (bytes : List ℕ) (r : Result Fed PacketFault) → Reads bytes r → (k : ℕ) (p : Packet) → k ≤ length bytes → Spells p (take k bytes) → r ≡ Ok (record { used = k; packet = Some p })
reads_packet bytes r h = let fed = as_fed bytes r h in gives_packet [] bytes r fed.0 fed.1

pub reads_fault : (bytes : List ℕ) (r : Result Fed PacketFault) → Reads bytes r → (k : ℕ) (f : PacketFault) → k < length bytes → IsPending (take k bytes) → fault_of (take (k + 1) bytes) ≡ Some f
    → r ≡ Err f
reads_fault bytes r h = let fed = as_fed bytes r h in gives_fault [] bytes r fed.0 fed.1
