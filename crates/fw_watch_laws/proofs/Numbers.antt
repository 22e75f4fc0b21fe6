-- The outstanding requests are at registers that there are.
use Rattle.fw_watch_laws.proofs.Common.{◌≡◌, refl, ℕ, zero, suc, ◌+◌, ◌-◌, ◌%◌, ◌<◌, ◌==◌, ◌&&◌, not, nat_le, nat_lt, Bool, true, false, List, [], ◌∷◌, ◌++◌, length, if◌then◌else◌, Option, Some, None}
use Rattle.fw_watch_laws.proofs.Common.{IfSome, slice_get, arith, All, All-filter, Head, Packet, WriteQuadlet, WriteBlock, WriteReply, ReadQuadlet, ReadBlock, ReadQuadletReply, ReadBlockReply}
use Rattle.fw_watch_laws.proofs.Common.{CycleStart, LockRequest, LockReply, WatchedRegister, Bandwidth, ChannelsHigh, ChannelsLow, register_at, Asking, Read, Asked, Answer, lock_of, asked_at_register}
use Rattle.fw_watch_laws.proofs.Common.{answers, is_of, is_from, without_answered, without_same, without_source, with_request, standing_following, answered, node_of, old_word, lock_answer, answer_of}
use Rattle.fw_watch_laws.proofs.Common.{IsNumber}
use Rattle.std.proofs.Common.{◌/◌}
use Rattle.std.proofs.Common.{drop}
use Rattle.std.specs.List.{position}
use Rattle.std.proofs.lemmas.List.Elements.{All-append, All-drop}
use Rattle.fw_csr.specs.declared.offset.TheConstants.{BANDWIDTH_AVAILABLE, CHANNELS_AVAILABLE_HI, CHANNELS_AVAILABLE_LO, OPCR, IPCR}
use Rattle.fw_watch_remarks.specs.Registers.{plug_number, output_or, input_of, plug_at}
use Rattle.fw_watch_requests.specs.Standing.{asked}
use Rattle.fw_watch_requests.specs.Standing.{asked_at, answer_of_node, read_answer}

-- the register of a request is one that there is
abbrev pub IsAt : Asked → Type 0
IsAt q = IsNumber q.register

-- the register of an answer is one
abbrev pub IsOf : Answer → Type 0
IsOf a = IsNumber a.at.register

number_if : (b : Bool) (n : ℕ) → (b ≡ true → n < 31) → IfSome (if b then Some n else None) (λ k. k < 31)
number_if true n h = h refl
number_if false n h = tt

number_within : (first offset : ℕ) → (nat_le first offset && nat_lt offset (first + 124) && ((offset - first) % 4 == 0)) ≡ true → (offset - first) / 4 < 31
number_within first offset e = grind (arith, e)

plug_within : (first offset : ℕ) → IfSome (plug_number first offset) (λ k. k < 31)
unfolding plug_number
plug_within first offset =
    number_if (nat_le first offset && nat_lt offset (first + 124) && ((offset - first) % 4 == 0)) ((offset - first) / 4) (number_within first offset)

input_within : (o : Option ℕ) → IfSome o (λ k. k < 31) → IfSome (input_of o) IsNumber
input_within None h = tt
input_within (Some n) h = h

output_within : (o : Option ℕ) (rest : Option WatchedRegister) → IfSome o (λ k. k < 31) → IfSome rest IsNumber → IfSome (output_or o rest) IsNumber
output_within None rest h g = g
output_within (Some n) rest h g = h

either : (b : Bool) (x y : Option WatchedRegister) → IfSome x IsNumber → IfSome y IsNumber → IfSome (if b then x else y) IsNumber
either true x y h g = h
either false x y h g = g

pub register_number : (offset : ℕ) → IfSome (register_at offset) IsNumber
unfolding register_at
register_number offset =
    either (offset == BANDWIDTH_AVAILABLE) (Some Bandwidth) _ tt
    (either (offset == CHANNELS_AVAILABLE_HI) (Some ChannelsHigh) _ tt
    (either (offset == CHANNELS_AVAILABLE_LO) (Some ChannelsLow) (plug_at offset) tt
    (output_within (plug_number OPCR offset) (input_of (plug_number IPCR offset)) (plug_within OPCR offset) (input_within (plug_number IPCR offset) (plug_within IPCR offset)))))

asked_within : (h : Head) (o : Option WatchedRegister) (asking : Asking) → IfSome o IsNumber → IfSome (asked_at_register h o asking) IsAt
asked_within h None asking n = tt
asked_within h (Some r) asking n = n

all_one : (q : Asked) → IsAt q → All IsAt (q ∷ [])
all_one q n zero d h = n
all_one q n (suc k) d h = absurd (omega (arith, h))

latest_if : (b : Bool) (list : List Asked) → All IsAt list → All IsAt (if b then drop 1 list else list)
latest_if true list a = All-drop IsAt 1 list a
latest_if false list a = a

request_within : (o : Option Asked) (list : List Asked) → IfSome o IsAt → All IsAt list → All IsAt (with_request o list)
request_within None list n a = a
request_within (Some q) list n a = latest_if (length (list ++ q ∷ []) == 257) (list ++ q ∷ []) (All-append IsAt list (q ∷ []) a (all_one q n))

same_within : (h : Head) (list : List Asked) → All IsAt list → All IsAt (without_same h list)
unfolding without_same
same_within h list a = All-filter (λ q. not (is_of h q)) IsAt list a

answered_within : (read : Bool) (h : Head) (list : List Asked) → All IsAt list → All IsAt (without_answered read h list)
unfolding without_answered
answered_within read h list a = All-filter (λ q. not (answers read h q)) IsAt list a

pub source_within : (source : ℕ) (list : List Asked) → All IsAt list → All IsAt (without_source source list)
unfolding without_source
source_within source list a = All-filter (λ q. not (is_from source q)) IsAt list a

-- the requests after a packet are at registers that there are
pub standing_within : (p : Packet) (list : List Asked) → All IsAt list → All IsAt (standing_following p list)
unfolding standing_following
standing_within (WriteQuadlet h offset value) list a = same_within h list a
standing_within (WriteBlock h offset bytes) list a = same_within h list a
standing_within (WriteReply h rcode) list a = a
standing_within (ReadQuadlet h offset) list a =
    request_within (asked h offset Read) (without_same h list) (asked_within h (register_at offset) Read (register_number offset)) (same_within h list a)
standing_within (ReadBlock h offset len) list a = same_within h list a
standing_within (ReadQuadletReply h rcode value) list a = answered_within true h list a
standing_within (ReadBlockReply h rcode bytes) list a = a
standing_within (CycleStart h offset time) list a = a
standing_within (LockRequest h offset function bytes) list a =
    request_within (asked h offset (lock_of function bytes)) (without_same h list)
    (asked_within h (register_at offset) (lock_of function bytes) (register_number offset)) (same_within h list a)
standing_within (LockReply h rcode function bytes) list a = answered_within false h list a

-- ---- answers

rest_within : (q : Asked) (list : List Asked) → All IsAt (q ∷ list) → All IsAt list
rest_within q list a k d h = a (suc k) d (omega (arith, h))

get_within : (list : List Asked) (i : ℕ) → All IsAt list → IfSome (slice_get list i) IsAt
get_within [] i a = tt
get_within (q ∷ list) zero a = a 0 q (omega arith)
get_within (q ∷ list) (suc i) a = get_within list i (rest_within q list a)

at_within : (list : List Asked) (o : Option ℕ) → All IsAt list → IfSome (asked_at list o) IsAt
at_within list None a = tt
at_within list (Some i) a = get_within list i a

request_of : (read : Bool) (h : Head) (list : List Asked) → All IsAt list → IfSome (answered read h list) IsAt
unfolding answered
request_of read h list a = at_within list (position (answers read h) list) a

node_within : (o : Option ℕ) (q : Asked) (found : Option ℕ) → IsAt q → IfSome (answer_of_node o q found) IsOf
node_within None q found n = tt
node_within (Some node) q found n = n

read_within : (o : Option Asked) (value : ℕ) → IfSome o IsAt → IfSome (read_answer o value) IsOf
read_within None value n = tt
read_within (Some q) value n = node_within (node_of q.destination) q (Some value) n

lock_within : (o : Option Asked) (function : ℕ) (bytes : List ℕ) → IfSome o IsAt → IfSome (lock_answer o function bytes) IsOf
lock_within None function bytes n = tt
lock_within (Some q) function bytes n = node_within (node_of q.destination) q (old_word q.asking function bytes) n

answer_if : (b : Bool) (o : Option Answer) → IfSome o IsOf → IfSome (if b then o else None) IsOf
answer_if true o n = n
answer_if false o n = tt

-- an answer is of a register that there is
pub answer_within : (list : List Asked) (p : Packet) → All IsAt list → IfSome (answer_of list p) IsOf
unfolding answer_of
answer_within list (WriteQuadlet h offset value) a = tt
answer_within list (WriteBlock h offset bytes) a = tt
answer_within list (WriteReply h rcode) a = tt
answer_within list (ReadQuadlet h offset) a = tt
answer_within list (ReadBlock h offset len) a = tt
answer_within list (ReadQuadletReply h rcode value) a = answer_if (rcode == 0) (read_answer (answered true h list) value) (read_within (answered true h list) value (request_of true h list a))
answer_within list (ReadBlockReply h rcode bytes) a = tt
answer_within list (CycleStart h offset time) a = tt
answer_within list (LockRequest h offset function bytes) a = tt
answer_within list (LockReply h rcode function bytes) a =
    answer_if (rcode == 0) (lock_answer (answered false h list) function bytes) (lock_within (answered false h list) function bytes (request_of false h list a))
