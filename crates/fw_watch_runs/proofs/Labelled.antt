-- In a run the locks at watched registers have the label of procedures.
use Rattle.fw_watch_runs.proofs.Common.{◌≡◌, refl, ap, sym, ◌∙◌, subst, ℕ, ◌+◌, ◌==◌, Bool, true, false, List, length, if◌then◌else◌, Option, Some, None, is_some, option_map, arith, ⊤, nat_tests}
use Rattle.fw_watch_runs.proofs.Common.{same_Some, Procedure, label_code, Head, Packet, Reply, Entry, Async, packet_of, WatchedRegister, register_at, Access, Read, Swap, half, access_request, State}
use Rattle.fw_watch_runs.proofs.Common.{IsLabelledIn}
use Rattle.fw_csr.specs.declared.request.Request.{Request}
use Rattle.fw_csr.specs.declared.request.Request.TheVariants as Asks
use Rattle.fw_model_account.specs.Words.{first_address}
use Rattle.fw_cmp.specs.declared.current.Current.{Current}
use Rattle.fw_cmp.specs.declared.current.Current.TheVariants.{Nothing, Asking, Hearing, Overtaken}
use Rattle.fw_cmp.specs.declared.outcome.Next.{Next}
use Rattle.fw_cmp.specs.declared.outcome.Next.TheVariants.{Send, End as EndJob, Idle, Waiting, Deaf, Force}
use Rattle.fw_cmp_jobs.specs.declared.request.Access.{Access as Controlled}
use Rattle.fw_cmp_jobs.specs.Requests.{access_of, request_of, addressee_of}
use Rattle.fw_node.specs.Packets.{response_to}
use Rattle.fw_watch_remarks.specs.declared.register.WatchedRegister.TheVariants.{Bandwidth, ChannelsHigh, ChannelsLow, Output, Input}
use Rattle.fw_model_run.specs.Frames.{write_request}
use Rattle.fw_model_run.specs.HalfSteps.{head_from, said, hears_from, hears, half_of}
use Rattle.fw_model_run.specs.Named.{is_guarded_at}
use Rattle.fw_model_run.specs.State.{directory_of}
use Rattle.fw_watch_laws.specs.LastKnown.{IsNumber}
use Rattle.fw_watch_laws.specs.Orderly.{IsLabelled, offset_of}
use Rattle.fw_watch_laws.proofs.Offsets.{offset_at}
use Rattle.fw_watch_laws.proofs.Swaps.{number_of}
use Rattle.fw_watch_runs.specs.Elsewhere.{SwapsElsewhere}

-- ---- packets

-- what asks under the label of procedures
own_labelled : (h : Head) (q : Request) → h.tl ≡ label_code Procedure → IsLabelled (packet_of h q)
own_labelled h (Asks.Read offset) e = tt
own_labelled h (Asks.ReadBlock offset len) e = tt
own_labelled h (Asks.Write offset value) e = tt
own_labelled h (Asks.WriteBlock offset bytes) e = tt
own_labelled h (Asks.Lock offset function bytes) e = λ there. e

answer_is : (x r : Packet) → Some x ≡ Some r → IsLabelled x → IsLabelled r
answer_is x r e f = subst IsLabelled (same_Some x r e) f

-- a response is no lock
pub response_labelled : (n : ℕ) (h : Head) (q : Request) (a : Reply) (r : Packet) → response_to n (packet_of h q) a ≡ Some r → IsLabelled r
response_labelled n h (Asks.Read offset) a r e = answer_is _ r e tt
response_labelled n h (Asks.ReadBlock offset len) a r e = answer_is _ r e tt
response_labelled n h (Asks.Write offset value) a r e = answer_is _ r e tt
response_labelled n h (Asks.WriteBlock offset bytes) a r e = answer_is _ r e tt
response_labelled n h (Asks.Lock offset function bytes) a r e = answer_is _ r e tt

-- the entry, if there is one
abbrev pub IsLabelledSome : Option Entry → Type 0
IsLabelledSome None = ⊤
IsLabelledSome (Some e) = IsLabelledIn e

pub response_some : (o : Option Packet) (n : ℕ) (h : Head) (q : Request) (a : Reply) → response_to n (packet_of h q) a ≡ o → IsLabelledSome (option_map Async o)
response_some None n h q a e = tt
response_some (Some r) n h q a e = response_labelled n h q a r e

-- ---- watched registers are guarded

guarded : (g : WatchedRegister) → IsNumber g → is_guarded_at (offset_of g) ≡ true
guarded Bandwidth h = refl
guarded ChannelsHigh h = refl
guarded ChannelsLow h = refl
guarded (Output k) h = grind (arith, nat_tests, h)
guarded (Input k) h = grind (arith, nat_tests, h)

unwatched : (o : Option WatchedRegister) (offset : ℕ) → is_guarded_at offset ≡ false → register_at (first_address + offset) ≡ o → is_some o ≡ false
unwatched None offset f e = refl
unwatched (Some g) offset f e =
    let at = offset_at (first_address + offset) g e in
    let same : offset ≡ offset_of g = omega (arith, at) in
    let yes = guarded g (number_of (first_address + offset) g e) in
    let no : is_guarded_at (offset_of g) ≡ false = ap is_guarded_at (sym same) ∙ f in
    cc

not_some : (b : Bool) → b ≡ false → b ≡ true → ⊥
not_some b e f = cc

-- ---- what writes them

pub script_labelled : (h : Head) (a : Access) → SwapsElsewhere a → IsLabelled (packet_of h (access_request a))
script_labelled h (Read offset) f = tt
script_labelled h (Swap offset swap) f = λ there. absurd (not_some (is_some (register_at (first_address + offset))) (unwatched (register_at (first_address + offset)) offset f refl) there)

frame_by : (b : Bool) (h : Head) (offset value : ℕ) (bytes : List ℕ) → IsLabelled (packet_of h (if b then Asks.Write offset value else Asks.WriteBlock offset bytes))
frame_by true h offset value bytes = tt
frame_by false h offset value bytes = tt

pub frame_labelled : (h : Head) (offset : ℕ) (bytes : List ℕ) → IsLabelled (packet_of h (write_request offset bytes))
frame_labelled h offset bytes = frame_by (length bytes == 4) h offset _ bytes

said_labelled : (s : State) (d : ℕ) (n : Next) → IsLabelledSome (said s d n)
said_labelled s d (Send to q) = own_labelled (head_from s d to) _ refl
said_labelled s d (EndJob slot outcome) = tt
said_labelled s d Idle = tt
said_labelled s d (Waiting until) = tt
said_labelled s d (Deaf until) = tt
said_labelled s d Force = tt

hears_to : (o : Option ℕ) (s : State) (d : ℕ) (a : Controlled) → IsLabelledSome (hears_from s d o a).says
hears_to None s d a = tt
hears_to (Some to) s d a = response_some _ to (head_from s d to) (request_of a) _ refl

hears_labelled : (o : Option Controlled) (s : State) (d : ℕ) → IsLabelledSome (hears s d o).says
hears_labelled None s d = tt
hears_labelled (Some a) s d = hears_to (addressee_of (directory_of s) a.target) s d a

half_by : (c : Current) (s : State) (d : ℕ) → IsLabelledSome (half_of s d c).says
half_by Nothing s d = said_labelled s d _
half_by (Asking j stage) s d = said_labelled s d _
half_by (Hearing j stage) s d = hears_labelled (access_of j stage) s d
half_by (Overtaken slot outcome) s d = said_labelled s d _

-- the half step of a controller
pub half_labelled : (s : State) (d : ℕ) → IsLabelledSome (half s d).says
half_labelled s d = half_by (s.controllers d).current s d
