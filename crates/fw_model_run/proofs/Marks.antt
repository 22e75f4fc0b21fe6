-- What an entry marks: a bus reset, the end of a second, the end of the log, or none of these; and that of a half step marks none.
use Rattle.fw_model_run.proofs.Common.{◌≡◌, ◌∷◌, Bool, true, false, Option, Some, None, refl, ap, sym, cond, option_map, ◌==◌, ◌∙◌, [], ℕ, Packet, Async, End, Event, Iso, Outcome, Reset, Shown, Entry}
use Rattle.fw_model_run.proofs.Common.{ResetEntry, Timed, Heard, CandidateState, stage_in, Hearing, Current, EndOf, Send}
use Rattle.fw_model_run.proofs.Common.{Next, Access, access_of, addressee_of, next, Action, EndSecond, Finish, bid_at}
use Rattle.fw_model_run.proofs.Common.{bid_step, epoch_at, at_cycle, at_most, half, half_of, head_from, said, answer_packet, State, directory_of}
use Rattle.fw_log_entry.specs.declared.codes.event.TheConstants.{SECOND_OVER}
use Rattle.fw_manager.specs.declared.bid.Bid.TheVariants.{Defeated, Elected}
use Rattle.fw_manager.specs.declared.candidate.BidProgress.{BidProgress as BidStage}
use Rattle.fw_cmp_jobs.specs.Requests.{request_of}
use Rattle.fw_model_run.specs.Bidding.{bid_said}
use Rattle.fw_model_run.specs.HalfSteps.{hears, hears_from}

pub data Mark : Type 0 where
  Opens : Mark  -- a bus reset
  Ends : Mark  -- the end of a second
  Closes : Mark  -- the end of the log
  Neither : Mark

abbrev pub event_mark : Bool → Mark
event_mark true = Ends
event_mark false = Neither

abbrev pub mark : Option Entry → Mark
mark None = Neither
mark (Some (Reset r)) = Opens
mark (Some (Async p)) = Neither
mark (Some (Iso p)) = Neither
mark (Some (Event e)) = event_mark (e.code == SECOND_OVER)
mark (Some (Outcome o)) = Neither
mark (Some (Shown w)) = Neither
mark (Some End) = Closes

-- the end of the second alone writes that a second ends, and the end of the script alone writes the end of the log
pub data Marks (a : Action) (o : Option Entry) : Type 0 where
  nothing : mark o ≡ Neither → Marks a o
  ends : a ≡ EndSecond → mark o ≡ Ends → Marks a o
  closes : a ≡ Finish → mark o ≡ Closes → Marks a o

-- ---- half steps

pub half_mark : (s : State) (d : ℕ) → mark (half s d).says ≡ Neither
half_mark s d = go (s.controllers d).current
  where
    said_mark : (x : Next) → mark (said s d x) ≡ Neither
    said_mark (Send to q) = refl
    said_mark (EndOf i o) = refl
    said_mark _ = refl

    packet : (o : Option Packet) → mark (option_map Async o) ≡ Neither
    packet None = refl
    packet (Some p) = refl

    from : (o : Option ℕ) (a : Access) → mark (hears_from s d o a).says ≡ Neither
    from None a = refl
    from (Some to) a = packet (answer_packet s to (head_from s d to) (request_of a))

    heard : (o : Option Access) → mark (hears s d o).says ≡ Neither
    heard None = refl
    heard (Some a) = from (addressee_of (directory_of s) a.target) a

    go : (c : Current) → mark (half_of s d c).says ≡ Neither
    go (Hearing j stage) = heard (access_of j stage)
    go _ = said_mark (next s.clock.cycle (directory_of s) (s.controllers d))

pub bid_mark : (s : State) (d manager : ℕ) (c : CandidateState) → mark (bid_step s d manager c).says ≡ Neither
bid_mark s d manager c = go (stage_in (epoch_at s) c)
  where
    ends_so : (b : Bool) (word : ℕ) → mark (bid_said s d (cond b Elected (Defeated word))) ≡ Neither
    ends_so true word = refl
    ends_so false word = refl

    go : (stage : BidStage) → mark (bid_at s d manager c stage).says ≡ Neither
    go (Heard word) = ends_so (word == 0x3F) word
    go _ = refl

-- ---- what follows

-- what is no bus reset
pub no_reset : (c d : ℕ) (e : ResetEntry) (a : Action) (o : Option Entry) → Marks a o → at_cycle c (Reset e) ∷ [] ≡ at_most d o → ⊥
no_reset c d e a None m is = cc is
no_reset c d e a (Some y) m is = go m
  where
    same : Reset e ≡ y
    same = let first : at_cycle c (Reset e) ≡ at_cycle d y = cc is in ap (λ (z : Timed). z.what) first

    opens : mark (Some y) ≡ Opens
    opens = ap (λ z. mark (Some z)) (sym same)

    go : Marks a (Some y) → ⊥
    go (nothing f) = let clash : Opens ≡ Neither = sym opens ∙ f in cc clash
    go (ends of f) = let clash : Opens ≡ Ends = sym opens ∙ f in cc clash
    go (closes of f) = let clash : Opens ≡ Closes = sym opens ∙ f in cc clash
