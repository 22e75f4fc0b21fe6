-- The entries of each action of a run.
use Rattle.fw_watch_runs.proofs.Common.{◌≡◌, refl, ap, sym, subst, ℕ, Bool, true, false, List, [], ◌∷◌, ◌++◌, ◌==◌, is_some, if◌then◌else◌, Option, Some, None, ⊤, All, Head, WatchedRegister}
use Rattle.fw_watch_runs.proofs.Common.{register_at, Entry, Async, Timed, packet_of, Action, HalfStep, Ask, Answer, Contend, Transition, Transitions, at_most}
use Rattle.fw_watch_runs.proofs.Common.{target_node, transaction_head, access_request, reply_from, State, first_state, IsLabelledIn, IsOrderly, IsElsewhere, AreElsewhere}
use Rattle.std.proofs.lemmas.List.Elements.{All-cons, All-nil}
use Rattle.fw_watch_remarks.specs.Registers.{plug_number}
use Rattle.fw_csr.specs.declared.offset.TheConstants.{BUS_MANAGER_ID}
use Rattle.fw_log_entry.specs.Log.{InOrder}
use Rattle.fw_model_account.specs.Words.{node_of}
use Rattle.fw_script_command.specs.declared.command.Command.{Command}
use Rattle.fw_script_command.specs.declared.command.Command.TheVariants as Commands
use Rattle.fw_manager.specs.Bids.{CandidateState, bid_request, stage_in}
use Rattle.fw_manager.specs.declared.candidate.BidProgress.{BidProgress}
use Rattle.fw_manager.specs.declared.candidate.BidProgress.TheVariants.{Fresh, Asked, Heard, Answered}
use Rattle.fw_manager.specs.declared.bid.Bid.TheVariants.{Elected, Defeated}
use Rattle.fw_model_run.specs.Actions.{AddDevice, AddCable, CarryOut, Lose}
use Rattle.fw_model_run.specs.Actions.{SendCommand, SendFrame, Receive}
use Rattle.fw_model_run.specs.Decks.{FrameWrite}
use Rattle.fw_model_run.specs.Deed.{Deed}
use Rattle.fw_model_run.specs.Deeds.{deed}
use Rattle.fw_model_run.specs.Found.{Found}
use Rattle.fw_model_run.specs.Bidding.{bid_head, bid_said, bid_at, bid_step, own_node, epoch_at}
use Rattle.fw_model_run.specs.Frames.{command_write, response_write, request_of, frame_head, frame_packet}
use Rattle.fw_model_run.specs.Logs.{HasNoEnd}
use Rattle.fw_model_run.specs.Runs.{Run}
use Rattle.fw_model_run.proofs.Audits.{run_audited}
use Rattle.fw_model_run.proofs.Forms.{of_declaring, of_joining, of_stepping}
use Rattle.fw_model_run.proofs.Logs.{run_opens, run_spells}
use Rattle.fw_model_run.proofs.Runs.{run_steps}
use Rattle.fw_watch_laws.specs.Orderly.{IsLabelled}
use Rattle.fw_watch_laws.proofs.AtManager.{swap_at_manager}
use Rattle.fw_watch_laws.proofs.Many.{none_too_many}
use Rattle.fw_watch_laws.proofs.More.{none_more}
use Rattle.fw_watch_laws.proofs.Several.{none_several}
use Rattle.fw_watch_runs.specs.Elsewhere.{HasNoBadSwap}
use Rattle.fw_watch_runs.proofs.Labelled.{IsLabelledSome, response_labelled, response_some, script_labelled, frame_labelled, half_labelled}
use Rattle.fw_watch_runs.proofs.RunsElsewhere.{run_elsewhere}

-- ---- entries

abbrev pub AreLabelled : List Timed → Type 0
AreLabelled [] = ⊤
AreLabelled (t ∷ ts) = IsLabelledIn t.what × AreLabelled ts

labelled_then : (xs ys : List Timed) → AreLabelled xs → AreLabelled ys → AreLabelled (xs ++ ys)
labelled_then [] ys f g = g
labelled_then (x ∷ xs) ys f g = (f.0, labelled_then xs ys f.1 g)

most : (cycle : ℕ) (o : Option Entry) (out : List Timed) → IsLabelledSome o → out ≡ at_most cycle o → AreLabelled out
most cycle None out f is = subst AreLabelled (sym is) tt
most cycle (Some e) out f is = subst AreLabelled (sym is) (f, tt)

nothing : (out : List Timed) → out ≡ [] → AreLabelled out
nothing out is = subst AreLabelled (sym is) tt

-- ---- candidates

unwatched : register_at BUS_MANAGER_ID ≡ None
unfolding register_at plug_number
unwatched = refl

bid_request_labelled : (h : Head) (node : ℕ) → IsLabelled (packet_of h (bid_request node))
bid_request_labelled h node = λ there. (let no : is_some (register_at BUS_MANAGER_ID) ≡ false = ap (λ (o : Option WatchedRegister). is_some o) unwatched in cc)

ended_by : (b : Bool) (s : State) (d word : ℕ) → IsLabelledSome (bid_said s d (if b then Elected else Defeated word))
ended_by true s d word = tt
ended_by false s d word = tt

bid_at_labelled : (x : BidProgress) (s : State) (d manager : ℕ) (c : CandidateState) → IsLabelledSome (bid_at s d manager c x).says
bid_at_labelled Fresh s d manager c = bid_request_labelled (bid_head manager (own_node s d)) (own_node s d)
bid_at_labelled Asked s d manager c = response_some _ manager (bid_head manager (own_node s d)) (bid_request (own_node s d)) (reply_from s manager (bid_request (own_node s d))) refl
bid_at_labelled (Heard word) s d manager c = ended_by (word == 0x3F) s d word
bid_at_labelled Answered s d manager c = tt

bid_labelled : (s : State) (d manager : ℕ) (c : CandidateState) → IsLabelledSome (bid_step s d manager c).says
bid_labelled s d manager c = bid_at_labelled (stage_in (epoch_at s) c) s d manager c

-- ---- actions

written_labelled : (s : State) (w : FrameWrite) → IsLabelledSome (Some (Async (frame_packet s w)))
written_labelled s w = frame_labelled (frame_head s w) w.offset w.bytes

says_labelled : (s : State) (a : Action) (found : Found s a) → IsElsewhere a → (deed s a found).may → IsLabelledSome (deed s a found).says
says_labelled s (AddDevice name kind ports speed) found e may = of_declaring (λ (x : Deed). IsLabelledSome x.says) s name kind ports speed found (λ m e. tt) (λ m. tt)
says_labelled s (AddCable a b) found e may = of_joining (λ (x : Deed). IsLabelledSome x.says) s a b found (λ m e. tt) (λ m. tt)
says_labelled s (HalfStep d) found e may = of_stepping (λ (x : Deed). IsLabelledSome x.says) s d found (half_labelled s d) tt (λ m e. tt)
says_labelled s (CarryOut d) found e may = half_labelled s d
says_labelled s (Lose d) found e may = half_labelled s d
says_labelled s (Ask y) found e may = script_labelled (transaction_head s y) y.access e
says_labelled s Answer found e may =
    let x = found.transaction in response_labelled (target_node s x) (transaction_head s x) (access_request x.access) _ found.response may
says_labelled s (SendCommand a b bytes) found e may = written_labelled s (command_write a b bytes)
says_labelled s (SendFrame d) found e may = written_labelled s (response_write d found.to found.frame)
says_labelled s (Receive obeyed) found e may =
    let w = found.write in response_labelled (node_of s.account.latest w.to) (frame_head s w) (request_of w) _ found.response may.answered
says_labelled s (Contend d) found e may = bid_labelled s d found.manager found.candidate
says_labelled s _ found e may = tt

pub step_labelled : (s t : State) (a : Action) (out : List Timed) → IsElsewhere a → Transition s a out t → AreLabelled out
step_labelled s t a out e x = most (deed s a x.found).cycle (deed s a x.found).says out (says_labelled s a x.found e x.may) x.out_is

steps_labelled : (s t : State) (actions : List Action) (out : List Timed) → AreElsewhere actions → Transitions s actions out t → AreLabelled out
steps_labelled s t [] out e f = nothing out f.0
steps_labelled s t (a ∷ actions) out e f =
    subst AreLabelled (sym f.4) (labelled_then f.0 f.1 (step_labelled s f.2 a f.0 e.0 f.3) (steps_labelled f.2 t actions f.1 e.1 f.5))

-- ---- runs

all_labelled : (ts : List Timed) → AreLabelled ts → All (λ t. IsLabelledIn t.what) ts
all_labelled [] a = All-nil (λ (t : Timed). IsLabelledIn t.what)
all_labelled (t ∷ ts) a = All-cons (λ (x : Timed). IsLabelledIn x.what) t ts a.0 (all_labelled ts a.1)

orderly : (commands : List Command) (actions : List Action) (log : List Timed) (s : State) → Run commands actions log s → InOrder 0 log → IsOrderly log
orderly commands actions log s r o =
    let steps : Transitions first_state actions log s = run_steps commands actions log s r in
    record { order = o; audited = run_audited actions log s steps; labels = all_labelled log (steps_labelled first_state s actions log (run_elsewhere commands actions log s r) steps) }

pub run_orderly : (commands : List Command) (actions : List Action) (log : List Timed) (s : State) → Run commands actions log s → HasNoEnd commands → IsOrderly log
run_orderly commands actions log s r n = orderly commands actions log s r (run_opens commands actions log s r n).order

pub whole_orderly : (commands : List Command) (actions : List Action) (log : List Timed) (s : State) → Run (commands ++ Commands.End ∷ []) actions log s → HasNoEnd commands → IsOrderly log
whole_orderly commands actions log s r n = orderly (commands ++ Commands.End ∷ []) actions log s r (run_spells commands actions log s r n).opens.order

pub no_bad_swap : (log : List Timed) → IsOrderly log → HasNoBadSwap log
no_bad_swap log o = record { manager = swap_at_manager log o; units = none_too_many log o; channels = none_several log o; plugs = none_more log o }

pub run_swaps : (commands : List Command) (actions : List Action) (log : List Timed) (s : State) → Run commands actions log s → HasNoEnd commands → HasNoBadSwap log
run_swaps commands actions log s r n = no_bad_swap log (run_orderly commands actions log s r n)

pub whole_swaps : (commands : List Command) (actions : List Action) (log : List Timed) (s : State) → Run (commands ++ Commands.End ∷ []) actions log s → HasNoEnd commands → HasNoBadSwap log
whole_swaps commands actions log s r n = no_bad_swap log (whole_orderly commands actions log s r n)
