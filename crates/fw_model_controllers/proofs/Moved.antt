-- What each stage's half step starts from, and a controller that stays in step over its own move.
use Rattle.fw_model_controllers.proofs.Common.{PlugAt, ConnectionKind, ◌≡◌, ℕ, ◌+◌, ◌<◌, ◌≤◌, Bool, true, false, Option, Some}
use Rattle.fw_model_controllers.proofs.Common.{refl, ap, subst, sym, ◌∙◌, ◌&&◌, Swap, Reply, Account, Move, AllocateChannel}
use Rattle.fw_model_controllers.proofs.Common.{AllocateUnits, ConnectFirst, ConnectOverlaid, DisconnectInput, DisconnectOutput, ReleaseUnits, ReleaseChannel}
use Rattle.fw_model_controllers.proofs.Common.{Can, after, is_output, is_input, IsSound, word_of, Job}
use Rattle.fw_model_controllers.proofs.Common.{HeldResources, Stage, Target, kind_of, output_of, input_of, JobFits, StageFits}
use Rattle.fw_model_controllers.proofs.Common.{pending_of, has_output, has_input, job_outputs, job_inputs, count_of, Holding, IsAnswer}
use Rattle.fw_model_controllers.proofs.Common.{register_at, succeeds, Others, reservation, holding, allocates, IsInStep}
use Rattle.std.proofs.Common.{IsTrue}
use Rattle.fw_plug.specs.Words.{FitsRegister}
use Rattle.fw_model_account.specs.Account.{counter}
use Rattle.fw_model_account.specs.Moves.{ConnectInput}
use Rattle.fw_model_controllers.specs.Holding.{one_at, holding_after}
use Rattle.fw_model_controllers.specs.InStep.{works, SwapIsMove}
use Rattle.fw_model_controllers.proofs.Holdings.{own_move, move_keeps}
use Rattle.fw_model_controllers.proofs.Decisions.{IsNext}
use Rattle.fw_model_controllers.proofs.Goes.{IsSeen, goes, holds_same}
use Rattle.fw_model_controllers.proofs.Answers.{IsComplete, shown_argument}

-- controller c hears this answer to its job's request
pub record Hears (l : Account) (c : ℕ) (j : Job) (s : Stage) (others : Others) (t : Target) (r : Reply) : Type 0 where
  pub below : c < 63
  pub sound : IsSound l
  pub job : JobFits j
  pub stage : StageFits j s
  pub step : IsInStep l c j s true others
  pub answer : IsAnswer l t r

-- if the word is the swap's argument, its swap is a move
pub moves_by : (l : Account) (c : ℕ) (t : Target) (r : Reply) (given : Swap) (m : Option (PlugAt × Move)) → IsComplete l t r → (word_of l (register_at t) ≡ given.argument → SwapIsMove l c t given m)
    → (swap : Swap) → Some given ≡ Some swap → IsTrue (succeeds (Some swap) r) → SwapIsMove l c t swap m
moves_by l c t r given m is f swap e y =
    let same : given ≡ swap = cc in
    subst (λ x. SwapIsMove l c t x m) same (f (shown_argument l t r given.argument is (subst (λ x. succeeds (Some x) r ≡ true) (sym same) y)))

pub same_addressed : (c : ℕ) (p : PlugAt) (m : Move) (l : Account) → (after c p m l).addressed c ≡ l.addressed c
same_addressed c p (AllocateChannel ch) l = refl
same_addressed c p (AllocateUnits ch u) l = refl
same_addressed c p (ConnectFirst kind ch overhead) l = refl
same_addressed c p (ConnectOverlaid kind) l = refl
same_addressed c p (ConnectInput kind ch) l = refl
same_addressed c p (DisconnectInput kind) l = refl
same_addressed c p (DisconnectOutput kind) l = refl
same_addressed c p (ReleaseUnits ch u) l = refl
same_addressed c p (ReleaseChannel ch) l = refl

-- what the job has at stage t is what its move has left
pub record IsLeft (h : Holding) (j : Job) (t : Stage) (others : Others) : Type 0 where
  pub reserved : h.reserved ≡ reservation (output_of j.connection) (pending_of t)
  pub outputs : (kind : ConnectionKind) (q : PlugAt) → h.outputs kind q ≡ others.outputs kind q + job_outputs j t kind q
  pub inputs : (kind : ConnectionKind) (q : PlugAt) → h.inputs kind q ≡ others.inputs kind q + job_inputs j t kind q

pub moved : (l : Account) (c : ℕ) (j : Job) (s t : Stage) (others : Others) (p : PlugAt) (m : Move) (h : Option HeldResources) (out into seen found : Bool) → c < 63 → IsSound l → Can c p m l
    → works s ≡ true
    → IsInStep l c j s true others → (seen ≡ true → (q : PlugAt) → output_of j.connection ≡ Some q → IsSeen l c q)
    → (found ≡ true → (q : PlugAt) → input_of j.connection ≡ Some q → is_input l.latest q ≡ true) → IsNext (after c p m l) j h out into (allocates s) seen found t
    → IsLeft (holding_after c p m l (holding j s others)) j t others → IsInStep (after c p m l) c j t false others
moved l c j s t others p m h out into seen found lt sound can working i saw had n left =
    goes l (after c p m l) c j s t others h out into seen found (move_keeps c p m l can) (same_addressed c p m l) working i saw had n
    (holds_same (after c p m l) c (holding_after c p m l (holding j s others)) (holding j t others) (own_move c p m l (holding j s others) lt sound can i.holds) left.reserved left.outputs left.inputs)

-- the reservation of a job
pub reserved_is : (j : Job) (p : PlugAt) (h : HeldResources) → output_of j.connection ≡ Some p
    → Some (record { plug = p; channel = h.channel; units = h.units }) ≡ reservation (output_of j.connection) (Some h)
reserved_is j p h e = ap (λ o. reservation o (Some h)) (sym e)

-- the job's own connection
pub one_output : (j : Job) (p : PlugAt) → output_of j.connection ≡ Some p → (kind : ConnectionKind) (q : PlugAt) → one_at (kind_of j.connection) p kind q ≡ count_of (has_output j.connection kind q)
one_output j p e kind q = rw e refl

pub one_input : (j : Job) (p : PlugAt) → input_of j.connection ≡ Some p → (kind : ConnectionKind) (q : PlugAt) → one_at (kind_of j.connection) p kind q ≡ count_of (has_input j.connection kind q)
one_input j p e kind q = rw e refl

-- nothing at plugs changes
pub stays_at_plugs : (l : Account) (j : Job) (s t : Stage) (others : Others) (h : Holding) (held : Option HeldResources) (out into may seen found : Bool) → IsNext l j held out into may seen found t
    → h.reserved ≡ reservation (output_of j.connection) held → ((kind : ConnectionKind) (q : PlugAt) → h.outputs kind q ≡ others.outputs kind q + count_of (out && has_output j.connection kind q))
    → ((kind : ConnectionKind) (q : PlugAt) → h.inputs kind q ≡ others.inputs kind q + count_of (into && has_input j.connection kind q)) → IsLeft h j t others
stays_at_plugs l j s t others h held out into may seen found n e f g = record {
  reserved = e ∙ ap (reservation (output_of j.connection)) (sym n.pending);
  outputs = λ kind q. f kind q ∙ ap (λ x. others.outputs kind q + x) (sym (n.output kind q));
  inputs = λ kind q. g kind q ∙ ap (λ x. others.inputs kind q + x) (sym (n.input kind q));
}

-- ---- the account's plugs

pub settings_fit : (l : Account) (p : PlugAt) → IsSound l → is_output l.latest p ≡ true → FitsRegister (l.settings p)
settings_fit l p s e = s.settings_fit p e

pub outputs_fit : (l : Account) (p : PlugAt) → IsSound l → counter (l.outputs p) ≤ 63
outputs_fit l p s = (s.counts p).0

pub inputs_fit : (l : Account) (p : PlugAt) → IsSound l → counter (l.inputs p) ≤ 63
inputs_fit l p s = (s.counts p).1
