-- Cycles that are written have one result, if a desk gives one block for each place.
use Rattle.fw_model_run.proofs.Common.{◌≡◌, ℕ, zero, suc, List, [], ◌∷◌, ◌++◌, Option, Some, None, refl}
use Rattle.fw_model_run.proofs.Common.{ap, sym, subst, ◌∙◌, same_Some, PlugAt, ResetEntry, Timed, State, GivenBlock, GivesBlock, talkers}
use Rattle.fw_model_run.proofs.Common.{
  Action,
  StartCycle,
  SendPacket,
  KeepBlock,
  Transitions,
  heard_in,
  next_cycle,
  SendsPackets,
  HasCycle,
  HasCycles,
  DeskRelations,
  IsFunction,
  IsGiven,
  AreGiven,
  IsGood,
}
use Rattle.fw_tape.specs.declared.cassette.BlockPlace.{BlockPlace}
use Rattle.fw_model_run.specs.Carrying.{WritesCycle}
use Rattle.fw_model_run.proofs.Given.{given_append}
use Rattle.fw_model_run.proofs.Runs.{cycle_steps, writes_steps}
use Rattle.fw_model_run.proofs.Steps.{steps_good}
use Rattle.fw_model_run.proofs.OneStep.{Same, one_steps}

one_block : (D : DeskRelations) (only : IsFunction D) (s : State) (p : PlugAt) (x y : Option GivenBlock) → GivesBlock s p x → GivesBlock s p y
    → IsGiven D (SendPacket p x) → IsGiven D (SendPacket p y) → x ≡ y
one_block D only s p None None f g given other = refl
one_block D only s p None (Some y) f g given other = let wrong : None ≡ Some y.place = f.due ∙ sym g.due in absurd (cc wrong)
one_block D only s p (Some x) None f g given other = let wrong : Some x.place ≡ None = f.due ∙ sym g.due in absurd (cc wrong)
one_block D only s p (Some x) (Some y) f g given other =
    let place : x.place ≡ y.place = same_Some x.place y.place (f.due ∙ sym g.due) in
    let there = subst (λ (z : BlockPlace). D.blocks z.tape z.frame z.block y.bytes) (sym place) other in
    let bytes : x.bytes ≡ y.bytes = only.blocks x.place.tape x.place.frame x.place.block x.bytes y.bytes given there in
    λ i. Some (record { place = place i; bytes = bytes i })

one_packets : (D : DeskRelations) (only : IsFunction D) (plugs : List PlugAt) (s t u : State) (xs ys : List Action) (out other : List Timed) → IsGood s
    → AreGiven D xs → AreGiven D ys → SendsPackets plugs s xs out t → SendsPackets plugs s ys other u → Same out t other u
one_packets D only [] s t u xs ys out other g give gave f h = (f.1 ∙ sym h.1, f.2 ∙ sym h.2)
one_packets D only (p ∷ plugs) s t u xs ys out other g give gave f h =
    let given = subst (AreGiven D) f.7 give in
    let given2 = subst (AreGiven D) h.7 gave in
    let same : f.0 ≡ h.0 = one_block D only s p f.0 h.0 f.5.3.may.gives h.5.3.may.gives given.0 given2.0 in
    let now = one_steps s f.1 h.1 (SendPacket p f.0 ∷ []) f.3 h.3 g f.5 (subst (λ b. Transitions s (SendPacket p b ∷ []) h.3 h.1) (sym same) h.5) in
    let good : IsGood f.1 = steps_good s f.1 (SendPacket p f.0 ∷ []) f.3 g f.5 in
    let later = one_packets D only plugs f.1 t u f.2 h.2 f.4 h.4 good given.1 given2.1 f.6 (subst (λ z. SendsPackets plugs z h.2 h.4 u) (sym now.1) h.6) in
    (f.8 ∙ (ap (λ z. z ++ f.4) now.0 ∙ (ap (λ z. h.3 ++ z) later.0 ∙ sym h.8)), later.1)

one_write : (D : DeskRelations) (only : IsFunction D) (s t u : State) (xs ys : List Action) (out other : List Timed) → IsGood s
    → AreGiven D xs → AreGiven D ys → WritesCycle s xs out t → WritesCycle s ys other u → Same out t other u
one_write D only s t u xs ys out other g give gave f h =
    let given = (subst (AreGiven D) f.actions_are give).1.1 in
    let given2 = (subst (AreGiven D) h.actions_are gave).1.1 in
    let now = one_steps s f.mid h.mid (next_cycle s ∷ StartCycle ∷ []) f.first h.first g f.comes h.comes in
    let good : IsGood f.mid = steps_good s f.mid (next_cycle s ∷ StartCycle ∷ []) f.first g f.comes in
    let sends = subst (λ (z : State). SendsPackets (talkers z.account) z h.packets h.last u) (sym now.1) h.sends in
    let later = one_packets D only (talkers f.mid.account) f.mid t u f.packets h.packets f.last h.last good given given2 f.sends sends in
    (f.out_is ∙ (ap (λ z. z ++ f.last) now.0 ∙ (ap (λ z. h.first ++ z) later.0 ∙ sym h.out_is)), later.1)

one_cycle : (D : DeskRelations) (only : IsFunction D) (o : Option ResetEntry) (s t u : State) (xs ys : List Action) (out other : List Timed) → IsGood s
    → AreGiven D xs → AreGiven D ys → HasCycle o s xs out t → HasCycle o s ys other u → Same out t other u
one_cycle D only None s t u xs ys out other g give gave f h = one_steps s t u (next_cycle s ∷ []) out other g f.0 h.0
one_cycle D only (Some e) s t u xs ys out other g give gave f h =
    let given = (given_append D f.written (KeepBlock (heard_in f.sent out) ∷ []) (subst (AreGiven D) f.actions_are give)).0 in
    let given2 = (given_append D h.written (KeepBlock (heard_in h.sent other) ∷ []) (subst (AreGiven D) h.actions_are gave)).0 in
    let sent = one_write D only s f.sent h.sent f.written h.written out other g given given2 f.writes h.writes in
    let good : IsGood f.sent = steps_good s f.sent f.written out g (writes_steps s f.written out f.sent f.writes) in
    let keeps : Transitions f.sent (KeepBlock (heard_in f.sent out) ∷ []) [] u =
    subst (λ z. Transitions z (KeepBlock (heard_in z out) ∷ []) [] u) (sym sent.1) (subst (λ o. Transitions h.sent (KeepBlock (heard_in h.sent o) ∷ []) [] u) (sym sent.0) h.keeps) in
    let kept = one_steps f.sent t u (KeepBlock (heard_in f.sent out) ∷ []) [] [] good f.keeps keeps in
    (sent.0, kept.1)

pub one_cycles : (D : DeskRelations) (only : IsFunction D) (n : ℕ) (s t u : State) (xs ys : List Action) (out other : List Timed) → IsGood s
    → AreGiven D xs → AreGiven D ys → HasCycles n s xs out t → HasCycles n s ys other u → Same out t other u
unfolding HasCycles
one_cycles D only zero s t u xs ys out other g give gave f h = (f.1 ∙ sym h.1, f.2 ∙ sym h.2)
one_cycles D only (suc n) s t u xs ys out other g give gave f h =
    let given = given_append D f.1 f.2 (subst (AreGiven D) f.7 give) in
    let given2 = given_append D h.1 h.2 (subst (AreGiven D) h.7 gave) in
    let now = one_cycle D only s.account.latest s f.0 h.0 f.1 h.1 f.3 h.3 g given.0 given2.0 f.5 h.5 in
    let good : IsGood f.0 = steps_good s f.0 f.1 f.3 g (cycle_steps s.account.latest s f.1 f.3 f.0 f.5) in
    let later = one_cycles D only n f.0 t u f.2 h.2 f.4 h.4 good given.1 given2.1 f.6 (subst (λ z. HasCycles n z h.2 h.4 u) (sym now.1) h.6) in
    (f.8 ∙ (ap (λ z. z ++ f.4) now.0 ∙ (ap (λ z. h.3 ++ z) later.0 ∙ sym h.8)), later.1)
