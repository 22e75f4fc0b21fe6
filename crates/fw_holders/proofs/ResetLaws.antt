-- A bus reset of which no more is known than its line tells.
use Rattle.fw_holders.proofs.Common.{
  ◌≡◌,
  ℕ,
  ◌+◌,
  ◌<◌,
  ◌^◌,
  Option,
  Some,
  None,
  List,
  ◌++◌,
  length,
  codes,
  decimal,
  refl,
  ap,
  sym,
  ◌∙◌,
  Reset,
  ResetEntry,
  NodeRow,
  Account,
  StandsFor,
  IsWithin,
  HolderState,
}
use Rattle.fw_holders.proofs.Common.{TakesMore, line}
use Rattle.std.proofs.Common.{slice_get}
use Rattle.fw_model_account.specs.Events.{after_reset}
use Rattle.fw_audit.proofs.Audits.{other_clear}
use Rattle.fw_holders_text.specs.Names.{count_text, who}
use Rattle.fw_log_latest.specs.Latest.{IsBusOf}
use Rattle.fw_holders.specs.Deeds.{initiator_text, manager_text, reset_text}
use Rattle.fw_holders.proofs.PassLaws.{entry_at}

same_initiator : (a b : ResetEntry) (o : Option NodeRow) → a.nodes ≡ b.nodes → initiator_text a o ≡ initiator_text b o
unfolding initiator_text
same_initiator a b None same = refl
same_initiator a b (Some row) same = ap (λ nodes. who nodes row.device) same

-- it is told as the whole reset
same_told : (whole r : ResetEntry) → IsBusOf whole r → reset_text whole ≡ reset_text r
unfolding reset_text
same_told whole r x =
    ap (λ (n : ℕ). codes "bus reset " ++ decimal n ++ codes " by " ++ initiator_text whole (slice_get whole.nodes whole.initiator) ++ codes ", "
    ++ count_text (length whole.nodes) (codes "node") ++ manager_text whole.manager) x.epoch
    ∙ ap (λ (text : List ℕ). codes "bus reset " ++ decimal r.epoch ++ codes " by " ++ text ++ codes ", " ++ count_text (length whole.nodes) (codes "node") ++ manager_text whole.manager) first
    ∙ ap (λ (nodes : List NodeRow). codes "bus reset " ++ decimal r.epoch ++ codes " by " ++ initiator_text r (slice_get r.nodes r.initiator) ++ codes ", "
    ++ count_text (length nodes) (codes "node") ++ manager_text whole.manager) x.nodes
    ∙ ap (λ (m : Option ℕ). codes "bus reset " ++ decimal r.epoch ++ codes " by " ++ initiator_text r (slice_get r.nodes r.initiator) ++ codes ", "
    ++ count_text (length r.nodes) (codes "node") ++ manager_text m) x.manager
  where
    first : initiator_text whole (slice_get whole.nodes whole.initiator) ≡ initiator_text r (slice_get r.nodes r.initiator)
    first = same_initiator whole r (slice_get whole.nodes whole.initiator) x.nodes ∙ ap (λ (nodes : List NodeRow). initiator_text r (slice_get nodes whole.initiator)) x.nodes
        ∙ ap (λ (n : ℕ). initiator_text r (slice_get r.nodes n)) x.initiator

-- it is counted, and its line is appended
pub reset_more : (l : Account) (cycle : ℕ) (r bus : ResetEntry) (old new : HolderState) → IsBusOf r bus → StandsFor new.tables (after_reset r l)
    → ((n : ℕ) → n + 1 < 2 ^ 64 → IsWithin n old.judged → new.judged ≡ record old.judged { resets = old.judged.resets + 1 })
    → new.text ≡ old.text ++ line cycle (reset_text bus) (after_reset r l) → TakesMore l (entry_at cycle (Reset r)) old new
reset_more l cycle r bus old new is stands counts put = record {
  clear = other_clear l;
  account = after_reset r l;
  follows = refl;
  stands = stands;
  judged = counts;
  text = put ∙ ap (λ what. old.text ++ line cycle what (after_reset r l)) (sym (same_told r bus is));
}
