-- What follows from a command whose response waits.
use Rattle.std.proofs.Common.{◌≡◌, ℕ, List, Option, Some, None, refl, sym, ◌∙◌, ap, subst}
use Rattle.fw_csr.specs.declared.request.Request.{Request}
use Rattle.fw_fcp.specs.declared.frame.Frame.{Frame}
use Rattle.fw_tape.specs.Desks.{VendorRelation}
use Rattle.fw_avc.specs.State.{UnitState}
use Rattle.fw_avc.specs.Replies.{unit_after}
use Rattle.fw_node.specs.State.{NodeState}
use Rattle.fw_fcp.specs.Frames.{spelling}
use Rattle.fw_node.specs.Fcp.{command_bytes, IsCommand, Follows, HasFollowed}
use Rattle.fw_node.specs.Waiting.{HoldsResponse}

abbrev with_response : NodeState → UnitState → Option (ℕ × Frame) → NodeState
with_response n u waiting = record n { unit = Some u; waiting = waiting }

same_unit : (u v : UnitState) → Some v ≡ Some u → v ≡ u
same_unit u v e = ap (λ (o : Option UnitState). elim o [ Some x ↦ x | None ↦ u ]) e

pub same_bytes : (r : Request) (bytes : List ℕ) (f : Frame) → command_bytes r ≡ Some bytes → IsCommand (Some r) f → bytes ≡ spelling f
same_bytes r bytes f e h = ap (λ (o : Option (List ℕ)). elim o [ Some x ↦ x | None ↦ bytes ]) (sym e ∙ h.written)

follows : (V : VendorRelation) (from : ℕ) (f : Frame) (u after : UnitState) (n : NodeState) (waiting : Option (ℕ × Frame))
    → HoldsResponse V u from f waiting → after ≡ unit_after u from f → Follows V from f u n (with_response n after waiting)
follows V from f u after n waiting h e = record {
  response = h.response;
  answers = h.answers;
  sendable = h.sendable;
  node = ap (λ (v : UnitState). with_response n v waiting) e ∙ ap (λ (w : Option (ℕ × Frame)). with_response n (unit_after u from f) w) h.held;
}

followed_there : (V : VendorRelation) (from : ℕ) (r : Request) (f : Frame) (u after : UnitState) (n : NodeState) (waiting : Option (ℕ × Frame))
    → IsCommand (Some r) f → ((g : Frame) → IsCommand (Some r) g → f ≡ g) → n.unit ≡ Some u
    → HoldsResponse V u from f waiting → after ≡ unit_after u from f → HasFollowed V from (Some r) n (record n { unit = Some after; waiting = waiting })
followed_there V from r f u after n waiting command only unit h e = record {
  rest = refl;
  ignored = λ none. absurd (none f command);
  no_unit = λ none. let clash : Some u ≡ None = sym unit ∙ none in cc;
  command = λ g v k is.
      let P : UnitState → Type 0 = λ x. Follows V from f x n (with_response n after waiting) in
      let Q : Frame → Type 0 = λ x. Follows V from x v n (with_response n after waiting) in
      subst Q (only g k) (subst P (sym (same_unit u v (sym is ∙ unit))) (follows V from f u after n waiting h e));
}

-- the same, if the node is known by its fields
pub followed : (V : VendorRelation) (from : ℕ) (r : Request) (f : Frame) (u after : UnitState) (fields n : NodeState) (waiting : Option (ℕ × Frame)) → fields ≡ n
    → IsCommand (Some r) f → ((g : Frame) → IsCommand (Some r) g → f ≡ g) → fields.unit ≡ Some u
    → HoldsResponse V u from f waiting → after ≡ unit_after u from f → HasFollowed V from (Some r) n (record fields { unit = Some after; waiting = waiting })
followed V from r f u after fields n waiting same command only unit h e =
    let P : NodeState → Type 0 = λ b. HasFollowed V from (Some r) b (with_response fields after waiting) in
    subst P same (followed_there V from r f u after fields waiting command only unit h e)
