use Rattle.std.proofs.Common.{◌≡◌, ap, sym, ◌∙◌, ◌||◌, ◌++◌, List, ℕ, Bool}
use Rattle.fw_watch_remarks.specs.Parts.{any_to, has_bit, next_owner, owners_to}
use Rattle.fw_watch_remarks.proofs.PartLaws.{none_of, any_more, no_owners, next_owner_text, stepped, begun}
use Rattle.fw_watch_remarks.proofs.parts.put_owners.Goals as goal

pub loop-node-init : goal.loop-node-init
loop-node-init c = record { text = begun _ _ (no_owners c.args.owners); others = sym (none_of c.args.owners) }

pub loop-node-preserved : goal.loop-node-preserved
loop-node-preserved c =
    let n : ℕ = c.loop-node.node in
    let same : next_owner c.args.owners n c.loop-node.others ≡ next_owner c.args.owners n (any_to n c.args.owners) = ap (next_owner c.args.owners n) c.loop-node.invariant.others in
    record {
      text = stepped _ _ _ _ _ _ c.loop-node.invariant.text c.in_ok-put_owner.ensures
          (next_owner_text n c.args.owners ∙ ap (λ (x : List ℕ). owners_to n c.args.owners ++ x) (sym same));
      others = c.is_either-others.ensures ∙ ap (λ (b : Bool). b || c.has_bit.result) c.loop-node.invariant.others
          ∙ ap (λ (b : Bool). any_to n c.args.owners || b) c.has_bit.ensures ∙ sym (any_more n c.args.owners);
    }
