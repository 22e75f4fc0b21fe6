use Rattle.std.proofs.Common.{◌++◌, ◌∷◌, ℕ, List, [], Option, None, take, get_or, sym, subst}
use Rattle.std.proofs.lemmas.List.{length-replicate, take_more}
use Rattle.fw_log_entry.specs.declared.nodes.NodeRow.{NodeRow}
use Rattle.fw_holders_text.specs.Kept.{AreKinds}
use Rattle.fw_holders_text.proofs.bus_nodes.kinds_of.Goals as goal
use Rattle.fw_holders_text.proofs.KindLaws.{kinds_more, no_kinds}

pub loop-row-init : goal.loop-row-init
loop-row-init c = record { size = length-replicate {A = Option ℕ} 256 None; are = no_kinds c.args.nodes.now }

pub loop-row-preserved : goal.loop-row-preserved
loop-row-preserved c =
    let none : NodeRow = record { device = 0; outs = 0; ins = 0; kind = 0 } in
    let nodes : List NodeRow = c.args.nodes.now in
    let i : ℕ = c.loop-row.row-index in
    let more = kinds_more (take i nodes) (get_or nodes i none) c.loop-row.kinds c.loop-row.invariant.size c.keep_kind.ensures.device c.loop-row.invariant.are in
    record {
      size = c.keep_kind.array_long;
      are = subst (λ (xs : List NodeRow). AreKinds xs c.keep_kind.new.kinds) (sym (take_more nodes i none c.loop-row-test.true))
          (subst (λ (ks : List (Option ℕ)). AreKinds (take i nodes ++ get_or nodes i none ∷ []) ks) (sym c.keep_kind.ensures.kept) more);
    }
