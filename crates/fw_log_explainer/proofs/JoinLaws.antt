-- What is written of a line, one part after another.
use Rattle.std.proofs.Common.{◌≡◌, ap, sym, ◌∙◌, ℕ, List, ◌++◌, append_assoc}
use Rattle.std.specs.Prelude.{codes, decimal}
use Rattle.fw_async.specs.declared.packet.Head.{Head}
use Rattle.fw_log_names.specs.Names.{node_text}
use Rattle.fw_log_explain.specs.Lines.{head_text}

-- one part more
pub one_more : (r x y t u : List ℕ) → t ≡ r ++ x → u ≡ t ++ y → u ≡ r ++ (x ++ y)
one_more r x y t u e f = f ∙ ap (λ (l : List ℕ). l ++ y) e ∙ append_assoc r x y

-- a part of two
pub two_more : (r x a b t u : List ℕ) → t ≡ r ++ x → u ≡ t ++ (a ++ b) → u ≡ r ++ (x ++ a ++ b)
two_more r x a b t u e f = one_more r x (a ++ b) t u e f ∙ ap (λ (l : List ℕ). r ++ l) (sym (append_assoc x a b))

-- after a row that was copied
pub after_row : (r x s t : List ℕ) → s ≡ r → t ≡ s ++ x → t ≡ r ++ x
after_row r x s t e f = f ∙ ap (λ (l : List ℕ). l ++ x) e

-- the head of a packet between two nodes of the local bus
pub nodes_told : (h : Head) (source destination : ℕ) → node_text h.source ≡ codes "node " ++ decimal source → node_text h.destination ≡ codes "node " ++ decimal destination
    → head_text h ≡ codes "node " ++ decimal source ++ (codes " to node " ++ decimal destination) ++ (codes " label " ++ decimal h.tl)
unfolding head_text
nodes_told h source destination e f =
    let from : List ℕ = codes "node " ++ decimal source in
    ap (λ (l : List ℕ). l ++ codes " to " ++ node_text h.destination ++ codes " label " ++ decimal h.tl) e
    ∙ ap (λ (l : List ℕ). from ++ codes " to " ++ l ++ codes " label " ++ decimal h.tl) f
    ∙ ap (λ (l : List ℕ). l ++ codes " label " ++ decimal h.tl) (append_assoc from (codes " to ") (codes "node " ++ decimal destination)
    ∙ ap (λ (l : List ℕ). from ++ l) (sym (append_assoc (codes " to ") (codes "node ") (decimal destination))))
    ∙ append_assoc (from ++ (codes " to node " ++ decimal destination)) (codes " label ") (decimal h.tl)

-- the parts of the line of an isochronous packet
pub parts_of_iso : (s b f w end : List ℕ) → s ++ (b ++ f) ++ (w ++ end) ≡ s ++ b ++ f ++ w ++ end
parts_of_iso s b f w end = ap (λ (l : List ℕ). l ++ (w ++ end)) (sym (append_assoc s b f)) ∙ sym (append_assoc (s ++ b ++ f) w end)

-- the head of a packet from a node of the local bus to all
pub caller_told : (h : Head) (source : ℕ) → node_text h.source ≡ codes "node " ++ decimal source → h.destination ≡ 65535
    → head_text h ≡ codes "node " ++ decimal source ++ (codes " to broadcast label " ++ decimal h.tl)
unfolding head_text
caller_told h source e f =
    let from : List ℕ = codes "node " ++ decimal source in
    ap (λ (l : List ℕ). l ++ codes " to " ++ node_text h.destination ++ codes " label " ++ decimal h.tl) e
    ∙ ap (λ (n : ℕ). from ++ codes " to " ++ node_text n ++ codes " label " ++ decimal h.tl) f
    ∙ ap (λ (l : List ℕ). l ++ decimal h.tl) (ap (λ (l : List ℕ). l ++ codes " label ") (append_assoc from (codes " to ") (codes "broadcast"))
    ∙ append_assoc from (codes " to broadcast") (codes " label "))
    ∙ append_assoc from (codes " to broadcast label ") (decimal h.tl)
