-- What loops append, one part after another.
use Rattle.std.proofs.Common.{◌≡◌, refl, ap, sym, ◌∙◌, ℕ, zero, suc, ◌+◌, ◌<◌, List, [], ◌∷◌, ◌++◌, length, take, get_or, slice_index, flat_map, add-one, append_assoc, arith}
use Rattle.std.proofs.lemmas.List.{append-nil}
use Rattle.fw_phy.specs.declared.packet.PhyPacket.{PhyPacket}
use Rattle.fw_log_explain.specs.Resets.{first_ports, port_text}

pub no_ports : (first : ℕ) (ports : List ℕ) → first_ports first ports 0 ≡ []
unfolding first_ports
no_ports first ports = refl

pub next_port : (first : ℕ) (ports : List ℕ) (n : ℕ) → first_ports first ports (n + 1) ≡ first_ports first ports n ++ port_text (first + n) (slice_index ports n)
unfolding first_ports
next_port first ports n = rw (add-one n) refl

-- one packet more
pub next_id : (f : PhyPacket → List ℕ) (ids : List PhyPacket) (i : ℕ) (d : PhyPacket) → i < length ids → flat_map f (take (i + 1) ids) ≡ flat_map f (take i ids) ++ f (get_or ids i d)
next_id f [] i d h = absurd (omega (arith, h))
next_id f (p ∷ ps) zero d h = append-nil (f p)
next_id f (p ∷ ps) (suc i) d h =
    let e : take (suc i + 1) (p ∷ ps) ≡ p ∷ take (i + 1) ps = rw (add-one (suc i), add-one i) refl in
    ap (flat_map f) e ∙ ap (λ x. f p ++ x) (next_id f ps i d (omega (arith, h))) ∙ sym (append_assoc (f p) (flat_map f (take i ps)) (f (get_or ps i d)))

-- one part more after others
pub stepped : (s t u a b all : List ℕ) → t ≡ s ++ a → u ≡ t ++ b → all ≡ a ++ b → u ≡ s ++ all
stepped s t u a b all e f g = f ∙ ap (λ x. x ++ b) e ∙ append_assoc s a b ∙ ap (λ x. s ++ x) (sym g)
